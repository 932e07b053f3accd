-- One event of a pass: refused or done, and then told.
use Rattle.std.specs.Prelude.{ℕ, Bool, ◌||◌, Option, Some, None}
use Rattle.core_event.specs.declared.event.Event.{Event}
use Rattle.core_event.specs.declared.reply.Answer.{Answer}
use Rattle.core_event.specs.declared.reply.Answer.TheVariants.{Refused}
use Rattle.core_event.specs.declared.reply.Refusal.{Refusal}
use Rattle.core_event.specs.declared.reply.Reply.{Reply}
use Rattle.core_event.specs.Events.{is_checkpoint}
use Rattle.pass_table.specs.Passes.{is_quiet}
use Rattle.ws_content.specs.Deeds.{kept_if, reply_of}
use Rattle.ws_core.specs.States.{Moment}
use Rattle.ws_core.specs.Effects.{effect}
use Rattle.ws_core.specs.Refusals.{refusal}

-- a refused event changes nothing
abbrev pub acted : Option Refusal → Moment → ℕ → Event → Moment × Answer
acted None s pass event = effect s pass event
acted (Some r) s pass event = (s, Refused r)

-- the state after an event, before anything is told, and the event's answer
abbrev pub act : Moment → ℕ → Event → Moment × Answer
act s pass event = acted (refusal s pass event) s pass event

-- whether the event is a telling place: each Checkpoint, and each other event that leaves no batch open
abbrev pub tells : Event → Moment → Bool
tells event after = is_checkpoint event || is_quiet after.manager.passes

-- at a telling place the reply carries what changed since the last one, and the tree is told
abbrev pub told : Bool → Moment → Answer → Moment × Reply
told tells s answer = (record s { remembered = kept_if tells s.resources.tree s.remembered }, reply_of tells s.remembered.told s.resources.tree answer)

-- what an event did is told where the event is a telling place
abbrev pub tell : Event → Moment × Answer → Moment × Reply
tell event done = told (tells event done.0) done.0 done.1

-- the event of a pass gives a new state and a reply
abbrev pub step : Moment → ℕ → Event → Moment × Reply
step s pass event = tell event (act s pass event)
