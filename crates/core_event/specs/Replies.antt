-- What events are answered.
use Rattle.std.specs.Prelude.{ℕ, Bool, true, false, ◌&&◌, List, [], ◌∷◌, Option, Some, None}
use Rattle.delta_kind.specs.declared.node.DeltaNode.{DeltaNode}
use Rattle.op_kind.specs.declared.answer.OpAnswer.{OpAnswer}
use Rattle.op_kind.specs.declared.answer.OpAnswer.TheVariants as op_answers
use Rattle.op_kind.specs.Refusals as ops
use Rattle.core_event.specs.Events.{waits}
use Rattle.core_event.specs.declared.event.Event.{Event}
use Rattle.core_event.specs.declared.reply.Answer.{Answer}
use Rattle.core_event.specs.declared.reply.Answer.TheVariants as answers
use Rattle.core_event.specs.declared.reply.Refusal.{Refusal}
use Rattle.core_event.specs.declared.reply.Refusal.TheVariants as refusals

-- the platform's number of a refusal
abbrev pub refusal_number : Refusal → ℕ
refusal_number (refusals.Operation r) = ops.refusal_number r
refusal_number (refusals.NotContained outer) = 15
refusal_number refusals.NumbersUsed = 18
refusal_number (refusals.NotLast held) = 19
refusal_number refusals.HoldsNothing = 20
refusal_number (refusals.Conflict holder rule) = 30
refusal_number refusals.TargetHolds = 31
refusal_number (refusals.ServicesOut holder) = 32
refusal_number (refusals.NotServices holder) = 33
refusal_number (refusals.BadEdits path) = 34
refusal_number (refusals.NoBuilder name) = 35
refusal_number (refusals.NoCommand count) = 36
refusal_number refusals.NoBuild = 37
refusal_number refusals.UnknownJob = 40
refusal_number (refusals.WrongState state) = 41
refusal_number refusals.PassBusy = 42
refusal_number refusals.NoPass = 43
refusal_number refusals.NoBatch = 44

-- the answer to an operation that is done
abbrev pub answered : OpAnswer → Answer
answered op_answers.Done = answers.Done
answered (op_answers.Id id) = answers.Id id
answered (op_answers.Count count) = answers.Count count
answered (op_answers.Seen entries partners) = answers.Seen (entries, partners)

-- nothing is told where nothing changed
abbrev pub some_nodes : List DeltaNode → Option (List DeltaNode)
some_nodes [] = None
some_nodes (node ∷ nodes) = Some (node ∷ nodes)

abbrev pub is_conflict : Refusal → Bool
is_conflict (refusals.Operation r) = false
is_conflict (refusals.NotContained outer) = false
is_conflict refusals.NumbersUsed = false
is_conflict (refusals.NotLast held) = false
is_conflict refusals.HoldsNothing = false
is_conflict (refusals.Conflict holder rule) = true
is_conflict refusals.TargetHolds = false
is_conflict refusals.UnknownJob = false
is_conflict (refusals.WrongState state) = false
is_conflict refusals.PassBusy = false
is_conflict refusals.NoPass = false
is_conflict refusals.NoBatch = false
is_conflict (refusals.ServicesOut holder) = false
is_conflict (refusals.NotServices holder) = false
is_conflict (refusals.BadEdits path) = false
is_conflict (refusals.NoBuilder name) = false
is_conflict (refusals.NoCommand count) = false
is_conflict refusals.NoBuild = false

-- An attempt that finds that it must wait, which is no event: no job is there to take, or another pass's rule is in the
-- way of an event that is tried again.
abbrev pub is_attempt : Event → Answer → Bool
is_attempt event answers.Done = false
is_attempt event (answers.Id id) = false
is_attempt event (answers.Count count) = false
is_attempt event answers.None = true
is_attempt event (answers.Job name) = false
is_attempt event (answers.Seen seen) = false
is_attempt event (answers.Plan plan) = false
is_attempt event (answers.Handed handed) = false
is_attempt event (answers.Committed touched problems) = false
is_attempt event (answers.Refused r) = is_conflict r && waits event
