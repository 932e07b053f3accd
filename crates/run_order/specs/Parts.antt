-- What a worker's pass makes: whole parts of jobs, one after another.
use Rattle.std.specs.Prelude.{◌≡◌, ◌<◌, ◌≤◌, ◌⊎◌, ℕ, List, [], ◌∷◌, ◌++◌}
use Rattle.core_event.specs.declared.entry.Entry.{Entry}
use Rattle.core_event.specs.declared.event.Event.{Event}
use Rattle.core_event.specs.declared.event.Event.TheVariants.{Take, Finish}
use Rattle.core_event.specs.declared.reply.Answer.TheVariants.{Job}
use Rattle.core_event.specs.declared.reply.Reply.{Reply}
use Rattle.run_order.specs.Lists.{entry, own, InTurn}
use Rattle.run_order.specs.Plans.{Phase, commands_of}

-- the entries that a pass makes of a command: a relation of their own, for commands of the kind C
abbrev pub Making : Type 0 → Type 1
Making C = ℕ → C → List Entry → Type 0

-- the entries of a command that is one event
abbrev pub CommandEntries : Making Event
CommandEntries k e h = (r : Reply) × (h ≡ entry k e r ∷ [])

-- commands each of which is one event
abbrev pub OneEvent : {C : Type 0} → (C → Event) → Making C
OneEvent event k c h = CommandEntries k (event c) h

-- the part of the job of this name: Take that gives it, the entries of its commands, each once and in order, and Finish
pub record IsPart {C : Type 0} (Made : Making C) (k : ℕ) (commands : List C) (name : List ℕ) (h : List Entry) : Type 0 where
  pub taken : Reply
  pub body : List Entry
  pub finished : Reply
  pub are : h ≡ entry k Take taken ∷ (body ++ entry k Finish finished ∷ [])
  pub gives : taken.answer ≡ Job name
  pub made : InTurn (Made k) commands body

-- the parts of some jobs of the phase, one after another
abbrev pub Parts : {C : Type 0} → Making C → Phase C → ℕ → List Entry → Type 0
Parts Made jobs k h = (names : List (List ℕ)) × InTurn (λ name. IsPart Made k (commands_of jobs name) name) names h

-- each pass from 1 to n made such entries, however they lie between one another, and no other pass made any
pub record Middle (n : ℕ) (Its : ℕ → List Entry → Type 0) (h : List Entry) : Type 0 where
  pub workers : (k : ℕ) → 0 < k → k ≤ n → Its k (own k h)
  pub others : (k : ℕ) → (k ≡ 0) ⊎ (n < k) → own k h ≡ []
