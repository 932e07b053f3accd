-- What a pass makes of a job: it takes it, and then makes the rest of its part.
use Rattle.std.specs.Prelude.{◌≡◌, ℕ, List, [], ◌∷◌, ◌++◌, Option, Some, None}
use Rattle.core_event.specs.declared.entry.Entry.{Entry}
use Rattle.core_event.specs.declared.event.Event.TheVariants.{Take, Finish}
use Rattle.core_event.specs.declared.reply.Answer.TheVariants.{Job}
use Rattle.core_event.specs.declared.reply.Reply.{Reply}
use Rattle.run_order.specs.Lists.{entry, InTurn}
use Rattle.run_order.specs.Parts.{Making}
use Rattle.phase_pool.specs.Passes.{Known, LooksOn, Makes}

-- the entry of pass k that takes the job of this name
abbrev pub IsTake : ℕ → List ℕ → List Entry → Type 0
IsTake k name h = (taken : Reply) × (taken.answer ≡ Job name) × (h ≡ entry k Take taken ∷ [])

-- the rest of the part of a job that pass k took: the entries of its commands, each once and in order, and Finish
pub record IsRest {C : Type 0} (Made : Making C) (k : ℕ) (commands : List C) (h : List Entry) : Type 0 where
  pub body : List Entry
  pub finished : Reply
  pub are : h ≡ body ++ entry k Finish finished ∷ []
  pub made : InTurn (Made k) commands body

-- a job was taken, or the pass only looked on
abbrev pub HasTaken : {J : Type 0} → (J → List ℕ) → Option J → Known → Known → Type 0
HasTaken name None k k' = LooksOn k k'
HasTaken name (Some job) k k' = Makes (IsTake k.number (name job)) k k'
