-- What a host has done for its save, as contracts see it.
use Rattle.std.specs.Prelude.{◌≡◌, ◌⊎◌, ℕ, List, [], ◌∷◌, ◌++◌, Option, None, Result, Ok, Err}
use Rattle.save_kind.specs.declared.answer.SaveAnswer.{SaveAnswer}
use Rattle.save_kind.specs.declared.answer.SaveAnswer.TheVariants as answer
use Rattle.save_kind.specs.declared.kind.SaveKind.{SaveKind}
use Rattle.save_kind.specs.declared.state.PartState.{PartState}
use Rattle.save_run.specs.declared.host.WriteFault.{WriteFault}
use Rattle.save_run.specs.declared.host.WriteFault.TheVariants as write

-- something that was done for a save, with its answer; a number is that of a refusal
pub data Deed : Type 0 where
  Start : SaveKind → Option ℕ → Deed
  Keep : List (List ℕ × PartState) → Deed
  Write : SaveKind → Result (Unit {0}) WriteFault → Deed
  Finish : SaveAnswer → Deed

-- what was done, oldest first, and one deed more
abbrev pub noted : List Deed → Deed → List Deed
noted deeds deed = deeds ++ deed ∷ []

-- a save of the kind began, and nothing was done since
abbrev pub HasBegun : List Deed → SaveKind → Type 0
HasBegun deeds kind = deeds ≡ Start kind None ∷ []

-- a save of the kind began and states were kept, and nothing was done since
abbrev pub WereKept : List Deed → SaveKind → Type 0
WereKept deeds kind = (states : List (List ℕ × PartState)) × (deeds ≡ Start kind None ∷ Keep states ∷ [])

-- a save of the kind began, states were kept and then written with this result, and nothing was done since
abbrev pub WasTried : List Deed → SaveKind → Result (Unit {0}) WriteFault → Type 0
WasTried deeds kind result = (states : List (List ℕ × PartState)) × (deeds ≡ Start kind None ∷ Keep states ∷ Write kind result ∷ [])

-- how a save ends after a write
abbrev pub outcome_of : Result (Unit {0}) WriteFault → SaveAnswer
outcome_of (Ok done) = answer.Saved
outcome_of (Err write.Disk) = answer.SaveFailed
outcome_of (Err write.TooLarge) = answer.SaveTooLarge
outcome_of (Err write.NumbersUsed) = answer.SaveNumbers
outcome_of (Err write.Memory) = answer.NoMemory

-- a save in which nothing was kept ends so: a participant failed, or memory wanted
abbrev pub EndsUnkept : SaveAnswer → Type 0
EndsUnkept answer.Saved = ⊥
EndsUnkept answer.SaveFailed = ⊥
EndsUnkept (answer.ParticipantFailed name) = Unit {0}
EndsUnkept answer.SaveTooLarge = ⊥
EndsUnkept answer.SaveNumbers = ⊥
EndsUnkept answer.NoMemory = Unit {0}

-- a save that began may end so: as one in which nothing was kept, and after a write as that says
abbrev pub MayEnd : List Deed → SaveAnswer → Type 0
MayEnd deeds o = (kind : SaveKind) × ((HasBegun deeds kind × EndsUnkept o) ⊎ ((result : Result (Unit {0}) WriteFault) × WasTried deeds kind result × (o ≡ outcome_of result)))
