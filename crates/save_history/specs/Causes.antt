-- Why a save ended as it did.
use Rattle.std.specs.Prelude.{◌<◌, ◌+◌, ◌-◌, ◌^◌, ℕ, List, length}
use Rattle.ws_durable.specs.Saved.{Saved}
use Rattle.save_format.specs.Valid.{IsImage}
use Rattle.save_kind.specs.declared.answer.SaveAnswer.{SaveAnswer}
use Rattle.save_kind.specs.declared.answer.SaveAnswer.TheVariants as answer
use Rattle.save_run.specs.declared.command.Saved.{Saved as Answered}
use Rattle.save_run.specs.declared.command.Saved.TheVariants.{Ended, Stopped}
use Rattle.save_history.specs.Points.{Points}

-- no image of the state fits an area with its header and its gate
abbrev pub HasNoRoom : Saved → Type 0
HasNoRoom d = (image : List ℕ) → IsImage d image → 2 ^ 30 < 58 + length image

-- The save that was begun last may have ended so, where this was the greatest save number as the store was opened: as too
-- large only where what it was to write has no room, and for want of a number only where one more for each save that was
-- begun would be more than there are.
abbrev pub MayEndSo : SaveAnswer → Points → ℕ → Type 0
MayEndSo answer.Saved p top = Unit {0}
MayEndSo answer.SaveFailed p top = Unit {0}
MayEndSo (answer.ParticipantFailed name) p top = Unit {0}
MayEndSo answer.SaveTooLarge p top = HasNoRoom p.newest
MayEndSo answer.SaveNumbers p top = 2 ^ 63 - 1 < top + p.count
MayEndSo answer.NoMemory p top = Unit {0}

-- the same of what a save command is answered
abbrev pub MayBeAnswered : Answered → Points → ℕ → Type 0
MayBeAnswered (Ended o) p top = MayEndSo o p top
MayBeAnswered (Stopped n) p top = Unit {0}
