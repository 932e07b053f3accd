-- What a history tells of its saves, and what participants tell of them.
use Rattle.std.specs.Prelude.{◌≡◌, ℕ, List, [], ◌∷◌, ◌++◌, Option, Some, None}
use Rattle.std.specs.Option.{option_map, option_to_list}
use Rattle.save_kind.specs.declared.answer.SaveAnswer.{SaveAnswer}
use Rattle.save_kind.specs.declared.kind.SaveKind.{SaveKind}
use Rattle.save_kind.specs.declared.state.PartState.{PartState}
use Rattle.save_round.specs.Told.{Told}
use Rattle.save_run.specs.Books.{Deed, Start, Keep, Write, Finish}
use Rattle.save_run.specs.Saves.{CameTo}
use Rattle.core_event.specs.declared.entry.Entry.{Entry}
use Rattle.save_history.specs.Steps.{SaveStep, Begins, Keeps, Ends, steps_of}

-- a save that began
pub record Begun : Type 0 where
  pub kind : SaveKind
  -- the states that were kept in it, where some were
  pub kept : Option (List (List ℕ × PartState))

-- a save that ended
pub record Save : Type 0 where
  pub begun : Begun
  pub answer : SaveAnswer

pub record Rounds : Type 0 where
  -- the saves that ended, oldest first
  pub ended : List Save
  -- the one under way
  pub under : Option Begun

abbrev pub no_rounds : Rounds
no_rounds = record { ended = []; under = None }

-- states were kept in it
abbrev pub with_states : List (List ℕ × PartState) → Begun → Begun
with_states states b = record b { kept = Some states }

-- it ended so
abbrev pub ended_as : SaveAnswer → Begun → Save
ended_as answer b = record { begun = b; answer = answer }

-- after a step
abbrev pub rounds_with : Rounds → SaveStep → Rounds
rounds_with r (Begins kind) = record r { under = Some (record { kind = kind; kept = None }) }
rounds_with r (Keeps states) = record r { under = option_map (with_states states) r.under }
rounds_with r (Ends answer) = record { ended = r.ended ++ option_to_list (option_map (ended_as answer) r.under); under = None }

abbrev pub rounds_after : Rounds → List SaveStep → Rounds
rounds_after r [] = r
rounds_after r (step ∷ steps) = rounds_after (rounds_with r step) steps

-- the saves of a history
abbrev pub rounds_of : List Entry → Rounds
rounds_of h = rounds_after no_rounds (steps_of h)

-- ---- what participants tell

-- the states that were kept, where some were
abbrev pub kept_in : List Deed → Option (List (List ℕ × PartState))
kept_in [] = None
kept_in (Start kind refused ∷ deeds) = kept_in deeds
kept_in (Keep states ∷ deeds) = Some states
kept_in (Write kind result ∷ deeds) = kept_in deeds
kept_in (Finish answer ∷ deeds) = kept_in deeds

-- participants had the calls of this save, in which those states were kept
abbrev pub HadSave : Save → List Told → List Told → Type 0
HadSave save old new = (deeds : List Deed) × (kept_in deeds ≡ save.begun.kept) × CameTo save.begun.kind save.answer deeds old new

-- they had those of these saves, one after another, and no others
abbrev pub HadSaves : List Save → List Told → List Told → Type 0
HadSaves [] old new = new ≡ old
HadSaves (save ∷ saves) old new = (then : List Told) × HadSave save old then × HadSaves saves then new
