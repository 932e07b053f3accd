-- What participants keep, as a save begins, goes on and ends, and as a session begins.
use Rattle.std.specs.Prelude.{ℕ, Bool, true, false, if◌then◌else◌, List, [], ◌∷◌, map, Some, None, unwrap_or}
use Rattle.std.specs.FinMap.{insert, values}
use Rattle.std.specs.Option.{option_map}
use Rattle.ws_elem.specs.Trees.{Tree}
use Rattle.delta_kind.specs.Deltas.{delta}
use Rattle.save_kind.specs.declared.answer.SaveAnswer.{SaveAnswer}
use Rattle.save_kind.specs.declared.answer.SaveAnswer.TheVariants.{Saved, SaveFailed, ParticipantFailed, SaveTooLarge, SaveNumbers, NoMemory}
use Rattle.save_kind.specs.declared.state.PartState.{PartState}
use Rattle.save_round.specs.declared.restoring.KeptState.{KeptState}
use Rattle.core_event.specs.declared.service.Outcomes.{Outcomes}
use Rattle.core_event.specs.declared.service.Outcomes.TheVariants.{Build, Save}
use Rattle.ws_marks.specs.declared.state.State.{State}
use Rattle.ws_marks.specs.Places.{States}
use Rattle.ws_content.specs.States.{Contents, Remembered}

-- what participants kept when the save under way began, and what they keep where none is
abbrev pub kept_before : Remembered → States Tree
kept_before r = unwrap_or r.before r.kept

-- a save is under way
abbrev pub save_begun : Remembered → Remembered
save_begun r = record r { before = Some (kept_before r) }

-- what a participant keeps, with the tree as it is where it asks for what changes
abbrev pub state_of : Tree → List ℕ × PartState → State Tree
state_of t p = record { participant = p.0; bytes = p.1.bytes; tree = if p.1.needs_delta then Some t else None }

-- these are kept, one after another, each in the place of what its participant kept
abbrev pub kept_with : Tree → States Tree → List (List ℕ × PartState) → States Tree
kept_with t kept [] = kept
kept_with t kept (p ∷ ps) = kept_with t (insert kept p.0 (state_of t p)) ps

abbrev pub states_kept : Tree → Remembered → List (List ℕ × PartState) → Remembered
states_kept t r states = record r { kept = kept_with t r.kept states }

-- the save under way is over: what was kept in it stays, or what was kept before is kept again
abbrev pub save_ended : Bool → Remembered → Remembered
save_ended true r = record r { before = None }
save_ended false r = record r { kept = kept_before r; before = None }

abbrev pub is_saved : SaveAnswer → Bool
is_saved Saved = true
is_saved SaveFailed = false
is_saved (ParticipantFailed name) = false
is_saved SaveTooLarge = false
is_saved SaveNumbers = false
is_saved NoMemory = false

-- what is remembered after the services are given back so
abbrev pub ended : Outcomes → Remembered → Remembered
ended (Build outcome) r = r
ended (Save answer) r = save_ended (is_saved answer) r

-- ---- the same of what is there with what is remembered

abbrev pub saves_begun : Contents → Contents
saves_begun c = record c { remembered = save_begun c.remembered }

abbrev pub keeping : Contents → List (List ℕ × PartState) → Contents
keeping c states = record c { remembered = states_kept c.resources.tree c.remembered states }

abbrev pub saves_ended : Outcomes → Contents → Contents
saves_ended outcome c = record c { remembered = ended outcome c.remembered }

-- ---- what participants kept, as a session that begins has it

-- a state, with what changed from its tree to this one where it has one
abbrev pub state_since : Tree → State Tree → KeptState
state_since t s = record { name = s.participant; bytes = s.bytes; delta = option_map (λ before. delta before t) s.tree }

-- all kept states so, in the order of the participants' names
abbrev pub kept_since : Remembered → Tree → List KeptState
kept_since r t = map (state_since t) (values r.kept)
