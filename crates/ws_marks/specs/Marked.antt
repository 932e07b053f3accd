-- What a workspace remembers, and what each call does.
use Rattle.std.specs.Prelude.{◌≡◌, ◌≤◌, ℕ, nat_le, Bool, true, ◌&&◌, List, [], ◌∷◌, ◌++◌, length, take, drop, find, Option, Some, None}
use Rattle.std.specs.Option.{option_map}
use Rattle.std.specs.Ordering.{eq_by_cmp, is_lt}
use Rattle.std.specs.FinMap.{empty, entries, get, insert, remove}
use Rattle.ws_marks.specs.declared.record.Record.{Record}
use Rattle.ws_marks.specs.declared.state.Replaced.{Replaced}
use Rattle.ws_marks.specs.declared.state.State.{State}
use Rattle.ws_marks.specs.Places.{Place, Records, States, name_cmp, place_cmp, place_of}

-- what contracts see
pub record Marked (M : Type 0) : Type 0 where
  -- the tree that was told last
  pub told : M
  pub built : Records M
  pub kept : States M
  -- while a save is under way, what was replaced since it began, the first first
  pub replaced : Option (List (Replaced M))

-- the told tree alone
abbrev pub told_alone : {M : Type 0} → M → Marked M
told_alone told = record { told = told; built = empty; kept = empty; replaced = None }

-- ---- records

-- a command of the project, from this one on
abbrev pub is_from : List ℕ → ℕ → Place → Bool
is_from project from place = eq_by_cmp name_cmp place.0 project && nat_le from place.1

-- the record of the project's first command from this one on
abbrev pub first_from : {M : Type 0} → Records M → List ℕ → ℕ → Option (Record M)
first_from built project from = option_map (λ e. e.1) (find (λ e. is_from project from e.0) (entries built))

-- without this record, if it is one
abbrev pub without : {M : Type 0} → Records M → Option (Record M) → Records M
without built None = built
without built (Some r) = remove built (place_of r)

-- the place is above that one, if that is one
abbrev pub is_above : Option Place → Place → Bool
is_above None place = true
is_above (Some other) place = is_lt (place_cmp other place)

-- the first record above the place, or of all
abbrev pub record_after : {M : Type 0} → Records M → Option Place → Option (Record M)
record_after built after = option_map (λ e. e.1) (find (λ e. is_above after e.0) (entries built))

-- ---- kept states

-- the name is above that one, if that is one
abbrev pub name_is_above : Option (List ℕ) → List ℕ → Bool
name_is_above None name = true
name_is_above (Some other) name = is_lt (name_cmp other name)

-- the first state above the name, or of all
abbrev pub state_after : {M : Type 0} → States M → Option (List ℕ) → Option (State M)
state_after kept after = option_map (λ e. e.1) (find (λ e. name_is_above after e.0) (entries kept))

-- the states with this one, or none, of the name
abbrev pub set_at : {M : Type 0} → States M → List ℕ → Option (State M) → States M
set_at kept name None = remove kept name
set_at kept name (Some s) = insert kept name s

-- the states before these were replaced
abbrev pub undone : {M : Type 0} → States M → List (Replaced M) → States M
undone kept [] = kept
undone kept (r ∷ rs) = set_at (undone kept rs) r.participant r.before

-- what was replaced since a save began; nothing where none is under way
abbrev pub since_begin : {M : Type 0} → Option (List (Replaced M)) → List (Replaced M)
since_begin None = []
since_begin (Some rs) = rs

-- with the state kept
abbrev pub with_kept : {M : Type 0} → Marked M → State M → Marked M
with_kept m s = record m {
  kept = insert m.kept s.participant s;
  replaced = option_map (λ rs. rs ++ record { participant = s.participant; before = get m.kept s.participant } ∷ []) m.replaced;
}

-- a save is under way
abbrev pub saving : {M : Type 0} → Marked M → Marked M
saving m = record m { replaced = Some (since_begin m.replaced) }

-- as all was when so many had been replaced since the save began
abbrev pub unwound : {M : Type 0} → ℕ → Marked M → Marked M
unwound count m = record m { kept = undone m.kept (drop count (since_begin m.replaced)); replaced = option_map (take count) m.replaced }

-- this was replaced last, after at least so many
pub record IsLast {M : Type 0} (count : ℕ) (m : Marked M) (r : Replaced M) (rest : List (Replaced M)) : Type 0 where
  pub all : m.replaced ≡ Some (rest ++ r ∷ [])
  pub beyond : count ≤ length rest

-- what was replaced last, after at least so many, is put back, and the state in its place goes
pub record IsPutBack {M : Type 0} (count : ℕ) (m : Marked M) (s : State M) (n : Marked M) : Type 0 where
  pub last : Replaced M
  pub rest : List (Replaced M)
  pub is_last : IsLast count m last rest
  pub gone : get m.kept last.participant ≡ Some s
  pub now : n ≡ record m { kept = set_at m.kept last.participant last.before; replaced = Some rest }

-- this, which was replaced last, is taken
pub record IsTaken {M : Type 0} (m : Marked M) (last : Replaced M) (n : Marked M) : Type 0 where
  pub rest : List (Replaced M)
  pub is_last : IsLast 0 m last rest
  pub now : n ≡ record m { replaced = Some rest }
