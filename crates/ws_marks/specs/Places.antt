-- Where records and states stand, and in which order.
use Rattle.std.specs.Prelude.{ℕ, List}
use Rattle.std.specs.declared.cmp.Ordering.{Ordering}
use Rattle.std.specs.Ordering.{nat_cmp, ordering_then}
use Rattle.std.specs.Cmp.Lexicographic.{slice_cmp}
use Rattle.std.specs.FinMap.{FinMap}
use Rattle.ws_marks.specs.declared.record.Record.{Record}
use Rattle.ws_marks.specs.declared.state.State.{State}

-- the order of names, byte by byte
abbrev pub name_cmp : List ℕ → List ℕ → Ordering
name_cmp = slice_cmp nat_cmp

-- a project's name, and which of its commands
abbrev pub Place : Type 0
Place = List ℕ × ℕ

-- by project, and within one by command
abbrev pub place_cmp : Place → Place → Ordering
place_cmp a b = ordering_then (name_cmp a.0 b.0) (nat_cmp a.1 b.1)

abbrev pub place_of : {M : Type 0} → Record M → Place
place_of r = (r.project, r.index)

abbrev pub Records : Type 0 → Type 0
Records M = FinMap place_cmp (Record M)

abbrev pub States : Type 0 → Type 0
States M = FinMap name_cmp (State M)
