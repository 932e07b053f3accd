-- Edits that are planned, and those that undo them.
use Rattle.std.specs.Prelude.{[], ◌∷◌, ◌++◌, map, Some, None}
use Rattle.std.specs.FinMap.{get}
use Rattle.ws_elem.specs.Trees.{Tree, set_at}
use Rattle.op_kind.specs.Entries.{Entries}
use Rattle.op_plan.specs.Edits.{Edits}

-- what stood at the paths, each just before its change, the last one first
abbrev pub undoing : Tree → Edits → Edits
undoing t [] = []
undoing t (c ∷ cs) = undoing (set_at t c.0 c.1) cs ++ (c.0, get t c.0) ∷ []

-- the elements are to be gone from their paths
abbrev pub taken : Entries → Edits
taken = map (λ e. (e.0, None))

-- the elements are to stand at their paths
abbrev pub put : Entries → Edits
put = map (λ e. (e.0, Some e.1))
