-- One pass over rows, and what it tells.
use Rattle.std.specs.Prelude.{Bool, false, not, List, [], ◌∷◌, ◌++◌, map, filter, Option, Some, None, is_some}
use Rattle.std.specs.List.{list_any}
use Rattle.res_path.specs.Paths.{Names, is_prefix}
use Rattle.delta_kind.specs.declared.node.DeltaNode.{DeltaNode}
use Rattle.delta_kind.specs.declared.row.Turn.{Turn}
use Rattle.delta_kind.specs.Deltas.{node_of, above}
use Rattle.delta_kind.specs.Rows.{Rows, Sides, turned}

-- some row loses a node, or gains one
abbrev pub has_turn : Turn → Rows → Bool
has_turn turn = list_any (λ row. is_some (turned turn row.1))

-- what became of the path p, where nothing moved
abbrev pub unmoved : Names → Sides → DeltaNode
unmoved p s = node_of p s.0 s.1 None None

-- the other path, if there is one, is at or below p
abbrev pub is_above : Names → Option Names → Bool
is_above p None = false
is_above p (Some q) = is_prefix p q

-- what is above p and not above the last path
abbrev pub new_above : Option Names → Names → List Names
new_above last p = filter (λ q. not (is_above q last)) (above p)

-- the node of a path that only something below it changed
abbrev pub untouched : Names → DeltaNode
untouched p = node_of p None None None None

-- a node for each row, and just before it one for each path above it and not above the row before
abbrev pub nodes_from : (Names → Sides → DeltaNode) → Option Names → Rows → List DeltaNode
nodes_from node last [] = []
nodes_from node last (row ∷ rows) = map untouched (new_above last row.0) ++ node row.0 row.1 ∷ nodes_from node (Some row.0) rows
