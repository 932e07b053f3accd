-- Some paths, each with its entries before and after.
use Rattle.std.specs.Prelude.{ℕ, Bool, false, ◌==◌, if◌then◌else◌, List, [], ◌∷◌, map, Option, Some, None, unwrap_or}
use Rattle.std.specs.Option.{option_copied, option_and_then}
use Rattle.std.specs.FinMap.{find}
use Rattle.res_path.specs.Paths.{Names, path_cmp}
use Rattle.ws_elem.specs.declared.element.Element.{Element}
use Rattle.delta_kind.specs.declared.node.DeltaNode.{DeltaNode}
use Rattle.delta_kind.specs.declared.row.Row.{Row}
use Rattle.delta_kind.specs.declared.row.Turn.{Turn}
use Rattle.delta_kind.specs.declared.row.Turn.TheVariants.{Lost, Gained}
use Rattle.delta_kind.specs.Deltas.{node_of, with_above}

-- the entries at one path, before and after
abbrev pub Sides : Type 0
Sides = Option Element × Option Element

abbrev pub Rows : Type 0
Rows = List (Names × Sides)

-- what a row of references points to
abbrev pub shown : Row → Names × Sides
shown r = (r.path.now, (option_copied r.before, option_copied r.after))

-- the rows' paths
abbrev pub row_paths : Rows → List Names
row_paths = map (λ row. row.0)

-- what the rows have at p: nothing on either side where they have no such path
abbrev pub sides_at : Rows → Names → Sides
sides_at rows p = unwrap_or (find path_cmp p rows) (None, None)

-- the node of the first entry, unless the second has it too
abbrev pub lost : Option Element → Option Element → Option ℕ
lost (Some a) (Some b) = if a.node == b.node then None else Some a.node
lost (Some a) None = Some a.node
lost None b = None

-- the number is there, and is n
abbrev pub is_number : ℕ → Option ℕ → Bool
is_number n None = false
is_number n (Some m) = m == n

-- the path of the first entry that passes the test
abbrev pub first_path : {X : Type 0} → (Names × X → Bool) → List (Names × X) → Option Names
first_path test [] = None
first_path test (e ∷ es) = if test e then Some e.0 else first_path test es

-- the node that a path loses, or that it gains
abbrev pub turned : Turn → Sides → Option ℕ
turned Lost s = lost s.0 s.1
turned Gained s = lost s.1 s.0

-- the first path of the rows that loses the node, or that gains it
abbrev pub place_in : Turn → Rows → ℕ → Option Names
place_in turn rows n = first_path (λ row. is_number n (turned turn row.1)) rows

-- what became of the path p, by who lost and who gained each node
abbrev pub node_by : (ℕ → Option Names) → (ℕ → Option Names) → Names → Sides → DeltaNode
node_by losers gainers p s = node_of p s.0 s.1 (option_and_then losers (turned Gained s)) (option_and_then gainers (turned Lost s))

-- a node for each path of the rows and each path above one, in path order
abbrev pub delta_of_rows : Rows → List DeltaNode
delta_of_rows rows = map (λ p. node_by (place_in Lost rows) (place_in Gained rows) p (sides_at rows p)) (with_above (row_paths rows))
