-- A resource with all below it.
use Rattle.std.specs.Prelude.{Bool, not, ◌&&◌, [], ◌∷◌, ◌++◌, map, filter, length, drop, Option, Some, None}
use Rattle.std.specs.FinMap.{insert, entries, retain_keys}
use Rattle.res_path.specs.Paths.{Names, is_prefix}
use Rattle.ws_elem.specs.declared.element.Element.{Element}
use Rattle.ws_elem.specs.Trees.{Tree}
use Rattle.op_kind.specs.Entries.{Entries}

-- q is p followed by one name or more
abbrev pub is_below : Names → Names → Bool
is_below p q = is_prefix p q && not (is_prefix q p)

-- what is at p, with its path
abbrev pub found_at : Names → Option Element → Entries
found_at p None = []
found_at p (Some e) = (p, e) ∷ []

-- all below p, in path order
abbrev pub members : Tree → Names → Entries
members t p = filter (λ e. is_below p e.0) (entries t)

-- the tree without what is below p
abbrev pub without_members : Tree → Names → Tree
without_members t p = retain_keys t (λ q. not (is_below p q))

-- the tree with these elements at their paths
abbrev pub put_all : Tree → Entries → Tree
put_all t [] = t
put_all t (e ∷ es) = put_all (insert t e.0 e.1) es

-- p with `to` in the place of its beginning `from`
abbrev pub rebased : Names → Names → Names → Names
rebased from to p = to ++ drop (length from) p

-- the same elements, each at its place below `to`
abbrev pub carried : Names → Names → Entries → Entries
carried from to = map (λ e. (rebased from to e.0, e.1))
