-- Where nodes were, and where they went.
use Rattle.std.specs.Prelude.{◌≡◌, ◌≢◌, ◌↔◌, Bool, false, not, ◌&&◌, ◌||◌, ◌==◌, find, Option, Some, None, IsSomeAnd}
use Rattle.std.specs.FinMap.{get, keys}
use Rattle.res_path.specs.Paths.{Names, path_eq}
use Rattle.ws_elem.specs.declared.element.Element.{Element}
use Rattle.ws_elem.specs.Trees.{Tree}

-- whether both entries are there, with one node
abbrev pub has_same_node : Option Element → Option Element → Bool
has_same_node None y = false
has_same_node (Some e) None = false
has_same_node (Some e) (Some f) = e.node == f.node

-- whether the path has one node in both trees
abbrev pub keeps_node : Tree → Tree → Names → Bool
keeps_node t u p = has_same_node (get t p) (get u p)

-- whether t has at q, another path than p, the node that u has at p. In a whole tree each node stands at one path; where
-- one stands at several, a path that keeps its node neither gave nor got it
abbrev pub stands_at : Tree → Tree → Names → Names → Bool
stands_at t u p q = not (path_eq q p) && has_same_node (get t q) (get u p) && not (keeps_node t u p || keeps_node t u q)

-- where t has the node that u has at p, if elsewhere: the path, or the first of several
abbrev pub moved : Tree → Tree → Names → Option Names
moved t u p = find (stands_at t u p) (keys t)

-- both entries are there, with one node
abbrev pub SameNode : Option Element → Option Element → Type 0
SameNode x y = IsSomeAnd x (λ e. IsSomeAnd y (λ f. e.node ≡ f.node))

-- the place tells, of each path but p, whether t has there the node that u has at p
abbrev pub TellsPlace : Tree → Tree → Names → Option Names → Type 0
TellsPlace t u p place = (q : Names) → (place ≡ Some q) ↔ ((q ≢ p) × SameNode (get t q) (get u p))
