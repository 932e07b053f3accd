-- What holds of resources at every moment.
use Rattle.std.specs.Prelude.{◌≡◌, true, if◌then◌else◌, IfSome}
use Rattle.std.specs.Option.{option_map, option_or}
use Rattle.std.specs.FinMap.{get}
use Rattle.res_path.specs.Paths.{Names}
use Rattle.ws_elem.specs.declared.element.Element.{Element}
use Rattle.ws_elem.specs.Kinds.{is_project}
use Rattle.ws_elem.specs.Trees.{Tree, Whole}
use Rattle.op_kind.specs.Resources.{Resources}
use Rattle.op_kind.specs.Places.{is_in_shut}
use Rattle.op_kind.specs.Stamps.{IsKnown}

-- the element, open where it is a project
abbrev pub opened : Element → Element
opened e = if is_project e.kind then record e { opened = true } else e

-- t is the tree with every closed project opened with what the shelf has below it
abbrev pub IsUnshelved : Resources → Tree → Type 0
IsUnshelved r t = (p : Names) → get t p ≡ option_or (option_map opened (get r.tree p)) (get r.shelf p)

pub record IsConsistent (r : Resources) : Type 0 where
  -- the tree is whole, and would be so with every closed project opened
  pub tree : Whole r.tree
  pub unshelved : (t : Tree) × IsUnshelved r t × Whole t
  -- the shelf holds only members of closed projects
  pub shelf : (p : Names) → IfSome (get r.shelf p) (λ _. is_in_shut r.tree p ≡ true)
  -- equal stamps mean equal contents, and each number is below its counter
  pub tree_known : IsKnown r r.tree
  pub shelf_known : IsKnown r r.shelf
