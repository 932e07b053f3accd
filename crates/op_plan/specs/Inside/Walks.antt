-- How a branch of a tree is walked.
use Rattle.std.specs.Prelude.{◌≡◌, true, ◌∷◌, filter}
use Rattle.std.specs.Ordering.{is_lt}
use Rattle.std.specs.FinMap.{entries}
use Rattle.res_path.specs.Paths.{Names, path_cmp, is_prefix}
use Rattle.ws_elem.specs.declared.element.Element.{Element}
use Rattle.ws_elem.specs.Trees.{Tree}
use Rattle.op_kind.specs.Entries.{Entries}
use Rattle.op_kind.specs.Members.{is_below}

-- the entries above p in path order
abbrev pub entries_after : Tree → Names → Entries
entries_after t p = filter (λ e. is_lt (path_cmp p e.0)) (entries t)

-- those of them that are below `top`
abbrev pub members_after : Tree → Names → Names → Entries
members_after t top p = filter (λ e. is_below top e.0) (entries_after t p)

-- x is the first of them
pub record IsFirst (t : Tree) (top p : Names) (x : Names × Element) : Type 0 where
  pub under : is_prefix top x.0 ≡ true
  pub left : members_after t top p ≡ x ∷ members_after t top x.0
