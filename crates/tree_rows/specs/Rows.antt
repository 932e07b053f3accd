-- Some paths, each with what stands there afterwards.
use Rattle.std.specs.Prelude.{◌≡◌, ◌≢◌, true, List, [], ◌∷◌, Option, Some, None, if◌then◌else◌}
use Rattle.std.specs.FinMap.{get}
use Rattle.std.specs.List.{AllByRecursion}
use Rattle.std.specs.Ordering.{is_lt}
use Rattle.res_path.specs.Paths.{Names, path_cmp, path_eq}
use Rattle.ws_elem.specs.declared.element.Element.{Element}
use Rattle.ws_elem.specs.Trees.{Tree}

abbrev pub Rows : Type 0
Rows = List (Names × Option Element)

-- what stands at each path once these stand where they say
abbrev pub after : (Names → Option Element) → Rows → Names → Option Element
after base [] p = base p
after base (row ∷ rows) p = if path_eq row.0 p then row.1 else after base rows p

-- p is above the path before it, if there is one
abbrev pub IsAbove : Option Names → Names → Type 0
IsAbove None p = Unit {0}
IsAbove (Some before) p = is_lt (path_cmp before p) ≡ true

-- the paths rise
abbrev pub Rise : Option Names → Rows → Type 0
Rise before [] = Unit {0}
Rise before (row ∷ rows) = IsAbove before row.0 × Rise (Some row.0) rows

-- The rows by which b differs from a: in path order, exactly the paths whose entries differ.
pub record Leads (a b : Tree) (rows : Rows) : Type 0 where
  pub rise : Rise None rows
  pub new : AllByRecursion (λ row. row.1 ≢ get a row.0) rows
  pub there : (p : Names) → after (get a) rows p ≡ get b p
