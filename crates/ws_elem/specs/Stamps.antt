-- Equal stamps mean equal contents.
use Rattle.std.specs.Prelude.{◌≡◌, List, IfSome}
use Rattle.std.specs.List.{All}
use Rattle.std.specs.FinMap.{get}
use Rattle.res_path.specs.Paths.{Names}
use Rattle.ws_elem.specs.Trees.{Tree}
use Rattle.ws_elem.specs.declared.kind.Kind.TheVariants.{File}

-- files of a and of b with equal stamps have equal contents
abbrev pub SameContents : Tree → Tree → Type 0
SameContents a b = (p q : Names)
    → IfSome (get a p) (λ e. IfSome (get b q) (λ f. e.kind ≡ File → f.kind ≡ File → e.stamp ≡ f.stamp → e.bytes ≡ f.bytes))

-- so do files of each two of these trees, and of each tree with itself
abbrev pub AgreeByStamps : List Tree → Type 0
AgreeByStamps trees = All (λ a. All (SameContents a) trees) trees
