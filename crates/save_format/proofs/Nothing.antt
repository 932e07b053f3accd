-- What is told against nothing.
use Rattle.std.proofs.Common.{◌≡◌, ◌≤◌, sym, subst, arith}
use Rattle.std.specs.Prelude.{Option, IfSome, Result, Ok, Err, IfOk}
use Rattle.std.specs.FinMap.{empty, get-empty, len, len-empty}
use Rattle.res_path.specs.Paths.{path_cmp}
use Rattle.ws_elem.specs.declared.element.Element.{Element}
use Rattle.ws_elem.specs.Trees.{Tree}
use Rattle.save_build.specs.Told.{IsFit, AreFit}
use Rattle.save_read.specs.Sayable.{IsSayableTree}

none_fit : AreFit empty
none_fit p = subst (λ (x : Option Element). IfSome x (IsFit p)) (sym (get-empty {X = Element} path_cmp p)) tt

none_few : len (empty {X = Element} {R = path_cmp}) ≤ 1048576
none_few = omega (arith, len-empty path_cmp Element)

pub nothing_fits : (t : Tree) → t ≡ empty → AreFit t
nothing_fits t e = subst AreFit (sym e) none_fit

pub nothing_sayable : (t : Tree) → t ≡ empty → IsSayableTree t
nothing_sayable t e = subst IsSayableTree (sym e) (none_fit, none_few)

-- what follows of a value, where there is one
pub where_ok : {A E : Type 0} (r : Result A E) (P Q : A → Type 0) → ((a : A) → P a → Q a) → IfOk r P → IfOk r Q
where_ok (Ok a) P Q f h = f a h
where_ok (Err e) P Q f h = tt
