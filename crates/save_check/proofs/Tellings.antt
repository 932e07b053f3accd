-- Trees that can be told, by what is decided of their elements.
use Rattle.std.proofs.Common.{◌↔◌, Bool}
use Rattle.std.specs.Prelude.{Option, Some, None, IfSome, IsTrue, Result, Ok, Err, IfOk}
use Rattle.std.specs.declared.alloc.AllocError.{AllocError}
use Rattle.std.specs.FinMap.{get}
use Rattle.res_path.specs.Paths.{Names}
use Rattle.ws_elem.specs.declared.element.Element.{Element}
use Rattle.ws_elem.specs.Trees.{Tree}
use Rattle.save_elem.specs.Fits.{InRange}
use Rattle.save_elem.specs.Telling.{told}
use Rattle.save_elem.proofs.Fitting.{told_fits}
use Rattle.save_build.specs.Told.{IsFit}
use Rattle.save_read.specs.Sayable.{IsFew, IsSayableTree}
use Rattle.save_read.proofs.Narrow.{elem_narrow}
use Rattle.save_valid.specs.Rules.{Each}
use Rattle.save_check.specs.Inside.Tellable.{IsTellable, AreInRange}

fits : (p : Names) (x : Option Element) → IfSome x (λ e. InRange (told e)) → IfSome x (IsTellable p) → IfSome x (IsFit p)
fits p None range h = tt
fits p (Some e) range h = record { sound = h.sound; spelled = told_fits e h.sound range h.narrow; path = h.path }

tells : (p : Names) (x : Option Element) → IfSome x (IsFit p) → IfSome x (IsTellable p)
tells p None h = tt
tells p (Some e) h = record { sound = h.sound; narrow = elem_narrow (told e) h.spelled; path = h.path }

-- a tree of few elements, of which it was decided that each can be told
pub sayable_where : (t : Tree) (r : Result Bool AllocError) → AreInRange t → IsFew t → IfOk r (λ b. IsTrue b ↔ Each IsTellable t) → IfOk r (λ b. IsTrue b ↔ IsSayableTree t)
sayable_where t (Err e) range few h = tt
sayable_where t (Ok b) range few h = (
  λ u. (λ p. fits p (get t p) (range p) (h.0 u p), few),
  λ s. h.1 (λ p. tells p (get t p) (s.0 p)),
)
