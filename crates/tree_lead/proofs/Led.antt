-- A tree on its way to another one.
use Rattle.std.proofs.Common.{◌≡◌, Bool, true, false, cond, [], ◌∷◌, refl, sym, ap, ◌∙◌, subst}
use Rattle.std.specs.Prelude.{Option, Some, None, if◌then◌else◌}
use Rattle.std.specs.FinMap.{get, get-insert, get-remove, same_map}
use Rattle.std.specs.Ordering.{eq_by_cmp, is_eq, is_lt}
use Rattle.res_path.specs.Paths.{Names, path_cmp, path_eq}
use Rattle.res_path.specs.PathLaws.{path_cmp_total}
use Rattle.res_path.proofs.Prefixes.{path_cmp_exact}
use Rattle.ws_elem.specs.declared.element.Element.{Element}
use Rattle.ws_elem.specs.Trees.{Tree, set_at}
use Rattle.tree_rows.specs.Rows.{Rows, after, Rise}
use Rattle.tree_rows.proofs.Order.{less, above_more, met, missed}

-- the rows lead from t to the wanted tree
pub record IsLed (t wanted : Tree) (rows : Rows) : Type 0 where
  pub rise : Rise None rows
  pub there : (p : Names) → after (get t) rows p ≡ get wanted p

-- ---- rows above a path

lower : (p q : Names) (rows : Rows) → is_lt (path_cmp p q) ≡ true → Rise (Some q) rows → Rise (Some p) rows
lower p q [] h g = tt
lower p q (row ∷ rows) h g = (above_more (Some p) q row.0 h (less _ g.0), g.1)

from_none : (q : Names) (rows : Rows) → Rise (Some q) rows → Rise None rows
from_none q [] g = tt
from_none q (row ∷ rows) g = (tt, g.1)

untouched : (base : Names → Option Element) (p : Names) (rows : Rows) → Rise (Some p) rows → after base rows p ≡ base p
untouched base p [] h = refl
untouched base p (row ∷ rows) h =
    ap (λ b. if b then row.1 else after base rows p) (met p row.0 ∙ ap is_eq (less _ h.0)) ∙ untouched base p rows (lower p row.0 rows h.0 h.1)

same_base : (f g : Names → Option Element) (rows : Rows) (p : Names) → f p ≡ g p → after f rows p ≡ after g rows p
same_base f g [] p e = e
same_base f g (row ∷ rows) p e = ap (λ x. if path_eq row.0 p then row.1 else x) (same_base f g rows p e)

-- ---- one row more

set_get : (t : Tree) (p : Names) (x : Option Element) (q : Names) → get (set_at t p x) q ≡ cond (eq_by_cmp path_cmp q p) x (get t q)
set_get t p None q = get-remove path_cmp_total t p q
set_get t p (Some e) q = get-insert path_cmp_total t p e q

set_row : (t : Tree) (q : Names) (x : Option Element) (rows : Rows) → Rise (Some q) rows → (p : Names) → after (get (set_at t q x)) rows p ≡ after (get t) ((q, x) ∷ rows) p
set_row t q x rows rise p = by (path_eq q p) refl
  where
    here : (b : Bool) → path_eq q p ≡ b → get (set_at t q x) p ≡ cond b x (get t p)
    here b e = set_get t q x p ∙ ap (λ z. cond z x (get t p)) (sym (met p q) ∙ e)

    by : (b : Bool) → path_eq q p ≡ b → after (get (set_at t q x)) rows p ≡ (if b then x else after (get t) rows p)
    by true e = untouched (get (set_at t q x)) p rows (subst (λ z. Rise (Some z) rows) (sym (missed p q (sym (met p q) ∙ e))) rise) ∙ here true e
    by false e = same_base (get (set_at t q x)) (get t) rows p (here false e)

pub led_next : (t next wanted : Tree) (q : Names) (x : Option Element) (rows : Rows) → next ≡ set_at t q x → IsLed t wanted ((q, x) ∷ rows) → IsLed next wanted rows
led_next t next wanted q x rows is led = record {
  rise = from_none q rows led.rise.1;
  there = λ p. ap (λ (u : Tree). after (get u) rows p) is ∙ set_row t q x rows led.rise.1 p ∙ led.there p;
}

-- ---- the last

pub led_last : (t wanted : Tree) (rows : Rows) → rows ≡ [] → IsLed t wanted rows → t ≡ wanted
led_last t wanted rows none led = same_map path_cmp_total path_cmp_exact t wanted (λ p. ap (λ (rs : Rows). after (get t) rs p) (sym none) ∙ led.there p)
