-- What two changes come to leads from where the first begins to where the second ends.
use Rattle.std.proofs.Common.{◌≡◌, ◌≢◌, sym, ap, ◌∙◌, subst}
use Rattle.std.specs.Prelude.{Option, Some, None, IfSome}
use Rattle.std.specs.FinMap.{empty, get, get-empty}
use Rattle.res_path.specs.Paths.{path_cmp}
use Rattle.ws_elem.specs.declared.element.Element.{Element}
use Rattle.layer_log.specs.declared.change.Change.{Change}
use Rattle.layer_log.specs.Records.{Records, Turns, Settled, Meets, IsNetOf}
use Rattle.layer_log.specs.Inside.Compositions.{one_of, Kept, Joined, Composed}

turns : (x y z : Option Element) (r s t : Option Change) → Turns x r y → Turns y s z → Joined r s t → Turns x t z × IfSome t (λ u. u.before ≢ u.after)
turns x y z None None None p q j = (p ∙ q, tt)
turns x y z None None (Some u) p q j = cc
turns x y z (Some r) None None p q j = (sym p.0 ∙ j ∙ p.1 ∙ q, tt)
turns x y z (Some r) None (Some u) p q j = ((ap (λ c. c.before) j.0 ∙ p.0, ap (λ c. c.after) j.0 ∙ p.1 ∙ q), subst (λ c. c.before ≢ c.after) (sym j.0) j.1)
turns x y z None (Some s) None p q j = (p ∙ sym q.0 ∙ j ∙ q.1, tt)
turns x y z None (Some s) (Some u) p q j = ((ap (λ c. c.before) j.0 ∙ q.0 ∙ sym p, ap (λ c. c.after) j.0 ∙ q.1), subst (λ c. c.before ≢ c.after) (sym j.0) j.1)
turns x y z (Some r) (Some s) None p q j = (sym p.0 ∙ j ∙ q.1, tt)
turns x y z (Some r) (Some s) (Some u) p q j = ((ap (λ c. c.before) j.0 ∙ p.0, ap (λ c. c.after) j.0 ∙ q.1), subst (λ c. c.before ≢ c.after) (sym j.0) j.1)

composed_net : (first second c : Records) → Composed first second c → IsNetOf first second c
composed_net first second c j a b d f g = ((λ p. (turns _ _ _ _ _ _ (f p) (g p) (j p)).0), (λ p. (turns _ _ _ _ _ _ (f p) (g p) (j p)).1))

pub empty_settled : Settled empty
empty_settled p = subst (λ x. IfSome x (λ r. r.before ≢ r.after)) (sym (get-empty path_cmp p)) tt

-- changes that are taken into none are settled
pub composed_settled : (a c : Records) → Composed empty a c → Settled c
composed_settled a c h p = by (get a p) (get c p) (subst (λ x. Joined x (get a p) (get c p)) (get-empty path_cmp p) (h p))
  where
    by : (x z : Option Change) → Joined None x z → IfSome z (λ r. r.before ≢ r.after)
    by x None j = tt
    by None (Some r) j = cc
    by (Some s) (Some r) j = subst (λ c. c.before ≢ c.after) (sym j.0) j.1

pub composed_all_settled : (a b c : Records) → Composed a b c → Settled c
composed_all_settled a b c h p = by (get a p) (get b p) (get c p) (h p)
  where
    by : (x y z : Option Change) → Joined x y z → IfSome z (λ r. r.before ≢ r.after)
    by x y None j = tt
    by None None (Some r) j = cc
    by (Some q) None (Some r) j = subst (λ c. c.before ≢ c.after) (sym j.0) j.1
    by None (Some s) (Some r) j = subst (λ c. c.before ≢ c.after) (sym j.0) j.1
    by (Some q) (Some s) (Some r) j = subst (λ c. c.before ≢ c.after) (sym j.0) j.1

-- settling the first changes nothing of what the two come to
settled_composed : (a b c d : Records) → Meets a c → Composed empty a b → Composed b c d → Composed a c d
settled_composed a b c d m h k p = by (get a p) (get b p) (get c p) (get d p) (m p) (subst (λ x. Joined x (get a p) (get b p)) (get-empty path_cmp p) (h p)) (k p)
  where
    by : (w x y z : Option Change) → IfSome w (λ r. IfSome y (λ s. r.after ≡ s.before)) → Joined None w x → Joined x y z → Joined w y z
    by None None y z m i j = j
    by None (Some r) y z m i j = cc
    by (Some q) None None z m i j = subst (Kept q) (sym j) i
    by (Some q) (Some r) None z m i j = subst (λ r. Kept r z) i.0 j
    by (Some q) None (Some s) z m i j = subst (λ x. Kept x z) (λ k. record { before = sym (i ∙ m) k; after = s.after }) j
    by (Some q) (Some r) (Some s) z m i j = subst (λ r. Kept (one_of (Some r) s) z) i.0 j

-- the first is settled, and then the second is taken in
pub settled_net : (a b c d : Records) → Meets a c → Composed empty a b → Composed b c d → IsNetOf a c d
settled_net a b c d m h k = composed_net a c d (settled_composed a b c d m h k)
