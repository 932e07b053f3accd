-- Elements without their transient markers.
use Rattle.std.proofs.Common.{◌≡◌, ℕ, Bool, true, false, cond, not, ◌||◌, List, [], ◌∷◌, map, nat_cmp, refl, sym, ap, ◌∙◌, subst}
use Rattle.std.specs.Prelude.{Option, Some, None, IfSome, if◌then◌else◌}
use Rattle.std.specs.List.{list_any}
use Rattle.std.specs.Ordering.{eq_by_cmp}
use Rattle.std.specs.Cmp.{nat_cmp_total}
use Rattle.std.specs.FinMap.{empty, entries, find, get, get-entries, nat_cmp-IsAntisymmetric, same_map}
use Rattle.mark_set.specs.Markers.{Marks, is_transient, is_durable, durable_marks, get-durable_marks}
use Rattle.mark_set.proofs.Maps.{entries-empty}
use Rattle.mark_set.specs.declared.marker.Marker.{Marker}
use Rattle.ws_elem.specs.declared.element.Element.{Element}
use Rattle.ws_lasting.specs.Lasting.{lasting_element}
use Rattle.ws_lasting.specs.Inside.{some_transient, has_transient}

here : (a b : Bool) → (a || b) ≡ false → a ≡ false
here true b h = cc
here false b h = refl

behind : (a b : Bool) → (a || b) ≡ false → b ≡ false
behind true b h = cc
behind false b h = h

none_found : (es : List (ℕ × Marker)) (id : ℕ) → list_any is_transient (map (λ e. e.1) es) ≡ false → IfSome (find nat_cmp id es) (λ m. is_transient m ≡ false)
none_found [] id h = tt
none_found (e ∷ es) id h = by (eq_by_cmp nat_cmp id e.0) (none_found es id (behind (is_transient e.1) (list_any is_transient (map (λ x. x.1) es)) h))
  where
    by : (b : Bool) → IfSome (find nat_cmp id es) (λ m. is_transient m ≡ false) → IfSome (cond b (Some e.1) (find nat_cmp id es)) (λ m. is_transient m ≡ false)
    by true rest = here (is_transient e.1) (list_any is_transient (map (λ x. x.1) es)) h
    by false rest = rest

same_marks : (a b : Marks) → ((id : ℕ) → get a id ≡ get b id) → a ≡ b
same_marks = same_map nat_cmp_total nat_cmp-IsAntisymmetric

-- where none is transient all last
all_durable : (marks : Marks) → some_transient marks ≡ false → durable_marks marks ≡ marks
all_durable marks h = same_marks _ _ (λ id. get-durable_marks marks id ∙ by (get marks id) (subst (λ o. IfSome o (λ m. is_transient m ≡ false)) (sym (get-entries marks id)) (none_found (entries marks) id h)))
  where
    by : (o : Option Marker) → IfSome o (λ m. is_transient m ≡ false) → (if is_durable o then o else None) ≡ o
    by None g = refl
    by (Some m) g = ap (λ b. if not b then Some m else None) g

durable_twice : (marks : Marks) → durable_marks (durable_marks marks) ≡ durable_marks marks
durable_twice marks = same_marks _ _ (λ id. get-durable_marks (durable_marks marks) id ∙ ap kept (get-durable_marks marks id) ∙ by (get marks id) ∙ sym (get-durable_marks marks id))
  where
    kept : Option Marker → Option Marker
    kept o = if is_durable o then o else None

    again : (b : Bool) (m : Marker) → is_transient m ≡ b → kept (if not b then Some m else None) ≡ (if not b then Some m else None)
    again true m h = refl
    again false m h = ap (λ b. if not b then Some m else None) h

    by : (o : Option Marker) → kept (kept o) ≡ kept o
    by None = refl
    by (Some m) = again (is_transient m) m refl

with_marks : Element → Marks → Element
with_marks e marks = record e { attached = record e.attached { marks = marks } }

-- an element without transient markers lasts as it is
pub lasts : (e : Element) → has_transient e ≡ false → lasting_element e ≡ e
unfolding with_marks
lasts e h = ap (with_marks e) (all_durable e.attached.marks h)

-- what lasts of an element lasts as it is
pub lasting_twice : (e : Element) → lasting_element (lasting_element e) ≡ lasting_element e
unfolding with_marks
lasting_twice e = ap (with_marks e) (durable_twice e.attached.marks)

-- of nothing attached nothing is transient
pub none_transient : some_transient empty ≡ false
none_transient = ap (λ es. list_any is_transient (map (λ e. e.1) es)) (entries-empty nat_cmp_total nat_cmp-IsAntisymmetric)
