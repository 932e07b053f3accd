-- What opening finds.
use Rattle.std.proofs.Common.{◌≡◌, ◌≢◌, inl, inr, ⊎_elim, ℕ, List, [], ◌∷◌, Option, Some, None, Result, Ok, Bool, true, false, refl, sym, ◌∙◌, ap, subst, arith}
use Rattle.std.proofs.lemmas.Bool.{cases_eq}
use Rattle.std.proofs.lemmas.Bool.Decides.{nat_tests}
use Rattle.std.specs.Prelude.{IfSome, if◌then◌else◌, nat_eq}
use Rattle.ws_outside.specs.declared.contents.Contents.{Contents}
use Rattle.ws_outside.specs.declared.contents.Which.{Which}
use Rattle.ws_outside.specs.declared.contents.Which.TheVariants.{Right}
use Rattle.ws_outside.specs.Disk.{held, picked, Each}
use Rattle.disk_area.specs.declared.pieces.Head.{Head}
use Rattle.disk_area.specs.Reading.{Place, head_of}
use Rattle.disk_area.proofs.Fronts.{gate_short}
use Rattle.area_pair.specs.declared.opening.Found.{Found}
use Rattle.area_pair.specs.Reads.{chosen, other, IsWhole, Loses}
use Rattle.area_pair.specs.Found.{is_shut, Ended, texts_with, IsEnded, IsFound}
use Rattle.area_pair.proofs.Choosing.{whole_head, open_unshut, shut_is, number_from, number_below, none_open, chosen_head, other_loses, area_none, lefts, rights, shut_at}
use Rattle.area_store.specs.declared.desk.Desk.{Desk}
use Rattle.area_store.specs.Begun.{home_of, gate_in, desk_with}
use Rattle.area_store.specs.Kept.{Point, IsUnused, Stands, StandsAt, IsTornSafe, IsKept}
use Rattle.area_store.proofs.Points.{torn_open, torn_short}

other_gate : (g : ℕ) → g ≢ 1 → nat_eq g 1 ≡ false
other_gate g shut = grind (arith, nat_tests)

unused : (bytes : List ℕ) → head_of bytes ≡ Ok None → IsUnused (is_shut bytes) bytes
unused [] e = omega arith
unused (g ∷ bytes) e = elim (cases_eq g 1) [
  | inl is ↦ subst (λ (k : ℕ). head_of (k ∷ bytes) ≡ Ok None → IsUnused (is_shut (k ∷ bytes)) (k ∷ bytes)) (sym is) (gate_short bytes) e
  | inr shut ↦ subst (λ b. IsUnused (if b then false else true) (g ∷ bytes)) (sym (other_gate g shut)) shut
]

-- an area that isn't open, or loses, whatever its gate is torn to
torn_other : (home : Which) (number : ℕ) (there : Option Head) (bytes : List ℕ) → head_of bytes ≡ Ok there → IfSome there (λ h. Loses home number h.number) → is_shut bytes ≡ false → IsTornSafe home number [] bytes
torn_other home number None bytes e loses unshut torn same = inl (torn_short bytes torn (subst (λ b. IsUnused b bytes) unshut (unused bytes e)) same)
torn_other home number (Some head) bytes e loses unshut torn same =
    ⊎_elim (λ is. inr (inl (head, loses, ap head_of is ∙ e))) (λ none. inl none) (torn_open bytes torn head e same)

module _ (c : Contents) (found : Found) (is : IsFound c found) where
  home_stands : (area : Option Which) (ended : Ended) → chosen found.heads ≡ area → IsEnded c area ended
      → StandsAt (picked (home_of area) found.left_shut found.right_shut) (number_from found.heads area) (gate_in ended) (texts_with ended) (held (home_of area) c)
  home_stands None None e at = (refl, subst (λ b. IsUnused b c.right) (sym is.right) (unused c.right ((rights c found is) ∙ ap (λ h. Ok h) (none_open found.heads e).1)))
  home_stands None (Some ended) e at = absurd at
  home_stands (Some area) None e at = let h = chosen_head found.heads area c e (lefts c found is) (rights c found is) in absurd (area_none (held area c) h.0 h.1 at)
  home_stands (Some area) (Some ended) e at =
      let h = chosen_head found.heads area c e (lefts c found is) (rights c found is) in
      let w = whole_head at.0 ended.1 ended.0 (held area c) at.1 in
      let same : at.0 ≡ number_from found.heads (Some area) = sym w.2 ∙ ap (λ (h : Head). h.number) (head_is w.0 h.0 (sym w.1 ∙ h.1)) ∙ sym h.2 in
      (shut_at c found is area ∙ open_unshut (held area c) h.0 h.1, subst (λ (n : ℕ). IsWhole n ended.1 ended.0 (held area c)) same at.1)
    where
      head_is : (x y : Head) → (let r : Result (Option Head) Place = Ok (Some x) in r) ≡ Ok (Some y) → x ≡ y
      head_is x y e = cc e

  spare_safe : (area : Option Which) → chosen found.heads ≡ area → picked (other (home_of area)) found.left_shut found.right_shut ≡ false
      → IsTornSafe (home_of area) (number_from found.heads area) [] (held (other (home_of area)) c)
  spare_safe None e unshut = torn_other Right 0 None c.left ((lefts c found is) ∙ ap (λ h. Ok h) (none_open found.heads e).0) tt (sym is.left ∙ unshut)
  spare_safe (Some area) e unshut =
      let o = other_loses found.heads area c e (lefts c found is) (rights c found is) in
      torn_other area (number_from found.heads (Some area)) o.0 (held (other area) c) o.1 o.2 (sym (shut_at c found is (other area)) ∙ unshut)

seen_at : (seen : Option Contents) (c : Contents) (P : Contents → Type 0) → seen ≡ Some c → IfSome seen P → P c
seen_at seen c P is told = subst (λ o. IfSome o P) is told

pub opened_kept : {D : Type 0} (may_leave : D → Contents → Type 0) (seen : Option Contents) (disk : D) (found : Found) → IfSome seen (λ both. IsFound both found) → Each (may_leave disk) (λ c. seen ≡ Some c)
    → IsKept may_leave (texts_with found.ended) [] (desk_with disk found)
opened_kept may_leave seen disk found told durable =
    let area = chosen found.heads in
    let at : (c : Contents) → may_leave disk c → IsFound c found = λ c left. seen_at seen c (λ both. IsFound both found) (durable c left) told in
    let home : (c : Contents) → may_leave disk c → StandsAt (picked (home_of area) found.left_shut found.right_shut) (number_from found.heads area) (gate_in found.ended) (texts_with found.ended) (held (home_of area) c) =
    λ c left. home_stands c found (at c left) area found.ended refl (at c left).ended in
    record {
      number = number_from found.heads area;
      below = number_below found.heads area;
      stands = λ c left. (texts_with found.ended, inl refl, stands_from (picked (home_of area) found.left_shut found.right_shut) (number_from found.heads area) (gate_in found.ended) (texts_with found.ended) (held (home_of area) c) (home c left));
      sure = λ _ c left. home c left;
      shut = λ e c left. shut_is (held (other (home_of area)) c) (sym (shut_at c found (at c left) (other (home_of area))) ∙ e);
      torn = λ e c left. spare_safe c found (at c left) area refl e;
      calm = λ _ e c left. spare_safe c found (at c left) area refl e;
    }
  where
    stands_from : (shut : Bool) (number : ℕ) (gate : Option ℕ) (point : Point) (bytes : List ℕ) → StandsAt shut number gate point bytes → Stands shut number point bytes
    stands_from shut number None None bytes stands = stands
    stands_from shut number None (Some texts) bytes stands = absurd stands
    stands_from shut number (Some gate) None bytes stands = absurd stands
    stands_from shut number (Some gate) (Some texts) bytes stands = (stands.0, (gate, stands.1))

pub begun_kept : {D : Type 0} (may_leave : D → Contents → Type 0) (seen : Option Contents) (disk : D) (found : Found) (desk : Desk D) (texts : Point) → desk ≡ desk_with disk found → texts ≡ texts_with found.ended
    → IfSome seen (λ both. IsFound both found) → Each (may_leave disk) (λ c. seen ≡ Some c) → IsKept may_leave texts [] desk
begun_kept may_leave seen disk found desk texts made told are durable =
    subst (λ t. IsKept may_leave t [] desk) (sym told) (subst (IsKept may_leave (texts_with found.ended) []) (sym made) (opened_kept may_leave seen disk found are durable))
