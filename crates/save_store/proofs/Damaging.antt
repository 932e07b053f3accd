-- The first damage of two areas, from what is read of them.
use Rattle.std.proofs.Common.{◌≡◌, ◌⊎◌, inl, inr, ⊎_elim, ℕ, Option, Some, None, Result, Ok, Err, refl, sym, ◌∙◌, ap, subst}
use Rattle.ws_outside.specs.declared.contents.Contents.{Contents}
use Rattle.ws_outside.specs.declared.contents.Which.{Which}
use Rattle.ws_outside.specs.declared.contents.Which.TheVariants.{Left, Right}
use Rattle.ws_outside.specs.Disk.{held}
use Rattle.disk_area.specs.declared.bodies.Area.{Area}
use Rattle.disk_area.specs.declared.damage.AreaFault.{AreaFault}
use Rattle.disk_area.specs.declared.damage.AreaFault.TheVariants as area_fault
use Rattle.disk_area.specs.declared.damage.Damage.{Damage}
use Rattle.disk_area.specs.declared.pieces.Head.{Head}
use Rattle.disk_area.specs.Reading.{Place, head_of, with_head, area_of, Tells}
use Rattle.area_pair.specs.declared.texts.Texts.{Texts}
use Rattle.area_pair.specs.Reads.{Heads, heads_from, heads_of, chosen, in_area, with_end, texts_in, texts_of, reads_by, reads}
use Rattle.area_store.specs.declared.desk.Desk.{Desk}
use Rattle.area_store.specs.Begun.{home_of, IsBegun}
use Rattle.save_store.specs.declared.faults.OpenFault.{OpenFault}
use Rattle.save_store.specs.declared.faults.OpenFault.TheVariants as open_fault
use Rattle.save_store.specs.Faults.{opening}
use Rattle.save_store.specs.Damages.{texts_of_area, SpoilsTexts, Spoils, IsDamaged, TellsDamage, OfTexts}

-- the place of a damage in its area
abbrev place_of : Damage → Place
place_of d = (d.at, d.cause)

err_is : {T E : Type 0} (x y : E) → (let r : Result T E = Err x in r) ≡ Err y → x ≡ y
err_is x y e = cc e

some_is : {T : Type 0} (x y : T) → (let o : Option T = Some x in o) ≡ Some y → x ≡ y
some_is x y e = cc e

-- ---- an area that is damaged

-- where its texts are read as a damage it is this area's: what ends its records, or else that of its head or its image
pub record IsEndedAt (area : Which) (r : Result (Option Area) Place) (d : Damage) : Type 0 where
  pub here : area ≡ d.area
  pub at : (r ≡ Err (place_of d)) ⊎ ((whole : Area) × (r ≡ Ok (Some whole)) × (whole.end ≡ Err (place_of d)))

ended_by : (area : Which) (whole : Area) (e : Result ℕ Place) (d : Damage) → whole.end ≡ e → with_end area whole e ≡ Err d → IsEndedAt area (Ok (Some whole)) d
ended_by area whole (Ok gate) d is damaged = absurd (cc damaged)
ended_by area whole (Err place) d is damaged =
    let same = err_is {T = Option Texts} (in_area area place) d damaged in
    record { here = ap (λ (x : Damage). x.area) same; at = inr (whole, refl, is ∙ ap (λ (x : Damage). (let r : Result ℕ Place = Err (place_of x) in r)) same) }

ended_at : (area : Which) (r : Result (Option Area) Place) (d : Damage) → texts_in area r ≡ Err d → IsEndedAt area r d
ended_at area (Ok None) d damaged = absurd (cc damaged)
ended_at area (Ok (Some whole)) d damaged = ended_by area whole whole.end d refl damaged
ended_at area (Err place) d damaged =
    let same = err_is {T = Option Texts} (in_area area place) d damaged in
    record { here = ap (λ (x : Damage). x.area) same; at = inl (ap (λ (x : Damage). (let r : Result (Option Area) Place = Err (place_of x) in r)) same) }

-- ---- both areas

-- the head of its area is damaged
head_damaged : (both : Contents) (left right : Result (Option Head) Place) (d : Damage) → head_of both.left ≡ left → head_of both.right ≡ right → heads_from left right ≡ Err d → area_of (held d.area both) ≡ Err (place_of d)
head_damaged both (Err place) right d here there damaged =
    let same = err_is {T = Heads} (in_area Left place) d damaged in
    subst (λ (x : Damage). area_of (held x.area both) ≡ Err (place_of x)) same (ap (with_head both.left) here)
head_damaged both (Ok left) (Err place) d here there damaged =
    let same = err_is {T = Heads} (in_area Right place) d damaged in
    subst (λ (x : Damage). area_of (held x.area both) ≡ Err (place_of x)) same (ap (with_head both.right) there)
head_damaged both (Ok left) (Ok right) d here there damaged = absurd (cc damaged)

-- its area is the one that decides
pub record IsOfChosen (both : Contents) (d : Damage) : Type 0 where
  pub heads : Heads
  pub are : heads_of both ≡ Ok heads
  pub decides : chosen heads ≡ Some d.area
  pub ends : IsEndedAt d.area (area_of (held d.area both)) d

chosen_damaged : (both : Contents) (heads : Heads) (area : Option Which) (d : Damage) → heads_of both ≡ Ok heads → chosen heads ≡ area → texts_of both area ≡ Err d → IsOfChosen both d
chosen_damaged both heads None d are is damaged = absurd (cc damaged)
chosen_damaged both heads (Some area) d are is damaged =
    let ends = ended_at area (area_of (held area both)) d damaged in
    record {
      heads = heads;
      are = are;
      decides = is ∙ ap (λ (x : Which). Some x) ends.here;
      ends = subst (λ (x : Which). IsEndedAt x (area_of (held x both)) d) ends.here ends;
    }

pub damaged_where : (both : Contents) (d : Damage) → reads both ≡ Err d → (heads_of both ≡ Err d) ⊎ IsOfChosen both d
damaged_where both d damaged = by_heads (heads_of both) refl damaged
  where
    by_heads : (h : Result Heads Damage) → heads_of both ≡ h → reads_by both h ≡ Err d → (heads_of both ≡ Err d) ⊎ IsOfChosen both d
    by_heads (Err x) is damaged = inl (is ∙ damaged_as x damaged)
      where
        damaged_as : (x : Damage) → (let r : Result (Option Texts) Damage = Err x in r) ≡ Err d → (let h : Result Heads Damage = Err x in h) ≡ Err d
        damaged_as x damaged = ap (λ (y : Damage). (let h : Result Heads Damage = Err y in h)) (err_is {T = Option Texts} x d damaged)
    by_heads (Ok heads) is damaged = inr (chosen_damaged both heads (chosen heads) d is refl damaged)

module _ (both : Contents) (d : Damage) (damaged : reads both ≡ Err d) where
  -- what is read of that area alone: the same damage
  same_place : (place : Place) → area_of (held d.area both) ≡ Err place → IsDamaged both (in_area d.area place)
  same_place place is = ⊎_elim at_head at_chosen (damaged_where both d damaged)
    where
      at_head : heads_of both ≡ Err d → IsDamaged both (in_area d.area place)
      at_head h =
          let read = head_damaged both (head_of both.left) (head_of both.right) d refl refl h in
          let same = err_is {T = Option Area} (place_of d) place (sym read ∙ is) in
          inl (h ∙ ap (λ (p : Place). (let r : Result Heads Damage = Err (in_area d.area p) in r)) same)

      at_chosen : IsOfChosen both d → IsDamaged both (in_area d.area place)
      at_chosen c = inr (c.heads, d.area, c.are, c.decides, subst (λ (r : Result (Option Area) Place). Spoils d.area r (in_area d.area place)) (sym is) refl)

  -- or texts, and behind them this damage
  behind_texts : (whole : Area) → area_of (held d.area both) ≡ Ok (Some whole) → IsOfChosen both d × (whole.end ≡ Err (place_of d))
  behind_texts whole is = ⊎_elim at_head at_chosen (damaged_where both d damaged)
    where
      whole_is : (x y : Area) → (let r : Result (Option Area) Place = Ok (Some x) in r) ≡ Ok (Some y) → x ≡ y
      whole_is x y e = cc e

      at_head : heads_of both ≡ Err d → IsOfChosen both d × (whole.end ≡ Err (place_of d))
      at_head h = let read = head_damaged both (head_of both.left) (head_of both.right) d refl refl h in absurd (cc (sym read ∙ is))

      at_chosen : IsOfChosen both d → IsOfChosen both d × (whole.end ≡ Err (place_of d))
      at_chosen c = (c, ⊎_elim (λ (e : area_of (held d.area both) ≡ Err (place_of d)). absurd (cc (sym e ∙ is))) (λ w. subst (λ (x : Area). x.end ≡ Err (place_of d)) (whole_is w.0 whole (sym w.1 ∙ is)) w.2) c.ends.at)

  -- and never nothing
  no_area : area_of (held d.area both) ≡ Ok None → ⊥
  no_area is = ⊎_elim at_head at_chosen (damaged_where both d damaged)
    where
      at_head : heads_of both ≡ Err d → ⊥
      at_head h = let read = head_damaged both (head_of both.left) (head_of both.right) d refl refl h in absurd (cc (sym read ∙ is))

      at_chosen : IsOfChosen both d → ⊥
      at_chosen c = ⊎_elim (λ (e : area_of (held d.area both) ≡ Err (place_of d)). absurd (cc (sym e ∙ is))) (λ w. absurd (cc (sym w.1 ∙ is))) c.ends.at

  -- ---- what is answered

  pub none_tells : (fault : OpenFault) → area_of (held d.area both) ≡ Ok None → TellsDamage (IsDamaged both) fault
  none_tells fault is = absurd (no_area is)

  pub state_tells : (whole : Area) (gate : ℕ) (fault : OpenFault) → area_of (held d.area both) ≡ Ok (Some whole) → whole.end ≡ Ok gate → TellsDamage (IsDamaged both) fault
  state_tells whole gate fault is ends = let e = (behind_texts whole is).1 in absurd (cc (sym e ∙ ends))

  pub spoilt_tells : (whole : Area) (fault : OpenFault) → area_of (held d.area both) ≡ Ok (Some whole) → OfTexts (Spoils d.area (Ok (Some whole))) fault → TellsDamage (IsDamaged both) fault
  spoilt_tells whole open_fault.Disk is spoils = tt
  spoilt_tells whole (open_fault.Damaged x) is spoils =
      let c = (behind_texts whole is).0 in
      inr (c.heads, d.area, c.are, c.decides, subst (λ (r : Result (Option Area) Place). Spoils d.area r x) (sym is) spoils)
  spoilt_tells whole open_fault.Memory is spoils = tt

  pub fault_tells : (fault : AreaFault) → Tells d.area (area_of (held d.area both)) (Err fault) → TellsDamage (IsDamaged both) (opening fault)
  fault_tells area_fault.Disk tells = tt
  fault_tells (area_fault.Damaged x) tells =
      subst (IsDamaged both) (λ i. record { area = sym tells.1 i; at = x.at; cause = x.cause }) (same_place (place_of x) tells.0)
  fault_tells area_fault.Memory tells = tt

-- ---- the texts of the area that decides

pub texts_spoil : {D : Type 0} (both : Contents) (desk : Desk D) (texts : Texts) (d : Damage) → reads both ≡ Ok (Some texts) → IsBegun both desk → SpoilsTexts desk.home texts d → IsDamaged both d
texts_spoil both desk texts d are begun spoils = by_chosen (chosen begun.heads) refl (sym (ap (reads_by both) begun.are) ∙ are)
  where
    by_area : (area : Which) → chosen begun.heads ≡ Some area → desk.home ≡ area → (r : Result (Option Area) Place) → area_of (held area both) ≡ r → texts_in area r ≡ Ok (Some texts) → IsDamaged both d
    by_area area is home (Ok None) read told = absurd (cc told)
    by_area area is home (Err place) read told = absurd (cc told)
    by_area area is home (Ok (Some whole)) read told = inr (
      begun.heads,
      area,
      begun.are,
      is,
      subst (λ (r : Result (Option Area) Place). Spoils area r d) (sym read) (inl (subst (λ (t : Texts). SpoilsTexts area t d) (sym (ending whole.end told)) (subst (λ (x : Which). SpoilsTexts x texts d) home spoils))),
    )
      where
        ending : (e : Result ℕ Place) → with_end area whole e ≡ Ok (Some texts) → texts_of_area whole ≡ texts
        ending (Ok gate) told = texts_are (texts_of_area whole) texts told
          where
            texts_are : (x y : Texts) → (let r : Result (Option Texts) Damage = Ok (Some x) in r) ≡ Ok (Some y) → x ≡ y
            texts_are x y e = cc e
        ending (Err place) told = absurd (cc told)

    by_chosen : (area : Option Which) → chosen begun.heads ≡ area → texts_of both area ≡ Ok (Some texts) → IsDamaged both d
    by_chosen None is told = absurd (cc told)
    by_chosen (Some area) is told = by_area area is (begun.home ∙ ap home_of is) (area_of (held area both)) refl told
