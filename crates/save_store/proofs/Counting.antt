-- What is told of both areas, from what each is read as.
use Rattle.std.proofs.Common.{◌≡◌, inr, ℕ, ◌+◌, [], Option, Some, None, Result, Ok, Err, Bool, true, false, cond, refl, sym, ◌∙◌, ap, subst, arith}
use Rattle.std.specs.Prelude.{is_some, IfSome}
use Rattle.std.specs.FinMap.{empty, contains_key, len, len-empty, len-insert, get-empty}
use Rattle.ws_outside.specs.declared.contents.Contents.{Contents}
use Rattle.ws_outside.specs.declared.contents.Which.{Which}
use Rattle.ws_outside.specs.declared.contents.Which.TheVariants.{Left, Right}
use Rattle.ws_outside.specs.Disk.{held, picked}
use Rattle.res_path.specs.Paths.{path_cmp}
use Rattle.res_path.specs.PathLaws.{path_cmp_total}
use Rattle.ws_elem.specs.declared.element.Element.{Element}
use Rattle.ws_elem.specs.declared.kind.Kind.TheVariants.{Root}
use Rattle.ws_elem.specs.Elements.{bare}
use Rattle.ws_elem.specs.Trees.{fresh_tree}
use Rattle.disk_area.specs.declared.bodies.Area.{Area}
use Rattle.disk_area.specs.declared.damage.Damage.{Damage}
use Rattle.disk_area.specs.declared.pieces.Head.{Head}
use Rattle.disk_area.specs.Reading.{Place, head_of, area_of}
use Rattle.ws_durable.specs.Saved.{Saved}
use Rattle.area_pair.specs.Reads.{Heads, heads_from, heads_of, chosen, with_end, texts_in, texts_of, reads_by}
use Rattle.area_pair.proofs.Choosing.{chosen_head, area_none}
use Rattle.save_store.specs.declared.faults.OpenFault.{OpenFault}
use Rattle.save_store.specs.declared.faults.OpenFault.TheVariants as open_fault
use Rattle.save_store.specs.Damages.{texts_of_area, Spoils, IsDamaged, TellsDamage, OfTexts}
use Rattle.save_store.specs.declared.look.Found.{Found}
use Rattle.save_store.specs.Looks.{counted, CountsIn, Counts, SpoilsChosen, IsLookedAt}
use Rattle.save_store.specs.States.{fresh, Holds}

-- the fresh workspace has one element
absent : (b : Bool) (n : ℕ) → b ≡ false → n ≡ 0 → cond b n (n + 1) ≡ 1
absent true n isnt e = absurd (cc isnt)
absent false n _ e = omega (arith, e)

fresh_len : len fresh_tree ≡ 1
fresh_len = len-insert path_cmp_total empty [] (bare Root 1)
    ∙ absent (contains_key {X = Element} {R = path_cmp} empty []) (len (empty {X = Element} {R = path_cmp})) (ap is_some (get-empty {X = Element} path_cmp [])) (len-empty path_cmp Element)

-- the heads of both areas, one by one
split : (left right : Result (Option Head) Place) (heads : Heads) → heads_from left right ≡ Ok heads → (left ≡ Ok heads.0) × (right ≡ Ok heads.1)
split (Err place) right heads e = absurd (cc e)
split (Ok left) (Err place) heads e = absurd (cc e)
split (Ok left) (Ok right) heads e = let is = heads_are (left, right) heads e in (ap (λ (h : Heads). Ok h.0) is, ap (λ (h : Heads). Ok h.1) is)
  where
    heads_are : (x y : Heads) → (let r : Result Heads Damage = Ok x in r) ≡ Ok y → x ≡ y
    heads_are x y e = cc e

held_picked : (area : Which) (both : Contents) (left right : Result (Option Area) Place) → left ≡ area_of both.left → right ≡ area_of both.right → picked area left right ≡ area_of (held area both)
held_picked Left both left right here there = here
held_picked Right both left right here there = there

module _ (both : Contents) (heads : Heads) (are : heads_of both ≡ Ok heads) (left right : Result (Option Area) Place) (here : left ≡ area_of both.left) (there : right ≡ area_of both.right) where
  in_area : (area : Which) → chosen heads ≡ Some area → (r : Result (Option Area) Place) → area_of (held area both) ≡ r → (n : ℕ) → CountsIn r n → (state : Saved) × Holds both state × (n ≡ len state.tree)
  in_area area is (Err place) read n counts = absurd counts
  in_area area is (Ok None) read n counts =
      let s = split (head_of both.left) (head_of both.right) heads are in
      let h = chosen_head heads area both is s.0 s.1 in
      absurd (area_none (held area both) h.0 h.1 read)
  in_area area is (Ok (Some whole)) read n counts = (
    counts.0,
    (
      Some (texts_of_area whole),
      ap (reads_by both) are ∙ ap (texts_of both) is ∙ ap (texts_in area) read ∙ ap (with_end area whole) counts.2,
      counts.3,
    ),
    counts.4,
  )

  pub counts_hold : (area : Option Which) → chosen heads ≡ area → (n : ℕ) → Counts area left right n → (state : Saved) × Holds both state × (n ≡ len state.tree)
  counts_hold None is n counts = (fresh, (None, ap (reads_by both) are ∙ ap (texts_of both) is, refl), counts ∙ sym fresh_len)
  counts_hold (Some area) is n counts = in_area area is (area_of (held area both)) refl n (subst (λ (r : Result (Option Area) Place). CountsIn r n) (held_picked area both left right here there) counts)

  spoils_both : (area : Option Which) → chosen heads ≡ area → (d : Damage) → SpoilsChosen area left right d → IsDamaged both d
  spoils_both None is d spoils = absurd spoils
  spoils_both (Some area) is d spoils = inr (heads, area, are, is, subst (λ (r : Result (Option Area) Place). Spoils area r d) (held_picked area both left right here there) spoils)

  pub spoils_tell : (area : Option Which) → chosen heads ≡ area → (fault : OpenFault) → OfTexts (SpoilsChosen area left right) fault → TellsDamage (IsDamaged both) fault
  spoils_tell area is open_fault.Disk spoils = tt
  spoils_tell area is (open_fault.Damaged d) spoils = spoils_both area is d spoils
  spoils_tell area is open_fault.Memory spoils = tt

-- what is told of both areas is what they hold
looked_at : (both : Contents) (found : Found) (heads : Heads) (left right : Result (Option Area) Place) → heads_of both ≡ Ok heads → left ≡ area_of both.left → right ≡ area_of both.right
    → found.chosen ≡ chosen heads → found.left ≡ counted heads.0 left → found.right ≡ counted heads.1 right → Counts found.chosen left right found.elements → IsLookedAt both found
looked_at both found heads left right are here there chosen_is first second counts =
    let held = counts_hold both heads are left right here there found.chosen (sym chosen_is) found.elements counts in
    record {
      heads = heads;
      are = are;
      left = first ∙ ap (counted heads.0) here;
      right = second ∙ ap (counted heads.1) there;
      chosen_is = chosen_is;
      state = held.0;
      holds = held.1;
      elements = held.2;
    }

pub look_told : (seen : Option Contents) (found : Found) (heads : Heads) (left right : Result (Option Area) Place)
    → IfSome seen (λ both. heads_of both ≡ Ok heads) → IfSome seen (λ both. left ≡ area_of both.left) → IfSome seen (λ both. right ≡ area_of both.right)
    → found.chosen ≡ chosen heads → found.left ≡ counted heads.0 left → found.right ≡ counted heads.1 right → Counts found.chosen left right found.elements → IfSome seen (λ both. IsLookedAt both found)
look_told None found heads left right are here there chosen_is first second counts = tt
look_told (Some both) found heads left right are here there chosen_is first second counts = looked_at both found heads left right are here there chosen_is first second counts
