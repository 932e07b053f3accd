-- Two areas have one first damage.
use Rattle.std.proofs.Common.{◌≡◌, inl, inr, ℕ, List, [], ◌∷◌, length, Option, Some, None, Result, Ok, Err, sym, ◌∙◌, ap, subst}
use Rattle.std.specs.Prelude.{IfSome, IfOk, IfErr, MatchResult}
use Rattle.std.specs.FinMap.{empty}
use Rattle.ws_elem.specs.Trees.{Tree}
use Rattle.ws_outside.specs.declared.contents.Contents.{Contents}
use Rattle.ws_outside.specs.declared.contents.Which.{Which}
use Rattle.ws_outside.specs.Disk.{held}
use Rattle.disk_area.specs.declared.bodies.Area.{Area}
use Rattle.disk_area.specs.declared.damage.Damage.{Damage}
use Rattle.disk_area.specs.Reading.{Place, area_of}
use Rattle.ws_durable.specs.Saved.{Saved}
use Rattle.save_read.specs.declared.error.TextCause.{TextCause}
use Rattle.save_read.specs.declared.error.TextCause.TheVariants.{BadText, BadState}
use Rattle.save_read.proofs.Stopping.{stop_once, spelled_on}
use Rattle.area_pair.specs.declared.texts.Texts.{Texts}
use Rattle.area_pair.specs.Reads.{Heads, chosen, in_area}
use Rattle.save_store.specs.declared.faults.OpenFault.{OpenFault}
use Rattle.save_store.specs.declared.faults.OpenFault.TheVariants as open_fault
use Rattle.save_store.specs.declared.look.Found.{Found}
use Rattle.save_store.specs.Damages.{further, IsBad, BadRecord, BadTexts, text_damage, texts_of_area, Spoils, IsDamaged, TellsDamage}
use Rattle.save_store.specs.Looks.{IsLookedAt}
use Rattle.save_store.proofs.Only.{text_once, texts_sound, holds_sound}

-- a place in an area, and why a text is refused there
abbrev Refusal : Type 0
Refusal = ℕ × TextCause

-- ---- one text

module _ (base shelf : Tree) (start : ℕ) (body : List ℕ) where
  bad_once : (a b : ℕ) (x y : TextCause) → IsBad base shelf start body a x → IsBad base shelf start body b y → (let r : Refusal = (a, x) in r) ≡ (b, y)
  bad_once a b BadText BadText p q =
      let same = p.place ∙ ap (further start) (stop_once base shelf body p.inside q.inside p.stops q.stops) ∙ sym q.place in
      ap (λ (at : ℕ). (let r : Refusal = (at, BadText) in r)) same
  bad_once a b BadText BadState p q = absurd (spelled_on base shelf body p.inside p.stops q.stops.1)
  bad_once a b BadState BadText p q = absurd (spelled_on base shelf body q.inside q.stops p.stops.1)
  bad_once a b BadState BadState p q =
      let same = p.place ∙ ap (further start) (p.stops.0 ∙ sym q.stops.0) ∙ sym q.place in
      ap (λ (at : ℕ). (let r : Refusal = (at, BadState) in r)) same

-- ---- the texts of an area

record_once : (d : Saved) (gate : ℕ) (bodies : List (List ℕ)) (a b : ℕ) (x y : TextCause) → BadRecord d gate bodies a x → BadRecord d gate bodies b y → (let r : Refusal = (a, x) in r) ≡ (b, y)
record_once d gate [] a b x y p q = absurd p
record_once d gate (body ∷ bodies) a b x y (inl p) (inl q) = bad_once d.tree d.shelf (further gate 41) body a b x y p q
record_once d gate (body ∷ bodies) a b x y (inl p) (inr q) = absurd (p.none q.0 q.1.0 q.1.1)
record_once d gate (body ∷ bodies) a b x y (inr p) (inl q) = absurd (q.none p.0 p.1.0 p.1.1)
record_once d gate (body ∷ bodies) a b x y (inr p) (inr q) =
    let behind = further (further gate 41) (length body) in
    let same = text_once d.tree d.shelf p.0 q.0 body p.1.1 q.1.1 in
    record_once p.0 behind bodies a b x y p.2 (subst (λ (n : Saved). BadRecord n behind bodies b y) same q.2)

texts_once : (texts : Texts) (a b : ℕ) (x y : TextCause) → BadTexts texts a x → BadTexts texts b y → (let r : Refusal = (a, x) in r) ≡ (b, y)
texts_once texts a b x y (inl p) (inl q) = bad_once empty empty 57 texts.image a b x y p q
texts_once texts a b x y (inl p) (inr q) = absurd (p.none q.0 q.1.0 q.1.1)
texts_once texts a b x y (inr p) (inl q) = absurd (q.none p.0 p.1.0 p.1.1)
texts_once texts a b x y (inr p) (inr q) =
    let behind = further 57 (length texts.image) in
    let same = text_once empty empty p.0 q.0 texts.image p.1.1 q.1.1 in
    record_once p.0 behind texts.records a b x y p.2 (subst (λ (n : Saved). BadRecord n behind texts.records b y) same q.2)

-- ---- an area

place_is : (x y : Place) → (let r : Result ℕ Place = Err x in r) ≡ Err y → x ≡ y
place_is x y e = cc e

spoils_once : (area : Which) (r : Result (Option Area) Place) (d e : Damage) → Spoils area r d → Spoils area r e → d ≡ e
spoils_once area (Err place) d e p q = p ∙ sym q
spoils_once area (Ok None) d e p q = absurd p
spoils_once area (Ok (Some whole)) d e (inl p) (inl q) =
    let same = texts_once (texts_of_area whole) p.0 q.0 p.1 q.1 p.2 q.2 in
    p.3 ∙ ap (λ (r : Refusal). text_damage area r.0 r.1) same ∙ sym q.3
spoils_once area (Ok (Some whole)) d e (inl p) (inr q) = absurd (texts_sound (texts_of_area whole) q.0 p.0 p.1 q.2 p.2)
spoils_once area (Ok (Some whole)) d e (inr p) (inl q) = absurd (texts_sound (texts_of_area whole) p.0 q.0 q.1 p.2 q.2)
spoils_once area (Ok (Some whole)) d e (inr p) (inr q) = p.4 ∙ ap (in_area area) (place_is p.1 q.1 (sym p.3 ∙ q.3)) ∙ sym q.4

-- ---- both areas

damage_is : (x y : Damage) → (let r : Result Heads Damage = Err x in r) ≡ Err y → x ≡ y
damage_is x y e = cc e

heads_are : (x y : Heads) → (let r : Result Heads Damage = Ok x in r) ≡ Ok y → x ≡ y
heads_are x y e = cc e

area_is : (x y : Which) → (let o : Option Which = Some x in o) ≡ Some y → x ≡ y
area_is x y e = cc e

-- two areas have at most one first damage
pub damaged_once : (both : Contents) (d e : Damage) → IsDamaged both d → IsDamaged both e → d ≡ e
damaged_once both d e (inl p) (inl q) = damage_is d e (sym p ∙ q)
damaged_once both d e (inl p) (inr q) = absurd (cc (sym p ∙ q.2))
damaged_once both d e (inr p) (inl q) = absurd (cc (sym q ∙ p.2))
damaged_once both d e (inr p) (inr q) =
    let heads = heads_are p.0 q.0 (sym p.2 ∙ q.2) in
    let area = area_is p.1 q.1 (sym p.3 ∙ ap chosen heads ∙ q.3) in
    spoils_once p.1 (area_of (held p.1 both)) d e p.4 (subst (λ (x : Which). Spoils x (area_of (held x both)) e) (sym area) q.4)

-- ---- what is told of areas that have a damage

-- a fault that tells a damage of both areas tells this one
pub told_one : (both : Contents) (d : Damage) → IsDamaged both d → (fault : OpenFault) → TellsDamage (IsDamaged both) fault → TellsDamage (λ x. x ≡ d) fault
told_one both d spoilt open_fault.Disk told = tt
told_one both d spoilt (open_fault.Damaged x) told = damaged_once both x d told spoilt
told_one both d spoilt open_fault.Memory told = tt

spoilt_told : (both : Contents) (r : Result Found OpenFault) → IfOk r (IsLookedAt both) → IfErr r (TellsDamage (IsDamaged both)) → (d : Damage) → IsDamaged both d → MatchResult r (λ _. ⊥) (TellsDamage (λ x. x ≡ d))
spoilt_told both (Ok found) looked told d spoilt = holds_sound both looked.state d looked.holds spoilt
spoilt_told both (Err fault) looked told d spoilt = told_one both d spoilt fault told

pub look_spoilt : (seen : Option Contents) (r : Result Found OpenFault) → IfOk r (λ found. IfSome seen (λ both. IsLookedAt both found)) → IfErr r (λ fault. IfSome seen (λ both. TellsDamage (IsDamaged both) fault))
    → IfSome seen (λ both. (d : Damage) → IsDamaged both d → MatchResult r (λ _. ⊥) (TellsDamage (λ x. x ≡ d)))
look_spoilt None r found told = tt
look_spoilt (Some both) r found told = spoilt_told both r found told
