-- What both areas hold is one state, and then they have no damage.
use Rattle.std.proofs.Common.{◌≡◌, inl, inr, ℕ, List, [], ◌∷◌, Option, Some, None, Result, Ok, Err, refl, sym, ◌∙◌, ap, subst}
use Rattle.std.proofs.lemmas.List.{append-nil}
use Rattle.std.specs.FinMap.{empty}
use Rattle.ws_elem.specs.Trees.{Tree}
use Rattle.ws_outside.specs.declared.contents.Contents.{Contents}
use Rattle.ws_outside.specs.declared.contents.Which.{Which}
use Rattle.ws_outside.specs.Disk.{held}
use Rattle.disk_area.specs.declared.bodies.Area.{Area}
use Rattle.disk_area.specs.declared.damage.Damage.{Damage}
use Rattle.disk_area.specs.Reading.{Place, area_of}
use Rattle.ws_durable.specs.Saved.{Saved}
use Rattle.save_read.specs.declared.error.TextCause.{TextCause}
use Rattle.save_read.specs.Texts.{IsText}
use Rattle.save_read.proofs.Whole.{one_prefix}
use Rattle.area_pair.specs.declared.texts.Texts.{Texts}
use Rattle.area_pair.specs.Reads.{with_end, texts_in, texts_of, reads_by}
use Rattle.save_store.specs.Damages.{BadRecord, BadTexts, texts_of_area, Spoils, IsDamaged}
use Rattle.save_store.specs.States.{Lead, StandFor, Mean, Holds}

-- ---- one state

pub text_once : (base shelf : Tree) (d e : Saved) (bytes : List ℕ) → IsText base shelf d bytes → IsText base shelf e bytes → e ≡ d
text_once base shelf d e bytes one two = (one_prefix base shelf d e bytes [] one (subst (IsText base shelf e) (sym (append-nil bytes)) two)).1

lead_once : (d x y : Saved) (bodies : List (List ℕ)) → Lead d bodies x → Lead d bodies y → y ≡ x
lead_once d x y [] one two = two ∙ sym one
lead_once d x y (body ∷ bodies) one two =
    let same = text_once d.tree d.shelf one.0 two.0 body one.1.1 two.1.1 in
    lead_once one.0 x y bodies one.2 (subst (λ (n : Saved). Lead n bodies y) same two.2)

mean_once : (point : Option Texts) (d e : Saved) → Mean point d → Mean point e → e ≡ d
mean_once None d e one two = two ∙ sym one
mean_once (Some texts) d e one two =
    let same = text_once empty empty one.0 two.0 texts.image one.1.1 two.1.1 in
    lead_once one.0 d e texts.records one.2 (subst (λ (n : Saved). Lead n texts.records e) same two.2)

point_is : (x y : Option Texts) → (let r : Result (Option Texts) Damage = Ok x in r) ≡ Ok y → x ≡ y
point_is x y e = cc e

pub holds_once : (both : Contents) (d e : Saved) → Holds both d → Holds both e → e ≡ d
holds_once both d e one two = mean_once one.0 d e one.2 (subst (λ (p : Option Texts). Mean p e) (point_is two.0 one.0 (sym two.1 ∙ one.1)) two.2)

-- ---- and no damage

lead_sound : (d end : Saved) (gate : ℕ) (bodies : List (List ℕ)) (at : ℕ) (cause : TextCause) → Lead d bodies end → BadRecord d gate bodies at cause → ⊥
lead_sound d end gate [] at cause leads bad = bad
lead_sound d end gate (body ∷ bodies) at cause leads (inl bad) = bad.none leads.0 leads.1.0 leads.1.1
lead_sound d end gate (body ∷ bodies) at cause leads (inr bad) =
    let same = text_once d.tree d.shelf bad.0 leads.0 body bad.1.1 leads.1.1 in
    lead_sound bad.0 end _ bodies at cause (subst (λ (n : Saved). Lead n bodies end) same leads.2) bad.2

pub texts_sound : (texts : Texts) (d : Saved) (at : ℕ) (cause : TextCause) → StandFor texts d → BadTexts texts at cause → ⊥
texts_sound texts d at cause stands (inl bad) = bad.none stands.0 stands.1.0 stands.1.1
texts_sound texts d at cause stands (inr bad) =
    let same = text_once empty empty bad.0 stands.0 texts.image bad.1.1 stands.1.1 in
    lead_sound bad.0 d _ texts.records at cause (subst (λ (n : Saved). Lead n texts.records d) same stands.2) bad.2

-- an area that is read as texts, whose records end at a gate
ends_sound : (area : Which) (whole : Area) (end : Result ℕ Place) (point : Option Texts) (d : Saved) (x : Damage) → whole.end ≡ end → with_end area whole end ≡ Ok point → Mean point d → Spoils area (Ok (Some whole)) x → ⊥
ends_sound area whole (Err place) point d x is told means spoils = absurd (cc told)
ends_sound area whole (Ok gate) point d x is told means (inl bad) =
    texts_sound (texts_of_area whole) d bad.0 bad.1 (subst (λ (p : Option Texts). Mean p d) (sym (point_is (Some (texts_of_area whole)) point told)) means) bad.2
ends_sound area whole (Ok gate) point d x is told means (inr ended) = absurd (cc (sym is ∙ ended.3))

area_sound : (area : Which) (r : Result (Option Area) Place) (point : Option Texts) (d : Saved) (x : Damage) → texts_in area r ≡ Ok point → Mean point d → Spoils area r x → ⊥
area_sound area (Err place) point d x told means spoils = absurd (cc told)
area_sound area (Ok None) point d x told means spoils = spoils
area_sound area (Ok (Some whole)) point d x told means spoils = ends_sound area whole whole.end point d x refl told means spoils

pub holds_sound : (both : Contents) (d : Saved) (x : Damage) → Holds both d → IsDamaged both x → ⊥
holds_sound both d x holds (inl head) = absurd (cc (sym (ap (reads_by both) head) ∙ holds.1))
holds_sound both d x holds (inr spoilt) =
    area_sound spoilt.1 (area_of (held spoilt.1 both)) holds.0 d x (sym (ap (reads_by both) spoilt.2 ∙ ap (texts_of both) spoilt.3) ∙ holds.1) holds.2 spoilt.4
