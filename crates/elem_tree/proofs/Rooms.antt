-- Entries that are ready at paths with room.
use Rattle.std.proofs.Common.{◌≡◌, ◌≢◌, Bool, true, false, ◌||◌, if◌then◌else◌, List, [], ◌∷◌, refl, sym, ap, ◌∙◌, subst}
use Rattle.std.specs.Prelude.{Option, Some, None, is_some, not, IfSome}
use Rattle.std.specs.BTreeMap.{is_at}
use Rattle.std.specs.Ordering.{is_eq}
use Rattle.std.proofs.lemmas.Cmp.{tied_itself}
use Rattle.std.specs.FinMap.{empty, get, insert, remove, get-empty, same_map}
use Rattle.std.specs.FinSet as set
use Rattle.res_path.specs.Paths.{Names, path_cmp}
use Rattle.res_path.specs.PathLaws.{path_cmp_total}
use Rattle.res_path.proofs.Prefixes.{path_cmp_exact}
use Rattle.ws_elem.specs.Inside.Slots.{is_among}
use Rattle.ws_elem.specs.Rooms.{Room, has_room, with_room, no_room}
use Rattle.ws_elem.specs.Trees.{Tree}
use Rattle.ws_elem.specs.declared.element.Element.{Element}
use Rattle.ws_elem.proofs.Kept.{has-room}
use Rattle.layer_log.proofs.Looks.{put_here, put_elsewhere, gone_here, gone_elsewhere, path_cases, same_path, other_path}
use Rattle.elem_tree.specs.declared.slot.Slot.{Slot}
use Rattle.elem_tree.specs.declared.slot.Slot.TheVariants.{Spare, Ready, Noted}
use Rattle.elem_tree.specs.Inside.Slots.{Slots, note_in, ready_in, is_known, befores_of, readied_at, closed_at, closed_all, IsReady, NoneReady}
use Rattle.elem_tree.proofs.Slots.{get-befores, same_befores, unknown_note, taken_back, no}

-- ---- one path more has room

pub has_here : (room : Room) (p : Names) → has_room (with_room room p) p ≡ true
has_here room p = set.contains-insert path_cmp_total room p p ∙ ap (λ b. b || has_room room p) (same_path p)

has_elsewhere : (room : Room) (p q : Names) → q ≢ p → has_room (with_room room p) q ≡ has_room room q
has_elsewhere room p q h = set.contains-insert path_cmp_total room p q ∙ ap (λ b. b || has_room room q) (other_path q p h)

-- what p has after, and the other slots as before
readied_slot : (s : Slots) (p : Names) (x : Option Element)
    → (get (readied_at s p x) p ≡ (if is_known (get s p) then get s p else Some (Ready x))) × ((q : Names) → q ≢ p → get (readied_at s p x) q ≡ get s q)
readied_slot s p x = by (is_known (get s p))
  where
    by : (b : Bool) → (get (if b then s else insert s p (Ready x)) p ≡ (if b then get s p else Some (Ready x))) × ((q : Names) → q ≢ p → get (if b then s else insert s p (Ready x)) q ≡ get s q)
    by true = (refl, λ q h. refl)
    by false = (put_here s p (Ready x), λ q h. put_elsewhere s p q (Ready x) h)

pub readied_befores : (s : Slots) (p : Names) (x : Option Element) → befores_of (readied_at s p x) ≡ befores_of s
readied_befores s p x = same_befores (readied_at s p x) s (λ q. path_cases q p
    (λ same. ap (λ z. note_in (get (readied_at s p x) z)) same ∙ ap note_in (readied_slot s p x).0 ∙ by (is_known (get s p)) refl ∙ ap (λ z. note_in (get s z)) (sym same))
    (λ other. ap note_in ((readied_slot s p x).1 q other)))
  where
    by : (b : Bool) → is_known (get s p) ≡ b → note_in (if b then get s p else Some (Ready x)) ≡ note_in (get s p)
    by true h = refl
    by false h = sym (unknown_note (get s p) h)

pub at_room : (s : Slots) (t : Tree) (room : Room) (p : Names) → IsReady s t room → IsReady (readied_at s p (get t p)) t (with_room room p)
at_room s t room p r = record {
  ready = λ q. path_cases q p
      (λ same. subst (λ z. IfSome (ready_in (get (readied_at s p (get t p)) z)) (λ y. (y ≡ get t z) × (has_room (with_room room p) z ≡ true))) (sym same)
      (subst (λ k. IfSome (ready_in k) (λ y. (y ≡ get t p) × (has_room (with_room room p) p ≡ true))) (sym (readied_slot s p (get t p)).0) (here (is_known (get s p)))))
      (λ other. subst (λ k. IfSome (ready_in k) (λ y. (y ≡ get t q) × (has_room (with_room room p) q ≡ true))) (sym ((readied_slot s p (get t p)).1 q other))
      (subst (λ b. IfSome (ready_in (get s q)) (λ y. (y ≡ get t q) × (b ≡ true))) (sym (has_elsewhere room p q other)) (r.ready q)));
  roomy = λ q h. path_cases q p
      (λ same. ap (λ z. is_known (get (readied_at s p (get t p)) z)) same ∙ ap is_known (readied_slot s p (get t p)).0 ∙ known (is_known (get s p)) refl)
      (λ other. ap is_known ((readied_slot s p (get t p)).1 q other) ∙ r.roomy q (sym (has_elsewhere room p q other) ∙ h));
}
  where
    was : (k : Option Slot) → IfSome (ready_in k) (λ y. (y ≡ get t p) × (has_room room p ≡ true)) → IfSome (ready_in k) (λ y. (y ≡ get t p) × (has_room (with_room room p) p ≡ true))
    was None h = tt
    was (Some Spare) h = tt
    was (Some (Ready y)) h = (h.0, has_here room p)
    was (Some (Noted y)) h = tt

    here : (b : Bool) → IfSome (ready_in (if b then get s p else Some (Ready (get t p)))) (λ y. (y ≡ get t p) × (has_room (with_room room p) p ≡ true))
    here true = was (get s p) (r.ready p)
    here false = (refl, has_here room p)

    known : (b : Bool) → is_known (get s p) ≡ b → is_known (if b then get s p else Some (Ready (get t p))) ≡ true
    known true h = h
    known false h = refl

-- room that isn't made: a new slot goes again
pub not_made : (s now back : Slots) (t : Tree) (room : Room) (p : Names) (x : Option Element) (is_new : Bool) → IsReady s t room
    → is_new ≡ not (is_known (get s p)) → now ≡ readied_at s p x → back ≡ (if is_new then remove now p else now)
    → IsReady back t room × (befores_of back ≡ befores_of s)
not_made s now back t room p x is_new r fresh ready after = by (is_known (get s p)) refl
  where
    by : (b : Bool) → is_known (get s p) ≡ b → IsReady back t room × (befores_of back ≡ befores_of s)
    by true h =
        let same : back ≡ s = after ∙ ap (λ n. if n then remove now p else now) (fresh ∙ ap not h) ∙ ready ∙ ap (λ b. if b then s else insert s p (Ready x)) h in
        (subst (λ m. IsReady m t room) (sym same) r, ap befores_of same)
    by false h =
        taken_back s t room p r (Ready x) now back h (ready ∙ ap (λ b. if b then s else insert s p (Ready x)) h) (after ∙ ap (λ n. if n then remove now p else now) (fresh ∙ ap not h))

-- ---- all room goes

closed_slot : (s : Slots) (p : Names) → (ready_in (get (closed_at s p) p) ≡ None) × ((q : Names) → note_in (get (closed_at s p) q) ≡ note_in (get s q)) × ((q : Names) → ready_in (get s q) ≡ None → ready_in (get (closed_at s p) q) ≡ None)
closed_slot s p = by (get s p) refl
  where
    out : Bool → Type 0
    out b =
        let r : Slots = if b then remove s p else s in
        (ready_in (get r p) ≡ None) × ((q : Names) → note_in (get r q) ≡ note_in (get s q)) × ((q : Names) → ready_in (get s q) ≡ None → ready_in (get r q) ≡ None)

    stays : ready_in (get s p) ≡ None → out false
    stays h = (h, λ q. refl, λ q g. g)

    goes : (x : Option Element) → get s p ≡ Some (Ready x) → out true
    goes x e = (
      ap ready_in (gone_here s p),
      λ q. path_cases q p
          (λ same. ap (λ z. note_in (get (remove s p) z)) same ∙ ap note_in (gone_here s p) ∙ sym (ap note_in e) ∙ ap (λ z. note_in (get s z)) (sym same))
          (λ other. ap note_in (gone_elsewhere s p q other)),
      λ q h. path_cases q p
          (λ same. ap (λ z. ready_in (get (remove s p) z)) same ∙ ap ready_in (gone_here s p))
          (λ other. ap ready_in (gone_elsewhere s p q other) ∙ h),
    )

    by : (k : Option Slot) → get s p ≡ k → out (is_some (ready_in (get s p)))
    by None e = subst out (sym (ap (λ k. is_some (ready_in k)) e)) (stays (ap ready_in e))
    by (Some Spare) e = subst out (sym (ap (λ k. is_some (ready_in k)) e)) (stays (ap ready_in e))
    by (Some (Ready x)) e = subst out (sym (ap (λ k. is_some (ready_in k)) e)) (goes x e)
    by (Some (Noted x)) e = subst out (sym (ap (λ k. is_some (ready_in k)) e)) (stays (ap ready_in e))

closed_notes : (ps : List Names) (s : Slots) (q : Names) → note_in (get (closed_all s ps) q) ≡ note_in (get s q)
closed_notes [] s q = refl
closed_notes (p ∷ ps) s q = closed_notes ps (closed_at s p) q ∙ (closed_slot s p).1 q

stays_closed : (ps : List Names) (s : Slots) (q : Names) → ready_in (get s q) ≡ None → ready_in (get (closed_all s ps) q) ≡ None
stays_closed [] s q h = h
stays_closed (p ∷ ps) s q h = stays_closed ps (closed_at s p) q ((closed_slot s p).2 q h)

gets_closed : (ps : List Names) (s : Slots) (q : Names) → is_among ps q ≡ true → ready_in (get (closed_all s ps) q) ≡ None
gets_closed [] s q h = cc
gets_closed (p ∷ ps) s q h = path_cases q p
    (λ same. ap (λ z. ready_in (get (closed_all (closed_at s p) ps) z)) same ∙ stays_closed ps (closed_at s p) p (closed_slot s p).0)
    (λ other. gets_closed ps (closed_at s p) q (sym (ap (λ b. b || is_among ps q) (other_path q p other)) ∙ h))

pub closed_befores : (ps : List Names) (s : Slots) → befores_of (closed_all s ps) ≡ befores_of s
closed_befores ps s = same_befores (closed_all s ps) s (closed_notes ps s)

pub none_ready : (ps : List Names) (s : Slots) (t : Tree) (room : Room) → set.from_list ps ≡ room → IsReady s t room → NoneReady (closed_all s ps)
none_ready ps s t room is r q = by (ready_in (get s q)) refl (r.ready q)
  where
    by : (x : Option (Option Element)) → ready_in (get s q) ≡ x → IfSome x (λ y. (y ≡ get t q) × (has_room room q ≡ true)) → ready_in (get (closed_all s ps) q) ≡ None
    by None e h = stays_closed ps s q e
    by (Some x) e h = gets_closed ps s q (sym (has-room ps q) ∙ ap (λ m. has_room m q) is ∙ h.1)

pub no_room_ready : (s : Slots) (t : Tree) → NoneReady s → IsReady s t no_room
no_room_ready s t none = record {
  ready = λ p. subst (λ x. IfSome x (λ y. (y ≡ get t p) × (has_room no_room p ≡ true))) (sym (none p)) tt;
  roomy = λ p h. no (sym h ∙ set.contains-empty path_cmp p);
}

-- ---- a layer begins

-- the paths of the rest are all with room whose entry isn't known yet
pub record Readying (t : Tree) (room : Room) (rest : List Names) (s : Slots) : Type 0 where
  pub none : befores_of s ≡ empty
  pub ready : (p : Names) → IfSome (ready_in (get s p)) (λ x. (x ≡ get t p) × (has_room room p ≡ true))
  pub left : (p : Names) → has_room room p ≡ true → is_known (get s p) ≡ false → is_among rest p ≡ true
  pub roomy : (p : Names) → is_among rest p ≡ true → has_room room p ≡ true

pub readying_begins : (t : Tree) (room : Room) (ps : List Names) (s : Slots) → set.from_list ps ≡ room → s ≡ empty → Readying t room ps s
readying_begins t room ps s is none = record {
  none = same_map path_cmp_total path_cmp_exact _ _ (λ q. get-befores s q ∙ ap (λ m. note_in (get m q)) none ∙ ap note_in (get-empty path_cmp q) ∙ sym (get-empty path_cmp q));
  ready = λ p. subst (λ k. IfSome (ready_in k) (λ x. (x ≡ get t p) × (has_room room p ≡ true))) (sym (ap (λ m. get m p) none ∙ get-empty path_cmp p)) tt;
  left = λ p h g. sym (has-room ps p) ∙ ap (λ m. has_room m p) is ∙ h;
  roomy = λ p h. ap (λ m. has_room m p) (sym is) ∙ has-room ps p ∙ h;
}

pub readying_steps : (t : Tree) (room : Room) (p : Names) (rest : List Names) (s now : Slots) → Readying t room (p ∷ rest) s → now ≡ readied_at s p (get t p) → Readying t room rest now
readying_steps t room p rest s now r is = record {
  none = ap befores_of is ∙ readied_befores s p (get t p) ∙ r.none;
  ready = λ q. subst (λ m. IfSome (ready_in (get m q)) (λ x. (x ≡ get t q) × (has_room room q ≡ true))) (sym is) (path_cases q p
      (λ same. subst (λ z. IfSome (ready_in (get (readied_at s p (get t p)) z)) (λ x. (x ≡ get t z) × (has_room room z ≡ true))) (sym same)
      (subst (λ k. IfSome (ready_in k) (λ x. (x ≡ get t p) × (has_room room p ≡ true))) (sym (readied_slot s p (get t p)).0) (here (is_known (get s p)))))
      (λ other. subst (λ k. IfSome (ready_in k) (λ x. (x ≡ get t q) × (has_room room q ≡ true))) (sym ((readied_slot s p (get t p)).1 q other)) (r.ready q)));
  left = λ q h g. path_cases q p
      (λ same. no (sym (known (is_known (get s p)) refl) ∙ ap is_known (sym (readied_slot s p (get t p)).0) ∙ ap (λ m. is_known (get m p)) (sym is) ∙ ap (λ z. is_known (get now z)) (sym same) ∙ g))
      (λ other. ap (λ b. b || is_among rest q) (sym (among_other q other)) ∙ r.left q h (ap is_known (sym ((readied_slot s p (get t p)).1 q other)) ∙ ap (λ m. is_known (get m q)) (sym is) ∙ g));
  roomy = λ q h. r.roomy q (later (is_at (path_cmp q) p) (is_among rest q) h);
}
  where
    p_has : has_room room p ≡ true
    p_has = r.roomy p (ap (λ b. b || is_among rest p) (ap is_eq (tied_itself path_cmp_total p)))

    here : (b : Bool) → IfSome (ready_in (if b then get s p else Some (Ready (get t p)))) (λ x. (x ≡ get t p) × (has_room room p ≡ true))
    here true = r.ready p
    here false = (refl, p_has)

    known : (b : Bool) → is_known (get s p) ≡ b → is_known (if b then get s p else Some (Ready (get t p))) ≡ true
    known true h = h
    known false h = refl

    among_other : (q : Names) → q ≢ p → is_at (path_cmp q) p ≡ false
    among_other q h = other_path q p h

    later : (a b : Bool) → b ≡ true → (a || b) ≡ true
    later true b h = refl
    later false b h = h

pub readying_ends : (t : Tree) (room : Room) (s : Slots) → Readying t room [] s → IsReady s t room
readying_ends t room s r = record {
  ready = r.ready;
  roomy = λ p h. by p (is_known (get s p)) refl h;
}
  where
    by : (p : Names) (b : Bool) → is_known (get s p) ≡ b → has_room room p ≡ true → is_known (get s p) ≡ true
    by p true e h = e
    by p false e h = no (sym (r.left p h e))
