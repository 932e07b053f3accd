-- What layers note, path by path.
use Rattle.std.proofs.Common.{◌≡◌, ◌≢◌, Bool, true, false, cond, if◌then◌else◌, List, [], ◌∷◌, refl, sym, ap, ◌∙◌, subst}
use Rattle.std.specs.Prelude.{Option, Some, None, Result, Ok, Err, IsOk, is_some, IfSome}
use Rattle.std.specs.FinMap.{get, insert, remove, entries, find, get-empty, get-entries, get-insert, get-remove, same_map}
use Rattle.std.specs.Ordering.{eq_by_cmp}
use Rattle.res_path.specs.Paths.{Names, path_cmp}
use Rattle.res_path.specs.PathLaws.{path_cmp_total}
use Rattle.res_path.proofs.Prefixes.{path_cmp_exact}
use Rattle.ws_elem.specs.Rooms.{Room, has_room}
use Rattle.ws_elem.specs.Trees.{Tree}
use Rattle.ws_elem.specs.declared.element.Element.{Element}
use Rattle.layer_log.proofs.Looks.{put_here, put_elsewhere, gone_here, gone_elsewhere, path_cases}
use Rattle.elem_tree.specs.Layers.{Befores, with_before}
use Rattle.elem_tree.specs.declared.slot.Slot.{Slot}
use Rattle.elem_tree.specs.declared.slot.Slot.TheVariants.{Spare, Ready, Noted}
use Rattle.elem_tree.specs.Inside.Slots.{Slots, note_of, note_in, ready_in, is_known, with_note, befores_in, befores_of, touched_slot, touched_at, noted_at, IsReady}

-- ---- what is recorded at a path

get-with_note : (b : Befores) (p : Names) (n : Option (Option Element)) (q : Names) → get (with_note b p n) q ≡ cond (eq_by_cmp path_cmp q p) n (get b q)
get-with_note b p None q = get-remove path_cmp_total b p q
get-with_note b p (Some x) q = get-insert path_cmp_total b p x q

joins : (b : Bool) (s : Slot) (y : Option Slot) → cond b (note_of s) (note_in y) ≡ note_in (cond b (Some s) y)
joins true s y = refl
joins false s y = refl

pub get-befores_in : (es : List (Names × Slot)) (q : Names) → get (befores_in es) q ≡ note_in (find path_cmp q es)
get-befores_in [] q = get-empty path_cmp q
get-befores_in (e ∷ es) q =
    get-with_note (befores_in es) e.0 (note_of e.1) q ∙ ap (cond (eq_by_cmp path_cmp q e.0) (note_of e.1)) (get-befores_in es q) ∙ joins (eq_by_cmp path_cmp q e.0) e.1 (find path_cmp q es)

pub get-befores : (s : Slots) (q : Names) → get (befores_of s) q ≡ note_in (get s q)
get-befores s q = get-befores_in (entries s) q ∙ ap note_in (sym (get-entries s q))

-- slots that note the same record the same
pub same_befores : (s r : Slots) → ((q : Names) → note_in (get s q) ≡ note_in (get r q)) → befores_of s ≡ befores_of r
same_befores s r h = same_map path_cmp_total path_cmp_exact _ _ (λ q. get-befores s q ∙ h q ∙ sym (get-befores r q))

-- slots that note x at p and elsewhere the same record one more
pub one_more : (s r : Slots) (p : Names) (x : Option Element) → note_in (get r p) ≡ Some x → ((q : Names) → q ≢ p → note_in (get r q) ≡ note_in (get s q))
    → befores_of r ≡ insert (befores_of s) p x
one_more s r p x here others = same_map path_cmp_total path_cmp_exact _ _ (λ q. get-befores r q ∙ path_cases q p
    (λ same. ap (λ z. note_in (get r z)) same ∙ here ∙ sym (put_here (befores_of s) p x) ∙ ap (get (insert (befores_of s) p x)) (sym same))
    (λ other. others q other ∙ sym (get-befores s q) ∙ sym (put_elsewhere (befores_of s) p q x other)))

-- ---- one slot

known_ready : (x : Option Element) → is_known (Some (Ready x)) ≡ true
known_ready x = refl

pub unknown_note : (k : Option Slot) → is_known k ≡ false → note_in k ≡ None
unknown_note None h = refl
unknown_note (Some Spare) h = refl
unknown_note (Some (Ready x)) h = cc
unknown_note (Some (Noted x)) h = cc

pub unknown_ready : (k : Option Slot) → is_known k ≡ false → ready_in k ≡ None
unknown_ready None h = refl
unknown_ready (Some Spare) h = refl
unknown_ready (Some (Ready x)) h = cc
unknown_ready (Some (Noted x)) h = cc

-- the entry before the first put or take, where x is the newest one
abbrev pub before_in : Option Slot → Option Element → Option Element
before_in None x = x
before_in (Some Spare) x = x
before_in (Some (Ready y)) x = y
before_in (Some (Noted y)) x = y

-- p is noted after, and the other slots are as before
noted_slot : (s : Slots) (p : Names) (x : Option Element) → (get (noted_at s p x) p ≡ Some (Noted (before_in (get s p) x))) × ((q : Names) → q ≢ p → get (noted_at s p x) q ≡ get s q)
noted_slot s p x = by (get s p) refl
  where
    out : (k : Option Slot) → Type 0
    out k = (get (if is_known k then touched_slot s p k else insert s p (Noted x)) p ≡ Some (Noted (before_in k x))) × ((q : Names) → q ≢ p → get (if is_known k then touched_slot s p k else insert s p (Noted x)) q ≡ get s q)

    by : (k : Option Slot) → get s p ≡ k → out k
    by None e = (put_here s p (Noted x), λ q h. put_elsewhere s p q (Noted x) h)
    by (Some Spare) e = (put_here s p (Noted x), λ q h. put_elsewhere s p q (Noted x) h)
    by (Some (Ready y)) e = (put_here s p (Noted y), λ q h. put_elsewhere s p q (Noted y) h)
    by (Some (Noted y)) e = (put_here s p (Noted y), λ q h. put_elsewhere s p q (Noted y) h)

pub touch_notes : (s : Slots) (p : Names) (x : Option Element) → is_known (get s p) ≡ true → touched_at s p ≡ noted_at s p x
touch_notes s p x h = sym (ap (λ b. if b then touched_at s p else insert s p (Noted x)) h)

pub no : {X : Type 0} → true ≡ false → X
no h = absurd (by h)
  where
    by : true ≡ false → ⊥
    by h = cc

pub unknown_noted : (s : Slots) (p : Names) (x : Option Element) → is_known (get s p) ≡ false → noted_at s p x ≡ insert s p (Noted x)
unknown_noted s p x h = ap (λ b. if b then touched_at s p else insert s p (Noted x)) h

-- ---- a path is put or taken

module _ (s : Slots) (t : Tree) (room : Room) (p : Names) (r : IsReady s t room) where
  noted_befores : befores_of (noted_at s p (get t p)) ≡ with_before (befores_of s) p (get t p)
  noted_befores = by (get s p) refl (r.ready p)
    where
      x : Option Element
      x = get t p

      goes : (k : Option Slot) → get s p ≡ k → note_in k ≡ None → before_in k x ≡ x → befores_of (noted_at s p x) ≡ with_before (befores_of s) p x
      goes k e none is =
          one_more s (noted_at s p x) p x (ap note_in (noted_slot s p x).0 ∙ ap Some (ap (λ z. before_in z x) e ∙ is)) (λ q h. ap note_in ((noted_slot s p x).1 q h))
          ∙ sym (ap (λ y. if is_some y then befores_of s else insert (befores_of s) p x) (get-befores s p ∙ ap note_in e ∙ none))

      by : (k : Option Slot) → get s p ≡ k → IfSome (ready_in k) (λ y. (y ≡ x) × (has_room room p ≡ true)) → befores_of (noted_at s p x) ≡ with_before (befores_of s) p x
      by None e h = goes None e refl refl
      by (Some Spare) e h = goes (Some Spare) e refl refl
      by (Some (Ready y)) e h = goes (Some (Ready y)) e refl h.0
      by (Some (Noted y)) e h =
          same_befores (noted_at s p x) s (λ q. path_cases q p
          (λ same. ap (λ z. note_in (get (noted_at s p x) z)) same ∙ ap note_in (noted_slot s p x).0 ∙ ap (λ z. Some (before_in z x)) e ∙ sym (ap note_in e) ∙ ap (λ z. note_in (get s z)) (sym same))
          (λ other. ap note_in ((noted_slot s p x).1 q other)))
          ∙ sym (ap (λ z. if is_some z then befores_of s else insert (befores_of s) p x) (get-befores s p ∙ ap note_in e))

  -- whatever p has then
  noted_ready : (x : Option Element) (u : Tree) → ((q : Names) → q ≢ p → get u q ≡ get t q) → IsReady (noted_at s p x) u room
  noted_ready x u others = record {
    ready = λ q. path_cases q p
        (λ same. subst (λ z. IfSome (ready_in (get (noted_at s p x) z)) (λ y. (y ≡ get u z) × (has_room room z ≡ true))) (sym same)
        (subst (λ k. IfSome (ready_in k) (λ y. (y ≡ get u p) × (has_room room p ≡ true))) (sym (noted_slot s p x).0) tt))
        (λ other. subst (λ k. IfSome (ready_in k) (λ y. (y ≡ get u q) × (has_room room q ≡ true))) (sym ((noted_slot s p x).1 q other))
        (subst (λ e. IfSome (ready_in (get s q)) (λ y. (y ≡ e) × (has_room room q ≡ true))) (sym (others q other)) (r.ready q)));
    roomy = λ q h. path_cases q p
        (λ same. ap (λ z. is_known (get (noted_at s p x) z)) same ∙ ap is_known (noted_slot s p x).0)
        (λ other. ap is_known ((noted_slot s p x).1 q other) ∙ r.roomy q h);
  }

  pub touch_ready : (u : Tree) (now : Slots) → is_known (get s p) ≡ true → now ≡ touched_at s p → ((q : Names) → q ≢ p → get u q ≡ get t q)
      → IsReady now u room × (befores_of now ≡ with_before (befores_of s) p (get t p))
  touch_ready u now known is others =
      let noted : now ≡ noted_at s p (get t p) = is ∙ touch_notes s p (get t p) known in
      (subst (λ n. IsReady n u room) (sym noted) (noted_ready (get t p) u others), ap befores_of noted ∙ noted_befores)

  pub note_ready : (u : Tree) (now : Slots) → now ≡ noted_at s p (get t p) → ((q : Names) → q ≢ p → get u q ≡ get t q)
      → IsReady now u room × (befores_of now ≡ with_before (befores_of s) p (get t p))
  note_ready u now noted others = (subst (λ n. IsReady n u room) (sym noted) (noted_ready (get t p) u others), ap befores_of noted ∙ noted_befores)

  -- a known path without room is noted, and touching it changes nothing
  pub stays_noted : is_known (get s p) ≡ true → has_room room p ≡ false → touched_at s p ≡ s
  stays_noted known none = by (get s p) refl known (r.ready p)
    where
      by : (k : Option Slot) → get s p ≡ k → is_known k ≡ true → IfSome (ready_in k) (λ y. (y ≡ get t p) × (has_room room p ≡ true)) → touched_slot s p k ≡ s
      by None e h g = cc
      by (Some Spare) e h g = cc
      by (Some (Ready y)) e h g = no (sym g.1 ∙ none)
      by (Some (Noted y)) e h g = same_map path_cmp_total path_cmp_exact _ _ (λ q. path_cases q p
          (λ same. ap (get (insert s p (Noted y))) same ∙ put_here s p (Noted y) ∙ sym e ∙ ap (get s) (sym same))
          (λ other. put_elsewhere s p q (Noted y) other))

  -- a slot that was made for an unknown path is taken out again
  pub taken_back : (k : Slot) (now back : Slots) → is_known (get s p) ≡ false → now ≡ insert s p k → back ≡ remove now p
      → IsReady back t room × (befores_of back ≡ befores_of s)
  taken_back k now back unknown is gone =
      let here : get back p ≡ None = ap (λ m. get m p) gone ∙ gone_here now p in
      let other : (q : Names) → q ≢ p → get back q ≡ get s q = λ q h. ap (λ m. get m q) gone ∙ gone_elsewhere now p q h ∙ ap (λ m. get m q) is ∙ put_elsewhere s p q k h in (
        record {
          ready = λ q. path_cases q p
              (λ same. subst (λ z. IfSome (ready_in (get back z)) (λ y. (y ≡ get t z) × (has_room room z ≡ true))) (sym same)
              (subst (λ x. IfSome (ready_in x) (λ y. (y ≡ get t p) × (has_room room p ≡ true))) (sym here) tt))
              (λ h. subst (λ x. IfSome (ready_in x) (λ y. (y ≡ get t q) × (has_room room q ≡ true))) (sym (other q h)) (r.ready q));
          roomy = λ q has. path_cases q p
              (λ same. no (sym (r.roomy p (ap (has_room room) (sym same) ∙ has)) ∙ unknown))
              (λ h. ap is_known (other q h) ∙ r.roomy q has);
        },
        same_befores back s (λ q. path_cases q p
            (λ same. ap (λ z. note_in (get back z)) same ∙ ap note_in here ∙ sym (unknown_note (get s p) unknown) ∙ ap (λ z. note_in (get s z)) (sym same))
            (λ h. ap note_in (other q h))),
      )

-- ---- puts that fail

pub err_ok : {X Y P : Type 0} (r : Result X Y) (e : Y) → r ≡ Err e → IsOk r → P
err_ok (Ok x) e is h = absurd (no is)
  where
    no : Ok x ≡ Err e → ⊥
    no h = cc
err_ok (Err y) e is h = absurd (no h)
  where
    no : false ≡ true → ⊥
    no h = cc

pub no_room_after : {X Y : Type 0} (r : Result X Y) (e : Y) (b : Bool) → r ≡ Err e → (b ≡ true → IsOk r) → b ≡ false
no_room_after r e true is never = err_ok r e is (never refl)
no_room_after r e false is never = refl
