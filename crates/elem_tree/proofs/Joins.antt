-- Slots of one layer, taken into another's.
use Rattle.std.proofs.Common.{◌≡◌, ◌≢◌, ◌<◌, ◌-◌, ℕ, zero, suc, arith, Bool, true, false, cond, if◌then◌else◌, List, [], ◌∷◌, refl, sym, ap, ◌∙◌, subst}
use Rattle.std.specs.Prelude.{Option, Some, None, IfNone, IsSome, is_some}
use Rattle.std.specs.FinMap.{get, insert, remove, empty, len, entries, get-entries, get-empty, find, len-remove, empty_of_len}
use Rattle.res_path.specs.Paths.{Names, path_cmp}
use Rattle.layer_log.proofs.Looks.{put_here, put_elsewhere, gone_here, gone_elsewhere, path_cases, find_later}
use Rattle.res_path.specs.PathLaws.{path_cmp_total}
use Rattle.elem_tree.specs.declared.slot.Slot.{Slot}
use Rattle.elem_tree.specs.declared.slot.Slot.TheVariants.{Spare, Ready, Noted}
use Rattle.elem_tree.specs.Inside.Slots.{Slots, note_of, note_in, ready_in, befores_of, spared_at, NoneReady}
use Rattle.elem_tree.specs.Inside.Joins.{MaySpare, IsSpared, IsJoined, over_at, under_at}
use Rattle.elem_tree.proofs.Slots.{same_befores}

-- ---- the first slot is taken out

pub record Popped (m n : Slots) (e : Names × Slot) : Type 0 where
  pub here : get m e.0 ≡ Some e.1
  pub after : n ≡ remove m e.0

gone : (m n : Slots) (e : Names × Slot) → Popped m n e → get n e.0 ≡ None
gone m n e p = ap (λ s. get s e.0) p.after ∙ gone_here m e.0

others_of : (m n : Slots) (e : Names × Slot) → Popped m n e → (q : Names) → q ≢ e.0 → get m q ≡ get n q
others_of m n e p q h = sym (ap (λ s. get s q) p.after ∙ gone_elsewhere m e.0 q h)

less : (n m : ℕ) → n ≡ m - 1 → (m ≡ 0 → ⊥) → n < m
less n zero h g = absurd (g refl)
less n (suc m) h g = omega (arith, h)

pub popped_len : (m n : Slots) (e : Names × Slot) → Popped m n e → len n < len m
popped_len m n e p = less (len n) (len m)
    (ap len p.after ∙ len-remove path_cmp_total m e.0 ∙ ap (λ x. cond (is_some x) (len m - 1) (len m)) p.here)
    (λ z. some_none (sym p.here ∙ ap (λ s. get s e.0) (empty_of_len m z) ∙ get-empty path_cmp e.0))
  where
    some_none : Some e.1 ≡ None → ⊥
    some_none h = cc

-- what is told of no slot left
pub when_none : {X P : Type 0} (r : Option X) → IfNone r P → ((x : X) → r ≡ Some x → ⊥) → P
when_none None p never = p
when_none (Some x) p never = absurd (never x refl)

-- ---- which slot a path has after

abbrev pub over_slot : Option Slot → Option Slot → Option Slot
over_slot e l = if is_some (note_in e) then e else l

abbrev pub or_slot : Option Slot → Option Slot → Option Slot
or_slot e None = e
or_slot e (Some s) = Some s

abbrev pub under_slot : Option Slot → Option Slot → Option Slot
under_slot e l = if is_some (note_in e) then e else or_slot e l

none_some : {P : Type 0} (k : Option Slot) → k ≡ None → IsSome k → P
none_some None e h = absurd (none h)
  where
    none : false ≡ true → ⊥
    none i = cc
none_some (Some s) e h = absurd (no e)
  where
    no : Some s ≡ None → ⊥
    no h = cc

some_is : {X : Type 0} (x y : Option X) → x ≡ y → IsSome y → IsSome x
some_is x y e h = subst IsSome (sym e) h

-- ---- the earlier slots, taken over the later ones

pub record TakesOver (earlier first rest now : Slots) : Type 0 where
  pub each : (p : Names) → over_slot (get rest p) (get now p) ≡ over_slot (get earlier p) (get first p)
  pub slots : (p : Names) → IsSome (get rest p) → IsSome (get now p)

pub over_begins : (earlier first : Slots) → ((p : Names) → IsSome (get earlier p) → IsSome (get first p)) → TakesOver earlier first earlier first
over_begins earlier first h = record { each = λ p. refl; slots = h }

module _ (earlier first rest left now after : Slots) (e : Names × Slot) (t : TakesOver earlier first rest now) (is : Popped rest left e) where
  over_steps : get after e.0 ≡ over_slot (Some e.1) (get now e.0) → ((q : Names) → q ≢ e.0 → get after q ≡ get now q) → TakesOver earlier first left after
  over_steps here others =
      record {
        each = λ q. path_cases q e.0
            (λ same. subst (λ z. over_slot (get left z) (get after z) ≡ over_slot (get earlier z) (get first z)) (sym same)
            (ap (λ x. over_slot x (get after e.0)) (gone rest left e is) ∙ here ∙ ap (λ x. over_slot x (get now e.0)) (sym is.here) ∙ t.each e.0))
            (λ other. ap (λ x. over_slot (get left q) x) (others q other) ∙ ap (λ x. over_slot x (get now q)) (sym (others_of rest left e is q other)) ∙ t.each q);
        slots = λ q h. path_cases q e.0
            (λ same. none_some (get left e.0) (gone rest left e is) (subst (λ z. IsSome (get left z)) same h))
            (λ other. some_is (get after q) (get now q) (others q other) (t.slots q (some_is (get rest q) (get left q) (others_of rest left e is q other) h)));
      }

  pub over_has : IsSome (get now e.0)
  over_has = t.slots e.0 (some_is (get rest e.0) (Some e.1) is.here refl)

  pub over_set : is_some (note_of e.1) ≡ true → after ≡ insert now e.0 e.1 → TakesOver earlier first left after
  over_set noted set = over_steps
      (ap (λ m. get m e.0) set ∙ put_here now e.0 e.1 ∙ sym (ap (λ b. if b then Some e.1 else get now e.0) noted))
      (λ q h. ap (λ m. get m q) set ∙ put_elsewhere now e.0 q e.1 h)

  pub over_left : is_some (note_of e.1) ≡ false → after ≡ now → TakesOver earlier first left after
  over_left noted same = over_steps
      (ap (λ m. get m e.0) same ∙ sym (ap (λ b. if b then Some e.1 else get now e.0) noted))
      (λ q h. ap (λ m. get m q) same)

pub over_next : (earlier first rest left now after : Slots) (e : Names × Slot) → TakesOver earlier first rest now → Popped rest left e → after ≡ over_at now e.0 e.1 → TakesOver earlier first left after
over_next earlier first rest left now after e t is set = by (is_some (note_of e.1)) refl
  where
    by : (b : Bool) → is_some (note_of e.1) ≡ b → TakesOver earlier first left after
    by true h = over_set earlier first rest left now after e t is h (set ∙ ap (λ b. if b then insert now e.0 e.1 else now) h)
    by false h = over_left earlier first rest left now after e t is h (set ∙ ap (λ b. if b then insert now e.0 e.1 else now) h)

note_if : (b : Bool) (e l : Option Slot) → note_in (if b then e else l) ≡ (if b then note_in e else note_in l)
note_if true e l = refl
note_if false e l = refl

noted_ready : (e : Option Slot) (l : Option Slot) → ready_in (over_slot e l) ≡ (if is_some (note_in e) then None else ready_in l)
noted_ready None l = refl
noted_ready (Some Spare) l = refl
noted_ready (Some (Ready x)) l = refl
noted_ready (Some (Noted x)) l = refl

none_over : (m : Slots) → m ≡ empty → (p : Names) (l : Option Slot) → over_slot (get m p) l ≡ l
none_over m is p l = ap (λ n. over_slot (get n p) l) is ∙ ap (λ x. over_slot x l) (get-empty path_cmp p)

pub over_ends : (earlier first rest now : Slots) → TakesOver earlier first rest now → rest ≡ empty → IsJoined earlier first now
over_ends earlier first rest now t is =
    let now_is : (p : Names) → get now p ≡ over_slot (get earlier p) (get first p) = λ p. sym (none_over rest is p (get now p)) ∙ t.each p in
    record {
      noted = λ p. ap note_in (now_is p) ∙ note_if (is_some (note_in (get earlier p))) (get earlier p) (get first p);
      ready = λ p. ap ready_in (now_is p) ∙ noted_ready (get earlier p) (get first p);
    }

-- ---- the later slots, taken under the earlier ones

pub record TakesUnder (first later rest now : Slots) : Type 0 where
  pub each : (p : Names) → under_slot (get now p) (get rest p) ≡ under_slot (get first p) (get later p)
  pub slots : (p : Names) → IsSome (get rest p) → IsSome (get now p)

pub under_begins : (first later : Slots) → ((p : Names) → IsSome (get later p) → IsSome (get first p)) → TakesUnder first later later first
under_begins first later h = record { each = λ p. refl; slots = h }

under_none : (k : Option Slot) → under_slot k None ≡ k
under_none k = by (is_some (note_in k))
  where
    by : (b : Bool) → (if b then k else k) ≡ k
    by true = refl
    by false = refl

module _ (first later rest left now after : Slots) (e : Names × Slot) (t : TakesUnder first later rest now) (is : Popped rest left e) where
  under_steps : get after e.0 ≡ under_slot (get now e.0) (Some e.1) → IsSome (get after e.0) → ((q : Names) → q ≢ e.0 → get after q ≡ get now q) → TakesUnder first later left after
  under_steps here some others =
      record {
        each = λ q. path_cases q e.0
            (λ same. subst (λ z. under_slot (get after z) (get left z) ≡ under_slot (get first z) (get later z)) (sym same)
            (ap (under_slot (get after e.0)) (gone rest left e is) ∙ under_none (get after e.0) ∙ here ∙ ap (under_slot (get now e.0)) (sym is.here) ∙ t.each e.0))
            (λ other. ap (λ x. under_slot x (get left q)) (others q other) ∙ ap (under_slot (get now q)) (sym (others_of rest left e is q other)) ∙ t.each q);
        slots = λ q h. path_cases q e.0
            (λ same. subst (λ z. IsSome (get after z)) (sym same) some)
            (λ other. some_is (get after q) (get now q) (others q other) (t.slots q (some_is (get rest q) (get left q) (others_of rest left e is q other) h)));
      }

  pub under_has : IsSome (get now e.0)
  under_has = t.slots e.0 (some_is (get rest e.0) (Some e.1) is.here refl)

  pub under_left : is_some (note_in (get now e.0)) ≡ true → after ≡ now → TakesUnder first later left after
  under_left noted same = under_steps
      (ap (λ m. get m e.0) same ∙ sym (ap (λ b. if b then get now e.0 else Some e.1) noted))
      (some_is (get after e.0) (get now e.0) (ap (λ m. get m e.0) same) under_has)
      (λ q h. ap (λ m. get m q) same)

  pub under_set : is_some (note_in (get now e.0)) ≡ false → after ≡ insert now e.0 e.1 → TakesUnder first later left after
  under_set noted set =
      let here : get after e.0 ≡ Some e.1 = ap (λ m. get m e.0) set ∙ put_here now e.0 e.1 in
      under_steps
      (here ∙ sym (ap (λ b. if b then get now e.0 else Some e.1) noted))
      (some_is (get after e.0) (Some e.1) here refl)
      (λ q h. ap (λ m. get m q) set ∙ put_elsewhere now e.0 q e.1 h)

pub under_next : (first later rest left now after : Slots) (e : Names × Slot) → TakesUnder first later rest now → Popped rest left e → after ≡ under_at now e.0 e.1 → TakesUnder first later left after
under_next first later rest left now after e t is set = by (is_some (note_in (get now e.0))) refl
  where
    by : (b : Bool) → is_some (note_in (get now e.0)) ≡ b → TakesUnder first later left after
    by true h = under_left first later rest left now after e t is h (set ∙ ap (λ b. if b then now else insert now e.0 e.1) h)
    by false h = under_set first later rest left now after e t is h (set ∙ ap (λ b. if b then now else insert now e.0 e.1) h)

note_under : (e l : Option Slot) → note_in (under_slot e l) ≡ (if is_some (note_in e) then note_in e else note_in l)
note_under None None = refl
note_under None (Some s) = refl
note_under (Some Spare) None = refl
note_under (Some Spare) (Some s) = refl
note_under (Some (Ready x)) None = refl
note_under (Some (Ready x)) (Some s) = refl
note_under (Some (Noted x)) l = refl

ready_under : (e l : Option Slot) → ready_in e ≡ None → ready_in (under_slot e l) ≡ (if is_some (note_in e) then None else ready_in l)
ready_under None None h = refl
ready_under None (Some s) h = refl
ready_under (Some Spare) None h = refl
ready_under (Some Spare) (Some s) h = refl
ready_under (Some (Ready x)) None h = h
ready_under (Some (Ready x)) (Some s) h = refl
ready_under (Some (Noted x)) l h = refl

pub under_ends : (first later rest now : Slots) → TakesUnder first later rest now → rest ≡ empty → NoneReady first → IsJoined first later now
under_ends first later rest now t is none =
    let now_is : (p : Names) → get now p ≡ under_slot (get first p) (get later p) = λ p. sym (ap (λ m. under_slot (get now p) (get m p)) is ∙ ap (under_slot (get now p)) (get-empty path_cmp p) ∙ under_none (get now p)) ∙ t.each p in
    record {
      noted = λ p. ap note_in (now_is p) ∙ note_under (get first p) (get later p);
      ready = λ p. ap ready_in (now_is p) ∙ ready_under (get first p) (get later p) (none p);
    }

-- ---- spare slots

pub spare_note : (k l : Option Slot) → MaySpare k l → note_in l ≡ note_in k
spare_note (Some s) l h = ap note_in h
spare_note None None h = refl
spare_note None (Some s) h = ap note_of h

pub spare_ready : (k l : Option Slot) → MaySpare k l → ready_in l ≡ ready_in k
spare_ready (Some s) l h = ap ready_in h
spare_ready None None h = refl
spare_ready None (Some s) h = ap (λ x. ready_in (Some x)) h

pub spared_befores : (s r : Slots) → IsSpared s r → befores_of r ≡ befores_of s
spared_befores s r h = same_befores r s (λ q. spare_note (get s q) (get r q) (h q))

pub spared_ready : (s r : Slots) → IsSpared s r → NoneReady s → NoneReady r
spared_ready s r h none p = spare_ready (get s p) (get r p) (h p) ∙ none p

-- spare slots change nothing of what is joined
pub joined_spared : (earlier first later last both : Slots) → IsSpared earlier first → IsSpared later last → IsJoined first last both → IsJoined earlier later both
joined_spared earlier first later last both h g j = record {
  noted = λ p. j.noted p ∙ (λ i. if is_some (spare_note (get earlier p) (get first p) (h p) i) then spare_note (get earlier p) (get first p) (h p) i else spare_note (get later p) (get last p) (g p) i);
  ready = λ p. j.ready p ∙ (λ i. if is_some (spare_note (get earlier p) (get first p) (h p) i) then None else spare_ready (get later p) (get last p) (g p) i);
}

pub spared_itself : (s : Slots) → IsSpared s s
spared_itself s p = by (get s p)
  where
    by : (k : Option Slot) → MaySpare k k
    by None = tt
    by (Some s) = refl

-- each path has the slot that it had, and one more may have a spare one
pub spared_more : (s now after : Slots) (p : Names) → IsSpared s now → after ≡ spared_at now p → IsSpared s after
spared_more s now after p h is q = subst (λ m. MaySpare (get s q) (get m q)) (sym is) (by (get now p) refl)
  where
    keeps : (k l : Option Slot) → MaySpare k l → l ≡ None → MaySpare k (Some Spare)
    keeps None l g e = refl
    keeps (Some x) l g e = absurd (some_none (sym g ∙ e))
      where
        some_none : Some x ≡ None → ⊥
        some_none i = cc

    by : (k : Option Slot) → get now p ≡ k → MaySpare (get s q) (get (if is_some k then now else insert now p Spare) q)
    by (Some x) e = h q
    by None e = path_cases q p
        (λ same. subst (MaySpare (get s q)) (sym (ap (get (insert now p Spare)) same ∙ put_here now p Spare)) (keeps (get s q) (get now q) (h q) (ap (get now) same ∙ e)))
        (λ other. subst (MaySpare (get s q)) (sym (put_elsewhere now p q Spare other)) (h q))

-- a path of the others that lacks a slot is among the rest
abbrev pub Slotting : Slots → Slots → List (Names × Slot) → Type 0
Slotting others now rest = (p : Names) → IsSome (get others p) → is_some (get now p) ≡ false → IsSome (find path_cmp p rest)

pub slotting_begins : (others s : Slots) → Slotting others s (entries others)
slotting_begins others s p h g = some_is (find path_cmp p (entries others)) (get others p) (sym (get-entries others p)) h

spared_here : (now : Slots) (p : Names) → is_some (get (spared_at now p) p) ≡ true
spared_here now p = by (get now p) refl
  where
    by : (k : Option Slot) → get now p ≡ k → is_some (get (if is_some k then now else insert now p Spare) p) ≡ true
    by None e = ap is_some (put_here now p Spare)
    by (Some x) e = ap is_some e

spared_elsewhere : (now : Slots) (p q : Names) → q ≢ p → get (spared_at now p) q ≡ get now q
spared_elsewhere now p q h = by (is_some (get now p))
  where
    by : (b : Bool) → get (if b then now else insert now p Spare) q ≡ get now q
    by true = refl
    by false = put_elsewhere now p q Spare h

pub slotting_steps : (others now after : Slots) (e : Names × Slot) (rest : List (Names × Slot)) → Slotting others now (e ∷ rest) → after ≡ spared_at now e.0 → Slotting others after rest
slotting_steps others now after e rest s is p h g = path_cases p e.0
    (λ same. absurd (no (sym (spared_here now e.0) ∙ ap (λ m. is_some (get m e.0)) (sym is) ∙ ap (λ z. is_some (get after z)) (sym same) ∙ g)))
    (λ other. some_is (find path_cmp p rest) (find path_cmp p (e ∷ rest)) (sym (find_later p e rest other))
    (s p h (ap is_some (sym (spared_elsewhere now e.0 p other)) ∙ ap (λ m. is_some (get m p)) (sym is) ∙ g)))
  where
    no : true ≡ false → ⊥
    no h = cc

pub slotting_ends : (others now : Slots) → Slotting others now [] → (p : Names) → IsSome (get others p) → IsSome (get now p)
slotting_ends others now s p h = by (get now p) (λ g. s p h g)
  where
    by : (k : Option Slot) → (is_some k ≡ false → IsSome (find {X = Slot} path_cmp p [])) → IsSome k
    by None g = g refl
    by (Some x) g = refl
