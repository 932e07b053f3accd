-- Layers of which one was joined to the one before it, or the first left out.
use Rattle.std.proofs.Common.{◌≡◌, ◌<◌, ◌≤◌, ℕ, zero, suc, arith, rules, Bool, true, false, nat_eq, if◌then◌else◌, List, [], ◌∷◌, ◌++◌, length, slice_index_or, ◌||◌, refl, sym, ap, ◌∙◌, subst}
use Rattle.std.specs.Prelude.{Option, Some, None, IfSome, is_some, take, drop}
use Rattle.std.specs.FinMap.{get, entries, same_map}
use Rattle.std.specs.List.{AllByRecursion, remove}
use Rattle.res_path.specs.PathLaws.{path_cmp_total}
use Rattle.res_path.proofs.Prefixes.{path_cmp_exact}
use Rattle.ws_elem.specs.Rooms.{Room, has_room}
use Rattle.ws_elem.specs.Trees.{Tree}
use Rattle.ws_elem.specs.declared.element.Element.{Element}
use Rattle.elem_tree.specs.declared.layer.Layer.{Layer}
use Rattle.elem_tree.specs.Layers.{from_mark, joined, joined_into, over, without_mark}
use Rattle.elem_tree.specs.Inside.Forgets.{IsJoinedLayer, JoinsAt, AreSpared, MarkAt, NoMark, LastReady, StayKept, Forgets}
use Rattle.elem_tree.specs.Inside.Joins.{IsSpared}
use Rattle.elem_tree.specs.Inside.Shown.{AllBelow, NoneBelow, EndedButLast, Rising, shown, shown_all, with_current, IsKept}
use Rattle.elem_tree.specs.Inside.Slots.{Slots, note_in, ready_in, befores_of, IsReady, NoneReady}
use Rattle.elem_tree.proofs.Joins.{spare_note, spare_ready, spared_befores, spared_ready}
use Rattle.elem_tree.proofs.Slots.{get-befores}
use Rattle.elem_tree.proofs.Without.{get-over, other_number}

-- ---- two layers as one

both_shown : (k l both : Layer) → IsJoinedLayer k l both → shown both ≡ joined (shown k) (shown l)
both_shown k l both j = (λ i. record { mark = j.mark i; befores = befores i })
  where
    befores : befores_of both.notes ≡ over (befores_of l.notes) (entries (befores_of k.notes))
    befores = same_map path_cmp_total path_cmp_exact _ _ (λ q. get-befores both.notes q ∙ j.notes.noted q
        ∙ sym (get-over (befores_of l.notes) (befores_of k.notes) q
        ∙ (λ i. if is_some (get-befores k.notes q i) then get-befores k.notes q i else get-befores l.notes q i)))

none_ready_both : (k l both : Layer) → IsJoinedLayer k l both → NoneReady l.notes → NoneReady both.notes
none_ready_both k l both j none p = j.notes.ready p ∙ ap (λ x. if is_some (note_in (get k.notes p)) then None else x) (none p) ∙ by (is_some (note_in (get k.notes p)))
  where
    nothing : Option (Option Element)
    nothing = None

    by : (b : Bool) → (if b then nothing else nothing) ≡ nothing
    by true = refl
    by false = refl

ready_both : (k l both : Layer) (t : Tree) (room : Room) → IsJoinedLayer k l both → IsReady l.notes t room → IsReady both.notes t room
ready_both k l both t room j r = record {
  ready = λ p. subst (λ x. IfSome x (λ y. (y ≡ get t p) × (has_room room p ≡ true))) (sym (j.notes.ready p)) (first (λ y. (y ≡ get t p) × (has_room room p ≡ true)) (note_in (get k.notes p)) (ready_in (get l.notes p)) (r.ready p));
  roomy = λ p h. ap (λ x. is_some x || is_some (ready_in (get both.notes p))) (j.notes.noted p)
      ∙ ap (λ y. is_some (if is_some (note_in (get k.notes p)) then note_in (get k.notes p) else note_in (get l.notes p)) || is_some y) (j.notes.ready p)
      ∙ known (note_in (get k.notes p)) (note_in (get l.notes p)) (ready_in (get l.notes p)) (r.roomy p h);
}
  where
    first : (P : Option Element → Type 0) (n : Option (Option Element)) (y : Option (Option Element)) → IfSome y P → IfSome (if is_some n then None else y) P
    first P None y h = h
    first P (Some x) y h = tt

    known : (n m y : Option (Option Element)) → is_some m || is_some y ≡ true → is_some (if is_some n then n else m) || is_some (if is_some n then None else y) ≡ true
    known None m y h = h
    known (Some x) m y h = refl

-- ---- the layers that are left

all_joined : (P : ℕ → Type 0) (n : ℕ) (ls after : List Layer) → JoinsAt n ls after → AllByRecursion (λ l. P l.mark) ls → AllByRecursion (λ l. P l.mark) after
all_joined P n [] after j h = subst (AllByRecursion (λ l. P l.mark)) (sym j) h
all_joined P n (k ∷ []) after j h = subst (AllByRecursion (λ l. P l.mark)) (sym j) h
all_joined P zero (k ∷ l ∷ ls) after j h = subst (AllByRecursion (λ l. P l.mark)) (sym j.2) (subst P (sym j.1.mark) h.0, h.1.1)
all_joined P (suc n) (k ∷ l ∷ ls) after j h = subst (AllByRecursion (λ l. P l.mark)) (sym j.1) (h.0, all_joined P n (l ∷ ls) j.0 j.2 h.1)

rising_joined : (n : ℕ) (ls after : List Layer) → JoinsAt n ls after → Rising ls → Rising after
rising_joined n [] after j r = subst Rising (sym j) r
rising_joined n (k ∷ []) after j r = subst Rising (sym j) r
rising_joined zero (k ∷ l ∷ ls) after j r = subst Rising (sym j.2) (subst (λ m. AllByRecursion (λ x. m < x.mark) ls) (sym j.1.mark) r.0.1, r.1.1)
rising_joined (suc n) (k ∷ l ∷ ls) after j r = subst Rising (sym j.1) (all_joined (λ m. k.mark < m) n (l ∷ ls) j.0 j.2 r.0, rising_joined n (l ∷ ls) j.0 j.2 r.1)

ended_more : (k : Layer) (ls : List Layer) → NoneReady k.notes → EndedButLast ls → EndedButLast (k ∷ ls)
ended_more k [] none h = tt
ended_more k (l ∷ ls) none h = (none, h)

ended_rest : (l : Layer) (ls : List Layer) → EndedButLast (l ∷ ls) → EndedButLast ls
ended_rest l [] h = tt
ended_rest l (k ∷ ls) h = h.1

ended_joined : (n : ℕ) (ls after : List Layer) → JoinsAt n ls after → EndedButLast ls → EndedButLast after
ended_joined n [] after j h = subst EndedButLast (sym j) h
ended_joined n (k ∷ []) after j h = subst EndedButLast (sym j) h
ended_joined zero (k ∷ l ∷ []) after j h = subst EndedButLast (sym j.2) tt
ended_joined zero (k ∷ l ∷ i ∷ ls) after j h = subst EndedButLast (sym j.2) (none_ready_both k l j.0 j.1 h.1.0, h.1.1)
ended_joined (suc n) (k ∷ l ∷ ls) after j h = subst EndedButLast (sym j.1) (ended_more k j.0 h.0 (ended_joined n (l ∷ ls) j.0 j.2 h.1))

some_left : (n : ℕ) (l : Layer) (ls after : List Layer) → JoinsAt n (l ∷ ls) after → after ≡ [] → ⊥
some_left n l [] after j e = no (sym j ∙ e)
  where
    no : l ∷ [] ≡ [] → ⊥
    no h = cc
some_left zero l (k ∷ ls) after j e = no (sym j.2 ∙ e)
  where
    no : j.0 ∷ ls ≡ [] → ⊥
    no h = cc
some_left (suc n) l (k ∷ ls) after j e = no (sym j.1 ∙ e)
  where
    no : l ∷ j.0 ≡ [] → ⊥
    no h = cc

last_more : (k : Layer) (ls : List Layer) (t : Tree) (room : Room) → (ls ≡ [] → ⊥) → LastReady ls t room → LastReady (k ∷ ls) t room
last_more k [] t room some h = absurd (some refl)
last_more k (l ∷ ls) t room some h = h

last_rest : (l : Layer) (ls : List Layer) (t : Tree) (room : Room) → LastReady (l ∷ ls) t room → LastReady ls t room
last_rest l [] t room h = tt
last_rest l (k ∷ ls) t room h = h

last_joined : (n : ℕ) (ls after : List Layer) (t : Tree) (room : Room) → JoinsAt n ls after → LastReady ls t room → LastReady after t room
last_joined n [] after t room j h = subst (λ xs. LastReady xs t room) (sym j) h
last_joined n (k ∷ []) after t room j h = subst (λ xs. LastReady xs t room) (sym j) h
last_joined zero (k ∷ l ∷ []) after t room j h = subst (λ xs. LastReady xs t room) (sym j.2) (ready_both k l j.0 t room j.1 h)
last_joined zero (k ∷ l ∷ i ∷ ls) after t room j h = subst (λ xs. LastReady xs t room) (sym j.2) h
last_joined (suc n) (k ∷ l ∷ ls) after t room j h =
    subst (λ xs. LastReady xs t room) (sym j.1) (last_more k j.0 t room (some_left n l ls j.0 j.2) (last_joined n (l ∷ ls) j.0 t room j.2 h))

-- ---- what contracts see

differ : (m : ℕ) (l : Layer) → l.mark < m → nat_eq m l.mark ≡ false
differ m l lt = other_number m l.mark (λ e. omega (arith, e, lt))

differ_above : (m : ℕ) (l : Layer) → m < l.mark → nat_eq m l.mark ≡ false
differ_above m l lt = other_number m l.mark (λ e. omega (arith, e, lt))

itself : (n : ℕ) → nat_eq n n ≡ true
itself n = search rules

own : (m : ℕ) (l : Layer) → l.mark ≡ m → nat_eq m l.mark ≡ true
own m l is = ap (nat_eq m) is ∙ itself m

joined_shown : (m n : ℕ) (k : Layer) (ls after : List Layer) → JoinsAt n (k ∷ ls) after → MarkAt m n ls → shown_all after ≡ joined_into (shown k) m (shown_all ls)
joined_shown m n k [] after j at = absurd at
joined_shown m zero k (l ∷ ls) after j at =
    ap shown_all j.2 ∙ ap (λ x. x ∷ shown_all ls) (both_shown k l j.0 j.1)
    ∙ sym (ap (λ b. if b then joined (shown k) (shown l) ∷ shown_all ls else shown k ∷ joined_into (shown l) m (shown_all ls)) (own m l at))
joined_shown m (suc n) k (l ∷ ls) after j at =
    ap shown_all j.1 ∙ ap (λ xs. shown k ∷ xs) (joined_shown m n l ls j.0 j.2 at.1)
    ∙ sym (ap (λ b. if b then joined (shown k) (shown l) ∷ shown_all ls else shown k ∷ joined_into (shown l) m (shown_all ls)) (differ m l at.0))

above_differ : (m : ℕ) (ls : List Layer) → AllByRecursion (λ k. m < k.mark) ls → NoMark m ls
above_differ m [] h = tt
above_differ m (l ∷ ls) h = (differ_above m l h.0, above_differ m ls h.1)

joined_gone : (m n : ℕ) (k : Layer) (ls after : List Layer) → JoinsAt n (k ∷ ls) after → k.mark < m → MarkAt m n ls → Rising (k ∷ ls) → NoMark m after
joined_gone m n k [] after j lt at r = absurd at
joined_gone m zero k (l ∷ ls) after j lt at r =
    subst (NoMark m) (sym j.2) (ap (nat_eq m) j.1.mark ∙ differ m k lt, above_differ m ls (subst (λ x. AllByRecursion (λ i. x < i.mark) ls) at r.1.0))
joined_gone m (suc n) k (l ∷ ls) after j lt at r = subst (NoMark m) (sym j.1) (differ m k lt, joined_gone m n l ls j.0 j.2 at.0 at.1 r.1)

pub forgets_joined : (m n : ℕ) (ls after : List Layer) → MarkAt m (suc n) ls → JoinsAt n ls after → Rising ls → EndedButLast ls → Forgets m ls after
forgets_joined m n [] after at j r e = absurd at
forgets_joined m n (k ∷ ls) after at j r e = record {
  shown = joined_shown m n k ls after j at.1
      ∙ sym (ap (λ b. if b then shown_all ls else joined_into (shown k) m (shown_all ls)) (differ m k at.0));
  gone = joined_gone m n k ls after j at.0 at.1 r;
  kept = record {
    rising = rising_joined n (k ∷ ls) after j r;
    ended = ended_joined n (k ∷ ls) after j e;
    below = λ x h. all_joined (λ y. y < x) n (k ∷ ls) after j h;
    ready = λ t room h. last_joined n (k ∷ ls) after t room j h;
  };
}

pub forgets_first : (m : ℕ) (ls after : List Layer) → MarkAt m 0 ls → after ≡ remove ls 0 → Rising ls → EndedButLast ls → Forgets m ls after
forgets_first m [] after at is r e = absurd at
forgets_first m (l ∷ ls) after at is r e = subst (Forgets m (l ∷ ls)) (sym is) (record {
  shown = sym (ap (λ b. if b then shown_all ls else joined_into (shown l) m (shown_all ls)) (own m l at));
  gone = above_differ m ls (subst (λ x. AllByRecursion (λ i. x < i.mark) ls) at r.0);
  kept = record {
    rising = r.1;
    ended = ended_rest l ls e;
    below = λ x h. h.1;
    ready = λ t room h. last_rest l ls t room h;
  };
})

none_joined : (m : ℕ) (k : Layer) (ls : List Layer) → NoMark m ls → shown k ∷ shown_all ls ≡ joined_into (shown k) m (shown_all ls)
none_joined m k [] h = refl
none_joined m k (l ∷ ls) h = sym (ap (λ b. if b then joined (shown k) (shown l) ∷ shown_all ls else shown k ∷ joined_into (shown l) m (shown_all ls)) h.0
    ∙ ap (λ xs. shown k ∷ xs) (sym (none_joined m l ls h.1)))

none_without : (m : ℕ) (ls : List Layer) → NoMark m ls → shown_all ls ≡ without_mark m (shown_all ls)
none_without m [] h = refl
none_without m (l ∷ ls) h = none_joined m l ls h.1 ∙ sym (ap (λ b. if b then shown_all ls else joined_into (shown l) m (shown_all ls)) h.0)

pub forgets_none : (m : ℕ) (ls : List Layer) → NoMark m ls → Rising ls → EndedButLast ls → Forgets m ls ls
forgets_none m ls none r e = record {
  shown = none_without m ls none;
  gone = none;
  kept = record { rising = r; ended = e; below = λ x h. h; ready = λ t room h. h };
}

pub none_from : (m : ℕ) (ls : List Layer) → NoMark m ls → from_mark m (shown_all ls) ≡ []
none_from m [] h = refl
none_from m (l ∷ ls) h = ap (λ b. if b then shown_all (l ∷ ls) else from_mark m (shown_all ls)) h.0 ∙ none_from m ls h.1

-- ---- spare slots

pub spared_shown : (ls after : List Layer) → AreSpared ls after → shown_all after ≡ shown_all ls
spared_shown [] after s = ap shown_all s
spared_shown (l ∷ ls) after s =
    ap shown_all s.2 ∙ (λ i. record { mark = s.3 i; befores = spared_befores l.notes s.0.notes s.4 i } ∷ spared_shown ls s.1 s.5 i)

all_spared : (P : ℕ → Type 0) (ls after : List Layer) → AreSpared ls after → AllByRecursion (λ l. P l.mark) ls → AllByRecursion (λ l. P l.mark) after
all_spared P [] after s h = subst (AllByRecursion (λ l. P l.mark)) (sym s) h
all_spared P (l ∷ ls) after s h = subst (AllByRecursion (λ l. P l.mark)) (sym s.2) (subst P (sym s.3) h.0, all_spared P ls s.1 s.5 h.1)

rising_spared : (ls after : List Layer) → AreSpared ls after → Rising ls → Rising after
rising_spared [] after s r = subst Rising (sym s) r
rising_spared (l ∷ ls) after s r =
    subst Rising (sym s.2) (subst (λ m. AllByRecursion (λ k. m < k.mark) s.1) (sym s.3) (all_spared (λ m. l.mark < m) ls s.1 s.5 r.0), rising_spared ls s.1 s.5 r.1)

ended_spared : (ls after : List Layer) → AreSpared ls after → EndedButLast ls → EndedButLast after
ended_spared [] after s h = subst EndedButLast (sym s) h
ended_spared (l ∷ []) after s h = subst EndedButLast (sym (s.2 ∙ ap (λ xs. s.0 ∷ xs) s.5)) tt
ended_spared (l ∷ k ∷ ls) after s h = subst EndedButLast (sym s.2) (ended_more s.0 s.1 (spared_ready l.notes s.0.notes s.4 h.0) (ended_spared (k ∷ ls) s.1 s.5 h.1))

ready_spared : (l k : Slots) (t : Tree) (room : Room) → IsSpared l k → IsReady l t room → IsReady k t room
ready_spared l k t room s r = record {
  ready = λ p. subst (λ x. IfSome x (λ y. (y ≡ get t p) × (has_room room p ≡ true))) (sym (spare_ready (get l p) (get k p) (s p))) (r.ready p);
  roomy = λ p h. (λ i. is_some (spare_note (get l p) (get k p) (s p) i) || is_some (spare_ready (get l p) (get k p) (s p) i)) ∙ r.roomy p h;
}

none_spared : (l : Layer) (ls after : List Layer) → AreSpared (l ∷ ls) after → after ≡ [] → ⊥
none_spared l ls after s e = no (sym s.2 ∙ e)
  where
    no : s.0 ∷ s.1 ≡ [] → ⊥
    no h = cc

last_spared : (ls after : List Layer) (t : Tree) (room : Room) → AreSpared ls after → LastReady ls t room → LastReady after t room
last_spared [] after t room s h = subst (λ xs. LastReady xs t room) (sym s) h
last_spared (l ∷ []) after t room s h = subst (λ xs. LastReady xs t room) (sym (s.2 ∙ ap (λ xs. s.0 ∷ xs) s.5)) (ready_spared l.notes s.0.notes t room s.4 h)
last_spared (l ∷ k ∷ ls) after t room s h =
    subst (λ xs. LastReady xs t room) (sym s.2) (last_more s.0 s.1 t room (none_spared k ls s.1 s.5) (last_spared (k ∷ ls) s.1 t room s.5 h))

pub spared_kept : (ls after : List Layer) → AreSpared ls after → Rising ls → EndedButLast ls → StayKept ls after
spared_kept ls after s r e = record {
  rising = rising_spared ls after s r;
  ended = ended_spared ls after s e;
  below = λ n h. all_spared (λ m. m < n) ls after s h;
  ready = λ t room h. last_spared ls after t room s h;
}

-- ---- the current layer, as the last one

pub last_current : (ls : List Layer) (k : Option Layer) (t : Tree) (room : Room) → (k ≡ None → ls ≡ []) → IfSome k (λ l. IsReady l.notes t room) → LastReady (with_current ls k) t room
last_current ls None t room first h = subst (λ xs. LastReady xs t room) (sym (first refl)) tt
last_current ls (Some l) t room first h = behind ls
  where
    some : (xs : List Layer) → xs ++ l ∷ [] ≡ [] → ⊥
    some [] e = cc
    some (x ∷ xs) e = cc

    behind : (xs : List Layer) → LastReady (xs ++ l ∷ []) t room
    behind [] = h
    behind (x ∷ xs) = last_more x (xs ++ l ∷ []) t room (some xs) (behind xs)

pub current_ready : (ls : List Layer) (k : Option Layer) (t : Tree) (room : Room) → LastReady (with_current ls k) t room → IfSome k (λ l. IsReady l.notes t room)
current_ready ls None t room h = tt
current_ready [] (Some l) t room h = h
current_ready (x ∷ ls) (Some l) t room h = current_ready ls (Some l) t room (last_rest x (ls ++ l ∷ []) t room h)

-- a tree whose layers stay kept is kept
pub stays_kept : (ls now : List Layer) (k j : Option Layer) (n : ℕ) (t : Tree) (room : Room) → IsKept ls k n t room → (j ≡ None → now ≡ [])
    → StayKept (with_current ls k) (with_current now j) → IsKept now j n t room
stays_kept ls now k j n t room kept first stay = record {
  first = first;
  ready = current_ready now j t room (stay.ready t room (last_current ls k t room kept.first kept.ready));
  ended = stay.ended;
  rising = stay.rising;
  below = stay.below n kept.below;
}

-- ---- the place of a mark

pub mark_at : (m n : ℕ) (ls : List Layer) (l : Layer) → AllBelow m (take n ls) → n < length ls → l ≡ slice_index_or ls n l → l.mark ≡ m → MarkAt m n ls
mark_at m n [] l below lt is e = absurd (omega (arith, lt))
mark_at m zero (k ∷ ls) l below lt is e = ap (λ (j : Layer). j.mark) (sym is) ∙ e
mark_at m (suc n) (k ∷ ls) l below lt is e = (below.0, mark_at m n ls l below.1 (omega (arith, lt)) is e)

above : (m : ℕ) (l : Layer) → m ≤ l.mark → (m ≡ l.mark → ⊥) → m < l.mark
above m l le ne = search (rules, le, ne)

all_above : (m n : ℕ) (ls : List Layer) → m < n → AllByRecursion (λ k. n < k.mark) ls → NoMark m ls
all_above m n [] lt h = tt
all_above m n (l ∷ ls) lt h = let more : n < l.mark = h.0 in (other_number m l.mark (λ e. omega (arith, e, more, lt)), all_above m n ls lt h.1)

pub no_mark_at : (m n : ℕ) (ls : List Layer) (l : Layer) → Rising ls → AllBelow m (take n ls) → NoneBelow m (drop n ls) → n < length ls → l ≡ slice_index_or ls n l
    → (l.mark ≡ m → ⊥) → NoMark m ls
no_mark_at m n [] l r below from lt is ne = tt
no_mark_at m zero (k ∷ ls) l r below from lt is ne =
    let other : nat_eq m k.mark ≡ false = ap (λ (j : Layer). nat_eq m j.mark) (sym is) ∙ other_number m l.mark (λ e. ne (sym e)) in
    (other, all_above m k.mark ls (above m k from.0 (λ e. ne (ap (λ (j : Layer). j.mark) is ∙ sym e))) r.0)
no_mark_at m (suc n) (k ∷ ls) l r below from lt is ne = (differ m k below.0, no_mark_at m n ls l r.1 below.1 from (omega (arith, lt)) is ne)

pub no_mark_behind : (m n : ℕ) (ls : List Layer) → (n < length ls → ⊥) → AllBelow m (take n ls) → NoMark m ls
no_mark_behind m n [] h below = tt
no_mark_behind m zero (k ∷ ls) h below = absurd (h (omega arith))
no_mark_behind m (suc n) (k ∷ ls) h below = (differ m k below.0, no_mark_behind m n ls (λ lt. h (omega (arith, lt))) below.1)

-- the place that is there is within
pub mark_within : (m n : ℕ) (ls : List Layer) → MarkAt m n ls → n < length ls
mark_within m n [] at = absurd at
mark_within m zero (l ∷ ls) at = omega arith
mark_within m (suc n) (l ∷ ls) at = let lt = mark_within m n ls at.1 in omega (arith, lt)
