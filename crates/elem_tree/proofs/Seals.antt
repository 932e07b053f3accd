-- A layer more, and one that ends.
use Rattle.std.proofs.Common.{◌≡◌, ◌<◌, ℕ, arith, List, [], ◌∷◌, ◌++◌, refl, sym, ap, ◌∙◌, subst}
use Rattle.std.specs.Prelude.{Option, Some, None, IfSome}
use Rattle.std.specs.FinMap.{empty}
use Rattle.std.specs.FinSet as set
use Rattle.std.specs.List.{AllByRecursion}
use Rattle.res_path.specs.Paths.{Names}
use Rattle.ws_elem.specs.Rooms.{Room}
use Rattle.ws_elem.specs.Trees.{Tree}
use Rattle.ws_elem.specs.declared.element.Element.{Element}
use Rattle.elem_tree.specs.declared.layer.Layer.{Layer}
use Rattle.elem_tree.specs.Layers as seen
use Rattle.elem_tree.specs.Inside.Slots.{Slots, befores_of, closed_all, IsReady, NoneReady}
use Rattle.elem_tree.specs.Inside.Shown.{AllBelow, EndedButLast, Rising, IsKept, closed_layer, shown, shown_all, with_current}
use Rattle.elem_tree.proofs.Gathers.{shown_append}
use Rattle.elem_tree.proofs.Rooms.{closed_befores, none_ready}
use Rattle.elem_tree.proofs.Trees.{marks_same, noted_last}

-- ---- marks alone count

all_marks : (P : ℕ → Type 0) (ls : List Layer) (l k : Layer) → k.mark ≡ l.mark → AllByRecursion (λ j. P j.mark) (ls ++ l ∷ []) → AllByRecursion (λ j. P j.mark) (ls ++ k ∷ [])
all_marks P [] l k is h = (subst P (sym is) h.0, tt)
all_marks P (j ∷ ls) l k is h = (h.0, all_marks P ls l k is h.1)

pub rising_marks : (ls : List Layer) (l k : Layer) → k.mark ≡ l.mark → Rising (ls ++ l ∷ []) → Rising (ls ++ k ∷ [])
rising_marks [] l k is h = (tt, tt)
rising_marks (j ∷ ls) l k is h = (all_marks (λ n. j.mark < n) ls l k is h.0, rising_marks ls l k is h.1)

pub below_marks : (n : ℕ) (ls : List Layer) (l k : Layer) → k.mark ≡ l.mark → AllBelow n (ls ++ l ∷ []) → AllBelow n (ls ++ k ∷ [])
below_marks n ls l k is h = all_marks (λ m. m < n) ls l k is h

-- ---- in which layers entries are ready

all_ended : (ls : List Layer) (l : Layer) → EndedButLast (ls ++ l ∷ []) → AllByRecursion (λ k. NoneReady k.notes) ls
all_ended [] l h = tt
all_ended (j ∷ []) l h = (h.0, tt)
all_ended (j ∷ i ∷ ls) l h = (h.0, all_ended (i ∷ ls) l h.1)

ended_push : (ls : List Layer) (l : Layer) → AllByRecursion (λ k. NoneReady k.notes) ls → EndedButLast (ls ++ l ∷ [])
ended_push [] l h = tt
ended_push (j ∷ []) l h = (h.0, tt)
ended_push (j ∷ i ∷ ls) l h = (h.0, ended_push (i ∷ ls) l h.1)

all_closed : (ls : List Layer) (roomy : List Names) (k : Option Layer) (t : Tree) (room : Room) → set.from_list roomy ≡ room → (k ≡ None → ls ≡ [])
    → IfSome k (λ l. IsReady l.notes t room) → EndedButLast (with_current ls k) → AllByRecursion (λ l. NoneReady l.notes) (with_current ls (closed_layer roomy k))
all_closed ls roomy None t room is first ready ended = subst (AllByRecursion (λ l. NoneReady l.notes)) (sym (first refl)) tt
all_closed ls roomy (Some l) t room is first ready ended = behind ls (all_ended ls l ended)
  where
    closed : Layer
    closed = record { mark = l.mark; notes = closed_all l.notes roomy }

    behind : (xs : List Layer) → AllByRecursion (λ k. NoneReady k.notes) xs → AllByRecursion (λ k. NoneReady k.notes) (xs ++ closed ∷ [])
    behind [] h = (none_ready roomy l.notes t room is ready, tt)
    behind (x ∷ xs) h = (h.0, behind xs h.1)

-- ---- a layer ends

ended_rising : (ls : List Layer) (roomy : List Names) (k : Option Layer) → Rising (with_current ls k) → Rising (with_current ls (closed_layer roomy k))
ended_rising ls roomy None r = r
ended_rising ls roomy (Some l) r = rising_marks ls l _ refl r

ended_below : (n : ℕ) (ls : List Layer) (roomy : List Names) (k : Option Layer) → AllBelow n (with_current ls k) → AllBelow n (with_current ls (closed_layer roomy k))
ended_below n ls roomy None h = h
ended_below n ls roomy (Some l) h = below_marks n ls l _ refl h

pub ended_shown : (ls : List Layer) (roomy : List Names) (k : Option Layer) → shown_all (with_current ls (closed_layer roomy k)) ≡ shown_all (with_current ls k)
ended_shown ls roomy None = refl
ended_shown ls roomy (Some l) =
    shown_append ls _ ∙ ap (λ b. shown_all ls ++ record { mark = l.mark; befores = b } ∷ []) (closed_befores roomy l.notes) ∙ sym (shown_append ls (l ∷ []))

-- ---- a layer begins

rising_push : (n : ℕ) (ls : List Layer) (l : Layer) → l.mark ≡ n → AllBelow n ls → Rising ls → Rising (ls ++ l ∷ [])
rising_push n [] l is b r = (tt, tt)
rising_push n (j ∷ ls) l is b r = (pushed ls r.0, rising_push n ls l is b.1 r.1)
  where
    pushed : (xs : List Layer) → AllByRecursion (λ k. j.mark < k.mark) xs → AllByRecursion (λ k. j.mark < k.mark) (xs ++ l ∷ [])
    pushed [] h = (subst (λ m. j.mark < m) (sym is) b.0, tt)
    pushed (x ∷ xs) h = (h.0, pushed xs h.1)

below_push : (n m : ℕ) (ls : List Layer) (l : Layer) → l.mark ≡ n → n < m → AllBelow n ls → AllBelow m (ls ++ l ∷ [])
below_push n m [] l is lt b = (omega (arith, is, lt), tt)
below_push n m (j ∷ ls) l is lt b = let first : j.mark < n = b.0 in (omega (arith, first, lt), below_push n m ls l is lt b.1)

pub sealed_kept : (ls now : List Layer) (k : Option Layer) (roomy : List Names) (n m : ℕ) (t : Tree) (room : Room) (notes : Slots) → set.from_list roomy ≡ room → IsKept ls k n t room
    → now ≡ with_current ls (closed_layer roomy k) → n < m → IsReady notes t room → IsKept now (Some (record { mark = n; notes = notes })) m t room
sealed_kept ls now k roomy n m t room notes with_room kept is lt ready = record {
  first = λ e. absurd (no (record { mark = n; notes = notes }) e);
  ready = ready;
  ended = ended_push now _ (subst (AllByRecursion (λ l. NoneReady l.notes)) (sym is) (all_closed ls roomy k t room with_room kept.first kept.ready kept.ended));
  rising = rising_push n now _ refl below (subst Rising (sym is) (ended_rising ls roomy k kept.rising));
  below = below_push n m now _ refl lt below;
}
  where
    no : (l : Layer) → Some l ≡ None → ⊥
    no l e = cc

    below : AllBelow n now
    below = subst (AllBelow n) (sym is) (ended_below n ls roomy k kept.below)

pub sealed_shown : (ls now : List Layer) (k : Option Layer) (roomy : List Names) (n : ℕ) (notes : Slots) → now ≡ with_current ls (closed_layer roomy k) → befores_of notes ≡ empty
    → shown_all (with_current now (Some (record { mark = n; notes = notes }))) ≡ shown_all (with_current ls k) ++ record { mark = n; befores = empty } ∷ []
sealed_shown ls now k roomy n notes is none =
    shown_append now _ ∙ ap (λ xs. xs ++ record { mark = n; befores = befores_of notes } ∷ []) (ap shown_all is ∙ ended_shown ls roomy k)
    ∙ ap (λ b. shown_all (with_current ls k) ++ record { mark = n; befores = b } ∷ []) none

pub below_shown : (n : ℕ) (ls : List Layer) → AllBelow n ls → AllByRecursion (λ l. l.mark < n) (shown_all ls)
below_shown n [] h = tt
below_shown n (l ∷ ls) h = (h.0, below_shown n ls h.1)

-- ---- the current layer changes

pub current_kept : (ls : List Layer) (l k : Layer) (n : ℕ) (t u : Tree) (room now : Room) → IsKept ls (Some l) n t room → k.mark ≡ l.mark → IsReady k.notes u now → IsKept ls (Some k) n u now
current_kept ls l k n t u room now kept is ready = record {
  first = λ e. absurd (no e);
  ready = ready;
  ended = ended_push ls k (all_ended ls l kept.ended);
  rising = rising_marks ls l k is kept.rising;
  below = below_marks n ls l k is kept.below;
}
  where
    no : Some k ≡ None → ⊥
    no e = cc

-- nothing is kept since no mark
pub none_kept : (ls : List Layer) (n : ℕ) (t u : Tree) (room now : Room) → IsKept ls None n t room → IsKept ls None n u now
none_kept ls n t u room now kept = record { first = kept.first; ready = tt; ended = kept.ended; rising = kept.rising; below = kept.below }

pub empty_kept : (ls : List Layer) (t : Tree) (room : Room) → ls ≡ [] → IsKept ls None 0 t room
empty_kept ls t room is = record {
  first = λ _. is;
  ready = tt;
  ended = subst EndedButLast (sym is) tt;
  rising = subst Rising (sym is) tt;
  below = subst (AllBelow 0) (sym is) tt;
}

pub noted_shown : (ls : List Layer) (l k : Layer) (p : Names) (x : Option Element) → k.mark ≡ l.mark → befores_of k.notes ≡ seen.with_before (befores_of l.notes) p x
    → shown_all (ls ++ k ∷ []) ≡ seen.noted (shown_all (ls ++ l ∷ [])) p x
noted_shown ls l k p x is noted =
    shown_append ls (k ∷ []) ∙ (λ i. shown_all ls ++ record { mark = is i; befores = noted i } ∷ [])
    ∙ sym (noted_last (shown_all ls) (shown l) p x) ∙ ap (λ xs. seen.noted xs p x) (sym (shown_append ls (l ∷ [])))

pub marks_shown : (ls : List Layer) (l k : Layer) (t u : Tree) → k.mark ≡ l.mark → seen.undone u (befores_of k.notes) ≡ seen.undone t (befores_of l.notes) → (m : ℕ)
    → seen.tree_of_first u (seen.from_mark m (shown_all (ls ++ k ∷ []))) ≡ seen.tree_of_first t (seen.from_mark m (shown_all (ls ++ l ∷ [])))
marks_shown ls l k t u is same m =
    ap (λ xs. seen.tree_of_first u (seen.from_mark m xs)) (shown_append ls (k ∷ [])) ∙ marks_same t u (shown l) (shown k) is same (shown_all ls) m
    ∙ ap (λ xs. seen.tree_of_first t (seen.from_mark m xs)) (sym (shown_append ls (l ∷ [])))
