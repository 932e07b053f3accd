-- Slots, as the tree that they make.
use Rattle.std.proofs.Common.{◌≡◌, ℕ, zero, suc, arith, ◌+◌, ◌-◌, ◌≤◌, Bool, true, false, cond, if◌then◌else◌, ◌||◌, List, [], ◌∷◌, refl, sym, ap, ◌∙◌, subst}
use Rattle.std.specs.Option.{option_flatten}
use Rattle.std.specs.Prelude.{Option, Some, None, is_some, is_none, not, ◌&&◌}
use Rattle.std.specs.BTreeMap.{is_at}
use Rattle.std.specs.Cmp.{eq_by_cmp_equiv}
use Rattle.std.specs.FinMap.{empty, get, insert, remove, len, get-insert, get-remove, get-empty, len-insert, len-remove, len-empty, empty_of_len, same_map}
use Rattle.std.specs.FinSet as set
use Rattle.std.specs.Ordering.{eq_by_cmp, is_eq}
use Rattle.std.proofs.lemmas.Cmp.{tied_itself}
use Rattle.res_path.specs.Paths.{Names, path_cmp}
use Rattle.res_path.specs.PathLaws.{path_cmp_total}
use Rattle.res_path.proofs.Prefixes.{path_cmp_exact}
use Rattle.ws_elem.specs.declared.element.Element.{Element}
use Rattle.ws_elem.specs.Trees.{Tree, set_at, with_new}
use Rattle.ws_elem.specs.Inside.Slots.{Slots, slot_at, is_among, tree_of, agrees, SetsSlot, SetsRoom, emptied, opened, filled_by, closed, is_empty_slot, IsKept}
use Rattle.ws_elem.proofs.Cuts.{same_at}

-- ---- what is at a path

pub get-set_at : (t : Tree) (p : Names) (x : Option Element) (q : Names) → get (set_at t p x) q ≡ cond (eq_by_cmp path_cmp q p) x (get t q)
get-set_at t p None q = get-remove path_cmp_total t p q
get-set_at t p (Some e) q = get-insert path_cmp_total t p e q

joins : (b : Bool) (x : Option Element) (y : Option (Option Element)) → cond b x (option_flatten y) ≡ option_flatten (cond b (Some x) y)
joins true x y = refl
joins false x y = refl

pub get-tree_of : (slots : Slots) (q : Names) → get (tree_of slots) q ≡ option_flatten (slot_at slots q)
get-tree_of [] q = get-empty path_cmp q
get-tree_of (s ∷ slots) q =
    get-set_at (tree_of slots) s.0 s.1 q ∙ ap (cond (eq_by_cmp path_cmp q s.0) s.1) (get-tree_of slots q) ∙ joins (eq_by_cmp path_cmp q s.0) s.1 (slot_at slots q)

pub symm : (p q : Names) → is_at (path_cmp p) q ≡ eq_by_cmp path_cmp q p
symm p q = (eq_by_cmp_equiv path_cmp_total).symm p q

flatten_cond : (b : Bool) (x y : Option (Option Element)) → option_flatten (cond b x y) ≡ cond b (option_flatten x) (option_flatten y)
flatten_cond true x y = refl
flatten_cond false x y = refl

-- slots that differ at one path make trees that differ there
pub one_set : (old new : Slots) (p : Names) (slot : Option (Option Element)) → SetsSlot old new p slot → tree_of new ≡ set_at (tree_of old) p (option_flatten slot)
one_set old new p slot h = same_map path_cmp_total path_cmp_exact _ _ (λ q.
    get-tree_of new q ∙ ap option_flatten (h q) ∙ flatten_cond (is_at (path_cmp p) q) slot (slot_at old q)
    ∙ (λ i. cond (symm p q i) (option_flatten slot) (sym (get-tree_of old q) i))
    ∙ sym (get-set_at (tree_of old) p (option_flatten slot) q))

-- slots that hold the same elements make the same tree
pub none_set : (old new : Slots) (p : Names) (slot : Option (Option Element)) → SetsSlot old new p slot → option_flatten slot ≡ option_flatten (slot_at old p) → tree_of new ≡ tree_of old
none_set old new p slot h g = same_map path_cmp_total path_cmp_exact _ _ (λ q.
    get-tree_of new q ∙ ap option_flatten (h q) ∙ by q (is_at (path_cmp p) q) refl ∙ sym (get-tree_of old q))
  where
    by : (q : Names) (b : Bool) → is_at (path_cmp p) q ≡ b → option_flatten (cond b slot (slot_at old q)) ≡ option_flatten (slot_at old q)
    by q true i = g ∙ ap (λ x. option_flatten (slot_at old x)) (same_at p q i)
    by q false i = refl

-- ---- slots and room

-- what is told of each path is told of one
at_one : {X : Type 0} (f : Names → X) (p q : Names) → f q ≡ cond (is_at (path_cmp p) q) (f p) (f q)
at_one f p q = by (is_at (path_cmp p) q) refl
  where
    by : (b : Bool) → is_at (path_cmp p) q ≡ b → f q ≡ cond b (f p) (f q)
    by true h = sym (ap f (same_at p q h))
    by false h = refl

abbrev Agree : Slots → List Names → Type 0
Agree slots room = (q : Names) → agrees (slot_at slots q) (is_among room q) ≡ true

pub agree_after : (slots now : Slots) (room left : List Names) (p : Names) (slot : Option (Option Element)) (has : Bool)
    → SetsSlot slots now p slot → SetsRoom room left p has → agrees slot has ≡ true → Agree slots room → Agree now left
agree_after slots now room left p slot has h g a all q = (λ i. agrees (h q i) (g q i)) ∙ by (is_at (path_cmp p) q)
  where
    by : (b : Bool) → agrees (cond b slot (slot_at slots q)) (cond b has (is_among room q)) ≡ true
    by true = a
    by false = all q

-- the room stays
pub agree_slot : (slots now : Slots) (room : List Names) (p : Names) (slot : Option (Option Element))
    → SetsSlot slots now p slot → agrees slot (is_among room p) ≡ true → Agree slots room → Agree now room
agree_slot slots now room p slot h a all = agree_after slots now room room p slot (is_among room p) h (at_one (is_among room) p) a all

-- the slots stay
pub agree_room : (slots : Slots) (room left : List Names) (p : Names) (has : Bool)
    → SetsRoom room left p has → agrees (slot_at slots p) has ≡ true → Agree slots room → Agree slots left
agree_room slots room left p has g a all = agree_after slots slots room left p (slot_at slots p) has (at_one (slot_at slots) p) g a all

-- a path with room has a slot
pub has_slot : (slot : Option (Option Element)) → agrees slot true ≡ true → is_some slot ≡ true
has_slot None h = cc
has_slot (Some x) h = refl

-- a path with an empty slot has room
pub empty_slot : (has : Bool) → agrees (Some None) has ≡ true → has ≡ true
empty_slot has h = h

-- ---- the set of paths with room

pub has-room : (room : List Names) (q : Names) → set.contains (set.from_list {R = path_cmp} room) q ≡ is_among room q
has-room room q = set.contains-from_list path_cmp_total room q

pub room_added : (room left : List Names) (p : Names) → SetsRoom room left p true → set.from_list {R = path_cmp} left ≡ set.insert (set.from_list room) p
room_added room left p h = set.same_set path_cmp_total path_cmp_exact _ _ (λ q.
    has-room left q ∙ h q ∙ by (is_at (path_cmp p) q) (is_among room q)
    ∙ (λ i. symm p q i || sym (has-room room q) i) ∙ sym (set.contains-insert path_cmp_total (set.from_list room) p q))
  where
    by : (b c : Bool) → cond b true c ≡ (b || c)
    by true c = refl
    by false c = refl

pub room_same : (room left : List Names) → ((q : Names) → is_among left q ≡ is_among room q) → set.from_list {R = path_cmp} left ≡ set.from_list room
room_same room left h = set.same_set path_cmp_total path_cmp_exact _ _ (λ q. has-room left q ∙ h q ∙ sym (has-room room q))

-- ---- what is kept after a change

module _ (slots now : Slots) (room : List Names) (n : ℕ) (p : Names) where
  held : (x : Option Element) → option_flatten (slot_at slots p) ≡ x → is_some (get (tree_of slots) p) ≡ is_some x
  held x h = ap is_some (get-tree_of slots p ∙ h)

  pub after_put : (e : Element) → SetsSlot slots now p (Some (Some e)) → tree_of now ≡ insert (tree_of slots) p e
  after_put e h = one_set slots now p (Some (Some e)) h

  pub kept_new : (e : Element) → IsKept slots room n → SetsSlot slots now p (Some (Some e)) → option_flatten (slot_at slots p) ≡ None → IsKept now room (n + 1)
  kept_new e k h g = record {
    roomy = agree_slot slots now room p (Some (Some e)) h refl k.roomy;
    counted = ap (λ m. m + 1) k.counted ∙ sym (ap len (after_put e h) ∙ len-insert path_cmp_total (tree_of slots) p e ∙ ap (λ b. cond b (len (tree_of slots)) (len (tree_of slots) + 1)) (held None g));
  }

  pub kept_over : (e x : Element) → IsKept slots room n → SetsSlot slots now p (Some (Some e)) → option_flatten (slot_at slots p) ≡ Some x → IsKept now room n
  kept_over e x k h g = record {
    roomy = agree_slot slots now room p (Some (Some e)) h refl k.roomy;
    counted = k.counted ∙ sym (ap len (after_put e h) ∙ len-insert path_cmp_total (tree_of slots) p e ∙ ap (λ b. cond b (len (tree_of slots)) (len (tree_of slots) + 1)) (held (Some x) g));
  }

  gone : (b : Bool) → option_flatten (emptied b) ≡ None
  gone true = refl
  gone false = refl

  fair : (b : Bool) → agrees (emptied b) b ≡ true
  fair true = refl
  fair false = refl

  pub after_take : SetsSlot slots now p (emptied (is_among room p)) → tree_of now ≡ remove (tree_of slots) p
  after_take h = one_set slots now p (emptied (is_among room p)) h ∙ ap (set_at (tree_of slots) p) (gone (is_among room p))

  count_after : SetsSlot slots now p (emptied (is_among room p)) → (x : Option Element) → option_flatten (slot_at slots p) ≡ x
      → len (tree_of now) ≡ cond (is_some x) (len (tree_of slots) - 1) (len (tree_of slots))
  count_after h x g = ap len (after_take h) ∙ len-remove path_cmp_total (tree_of slots) p ∙ ap (λ b. cond b (len (tree_of slots) - 1) (len (tree_of slots))) (held x g)

  pub kept_taken : (x : Element) → IsKept slots room n → SetsSlot slots now p (emptied (is_among room p)) → option_flatten (slot_at slots p) ≡ Some x → IsKept now room (n - 1)
  kept_taken x k h g = record {
    roomy = agree_slot slots now room p (emptied (is_among room p)) h (fair (is_among room p)) k.roomy;
    counted = ap (λ m. m - 1) k.counted ∙ sym (count_after h (Some x) g);
  }

  pub kept_none : IsKept slots room n → SetsSlot slots now p (emptied (is_among room p)) → option_flatten (slot_at slots p) ≡ None → IsKept now room n
  kept_none k h g = record {
    roomy = agree_slot slots now room p (emptied (is_among room p)) h (fair (is_among room p)) k.roomy;
    counted = k.counted ∙ sym (count_after h None g);
  }

  same_opened : (slot : Option (Option Element)) → option_flatten (opened slot) ≡ option_flatten slot
  same_opened None = refl
  same_opened (Some x) = refl

  same_closed : (slot : Option (Option Element)) → option_flatten (closed slot) ≡ option_flatten slot
  same_closed None = refl
  same_closed (Some None) = refl
  same_closed (Some (Some e)) = refl

  pub after_open : SetsSlot slots now p (opened (slot_at slots p)) → tree_of now ≡ tree_of slots
  after_open h = none_set slots now p (opened (slot_at slots p)) h (same_opened (slot_at slots p))

  pub after_close : SetsSlot slots now p (closed (slot_at slots p)) → tree_of now ≡ tree_of slots
  after_close h = none_set slots now p (closed (slot_at slots p)) h (same_closed (slot_at slots p))

  pub kept_open : (left : List Names) → IsKept slots room n → SetsSlot slots now p (opened (slot_at slots p)) → SetsRoom room left p true → IsKept now left n
  kept_open left k h g = record {
    roomy = agree_after slots now room left p (opened (slot_at slots p)) true h g (by (slot_at slots p)) k.roomy;
    counted = k.counted ∙ ap len (sym (after_open h));
  }
    where
      by : (slot : Option (Option Element)) → agrees (opened slot) true ≡ true
      by None = refl
      by (Some None) = refl
      by (Some (Some e)) = refl

  pub kept_close : (left : List Names) → IsKept slots room n → SetsSlot slots now p (closed (slot_at slots p)) → SetsRoom room left p false → IsKept now left n
  kept_close left k h g = record {
    roomy = agree_after slots now room left p (closed (slot_at slots p)) false h g (by (slot_at slots p)) k.roomy;
    counted = k.counted ∙ ap len (sym (after_close h));
  }
    where
      by : (slot : Option (Option Element)) → agrees (closed slot) false ≡ true
      by None = refl
      by (Some None) = refl
      by (Some (Some e)) = refl

  pub after_fill : (e : Element) → SetsSlot slots now p (filled_by e (slot_at slots p)) → tree_of now ≡ with_new (tree_of slots) p e
  after_fill e h = by (slot_at slots p) refl
    where
      put_in : (slot : Option (Option Element)) → slot_at slots p ≡ slot → option_flatten slot ≡ None → option_flatten (filled_by e slot) ≡ Some e
          → tree_of now ≡ with_new (tree_of slots) p e
      put_in slot i g f =
          one_set slots now p (filled_by e (slot_at slots p)) h ∙ ap (λ s. set_at (tree_of slots) p (option_flatten (filled_by e s))) i
          ∙ ap (set_at (tree_of slots) p) f
          ∙ sym (ap (λ b. if b then tree_of slots else insert (tree_of slots) p e) (held None (ap option_flatten i ∙ g)))

      by : (slot : Option (Option Element)) → slot_at slots p ≡ slot → tree_of now ≡ with_new (tree_of slots) p e
      by None i = put_in None i refl refl
      by (Some None) i = put_in (Some None) i refl refl
      by (Some (Some x)) i =
          none_set slots now p (filled_by e (slot_at slots p)) h (ap (λ s. option_flatten (filled_by e s)) i ∙ sym (ap option_flatten i))
          ∙ sym (ap (λ b. if b then tree_of slots else insert (tree_of slots) p e) (held (Some x) (ap option_flatten i)))

  roomy_fill : (e : Element) (left : List Names) → Agree slots room → SetsSlot slots now p (filled_by e (slot_at slots p)) → SetsRoom room left p true → Agree now left
  roomy_fill e left k h g = agree_after slots now room left p (filled_by e (slot_at slots p)) true h g (by (slot_at slots p)) k
    where
      by : (slot : Option (Option Element)) → agrees (filled_by e slot) true ≡ true
      by None = refl
      by (Some None) = refl
      by (Some (Some x)) = refl

  count_fill : (e : Element) (b : Bool) → SetsSlot slots now p (filled_by e (slot_at slots p)) → b ≡ is_none (option_flatten (slot_at slots p))
      → len (tree_of now) ≡ cond b (len (tree_of slots) + 1) (len (tree_of slots))
  count_fill e b h g = ap len (after_fill e h) ∙ by (option_flatten (slot_at slots p)) refl b g
    where
      by : (x : Option Element) → option_flatten (slot_at slots p) ≡ x → (b : Bool) → b ≡ is_none (option_flatten (slot_at slots p))
          → len (with_new (tree_of slots) p e) ≡ cond b (len (tree_of slots) + 1) (len (tree_of slots))
      by None i b g =
          ap (λ z. len (if z then tree_of slots else insert (tree_of slots) p e)) (held None i) ∙ len-insert path_cmp_total (tree_of slots) p e
          ∙ ap (λ z. cond z (len (tree_of slots)) (len (tree_of slots) + 1)) (held None i)
          ∙ ap (λ z. cond z (len (tree_of slots) + 1) (len (tree_of slots))) (sym (g ∙ ap is_none i))
      by (Some x) i b g =
          ap (λ z. len (if z then tree_of slots else insert (tree_of slots) p e)) (held (Some x) i)
          ∙ ap (λ z. cond z (len (tree_of slots) + 1) (len (tree_of slots))) (sym (g ∙ ap is_none i))

  pub kept_filled : (e : Element) (left : List Names) → IsKept slots room n → SetsSlot slots now p (filled_by e (slot_at slots p)) → SetsRoom room left p true
      → true ≡ is_none (option_flatten (slot_at slots p)) → IsKept now left (n + 1)
  kept_filled e left k h g b = record {
    roomy = roomy_fill e left k.roomy h g;
    counted = ap (λ m. m + 1) k.counted ∙ sym (count_fill e true h b);
  }

  pub kept_unfilled : (e : Element) (left : List Names) → IsKept slots room n → SetsSlot slots now p (filled_by e (slot_at slots p)) → SetsRoom room left p true
      → false ≡ is_none (option_flatten (slot_at slots p)) → IsKept now left n
  kept_unfilled e left k h g b = record {
    roomy = roomy_fill e left k.roomy h g;
    counted = k.counted ∙ sym (count_fill e false h b);
  }

  -- whether there was no element, as the tree tells it
  pub fills_is : is_none (option_flatten (slot_at slots p)) ≡ not (is_some (get (tree_of slots) p))
  fills_is = by (option_flatten (slot_at slots p)) ∙ ap (λ x. not (is_some x)) (sym (get-tree_of slots p))
    where
      by : (x : Option Element) → is_none x ≡ not (is_some x)
      by None = refl
      by (Some x) = refl

  -- a slot that was opened and is closed again, for a path without room
  pub undone : (back : Slots) → Agree slots room → is_among room p ≡ false → SetsSlot slots now p (opened (slot_at slots p)) → SetsSlot now back p (closed (slot_at now p)) → (q : Names) → slot_at back q ≡ slot_at slots q
  undone back a r h g q = g q ∙ (λ i. cond (is_at (path_cmp p) q) (closed (at_p i)) (h q i)) ∙ by (is_at (path_cmp p) q) refl
    where
      at_p : slot_at now p ≡ opened (slot_at slots p)
      at_p = h p ∙ ap (λ o. cond (is_eq o) (opened (slot_at slots p)) (slot_at slots p)) (tied_itself path_cmp_total p)

      shut : (slot : Option (Option Element)) → agrees slot false ≡ true → closed (opened slot) ≡ slot
      shut None i = refl
      shut (Some None) i = cc
      shut (Some (Some e)) i = refl

      by : (b : Bool) → is_at (path_cmp p) q ≡ b → cond b (closed (opened (slot_at slots p))) (cond b (opened (slot_at slots p)) (slot_at slots q)) ≡ slot_at slots q
      by true i = shut (slot_at slots p) (ap (agrees (slot_at slots p)) (sym r) ∙ a p) ∙ ap (slot_at slots) (same_at p q i)
      by false i = refl

pub kept_empty : (slots : Slots) (room : List Names) → slots ≡ [] → room ≡ [] → IsKept slots room 0
kept_empty slots room h g = subst (λ s. IsKept s room 0) (sym h) (subst (λ r. IsKept [] r 0) (sym g) (record {
  roomy = λ p. refl;
  counted = sym (len-empty path_cmp Element);
}))

-- ---- what is found, as the answers of get_at, contains_key and has_room tell it

module _ (slots : Slots) (room : List Names) (p : Names) where
  -- a path with room has a slot
  pub room_has_slot : ((q : Names) → agrees (slot_at slots q) (is_among room q) ≡ true) → is_among room p ≡ true → is_some (slot_at slots p) ≡ true
  room_has_slot a h = has_slot (slot_at slots p) (ap (agrees (slot_at slots p)) (sym h) ∙ a p)

  pub no_slot : slot_at slots p ≡ None → is_some (get (tree_of slots) p) ≡ false
  no_slot h = ap is_some (get-tree_of slots p ∙ ap option_flatten h)

  no_slot_no_room : ((q : Names) → agrees (slot_at slots q) (is_among room q) ≡ true) → slot_at slots p ≡ None → set.contains (set.from_list {R = path_cmp} room) p ≡ false
  no_slot_no_room a h = has-room room p ∙ by (is_among room p) (ap (λ x. agrees x (is_among room p)) (sym h) ∙ a p)
    where
      by : (b : Bool) → agrees None b ≡ true → b ≡ false
      by true g = cc
      by false g = refl

  pub never_none : {X : Type 0} → ((q : Names) → agrees (slot_at slots q) (is_among room q) ≡ true) → slot_at slots p ≡ None → set.contains (set.from_list {R = path_cmp} room) p ≡ true → X
  never_none a h g = absurd (by (sym g ∙ no_slot_no_room a h))
    where
      by : true ≡ false → ⊥
      by h = cc

  pub some_taken : (n : ℕ) (x : Element) → IsKept slots room n → option_flatten (slot_at slots p) ≡ Some x → 1 ≤ n
  some_taken n x k h = by n (λ z. empty_of_len (tree_of slots) (sym k.counted ∙ z))
    where
      there : get (tree_of slots) p ≡ Some x
      there = get-tree_of slots p ∙ h

      some_none : Some x ≡ None → ⊥
      some_none h = cc

      by : (n : ℕ) → (n ≡ 0 → tree_of slots ≡ empty) → 1 ≤ n
      by zero e = absurd (some_none (sym there ∙ ap (λ t. get t p) (e refl) ∙ get-empty path_cmp p))
      by (suc m) e = omega arith

-- ---- one slot

module _ (slots : Slots) (p : Names) where
  pub sets_open : is_some (slot_at slots p) ≡ true → SetsSlot slots slots p (opened (slot_at slots p))
  sets_open h q = at_one (slot_at slots) p q ∙ ap (λ x. cond (is_at (path_cmp p) q) x (slot_at slots q)) (by (slot_at slots p) h)
    where
      by : (slot : Option (Option Element)) → is_some slot ≡ true → slot ≡ opened slot
      by None h = cc
      by (Some x) h = refl

  -- an empty slot is removed, and another stays
  pub sets_closed : (now : Slots) → (is_empty_slot (slot_at slots p) ≡ true → SetsSlot slots now p None) → (is_empty_slot (slot_at slots p) ≡ false → now ≡ slots) → SetsSlot slots now p (closed (slot_at slots p))
  sets_closed now h g = by (slot_at slots p) refl
    where
      by : (slot : Option (Option Element)) → slot_at slots p ≡ slot → (q : Names) → slot_at now q ≡ cond (is_at (path_cmp p) q) (closed slot) (slot_at slots q)
      by None i q = ap (λ s. slot_at s q) (g (ap is_empty_slot i)) ∙ at_one (slot_at slots) p q ∙ ap (λ x. cond (is_at (path_cmp p) q) x (slot_at slots q)) i
      by (Some None) i q = h (ap is_empty_slot i) q
      by (Some (Some e)) i q = ap (λ s. slot_at s q) (g (ap is_empty_slot i)) ∙ at_one (slot_at slots) p q ∙ ap (λ x. cond (is_at (path_cmp p) q) x (slot_at slots q)) i

-- room that stays
pub sets_no_room : (room : List Names) (p : Names) → SetsRoom room room p (is_among room p)
sets_no_room room p = at_one (is_among room) p

-- ---- the sets of paths

-- a path that has room already
pub room_again : (room : List Names) (p : Names) → is_among room p ≡ true → set.from_list {R = path_cmp} room ≡ set.insert (set.from_list room) p
room_again room p h = room_added room room p (λ q. at_one (is_among room) p q ∙ ap (λ x. cond (is_at (path_cmp p) q) x (is_among room q)) h)

pub kept_undone : (slots now back : Slots) (room left : List Names) (n : ℕ) (p : Names) → IsKept slots room n → is_among room p ≡ false
    → SetsSlot slots now p (opened (slot_at slots p)) → SetsSlot now back p (closed (slot_at now p)) → left ≡ room → IsKept back left n × (tree_of back ≡ tree_of slots)
kept_undone slots now back room left n p k r h g e =
    let same = undone slots now room n p back k.roomy r h g in
    let trees : tree_of back ≡ tree_of slots = same_slots back same in (
      record {
        roomy = λ q. (λ i. agrees (same q i) (is_among (e i) q)) ∙ k.roomy q;
        counted = k.counted ∙ ap len (sym trees);
      },
      trees,
    )
  where
    same_slots : (back : Slots) → ((q : Names) → slot_at back q ≡ slot_at slots q) → tree_of back ≡ tree_of slots
    same_slots back h = same_map path_cmp_total path_cmp_exact _ _ (λ q. get-tree_of back q ∙ ap option_flatten (h q) ∙ sym (get-tree_of slots q))

-- room that was added and is taken away again
pub room_undone : (room left back : List Names) (p : Names) (added : Bool) → added ≡ not (is_among room p)
    → SetsRoom room left p true → SetsRoom left back p (not added && is_among left p) → (q : Names) → is_among back q ≡ is_among room q
room_undone room left back p added a g h q = h q ∙ (λ i. cond (is_at (path_cmp p) q) (not added && at_p i) (g q i)) ∙ by (is_at (path_cmp p) q) refl
  where
    at_p : is_among left p ≡ true
    at_p = g p ∙ ap (λ o. cond (is_eq o) true (is_among room p)) (tied_itself path_cmp_total p)

    had : (added has : Bool) → added ≡ not has → (not added && true) ≡ has
    had true true h = cc
    had true false h = refl
    had false true h = refl
    had false false h = cc

    by : (b : Bool) → is_at (path_cmp p) q ≡ b → cond b (not added && true) (cond b true (is_among room q)) ≡ is_among room q
    by true i = had added (is_among room p) a ∙ ap (is_among room) (same_at p q i)
    by false i = refl

pub kept_same : (slots now : Slots) (room left : List Names) (n : ℕ) → IsKept slots room n → now ≡ slots → ((q : Names) → is_among left q ≡ is_among room q) → IsKept now left n
kept_same slots now room left n k e h = subst (λ s. IsKept s left n) (sym e) (record {
  roomy = λ q. ap (agrees (slot_at slots q)) (h q) ∙ k.roomy q;
  counted = k.counted;
})

pub kept_cleared : (slots : Slots) (room left : List Names) (n : ℕ) → IsKept slots room n → left ≡ [] → ((q : Names) → agrees (slot_at slots q) false ≡ true) → IsKept slots left n
kept_cleared slots room left n k e h = record {
  roomy = λ q. ap (λ r. agrees (slot_at slots q) (is_among r q)) e ∙ h q;
  counted = k.counted;
}
