-- What is remembered stays so, step by step.
use Rattle.std.proofs.Common.{◌≡◌, ◌⊎◌, inl, inr, ℕ, zero, suc, List, [], ◌∷◌, ◌++◌, length, refl, sym, ap, ◌∙◌, subst}
use Rattle.std.specs.Prelude.{Option, Some, None, is_some, IsSome, IfSome, take, unwrap_or}
use Rattle.std.specs.Option.{option_map}
use Rattle.std.specs.FinMap.{get, insert, remove}
use Rattle.ws_elem.specs.Trees.{Tree}
use Rattle.ws_marks.specs.declared.record.Record.{Record}
use Rattle.ws_marks.specs.declared.state.Replaced.{Replaced}
use Rattle.ws_marks.specs.declared.state.State.{State}
use Rattle.ws_marks.specs.Marked.{IsLast, Marked, saving, set_at, since_begin, undone, unwound, with_kept}
use Rattle.ws_marks.specs.Places.{Place, States, place_of}
use Rattle.ws_marks.proofs.Kept.{replaced_by, undone_last, undone_push}
use Rattle.ws_content.specs.States.{Remembered, with_built, with_told}
use Rattle.ws_content.specs.Inside.Slots.{AreApart, IsIn, Slots, AtStart, AtTold, AtBuilt, AtKept, AtReplaced, number_in, number_of, replaced_at}
use Rattle.ws_content.specs.Inside.Held.{Holds, IsUsed, in_memory, resolved, resolved_states, restated, retreed, seen, tree_of}
use Rattle.ws_content.proofs.Numbers.{built_at, ended_at, kept_at, last_number, let_go_at, put_back_at, taken_at, told_at}
use Rattle.ws_content.proofs.Resolved.{resolved_insert, resolved_remove, resolved_same, states_insert, states_same, stood_after, stood_before}
use Rattle.ws_content.proofs.Slots.{IsFresh, at_there, if_there, leaves, other_than, set, set_apart, set_in, set_left}

in_record : {M : Type 0} (number : M → ℕ) (P : ℕ → Type 0) (o : Option (Record M)) → IfSome (option_map (λ r. number r.tree) o) P → IfSome o (λ r. P (number r.tree))
in_record number P None h = tt
in_record number P (Some r) h = h

-- the state and what stands for its tree
abbrev HasNumber : {M : Type 0} → (M → ℕ) → Option (State M) → ℕ → Type 0
HasNumber {M} number o k = (s : State M) × (x : M) × (o ≡ Some s) × (s.tree ≡ Some x) × (number x ≡ k)

from_state : {M : Type 0} (number : M → ℕ) (o : Option (State M)) (k : ℕ) → number_of number o ≡ Some k → HasNumber number o k
from_state number None k e = cc
from_state {M} number (Some s) k e = by s.tree refl e
  where
    by : (t : Option M) → s.tree ≡ t → option_map number t ≡ Some k → HasNumber number (Some s) k
    by None is e = cc
    by (Some x) is e = (s, x, refl, is, cc)

since_taken : {M : Type 0} (count : ℕ) (o : Option (List (Replaced M))) → since_begin (option_map (take count) o) ≡ take count (since_begin o)
since_taken zero None = refl
since_taken (suc count) None = refl
since_taken count (Some rs) = refl

module _ {M : Type 0} (number : M → ℕ) (start : ℕ) where
  -- a number that isn't in use is none of these
  pub fresh_unused : (f : ℕ → Option Tree) (m : Marked M) (v : Remembered) (n : ℕ) → Holds number start f m v → f n ≡ None → IsUsed number start m n → ⊥
  fresh_unused f m v n h none used = other_than f n n (h.held.there n used) none refl

  -- the tree of a record is in use
  pub built_used : (m : Marked M) (place : Place) (r : Record M) → get m.built place ≡ Some r → IsUsed number start m (number r.tree)
  built_used m place r e = (AtBuilt place, ap (option_map (λ r. number r.tree)) e)

  -- the tree of a state is in use
  pub kept_used : (m : Marked M) (q : List ℕ) (s : State M) (x : M) → get m.kept q ≡ Some s → s.tree ≡ Some x → IsUsed number start m (number x)
  kept_used m q s x e is = (AtKept q, ap (number_of number) e ∙ ap (option_map number) is)

  replaced_used : (m : Marked M) (rs : List (Replaced M)) (n : ℕ) (s : State M) (x : M) → since_begin m.replaced ≡ rs → replaced_at rs n ≡ Some s → s.tree ≡ Some x → IsUsed number start m (number x)
  replaced_used m rs n s x since e is = (AtReplaced n, ap (λ rs. number_of number (replaced_at rs n)) since ∙ ap (number_of number) e ∙ ap (option_map number) is)

  -- also of one that was kept when so many had been replaced
  pub before_used : (count : ℕ) (m : Marked M) (q : List ℕ) (s : State M) (x : M) → get (unwound count m).kept q ≡ Some s → s.tree ≡ Some x → IsUsed number start m (number x)
  before_used count m q s x e is = elim (stood_after count m.kept (since_begin m.replaced) q s e) as (λ _. IsUsed number start m (number x)) [
    | inl here ↦ kept_used m q s x here is
    | inr there ↦ replaced_used m (since_begin m.replaced) (there.0) s x refl there.1 is
  ]

  -- all that was in use when so many had been replaced is
  pub unwound_used : (count : ℕ) (m : Marked M) (k : ℕ) → IsUsed number start (unwound count m) k → IsUsed number start m k
  unwound_used count m k (AtStart, e) = (AtStart, e)
  unwound_used count m k (AtTold, e) = (AtTold, e)
  unwound_used count m k (AtBuilt place, e) = (AtBuilt place, e)
  unwound_used count m k (AtKept q, e) =
      let one = from_state number (get (unwound count m).kept q) k e in
      subst (IsUsed number start m) one.4 (before_used count m q (one.0) (one.1) one.2 one.3)
  unwound_used count m k (AtReplaced n, e) =
      let one = from_state number (replaced_at (since_begin (unwound count m).replaced) n) k e in
      let there = stood_before count (since_begin m.replaced) n (one.0) (ap (λ rs. replaced_at rs n) (sym (since_taken count m.replaced)) ∙ one.2) in
      subst (IsUsed number start m) one.4 (replaced_used m (since_begin m.replaced) n (one.0) (one.1) refl there one.3)

  -- other trees may come and go
  pub stays : (f g : ℕ → Option Tree) (m : Marked M) (v : Remembered) → ((k : ℕ) → IsUsed number start m k → g k ≡ f k) → Holds number start f m v → Holds number start g m v
  stays f g m v same h = record {
    held = record { there = λ k u. ap is_some (same k u) ∙ h.held.there k u; apart = h.held.apart };
    seen = (λ i. record { start = in_memory (p i); told = in_memory (q i); built = b i; kept = k i; before = before m.replaced refl i }) ∙ h.seen;
  }
    where
      p : g start ≡ f start
      p = same start (AtStart, refl)

      q : g (number m.told) ≡ f (number m.told)
      q = same (number m.told) (AtTold, refl)

      b : resolved (tree_of number start g) m.built ≡ resolved (tree_of number start f) m.built
      b = resolved_same (tree_of number start g) (tree_of number start f) m.built (λ place. if_there (λ r. tree_of number start g r.tree ≡ tree_of number start f r.tree) (get m.built place)
          (λ r e. ap in_memory (same (number r.tree) (AtBuilt place, ap (option_map (λ r. number r.tree)) e))))

      k : resolved_states (tree_of number start g) m.kept ≡ resolved_states (tree_of number start f) m.kept
      k = states_same (tree_of number start g) (tree_of number start f) m.kept (λ q s x e is. ap in_memory (same (number x) (kept_used m q s x e is)))

      before : (o : Option (List (Replaced M))) → m.replaced ≡ o
          → option_map (λ rs. resolved_states (tree_of number start g) (undone m.kept rs)) o ≡ option_map (λ rs. resolved_states (tree_of number start f) (undone m.kept rs)) o
      before None e = refl
      before (Some rs) e = ap Some (states_same (tree_of number start g) (tree_of number start f) (undone m.kept rs) (λ q s x at is. ap in_memory (same (number x) (used q s x at is))))
        where
          used : (q : List ℕ) (s : State M) (x : M) → get (undone m.kept rs) q ≡ Some s → s.tree ≡ Some x → IsUsed number start m (number x)
          used q s x at is = before_used 0 m q s x (ap (λ o. get (undone m.kept (since_begin o)) q) e ∙ at) is

  -- ---- what was told

  -- a tree that is remembered is told
  pub told_holds : (f : ℕ → Option Tree) (m : Marked M) (v : Remembered) (x : M) (t : Tree) → f (number x) ≡ Some t → (IsUsed number start m (number x) → ⊥)
      → Holds number start f m v → Holds number start f (record m { told = x }) (with_told v t)
  told_holds f m v x t is unused h = record {
    held = subst (AreApart f) (sym (told_at number start m x)) (set_apart (number_in number start m) AtTold (Some (number x)) f (ap is_some is, unused) h.held);
    seen = λ i. with_told (h.seen i) (in_memory (is i));
  }

  -- the one that was told isn't used any more
  pub untold : (f : ℕ → Option Tree) (m : Marked M) (v : Remembered) (x : M) → (IsUsed number start m (number x) → ⊥) → Holds number start f m v
      → IsUsed number start (record m { told = x }) (number m.told) → ⊥
  untold f m v x unused h u = set_left (number_in number start m) AtTold (Some (number x)) f unused h.held (subst (λ z. IsIn z (number m.told)) (told_at number start m x) u)

  -- ---- what was built

  -- the record's tree is remembered, under a number that isn't used
  pub record IsNew (f : ℕ → Option Tree) (m : Marked M) (r : Record M) (t : Tree) : Type 0 where
    pub is : f (number r.tree) ≡ Some t
    pub unused : IsUsed number start m (number r.tree) → ⊥

  pub put_used : (f : ℕ → Option Tree) (m : Marked M) (r : Record M) (t : Tree) → IsNew f m r t → (k : ℕ)
      → IsUsed number start (record m { built = insert m.built (place_of r) r }) k → (k ≡ number r.tree) ⊎ IsUsed number start m k
  put_used f m r t new k u =
      elim (set_in (number_in number start m) (AtBuilt (place_of r)) (Some (number r.tree)) k (subst (λ z. IsIn z k) (built_at number start m r) u)) as (λ _. (k ≡ number r.tree) ⊎ IsUsed number start m k)
      [ inl e ↦ inl (cc) | inr old ↦ inr old ]

  -- a record is set
  pub put_holds : (f : ℕ → Option Tree) (m : Marked M) (v : Remembered) (r : Record M) (t : Tree) → IsNew f m r t → Holds number start f m v
      → Holds number start f (record m { built = insert m.built (place_of r) r }) (with_built v (insert v.built (place_of r) (retreed (λ _. t) r)))
  put_holds f m v r t new h = record {
    held = subst (AreApart f) (sym (built_at number start m r)) (set_apart (number_in number start m) (AtBuilt (place_of r)) (Some (number r.tree)) f (ap is_some new.is, new.unused) h.held);
    seen =
        let b = resolved_insert (tree_of number start f) m.built (place_of r) r ∙ (λ i. insert (resolved (tree_of number start f) m.built) (place_of r) (retreed (λ _. in_memory (new.is i)) r)) in
        (λ i. with_built (seen number start f m) (b i)) ∙ (λ i. with_built (h.seen i) (insert (h.seen i).built (place_of r) (retreed (λ _. t) r)));
  }

  -- the record in whose place it came isn't used any more
  pub put_over : (f : ℕ → Option Tree) (m : Marked M) (v : Remembered) (r : Record M) (t : Tree) → IsNew f m r t → Holds number start f m v
      → IfSome (get m.built (place_of r)) (λ q. IsUsed number start (record m { built = insert m.built (place_of r) r }) (number q.tree) → ⊥)
  put_over f m v r t new h = in_record number (λ k. IsUsed number start (record m { built = insert m.built (place_of r) r }) k → ⊥) (get m.built (place_of r))
      (subst (λ z. IfSome (number_in number start m (AtBuilt (place_of r))) (λ k. IsIn z k → ⊥)) (sym (built_at number start m r))
      (set_left (number_in number start m) (AtBuilt (place_of r)) (Some (number r.tree)) f new.unused h.held))

  -- ---- what is forgotten

  -- a record is taken
  pub taken_holds : (f : ℕ → Option Tree) (m : Marked M) (v : Remembered) (place : Place) → Holds number start f m v
      → Holds number start f (record m { built = remove m.built place }) (with_built v (remove v.built place))
  taken_holds f m v place h = record {
    held = subst (AreApart f) (sym (taken_at number start m place)) (set_apart (number_in number start m) (AtBuilt place) None f tt h.held);
    seen = (λ i. with_built (seen number start f m) (resolved_remove (tree_of number start f) m.built place i)) ∙ (λ i. with_built (h.seen i) (remove (h.seen i).built place));
  }

  -- it isn't used any more
  pub taken_unused : (f : ℕ → Option Tree) (m : Marked M) (v : Remembered) (place : Place) (r : Record M) → get m.built place ≡ Some r → Holds number start f m v
      → IsUsed number start (record m { built = remove m.built place }) (number r.tree) → ⊥
  taken_unused f m v place r e h u = at_there (λ k. IsIn (set (number_in number start m) (AtBuilt place) None) k → ⊥) (number_in number start m (AtBuilt place)) (number r.tree) (ap (option_map (λ r. number r.tree)) e)
      (set_left (number_in number start m) (AtBuilt place) None f tt h.held) (subst (λ z. IsIn z (number r.tree)) (taken_at number start m place) u)

  -- ---- what participants keep

  abbrev now : Marked M → Slots
  now m = number_in number start m

  -- the state's tree is remembered, if it has one, under a number that isn't used
  abbrev pub IsNewState : (ℕ → Option Tree) → Marked M → State M → Type 0
  IsNewState f m s = IsFresh f (now m) (option_map number s.tree)

  -- a state is kept
  pub kept_holds : (f : ℕ → Option Tree) (m : Marked M) (v : Remembered) (s : State M) (rs : List (Replaced M)) → m.replaced ≡ Some rs → IsNewState f m s → Holds number start f m v
      → Holds number start f (with_kept m s) (record v { kept = insert v.kept s.participant (restated (tree_of number start f) s) })
  kept_holds f m v s rs is new h = record {
    held = subst (AreApart f) (sym (kept_at number start m s rs is)) (set_apart moved (AtKept s.participant) (option_map number s.tree) f fresh apart);
    seen = (λ i. record (seen number start f m) { kept = states_insert (tree_of number start f) m.kept s.participant s i; before = before i })
        ∙ (λ i. record (h.seen i) { kept = insert (h.seen i).kept s.participant (restated (tree_of number start f) s) });
  }
    where
      before : option_map (λ rs. resolved_states (tree_of number start f) (undone (insert m.kept s.participant s) rs)) (with_kept m s).replaced
          ≡ option_map (λ rs. resolved_states (tree_of number start f) (undone m.kept rs)) m.replaced
      before =
          ap (λ o. option_map (λ rs. resolved_states (tree_of number start f) (undone (insert m.kept s.participant s) rs)) (option_map (λ rs. rs ++ replaced_by m.kept s ∷ []) o)) is
          ∙ ap (λ (ss : States M). Some (resolved_states (tree_of number start f) ss)) (undone_push m.kept s rs)
          ∙ ap (option_map (λ rs. resolved_states (tree_of number start f) (undone m.kept rs))) (sym is)

      left : Slots
      left = set (now m) (AtKept s.participant) None

      moved : Slots
      moved = set left (AtReplaced (length rs)) (now m (AtKept s.participant))

      apart : AreApart f moved
      apart = set_apart left (AtReplaced (length rs)) (now m (AtKept s.participant)) f (leaves f (now m) (AtKept s.participant) h.held) (set_apart (now m) (AtKept s.participant) None f tt h.held)

      unused : (k : ℕ) → (IsUsed number start m k → ⊥) → IsIn moved k → ⊥
      unused k not u = elim (set_in left (AtReplaced (length rs)) (now m (AtKept s.participant)) k u) as (λ _. ⊥) [
        | inl e ↦ not (AtKept s.participant, e)
        | inr there ↦ elim (set_in (now m) (AtKept s.participant) None k there) as (λ _. ⊥) [ inl e ↦ cc | inr old ↦ not old ]
      ]

      fresh : IsFresh f moved (option_map number s.tree)
      fresh = if_there (λ k. IsSome (f k) × (IsIn moved k → ⊥)) (option_map number s.tree) (λ k e.
          let one = at_there (λ k. IsSome (f k) × (IsUsed number start m k → ⊥)) (option_map number s.tree) k e new in
          (one.0, unused k one.1))

  module _ (f : ℕ → Option Tree) (m : Marked M) (v : Remembered) (count : ℕ) (r : Replaced M) (rest : List (Replaced M)) (last : IsLast count m r rest) (h : Holds number start f m v) where
    -- as all is where what was replaced last isn't put back
    abbrev without_last : Slots
    without_last = set (now m) (AtReplaced (length rest)) None

    without_last_apart : AreApart f without_last
    without_last_apart = set_apart (now m) (AtReplaced (length rest)) None f tt h.held

    -- what was replaced last is put back
    pub put_back_holds : Holds number start f (record m { kept = set_at m.kept r.participant r.before; replaced = Some rest })
        (record v { kept = resolved_states (tree_of number start f) (set_at m.kept r.participant r.before) })
    put_back_holds = record {
      held = subst (AreApart f) (sym (put_back_at number start m count r rest last))
          (set_apart without_last (AtKept r.participant) (now m (AtReplaced (length rest))) f (leaves f (now m) (AtReplaced (length rest)) h.held) without_last_apart);
      seen = λ i. record (h.seen i) { kept = resolved_states (tree_of number start f) (set_at m.kept r.participant r.before); before = (before ∙ ap (λ (z : Remembered). z.before) h.seen) i };
    }
      where
        before : Some (resolved_states (tree_of number start f) (undone (set_at m.kept r.participant r.before) rest)) ≡ option_map (λ rs. resolved_states (tree_of number start f) (undone m.kept rs)) m.replaced
        before =
            ap (λ (ss : States M). Some (resolved_states (tree_of number start f) ss)) (sym (undone_last m.kept rest r))
            ∙ ap (option_map (λ rs. resolved_states (tree_of number start f) (undone m.kept rs))) (sym last.all)

    -- the tree of the state that goes isn't used any more
    pub put_back_unused : (k : ℕ) → number_of number (get m.kept r.participant) ≡ Some k → IsUsed number start (record m { kept = set_at m.kept r.participant r.before; replaced = Some rest }) k → ⊥
    put_back_unused k e u = at_there (λ k. IsIn (set without_last (AtKept r.participant) (now m (AtReplaced (length rest)))) k → ⊥) (without_last (AtKept r.participant)) k e
        (set_left without_last (AtKept r.participant) (now m (AtReplaced (length rest))) f moved without_last_apart)
        (subst (λ z. IsIn z k) (put_back_at number start m count r rest last) u)
      where
        moved : IfSome (now m (AtReplaced (length rest))) (λ k. IsIn without_last k → ⊥)
        moved = set_left (now m) (AtReplaced (length rest)) None f tt h.held

    -- what was replaced last is let go
    pub let_go_holds : Holds number start f (record m { replaced = Some rest }) (record v { before = Some (resolved_states (tree_of number start f) (undone m.kept rest)) })
    let_go_holds = record {
      held = subst (AreApart f) (sym (let_go_at number start m count r rest last)) without_last_apart;
      seen = λ i. record (h.seen i) { before = Some (resolved_states (tree_of number start f) (undone m.kept rest)) };
    }

    -- its tree isn't used any more
    pub let_go_unused : (k : ℕ) → number_of number r.before ≡ Some k → IsUsed number start (record m { replaced = Some rest }) k → ⊥
    let_go_unused k e u = at_there (λ k. IsIn without_last k → ⊥) (now m (AtReplaced (length rest))) k (last_number number start m count r rest last ∙ e)
        (set_left (now m) (AtReplaced (length rest)) None f tt h.held)
        (subst (λ z. IsIn z k) (let_go_at number start m count r rest last) u)

  -- a save begins
  pub begun_holds : (f : ℕ → Option Tree) (m : Marked M) (v : Remembered) → Holds number start f m v → Holds number start f (saving m) (record v { before = Some (unwrap_or v.before v.kept) })
  begun_holds f m v h = record {
    held = h.held;
    seen = (λ i. record (seen number start f m) { before = Some (before m.replaced i) }) ∙ (λ i. record (h.seen i) { before = Some (unwrap_or (h.seen i).before (h.seen i).kept) });
  }
    where
      before : (o : Option (List (Replaced M))) → resolved_states (tree_of number start f) (undone m.kept (since_begin o))
          ≡ unwrap_or (option_map (λ rs. resolved_states (tree_of number start f) (undone m.kept rs)) o) (resolved_states (tree_of number start f) m.kept)
      before None = refl
      before (Some rs) = refl

  -- a save ends, in which nothing that was replaced is left
  pub over_holds : (f : ℕ → Option Tree) (m : Marked M) (v : Remembered) → since_begin m.replaced ≡ [] → Holds number start f m v → Holds number start f (record m { replaced = None }) (record v { before = None })
  over_holds f m v none h = record {
    held = subst (AreApart f) (sym (ended_at number start m none)) h.held;
    seen = λ i. record (h.seen i) { before = None };
  }
