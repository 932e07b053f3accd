-- What participants keep, as trees are remembered for it and given up.
use Rattle.std.proofs.Common.{◌≡◌, ◌≢◌, ℕ, ◌<◌, ◌≤◌, Bool, true, false, List, [], ◌∷◌, ◌++◌, length, length-append, arith, refl, sym, ap, ◌∙◌, subst}
use Rattle.std.specs.Prelude.{Option, Some, None, is_some, IsSome, IfSome, Result, Ok, Err, OnOk, OnErr, if◌then◌else◌, unwrap_or}
use Rattle.std.specs.Option.{option_map}
use Rattle.std.specs.FinMap.{insert}
use Rattle.ws_elem.specs.Trees.{Tree}
use Rattle.save_kind.specs.declared.state.PartState.{PartState}
use Rattle.ws_marks.specs.declared.state.Replaced.{Replaced}
use Rattle.ws_marks.specs.declared.state.State.{State}
use Rattle.ws_marks.specs.Marked.{IsPutBack, IsTaken, Marked, saving, set_at, since_begin, undone, unwound, with_kept}
use Rattle.ws_marks.specs.Places.{States}
use Rattle.ws_marks.proofs.Kept.{replaced_by}
use Rattle.ws_marks.proofs.Unwound.{unwound_less, unwound_more, unwound_none}
use Rattle.ws_content.specs.States.{Remembered}
use Rattle.ws_content.specs.Saves.{kept_before, kept_with, save_begun, state_of, states_kept}
use Rattle.ws_content.specs.Inside.Slots.{AtKept, AtReplaced, number_of}
use Rattle.ws_content.specs.Inside.Held.{Holds, IsUsed, StaysBehind, Takes, in_memory, resolved_states, restated, tree_of}
use Rattle.ws_content.proofs.Holding.{IsNewState, begun_holds, kept_holds, kept_used, let_go_holds, let_go_unused, put_back_holds, put_back_unused, stays, unwound_used}
use Rattle.ws_content.proofs.Numbers.{last_number}
use Rattle.ws_content.proofs.Resolved.{states_same}
use Rattle.ws_content.proofs.Slots.{if_there, other_than}
use Rattle.ws_content.proofs.Steps.{Known, grown, grown_ready}

pub kept_with_none : (t : Tree) (kept : States Tree) (states : List (List ℕ × PartState)) → length states ≡ 0 → kept_with t kept states ≡ kept
kept_with_none t kept [] e = refl
kept_with_none t kept (p ∷ ps) e = absurd (omega (arith, e))

-- ---- states that stay behind

module _ {M : Type 0} (number : M → ℕ) (start count : ℕ) where
  pub behind_itself : (f : ℕ → Option Tree) (m : Marked M) → StaysBehind number start count f m f m
  behind_itself f m = record { same = refl; there = λ k u. refl }

  pub behind_moved : (f g : ℕ → Option Tree) (m : Marked M) → g ≡ f → StaysBehind number start count f m g m
  behind_moved f g m same = record { same = refl; there = λ k u. ap (λ (z : ℕ → Option Tree). z k) same }

  pub behind_same : (f : ℕ → Option Tree) (m n : Marked M) → n ≡ m → StaysBehind number start count f m f n
  behind_same f m n same = record { same = ap (unwound count) same; there = λ k u. refl }

  pub behind_on : (f g h : ℕ → Option Tree) (m n o : Marked M) → StaysBehind number start count f m g n → StaysBehind number start count g n h o → StaysBehind number start count f m h o
  behind_on f g h m n o a b = record {
    same = b.same ∙ a.same;
    there = λ k u. b.there k (subst (λ z. IsUsed number start z k) (sym a.same) u) ∙ a.there k u;
  }

-- ---- a tree is remembered where that is wanted

module _ {M : Type 0} (number : M → ℕ) where
  pub takes_holds : (f g : ℕ → Option Tree) (m : Marked M) (t : Tree) (wanted : Bool) (o : Option M) → Takes number f g t wanted o → (start : ℕ) (v : Remembered) → Holds number start f m v → Holds number start g m v
  takes_holds f g m t wanted None takes start v h = subst (λ z. Holds number start z m v) (sym takes.1) h
  takes_holds f g m t wanted (Some x) takes start v h = grown number f g m (number x) takes.1 takes.3 start v h

  -- what was remembered before stays
  takes_same : (f g : ℕ → Option Tree) (t : Tree) (wanted : Bool) (o : Option M) → Takes number f g t wanted o → (k : ℕ) → IsSome (f k) → g k ≡ f k
  takes_same f g t wanted None takes k some = ap (λ (z : ℕ → Option Tree). z k) takes.1
  takes_same f g t wanted (Some x) takes k some = takes.3 k (other_than f k (number x) some takes.1)

  -- and isn't what was taken
  takes_other : (f g : ℕ → Option Tree) (t : Tree) (wanted : Bool) (o : Option M) → Takes number f g t wanted o → (k : ℕ) → IsSome (f k) → option_map number o ≢ Some k
  takes_other f g t wanted None takes k some e = cc
  takes_other f g t wanted (Some x) takes k some e = other_than f k (number x) some takes.1 (cc)

  takes_new : (f g : ℕ → Option Tree) (m : Marked M) (t : Tree) (wanted : Bool) (s : State M) → Takes number f g t wanted s.tree → (start : ℕ) (v : Remembered) → Holds number start f m v → IsNewState number start g m s
  takes_new f g m t wanted s takes start v h = by s.tree takes
    where
      by : (o : Option M) → Takes number f g t wanted o → IfSome (option_map number o) (λ k. IsSome (g k) × (IsUsed number start m k → ⊥))
      by None takes = tt
      by (Some x) takes =
          let ready = grown_ready number f g m x t true refl takes.1 takes.2 start v h in
          (ap is_some ready.1, ready.2)

  -- the state with its tree
  stated : (f g : ℕ → Option Tree) (t : Tree) (s : State M) (name bytes : List ℕ) (wanted : Bool) → s.participant ≡ name → s.bytes ≡ bytes → Takes number f g t wanted s.tree → (start : ℕ)
      → restated (tree_of number start g) s ≡ state_of t (name, record { bytes = bytes; needs_delta = wanted })
  stated f g t s name bytes wanted named same takes start = λ i. record { participant = named i; bytes = same i; tree = by s.tree takes i }
    where
      by : (o : Option M) → Takes number f g t wanted o → option_map (tree_of number start g) o ≡ (if wanted then Some t else None)
      by None takes = ap (λ b. if b then Some t else None) (sym takes.0)
      by (Some x) takes = ap (λ (u : Option Tree). Some (in_memory u)) takes.2 ∙ ap (λ b. if b then Some t else None) (sym takes.0)

  -- ---- a state is kept

  one_more : {X : Type 0} (xs : List X) (x : X) → length xs ≤ length (xs ++ x ∷ [])
  one_more xs x = grind (arith, length-append)

  some_is : {A : Type 0} (o : Option A) → IsSome o → (x : A) × (o ≡ Some x)
  some_is None some = cc
  some_is (Some x) some = (x, refl)

  module _ (f g : ℕ → Option Tree) (m : Marked M) (t : Tree) (s : State M) (name bytes : List ℕ) (wanted : Bool) (takes : Takes number f g t wanted s.tree) where
    pub kept_on : (n : Marked M) → s.participant ≡ name → s.bytes ≡ bytes → IsSome m.replaced → n ≡ with_kept m s
        → (start : ℕ) (v : Remembered) → Holds number start f m v → Holds number start g n (states_kept t v ((name, record { bytes = bytes; needs_delta = wanted }) ∷ []))
    kept_on n named same some now start v h =
        let rs = some_is m.replaced some in
        let on = takes_holds f g m t wanted s.tree takes start v h in
        let done = kept_holds number start g m v s (rs.0) rs.1 (takes_new f g m t wanted s takes start v h) on in
        let shown = stated f g t s name bytes wanted named same takes start in
        subst (λ z. Holds number start g z (states_kept t v ((name, record { bytes = bytes; needs_delta = wanted }) ∷ []))) (sym now)
        (subst (Holds number start g (with_kept m s)) (λ i. record v { kept = insert v.kept (named i) (shown i) }) done)

    pub kept_behind : (n : Marked M) → IsSome m.replaced → n ≡ with_kept m s → (start count : ℕ) (v : Remembered) → Holds number start f m v → count ≤ length (since_begin m.replaced)
        → StaysBehind number start count f m g n
    kept_behind n some now start count v h le =
        let rs = some_is m.replaced some in
        record {
          same = ap (unwound count) now ∙ unwound_more count m s (rs.0) rs.1 (subst (λ o. count ≤ length (since_begin o)) rs.1 le);
          there = λ k u. takes_same f g t wanted s.tree takes k (h.held.there k (unwound_used number start count m k u));
        }

    -- one is set more
    pub kept_more : (n : Marked M) → IsSome m.replaced → n ≡ with_kept m s → length (since_begin m.replaced) ≤ length (since_begin n.replaced)
    kept_more n some now =
        let rs = some_is m.replaced some in
        subst (λ (z : Marked M). length (since_begin m.replaced) ≤ length (since_begin z.replaced)) (sym now)
        (subst (λ o. length (since_begin o) ≤ length (since_begin (option_map (λ rs. rs ++ replaced_by m.kept s ∷ []) o))) (sym rs.1) (one_more (rs.0) (replaced_by m.kept s)))

    -- it isn't kept, and its tree is given up
    pub not_kept : (h : ℕ → Option Tree) (n : Marked M) (left : State M) → left ≡ s → n ≡ m → ((k : ℕ) → number_of number (Some left) ≢ Some k → h k ≡ g k) → (start : ℕ) (v : Remembered) → Holds number start f m v → Holds number start h n v
    not_kept h n left back now others start v holds =
        subst (λ z. Holds number start h z v) (sym now) (stays number start f h m v (λ k u. same k (holds.held.there k u)) holds)
      where
        same : (k : ℕ) → IsSome (f k) → h k ≡ f k
        same k some =
            others k (λ e. takes_other f g t wanted s.tree takes k some (ap (λ (z : State M). option_map number z.tree) (sym back) ∙ e))
            ∙ takes_same f g t wanted s.tree takes k some

    pub not_kept_behind : (h : ℕ → Option Tree) (n : Marked M) (left : State M) → left ≡ s → n ≡ m → ((k : ℕ) → number_of number (Some left) ≢ Some k → h k ≡ g k) → (start count : ℕ) (v : Remembered) → Holds number start f m v
        → StaysBehind number start count f m h n
    not_kept_behind h n left back now others start count v holds = record {
      same = ap (unwound count) now;
      there = λ k u.
          let some = holds.held.there k (unwound_used number start count m k u) in
          others k (λ e. takes_other f g t wanted s.tree takes k some (ap (λ (z : State M). option_map number z.tree) (sym back) ∙ e))
          ∙ takes_same f g t wanted s.tree takes k some;
    }

    -- its tree is there to be given up
    pub taken_some : (left : State M) → left ≡ s → IfSome (number_of number (Some left)) (λ k. IsSome (g k))
    taken_some left back = subst (λ (z : State M). IfSome (option_map number z.tree) (λ k. IsSome (g k))) (sym back) (by s.tree takes)
      where
        by : (o : Option M) → Takes number f g t wanted o → IfSome (option_map number o) (λ k. IsSome (g k))
        by None takes = tt
        by (Some x) takes = ap is_some takes.2

  -- ---- states are kept, one after another

  -- what is kept is with some of these, and with the rest it is with all of them
  abbrev pub KeepsFrom : Tree → (ℕ → Option Tree) → Marked M → (ℕ → Option Tree) → Marked M → List (List ℕ × PartState) → List (List ℕ × PartState) → Type 0
  KeepsFrom t f m g n all rest = (start : ℕ) (v : Remembered) → Holds number start f m v
      → (kept : States Tree) × Holds number start g n (record v { kept = kept }) × (kept_with t kept rest ≡ kept_with t v.kept all)

  -- what was kept before stays behind that
  abbrev pub AllBehind : (ℕ → Option Tree) → Marked M → (ℕ → Option Tree) → Marked M → Type 0
  AllBehind f m g n = (start count : ℕ) (v : Remembered) → Holds number start f m v → count ≤ length (since_begin m.replaced) → StaysBehind number start count f m g n

  -- ---- what was replaced last is put back, or let go

  -- what is kept is as it was when so many had been replaced, or on the way there
  abbrev pub GoesBack : (ℕ → Option Tree) → Marked M → (ℕ → Option Tree) → Marked M → Type 0
  GoesBack f m g n = (start : ℕ) (v : Remembered) → Holds number start f m v → (kept : States Tree) × Holds number start g n (record v { kept = kept })

  pub back_none : (f : ℕ → Option Tree) (m n : Marked M) → n ≡ m → GoesBack f m f n
  back_none f m n same start v h = (v.kept, subst (λ z. Holds number start f z v) (sym same) h)

  abbrev pub StaysAt : ℕ → (ℕ → Option Tree) → Marked M → (ℕ → Option Tree) → Marked M → Type 0
  StaysAt count f m g n = (start : ℕ) (v : Remembered) → Holds number start f m v → StaysBehind number start count f m g n

  shorter : {X : Type 0} (xs : List X) (x : X) → length xs < length (xs ++ x ∷ [])
  shorter xs x = grind (arith, length-append)

  -- its tree is there to be given up
  pub put_back_there : (f : ℕ → Option Tree) (count : ℕ) (m n : Marked M) (gone : State M) → IsPutBack count m gone n → Known number f m → IfSome (number_of number (Some gone)) (λ k. IsSome (f k))
  put_back_there f count m n gone back known = if_there (λ k. IsSome (f k)) (number_of number (Some gone))
      (λ k e. known.2.held.there k (AtKept back.last.participant, ap (number_of number) back.gone ∙ e))

  pub put_back_fewer : (count : ℕ) (m n : Marked M) (gone : State M) → IsPutBack count m gone n → length (since_begin n.replaced) < length (since_begin m.replaced)
  put_back_fewer count m n gone back =
      subst (λ (z : Marked M). length (since_begin z.replaced) < length (since_begin m.replaced)) (sym back.now)
      (subst (λ o. length back.rest < length (since_begin o)) (sym back.is_last.all) (shorter back.rest back.last))

  module _ (f g : ℕ → Option Tree) (count : ℕ) (m n : Marked M) (gone : State M) (back : IsPutBack count m gone n) where
    pub put_back : ((k : ℕ) → number_of number (Some gone) ≢ Some k → g k ≡ f k) → GoesBack f m g n
    put_back others start v h = (
      resolved_states (tree_of number start f) (set_at m.kept back.last.participant back.last.before),
      subst (λ z. Holds number start g z (record v { kept = resolved_states (tree_of number start f) (set_at m.kept back.last.participant back.last.before) })) (sym back.now)
          (stays number start f g (record m { kept = set_at m.kept back.last.participant back.last.before; replaced = Some back.rest })
          (record v { kept = resolved_states (tree_of number start f) (set_at m.kept back.last.participant back.last.before) })
          (λ k u. others k (λ e. put_back_unused number start f m v count back.last back.rest back.is_last h k (ap (number_of number) back.gone ∙ e) u))
          (put_back_holds number start f m v count back.last back.rest back.is_last h)),
    )

    pub put_back_behind : ((k : ℕ) → number_of number (Some gone) ≢ Some k → g k ≡ f k) → StaysAt count f m g n
    put_back_behind others start v h = record { same = same; there = there }
      where
        less : unwound count (record m { kept = set_at m.kept back.last.participant back.last.before; replaced = Some back.rest }) ≡ unwound count m
        less = unwound_less count m back.last back.rest back.is_last

        same : unwound count n ≡ unwound count m
        same = ap (unwound count) back.now ∙ less

        there : (k : ℕ) → IsUsed number start (unwound count m) k → g k ≡ f k
        there k u = others k (λ e. put_back_unused number start f m v count back.last back.rest back.is_last h k (ap (number_of number) back.gone ∙ e)
            (unwound_used number start count (record m { kept = set_at m.kept back.last.participant back.last.before; replaced = Some back.rest }) k (subst (λ z. IsUsed number start z k) (sym less) u)))

  -- what was kept when the save began comes to something else on the way to its end
  abbrev pub Ends : (ℕ → Option Tree) → Marked M → (ℕ → Option Tree) → Marked M → Type 0
  Ends f m g n = (start : ℕ) (v : Remembered) → Holds number start f m v → (before : Option (States Tree)) × Holds number start g n (record v { before = before })

  pub ends_none : (f : ℕ → Option Tree) (m n : Marked M) → n ≡ m → Ends f m f n
  ends_none f m n same start v h = (v.before, subst (λ z. Holds number start f z v) (sym same) h)

  pub let_go_there : (f : ℕ → Option Tree) (m n : Marked M) (last : Replaced M) → IsTaken m last n → Known number f m → IfSome (number_of number last.before) (λ k. IsSome (f k))
  let_go_there f m n last taken known = if_there (λ k. IsSome (f k)) (number_of number last.before)
      (λ k e. known.2.held.there k (AtReplaced (length taken.rest), last_number number (known.0) m 0 last taken.rest taken.is_last ∙ e))

  pub let_go_fewer : (m n : Marked M) (last : Replaced M) → IsTaken m last n → length (since_begin n.replaced) < length (since_begin m.replaced)
  let_go_fewer m n last taken =
      subst (λ (z : Marked M). length (since_begin z.replaced) < length (since_begin m.replaced)) (sym taken.now)
      (subst (λ o. length taken.rest < length (since_begin o)) (sym taken.is_last.all) (shorter taken.rest last))

  module _ (f g : ℕ → Option Tree) (m n : Marked M) (last : Replaced M) (taken : IsTaken m last n) where
    pub let_go : ((k : ℕ) → number_of number last.before ≢ Some k → g k ≡ f k) → Ends f m g n
    let_go others start v h = (
      Some (resolved_states (tree_of number start f) (undone m.kept taken.rest)),
      subst (λ z. Holds number start g z (record v { before = Some (resolved_states (tree_of number start f) (undone m.kept taken.rest)) })) (sym taken.now)
          (stays number start f g (record m { replaced = Some taken.rest }) (record v { before = Some (resolved_states (tree_of number start f) (undone m.kept taken.rest)) })
          (λ k u. others k (λ e. let_go_unused number start f m v 0 last taken.rest taken.is_last h k e u))
          (let_go_holds number start f m v 0 last taken.rest taken.is_last h)),
    )

  -- ---- all is as it was

  module _ (f g : ℕ → Option Tree) (m n : Marked M) (start : ℕ) (v : Remembered) where
    pub all_back : (count : ℕ) → length (since_begin m.replaced) ≤ count → length (since_begin n.replaced) ≤ count → StaysBehind number start count f m g n → Holds number start f m v → Holds number start g n v
    all_back count few fewer behind h =
        subst (λ z. Holds number start g z v) (sym same) (stays number start f g m v (λ k u. behind.there k (subst (λ z. IsUsed number start z k) (sym (unwound_none count m few)) u)) h)
      where
        same : n ≡ m
        same = sym (unwound_none count n fewer) ∙ behind.same ∙ unwound_none count m few

    -- what was kept when the save began
    first_kept : (o : Option (List (Replaced M))) → resolved_states (tree_of number start f) (undone m.kept (since_begin o))
        ≡ unwrap_or (option_map (λ rs. resolved_states (tree_of number start f) (undone m.kept rs)) o) (resolved_states (tree_of number start f) m.kept)
    first_kept None = refl
    first_kept (Some rs) = refl

    -- all that was set in the save is undone
    pub begin_back : length (since_begin n.replaced) ≤ 0 → StaysBehind number start 0 f m g n → Holds number start f m v → (kept : States Tree) → Holds number start g n (record v { kept = kept })
        → Holds number start g n (record v { kept = kept_before v })
    begin_back none behind h kept after = subst (λ k. Holds number start g n (record v { kept = k })) (sym (ap (λ (z : Remembered). z.kept) after.seen) ∙ same) after
      where
        as_it_was : n.kept ≡ undone m.kept (since_begin m.replaced)
        as_it_was = ap (λ (z : Marked M). z.kept) (sym (unwound_none 0 n none) ∙ behind.same)

        same : resolved_states (tree_of number start g) n.kept ≡ kept_before v
        same =
            ap (resolved_states (tree_of number start g)) as_it_was
            ∙ states_same (tree_of number start g) (tree_of number start f) (undone m.kept (since_begin m.replaced))
            (λ q s x at is. ap in_memory (behind.there (number x) (kept_used number start (unwound 0 m) q s x at is)))
            ∙ first_kept m.replaced ∙ ap kept_before h.seen

  -- a save that is under way begins no other
  pub begun_so : (f : ℕ → Option Tree) (m : Marked M) (v : Remembered) (start : ℕ) → IsSome m.replaced → Holds number start f m v → save_begun v ≡ v
  begun_so f m v start some h = λ i. record v { before = itself v.before v.kept (sym (ap (λ (z : Remembered). is_some z.before) h.seen) ∙ there m.replaced some) i }
    where
      itself : (o : Option (States Tree)) (kept : States Tree) → IsSome o → Some (unwrap_or o kept) ≡ o
      itself None kept some = cc
      itself (Some x) kept some = refl

      there : (o : Option (List (Replaced M))) → IsSome o → is_some (option_map (λ rs. resolved_states (tree_of number start f) (undone m.kept rs)) o) ≡ true
      there None some = cc
      there (Some rs) some = refl

  -- a save is begun for a call alone
  pub begun_on : (f : ℕ → Option Tree) (m n : Marked M) → n ≡ saving m → (start : ℕ) (v : Remembered) → Holds number start f m v → Holds number start f n (save_begun v)
  begun_on f m n now start v h = subst (λ z. Holds number start f z (save_begun v)) (sym now) (begun_holds number start f m v h)

  pub none_before : (f : ℕ → Option Tree) (m : Marked M) (start : ℕ) (v : Remembered) → is_some m.replaced ≡ false → Holds number start f m v → v.before ≡ None
  none_before f m start v none h = sym (ap (λ (z : Remembered). z.before) h.seen) ∙ by m.replaced none
    where
      by : (o : Option (List (Replaced M))) → is_some o ≡ false → option_map (λ rs. resolved_states (tree_of number start f) (undone m.kept rs)) o ≡ None
      by None e = refl
      by (Some rs) e = cc

  pub kept_either : {X E : Type 0} (o : Result X E) (f g : ℕ → Option Tree) (m n : Marked M) (change : Remembered → Remembered) → OnOk o ((s : ℕ) (v : Remembered) → Holds number s f m v → Holds number s g n (change v))
      → OnErr o ((s : ℕ) (v : Remembered) → Holds number s f m v → Holds number s g n v) → Known number f m → Known number g n
  kept_either (Ok x) f g m n change ok err known = (known.0, change (known.1), ok (known.0) (known.1) known.2)
  kept_either (Err e) f g m n change ok err known = (known.0, known.1, err (known.0) (known.1) known.2)
