-- The slots after each change of what is remembered.
use Rattle.std.proofs.Common.{◌≡◌, ℕ, zero, suc, Bool, true, false, cond, List, [], ◌∷◌, ◌++◌, length, nat_eq, arith, refl, sym, ap, ◌∙◌}
use Rattle.std.specs.Prelude.{Option, Some, None}
use Rattle.std.specs.Option.{option_map}
use Rattle.std.specs.Ordering.{eq_by_cmp}
use Rattle.std.proofs.lemmas.Bool.{eqb-true}
use Rattle.std.proofs.lemmas.Bool.Decides.{nat_tests}
use Rattle.std.specs.FinMap.{get, get-insert, get-remove, insert, remove}
use Rattle.ws_marks.specs.declared.record.Record.{Record}
use Rattle.ws_marks.specs.declared.state.Replaced.{Replaced}
use Rattle.ws_marks.specs.declared.state.State.{State}
use Rattle.ws_marks.specs.Marked.{IsLast, Marked, set_at, since_begin, with_kept}
use Rattle.ws_marks.specs.Places.{Place, name_cmp, place_cmp, place_of}
use Rattle.ws_marks.proofs.Kept.{get_set_at, replaced_by}
use Rattle.ws_marks.proofs.Places.{name_cmp_total, place_cmp_total}
use Rattle.ws_content.specs.Inside.Slots.{Slot, Slots, AtStart, AtTold, AtBuilt, AtKept, AtReplaced, number_in, number_of, replaced_at}
use Rattle.ws_content.proofs.Slots.{set}

-- ---- what was replaced, and one more

later : (m n : ℕ) → nat_eq (suc m) (suc n) ≡ nat_eq m n
later m n = grind (arith, nat_tests)

first_later : (n : ℕ) → nat_eq zero (suc n) ≡ false
first_later n = grind (arith, nat_tests)

later_first : (n : ℕ) → nat_eq (suc n) zero ≡ false
later_first n = grind (arith, nat_tests)

module _ {M : Type 0} where
  pub replaced_last : (rs : List (Replaced M)) (r : Replaced M) (n : ℕ) → replaced_at (rs ++ r ∷ []) n ≡ cond (nat_eq n (length rs)) r.before (replaced_at rs n)
  replaced_last [] r zero = refl
  replaced_last [] r (suc n) = ap (λ b. cond b r.before None) (sym (later_first n))
  replaced_last (x ∷ rs) r zero = ap (λ b. cond b r.before x.before) (sym (first_later (length rs)))
  replaced_last (x ∷ rs) r (suc n) = replaced_last rs r n ∙ ap (λ b. cond b r.before (replaced_at rs n)) (sym (later n (length rs)))

  none_after : (rs : List (Replaced M)) → replaced_at rs (length rs) ≡ None
  none_after [] = refl
  none_after (r ∷ rs) = none_after rs

  pub last_at : (rs : List (Replaced M)) (r : Replaced M) → replaced_at (rs ++ r ∷ []) (length rs) ≡ r.before
  last_at [] r = refl
  last_at (x ∷ rs) r = last_at rs r

module _ {M : Type 0} (number : M → ℕ) where
  number_cond : (b : Bool) (x y : Option (State M)) → number_of number (cond b x y) ≡ cond b (number_of number x) (number_of number y)
  number_cond true x y = refl
  number_cond false x y = refl

  record_cond : (b : Bool) (x y : Option (Record M)) → option_map (λ r. number r.tree) (cond b x y) ≡ cond b (option_map (λ r. number r.tree) x) (option_map (λ r. number r.tree) y)
  record_cond true x y = refl
  record_cond false x y = refl

  abbrev in_state : State M → Option ℕ
  in_state s = option_map number s.tree

  pub started_at : (s n : ℕ) (m : Marked M) → number_in number n m ≡ set (number_in number s m) AtStart (Some n)
  started_at s n m = λ i z. at z i
    where
      at : (z : Slot) → number_in number n m z ≡ set (number_in number s m) AtStart (Some n) z
      at AtStart = refl
      at AtTold = refl
      at (AtBuilt place) = refl
      at (AtKept name) = refl
      at (AtReplaced n) = refl

  module _ (start : ℕ) (m : Marked M) where
    abbrev now : Slots
    now = number_in number start m

    pub told_at : (x : M) → number_in number start (record m { told = x }) ≡ set now AtTold (Some (number x))
    told_at x = λ i z. at z i
      where
        at : (z : Slot) → number_in number start (record m { told = x }) z ≡ set now AtTold (Some (number x)) z
        at AtStart = refl
        at AtTold = refl
        at (AtBuilt place) = refl
        at (AtKept name) = refl
        at (AtReplaced n) = refl

    pub built_at : (r : Record M) → number_in number start (record m { built = insert m.built (place_of r) r }) ≡ set now (AtBuilt (place_of r)) (Some (number r.tree))
    built_at r = λ i z. at z i
      where
        at : (z : Slot) → number_in number start (record m { built = insert m.built (place_of r) r }) z ≡ set now (AtBuilt (place_of r)) (Some (number r.tree)) z
        at AtStart = refl
        at AtTold = refl
        at (AtBuilt place) =
            ap (option_map (λ r. number r.tree)) (get-insert place_cmp_total m.built (place_of r) r place)
            ∙ record_cond (eq_by_cmp place_cmp place (place_of r)) (Some r) (get m.built place)
        at (AtKept name) = refl
        at (AtReplaced n) = refl

    pub taken_at : (k : Place) → number_in number start (record m { built = remove m.built k }) ≡ set now (AtBuilt k) None
    taken_at k = λ i z. at z i
      where
        at : (z : Slot) → number_in number start (record m { built = remove m.built k }) z ≡ set now (AtBuilt k) None z
        at AtStart = refl
        at AtTold = refl
        at (AtBuilt place) =
            ap (option_map (λ r. number r.tree)) (get-remove place_cmp_total m.built k place)
            ∙ record_cond (eq_by_cmp place_cmp place k) None (get m.built place)
        at (AtKept name) = refl
        at (AtReplaced n) = refl

    -- a state is kept, and the one that it replaces is put behind the others that were
    pub kept_at : (s : State M) (rs : List (Replaced M)) → m.replaced ≡ Some rs
        → number_in number start (with_kept m s) ≡ set (set (set now (AtKept s.participant) None) (AtReplaced (length rs)) (now (AtKept s.participant))) (AtKept s.participant) (in_state s)
    kept_at s rs is = λ i z. at z i
      where
        twice : (b : Bool) (x y : Option ℕ) → cond b x y ≡ cond b x (cond b None y)
        twice true x y = refl
        twice false x y = refl

        at : (z : Slot) → number_in number start (with_kept m s) z
            ≡ set (set (set now (AtKept s.participant) None) (AtReplaced (length rs)) (now (AtKept s.participant))) (AtKept s.participant) (in_state s) z
        at AtStart = refl
        at AtTold = refl
        at (AtBuilt place) = refl
        at (AtKept name) =
            ap (number_of number) (get-insert name_cmp_total m.kept s.participant s name)
            ∙ number_cond (eq_by_cmp name_cmp name s.participant) (Some s) (get m.kept name)
            ∙ twice (eq_by_cmp name_cmp name s.participant) (in_state s) (number_of number (get m.kept name))
        at (AtReplaced n) =
            ap (λ o. number_of number (replaced_at (since_begin (option_map (λ rs. rs ++ replaced_by m.kept s ∷ []) o)) n)) is
            ∙ ap (number_of number) (replaced_last rs (replaced_by m.kept s) n)
            ∙ number_cond (nat_eq n (length rs)) (get m.kept s.participant) (replaced_at rs n)
            ∙ ap (λ o. cond (nat_eq n (length rs)) (number_of number (get m.kept s.participant)) (number_of number (replaced_at (since_begin o) n))) (sym is)

    module _ (count : ℕ) (r : Replaced M) (rest : List (Replaced M)) (last : IsLast count m r rest) where
      -- what stood there last
      pub last_number : now (AtReplaced (length rest)) ≡ number_of number r.before
      last_number = ap (λ o. number_of number (replaced_at (since_begin o) (length rest))) last.all ∙ ap (number_of number) (last_at rest r)

      fewer : (n : ℕ) → number_of number (replaced_at rest n) ≡ cond (nat_eq n (length rest)) None (now (AtReplaced n))
      fewer n =
          by (nat_eq n (length rest)) (λ is. ap (λ k. number_of number (replaced_at rest k)) (eqb-true n (length rest) is) ∙ ap (number_of number) (none_after rest))
          ∙ ap (λ o. cond (nat_eq n (length rest)) None (number_of number o)) (sym (replaced_last rest r n))
          ∙ ap (λ o. cond (nat_eq n (length rest)) None (number_of number (replaced_at (since_begin o) n))) (sym last.all)
        where
          by : (b : Bool) → (b ≡ true → number_of number (replaced_at rest n) ≡ None) → number_of number (replaced_at rest n) ≡ cond b None (number_of number (cond b r.before (replaced_at rest n)))
          by true none = none refl
          by false none = refl

      -- the last is let go
      pub let_go_at : number_in number start (record m { replaced = Some rest }) ≡ set now (AtReplaced (length rest)) None
      let_go_at = λ i z. at z i
        where
          at : (z : Slot) → number_in number start (record m { replaced = Some rest }) z ≡ set now (AtReplaced (length rest)) None z
          at AtStart = refl
          at AtTold = refl
          at (AtBuilt place) = refl
          at (AtKept name) = refl
          at (AtReplaced n) = fewer n

      -- the last is put back
      pub put_back_at : number_in number start (record m { kept = set_at m.kept r.participant r.before; replaced = Some rest })
          ≡ set (set now (AtReplaced (length rest)) None) (AtKept r.participant) (now (AtReplaced (length rest)))
      put_back_at = λ i z. at z i
        where
          at : (z : Slot) → number_in number start (record m { kept = set_at m.kept r.participant r.before; replaced = Some rest }) z
              ≡ set (set now (AtReplaced (length rest)) None) (AtKept r.participant) (now (AtReplaced (length rest))) z
          at AtStart = refl
          at AtTold = refl
          at (AtBuilt place) = refl
          at (AtKept name) =
              ap (number_of number) (get_set_at m.kept r.participant r.before name)
              ∙ number_cond (eq_by_cmp name_cmp name r.participant) r.before (get m.kept name)
              ∙ ap (λ o. cond (eq_by_cmp name_cmp name r.participant) o (number_of number (get m.kept name))) (sym last_number)
          at (AtReplaced n) = fewer n

    -- the save is over, in which nothing that was replaced is left
    pub ended_at : since_begin m.replaced ≡ [] → number_in number start (record m { replaced = None }) ≡ now
    ended_at none = λ i z. at z i
      where
        at : (z : Slot) → number_in number start (record m { replaced = None }) z ≡ now z
        at AtStart = refl
        at AtTold = refl
        at (AtBuilt place) = refl
        at (AtKept name) = refl
        at (AtReplaced n) = ap (λ rs. number_of number (replaced_at rs n)) (sym none)
