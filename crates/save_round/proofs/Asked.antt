-- Participants that are asked for their states, one after another.
use Rattle.std.proofs.Common.{◌≡◌, ℕ, zero, suc, ◌+◌, ◌<◌, ◌≤◌, ◌⊎◌, inl, inr, Bool, true, false, cond, List, [], ◌∷◌, ◌++◌, length, slice_get, IsSomeAnd, Option, Some, None, IsSome, Result, Ok, Err, IsErr, IfOk, is_err, refl, sym, ap, ap₂, ◌∙◌, subst, append_assoc, append-nil, arith}
use Rattle.save_kind.specs.declared.kind.SaveKind.{SaveKind}
use Rattle.save_kind.specs.declared.state.PartState.{PartState}
use Rattle.save_round.specs.declared.participant.PartFault.{PartFault}
use Rattle.save_round.specs.Told.{Told, Saving}
use Rattle.save_round.specs.Firsts.{FirstsHad, firsts, by_place}
use Rattle.save_round.specs.Rounds.{named_state, states_where, HaveAnswered}
use Rattle.save_round.proofs.Called.{as_well, none_had, named_before, same_firsts}
use Rattle.save_round.proofs.Places.{before_it, own_up_to}

-- so many were asked, and these are the states that they answered
pub record AskedSoFar (kind : SaveKind) (n : ℕ) (kept : List (List ℕ × PartState)) (old new : List Told) : Type 0 where
  pub answers : ℕ → Option PartState
  pub calls : FirstsHad (λ k. by_place n (Saving kind (Ok (answers k)) ∷ []) [] [] k) old new
  pub states : kept ≡ states_where (firsts old) (λ k. by_place n (answers k) None None k) old

-- an answer more, for the one at the place
abbrev longer : ℕ → (ℕ → Option PartState) → Option PartState → ℕ → Option PartState
longer n answers answer k = by_place n (answers k) answer None k

no_state : (bs : List Bool) (answers : ℕ → Option PartState) (xs : List Told) → ((k : ℕ) → answers k ≡ None) → states_where bs answers xs ≡ []
no_state [] answers xs none = refl
no_state (b ∷ bs) answers [] none = refl
no_state (true ∷ bs) answers (x ∷ xs) none = ap (λ a. named_state x.named a ++ states_where bs (λ k. answers (suc k)) xs) (none 0) ∙ no_state bs (λ k. answers (suc k)) xs (λ k. none (suc k))
no_state (false ∷ bs) answers (x ∷ xs) none = no_state bs (λ k. answers (suc k)) xs (λ k. none (suc k))

nowhere : (n k : ℕ) (answer : Option PartState) → by_place 0 answer None None k ≡ None
nowhere n zero answer = refl
nowhere n (suc k) answer = refl

one_state : (bs : List Bool) (answers : ℕ → Option PartState) (answer : Option PartState) (xs : List Told) (n : ℕ) (name : List ℕ)
    → (answer ≡ None) ⊎ (slice_get bs n ≡ Some true) → IsSomeAnd (slice_get xs n) (λ x. x.named ≡ name)
    → states_where bs (λ k. by_place n (answers k) None None k) xs ++ named_state name answer ≡ states_where bs (λ k. by_place (suc n) (longer n answers answer k) None None k) xs
one_state [] answers answer xs n name (inl none) is = ap (named_state name) none
one_state [] answers answer xs n name (inr there) is = cc
one_state (b ∷ bs) answers answer [] n name first is = absurd is
one_state (b ∷ bs) answers answer (x ∷ xs) zero name first is =
    ap (λ ls. (named_state x.named (cond b None None) ++ ls) ++ named_state name answer) (no_state bs (λ k. None) xs (λ k. refl))
    ∙ by b first
    ∙ ap (λ ls. named_state x.named (cond b answer None) ++ ls) (sym (no_state bs (λ k. by_place 0 (by_place 0 (answers (suc k)) answer None (suc k)) None None k) xs (λ k. nowhere 0 k None)))
  where
    by : (b : Bool) → (answer ≡ None) ⊎ (Some b ≡ Some true) → (named_state x.named (cond b None None) ++ []) ++ named_state name answer ≡ named_state x.named (cond b answer None) ++ []
    by true first = ap (λ m. named_state m answer) (sym is) ∙ sym (append-nil (named_state x.named answer))
    by false (inl none) = ap (named_state name) none
    by false (inr there) = cc
one_state (true ∷ bs) answers answer (x ∷ xs) (suc n) name first is =
    append_assoc (named_state x.named (answers 0)) (states_where bs (λ k. by_place n (answers (suc k)) None None k) xs) (named_state name answer)
    ∙ ap (λ ls. named_state x.named (answers 0) ++ ls) (one_state bs (λ k. answers (suc k)) answer xs n name first is)
one_state (false ∷ bs) answers answer (x ∷ xs) (suc n) name first is = one_state bs (λ k. answers (suc k)) answer xs n name first is

own_next : (kind : SaveKind) (n : ℕ) (answers : ℕ → Option PartState) (answer : Option PartState) (k : ℕ)
    → by_place n (Saving kind (Ok (answers k)) ∷ []) (Saving kind (Ok answer) ∷ []) [] k ≡ by_place (suc n) (Saving kind (Ok (longer n answers answer k)) ∷ []) [] [] k
own_next kind n answers answer k = by n (answers k) k
  where
    by : (n : ℕ) (before : Option PartState) (k : ℕ)
        → by_place n (Saving kind (Ok before) ∷ []) (Saving kind (Ok answer) ∷ []) [] k ≡ by_place (suc n) (Saving kind (Ok (by_place n before answer None k)) ∷ []) [] [] k
    by zero before zero = refl
    by zero before (suc zero) = refl
    by zero before (suc (suc k)) = refl
    by (suc n) before zero = refl
    by (suc n) before (suc k) = by n before k

-- none was asked yet
pub asked_none : (kind : SaveKind) (xs : List Told) → AskedSoFar kind 0 [] xs xs
asked_none kind xs = record {
  answers = λ k. None;
  calls = as_well (λ k. []) (λ k. by_place 0 (Saving kind (Ok None) ∷ []) [] [] k) xs xs (λ k lt. by k) (none_had xs);
  states = sym (no_state (firsts xs) (λ k. by_place 0 None None None k) xs (λ k. nowhere 0 k None));
}
  where
    by : (k : ℕ) → [] ≡ by_place 0 (Saving kind (Ok None) ∷ []) [] [] k
    by zero = refl
    by (suc k) = refl

-- whether a call went well
pub went_well : {A E : Type 0} (r : Result A E) (P : Type 0) → is_err r ≡ false → IfOk r (λ done. P) → P
went_well (Ok a) P e p = p
went_well (Err x) P e p = cc

pub went_wrong : {A E : Type 0} (r : Result A E) → is_err r ≡ true → IsErr r
went_wrong (Ok a) e = cc
went_wrong (Err x) e = refl

none_or : (answer : Option PartState) (P : Type 0) → (◌≡◌ {A = Result (Option PartState) PartFault} (Ok answer) (Ok None)) ⊎ P → (answer ≡ None) ⊎ P
none_or None P h = inl refl
none_or (Some a) P (inl e) = cc
none_or (Some a) P (inr p) = inr p

-- who answered a state is marked
pub marked_if_some : (answer : Option PartState) (P : Type 0) → (◌≡◌ {A = Result (Option PartState) PartFault} (Ok answer) (Ok None)) ⊎ P → IsSome answer → P
marked_if_some None P h s = cc
marked_if_some (Some a) P (inl e) s = cc
marked_if_some (Some a) P (inr p) s = p

-- so is who answered a fault
pub marked_if_failed : (fault : PartFault) (P : Type 0) → (◌≡◌ {A = Result (Option PartState) PartFault} (Err fault) (Ok None)) ⊎ P → P
marked_if_failed fault P (inl e) = cc
marked_if_failed fault P (inr p) = p

-- one more was asked
pub asked_next : (kind : SaveKind) (n : ℕ) (kept more : List (List ℕ × PartState)) (answer : Option PartState) (name : List ℕ) (xs ys zs : List Told) → AskedSoFar kind n kept xs ys
    → FirstsHad (by_place n [] (Saving kind (Ok answer) ∷ []) []) ys zs → (◌≡◌ {A = Result (Option PartState) PartFault} (Ok answer) (Ok None)) ⊎ (slice_get (firsts ys) n ≡ Some true)
    → IsSomeAnd (slice_get zs n) (λ z. z.named ≡ name) → more ≡ kept ++ named_state name answer → AskedSoFar kind (n + 1) more xs zs
asked_next kind n kept more answer name xs ys zs so_far called first is longer_by =
    let on : suc n ≡ n + 1 = omega arith in
    let before : AskedSoFar kind (suc n) more xs zs = record {
      answers = longer n so_far.answers answer;
      calls = calls;
      states = longer_by ∙ ap (λ ls. ls ++ named_state name answer) so_far.states
          ∙ one_state (firsts xs) so_far.answers answer xs n name mark (named_before n name (λ k. by_place (suc n) (Saving kind (Ok (longer n so_far.answers answer k)) ∷ []) [] [] k) xs zs calls is);
    } in
    subst (λ m. AskedSoFar kind m more xs zs) on before
  where
    calls : FirstsHad (λ k. by_place (suc n) (Saving kind (Ok (longer n so_far.answers answer k)) ∷ []) [] [] k) xs zs
    calls = as_well (λ k. by_place n (Saving kind (Ok (so_far.answers k)) ∷ []) (Saving kind (Ok answer) ∷ []) [] k) (λ k. by_place (suc n) (Saving kind (Ok (longer n so_far.answers answer k)) ∷ []) [] [] k) xs zs
        (λ k lt. own_next kind n so_far.answers answer k) (own_up_to n (λ k. Saving kind (Ok (so_far.answers k))) (Saving kind (Ok answer)) xs ys zs so_far.calls called)

    mark : (answer ≡ None) ⊎ (slice_get (firsts xs) n ≡ Some true)
    mark = subst (λ bs. (answer ≡ None) ⊎ (slice_get bs n ≡ Some true)) (same_firsts (λ k. by_place n (Saving kind (Ok (so_far.answers k)) ∷ []) [] [] k) xs ys so_far.calls)
        (none_or answer (slice_get (firsts ys) n ≡ Some true) first)

states_alike : (bs : List Bool) (answers others : ℕ → Option PartState) (xs : List Told) → ((k : ℕ) → k < length xs → answers k ≡ others k) → states_where bs answers xs ≡ states_where bs others xs
states_alike [] answers others xs e = refl
states_alike (b ∷ bs) answers others [] e = refl
states_alike (true ∷ bs) answers others (x ∷ xs) e =
    ap₂ (λ a ls. named_state x.named a ++ ls) (e 0 (omega arith)) (states_alike bs (λ k. answers (suc k)) (λ k. others (suc k)) xs (λ k lt. e (suc k) (omega (arith, lt))))
states_alike (false ∷ bs) answers others (x ∷ xs) e = states_alike bs (λ k. answers (suc k)) (λ k. others (suc k)) xs (λ k lt. e (suc k) (omega (arith, lt)))

-- all were asked
pub asked_all : (kind : SaveKind) (n : ℕ) (kept : List (List ℕ × PartState)) (xs ys : List Told) → length xs ≤ n → AskedSoFar kind n kept xs ys → HaveAnswered kind kept xs ys
asked_all kind n kept xs ys le so_far = record {
  answers = so_far.answers;
  calls = as_well (λ k. by_place n (Saving kind (Ok (so_far.answers k)) ∷ []) [] [] k) (λ k. Saving kind (Ok (so_far.answers k)) ∷ []) xs ys (λ k lt. before_it n (Saving kind (Ok (so_far.answers k)) ∷ []) [] [] k (omega (arith, lt, le))) so_far.calls;
  states = so_far.states ∙ states_alike (firsts xs) (λ k. by_place n (so_far.answers k) None None k) so_far.answers xs (λ k lt. before_it n (so_far.answers k) None None k (omega (arith, lt, le)));
}
