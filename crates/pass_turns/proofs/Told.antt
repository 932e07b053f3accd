-- What is left where a token that holds the machine tells a pass what was done.
use Rattle.std.proofs.Common.{◌≡◌, ◌≤◌, ℕ, false, List, [], ◌∷◌, ◌++◌, length, nat_lt, refl, sym, ap, ◌∙◌, subst, arith, append-nil, length-append, if◌then◌else◌}
use Rattle.ws_turn.specs.Lists.{StartsWith, longer, of, HasNoneOf}
use Rattle.ws_turn.specs.Passes.{Known, IsFaithful}
use Rattle.ws_turn.proofs.Lists.{by_bool}
use Rattle.pass_turns.specs.Turns.{shown, CameTo}

no_rest : {E : Type 0} (xs ys : List E) → length (xs ++ ys) ≤ length xs → ys ≡ []
no_rest xs [] le = refl
no_rest xs (y ∷ ys) le = absurd (omega (arith, le, length-append xs (y ∷ ys)))

-- the longer of a list and its beginning is the list
pub longer_on : {E : Type 0} (xs ys : List E) → StartsWith ys xs → longer xs ys ≡ ys
longer_on xs ys s = by_bool (nat_lt (length xs) (length ys))
    (λ less. ap (λ b. if b then ys else xs) less)
    (λ more. ap (λ b. if b then ys else xs) more ∙ sym (s.1 ∙ (ap (λ l. xs ++ l) (no_rest xs s.0 (shrinks more)) ∙ append-nil xs)))
  where
    shrinks : nat_lt (length xs) (length ys) ≡ false → length (xs ++ s.0) ≤ length xs
    shrinks e = let l = ap length s.1 in let le : length ys ≤ length xs = grind (arith, e) in omega (arith, l, le)

module _ {E : Type 0} (by : E → ℕ) where
  pub saw : (k k1 k2 t0 t1 : Known E) → t1.seen ≡ t0.seen → StartsWith t1.seen k.seen → k1 ≡ k → k2 ≡ record k1 { seen = longer k1.seen t1.seen } → k2 ≡ record k { seen = t0.seen }
  saw k k1 k2 t0 t1 same begins other is =
      let at : Known E → Known E = λ z. record z { seen = longer z.seen t1.seen } in
      is ∙ (ap at other ∙ ap (λ l. record k { seen = l }) (longer_on k.seen t1.seen begins ∙ same))

  pub came : (k k1 k2 t0 t1 : Known E) → t1.seen ≡ t0.seen → StartsWith t1.seen k.seen → k1 ≡ k → k2 ≡ record k1 { seen = longer k1.seen t1.seen } → IsFaithful by k2 → CameTo by t0.seen (shown k) (shown k2)
  came k k1 k2 t0 t1 same begins other is faithful =
      let now = saw k k1 k2 t0 t1 same begins other is in
      record {
        begins = subst (λ l. StartsWith l k.seen) same begins;
        own = subst (λ (z : Known E). of by z.number z.seen ≡ z.mine) now faithful.0;
        silent = subst (λ (z : Known E). HasNoneOf by z.lost z.seen) now faithful.1;
        now = ap (λ (z : Known E). shown z) now;
      }
