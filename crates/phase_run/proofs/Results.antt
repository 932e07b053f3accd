-- What holds of both outcomes of a call.
use Rattle.std.specs.Prelude.{Result, Ok, Err, OnOk, OnErr, IsErr, MatchResult}
use Rattle.std.proofs.lemmas.Bool.{false≢true}

module _ {A E : Type 0} where
  -- where it is an Err
  pub on_err : (Q : A → Type 0) (P : Type 0) (r : Result A E) → IsErr r → P → MatchResult r Q (λ _. P)
  on_err Q P (Ok x) is p = absurd (false≢true is)
  on_err Q P (Err e) is p = p

  pub ok_none : (P : Type 0) (r : Result A E) → IsErr r → OnOk r P
  ok_none P (Ok x) is = absurd (false≢true is)
  ok_none P (Err e) is = tt

  -- what holds where it is Ok, and where it is an Err, in other words
  pub both_of : {P R Q P' Q' : Type 0} (r : Result A E) → (P → R → P') → (Q → Q') → OnOk r P → OnOk r R → OnErr r Q → MatchResult r (λ _. P') (λ _. Q')
  both_of (Ok x) f g p o q = f p o
  both_of (Err e) f g p o q = g q

  pub match_on : {P Q P' Q' : Type 0} (r : Result A E) → (P → P') → (Q → Q') → MatchResult r (λ _. P) (λ _. Q) → MatchResult r (λ _. P') (λ _. Q')
  match_on (Ok x) f g m = f m
  match_on (Err e) f g m = g m

  pub ok_both : {P R Q : Type 0} (r : Result A E) → (P → R → Q) → OnOk r P → OnOk r R → OnOk r Q
  ok_both (Ok x) f p q = f p q
  ok_both (Err e) f p q = tt

  pub ok_on : {P Q : Type 0} (r : Result A E) → (P → Q) → OnOk r P → OnOk r Q
  ok_on (Ok x) f p = f p
  ok_on (Err e) f p = tt

  pub err_both : {P R Q : Type 0} (r : Result A E) → (P → R → Q) → OnErr r P → OnErr r R → OnErr r Q
  err_both (Ok x) f p q = tt
  err_both (Err e) f p q = f p q

  pub err_on : {P Q : Type 0} (r : Result A E) → (P → Q) → OnErr r P → OnErr r Q
  err_on (Ok x) f p = tt
  err_on (Err e) f p = f p

  pub err_holds : {P : Type 0} (r : Result A E) → P → OnErr r P
  err_holds (Ok x) p = tt
  err_holds (Err e) p = p
