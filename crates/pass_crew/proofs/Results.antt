-- What holds of both outcomes of a call.
use Rattle.std.proofs.Common.{◌≡◌, subst}
use Rattle.std.specs.Prelude.{Result, Ok, Err, OnErr, IfOk}

module _ {A E : Type 0} where
  pub err_holds : {P : Type 0} (r : Result A E) → P → OnErr r P
  err_holds (Ok x) p = tt
  err_holds (Err e) p = p

  -- what holds of what is given
  pub of_ok : (Q : A → Type 0) (r : Result A E) (x : A) → r ≡ Ok x → IfOk r Q → Q x
  of_ok Q r x is p = subst (λ z. IfOk z Q) is p

  pub err_both : {P R Q : Type 0} (r : Result A E) → (P → R → Q) → OnErr r P → OnErr r R → OnErr r Q
  err_both (Ok x) f p q = tt
  err_both (Err e) f p q = f p q
