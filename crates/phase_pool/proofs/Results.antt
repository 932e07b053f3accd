-- What holds of one outcome of a call.
use Rattle.std.proofs.Common.{◌≡◌, subst}
use Rattle.std.specs.Prelude.{Result, Ok, Err, OnOk, OnErr}

module _ {A E : Type 0} {P : Type 0} where
  pub ok_on : {Q : Type 0} (r : Result A E) → (P → Q) → OnOk r P → OnOk r Q
  ok_on (Ok x) f p = f p
  ok_on (Err e) f p = tt

  pub err_on : {Q : Type 0} (r : Result A E) → (P → Q) → OnErr r P → OnErr r Q
  err_on (Ok x) f p = tt
  err_on (Err e) f p = f p

  pub ok_holds : (r : Result A E) → P → OnOk r P
  ok_holds (Ok x) p = p
  ok_holds (Err e) p = tt

  pub ok_at : (r : Result A E) (x : A) → r ≡ Ok x → OnOk r P → P
  ok_at r x is p = subst (λ z. OnOk z P) is p

  pub err_at : (r : Result A E) (e : E) → r ≡ Err e → OnErr r P → P
  err_at r e is p = subst (λ z. OnErr z P) is p
