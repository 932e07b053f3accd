-- Values past their limits.
use Rattle.std.proofs.Common.{◌≡◌, refl, sym, ap, ◌∙◌}
use Rattle.std.specs.Prelude.{Option, Some, None, Result, Ok, Err}
use Rattle.std.specs.Option.{option_map}
use Rattle.mark_set.specs.declared.error.MarkError.{MarkError}
use Rattle.mark_set.specs.declared.error.MarkError.TheVariants.{BadValue as Spoilt}
use Rattle.mark_set.specs.declared.error.ValueCause.{ValueCause}
use Rattle.op_kind.specs.declared.refusal.OpRefusal.TheVariants.{BadValue}

-- what is done had no cause against it
pub unspoilt : {A : Type 0} (c d : Option ValueCause) (r : Result A MarkError) (a : A) → c ≡ d → r ≡ Ok a → ((x : ValueCause) → c ≡ Some x → r ≡ Err (Spoilt x)) → option_map BadValue d ≡ None
unspoilt c d r a same is bad = sym (ap (option_map BadValue) same) ∙ by c bad
  where
    by : (x : Option ValueCause) → ((y : ValueCause) → x ≡ Some y → r ≡ Err (Spoilt y)) → option_map BadValue x ≡ None
    by None h = refl
    by (Some y) h = absurd (let no : Ok a ≡ Err (Spoilt y) = sym is ∙ h y refl in cc)

-- the cause that is told is the cause
pub spoilt : (c d : Option ValueCause) (x : ValueCause) → c ≡ d → c ≡ Some x → option_map BadValue d ≡ Some (BadValue x)
spoilt c d x same is = ap (option_map BadValue) (sym same ∙ is)
