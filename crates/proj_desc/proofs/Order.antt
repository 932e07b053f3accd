-- The first cause that applies, cause by cause.
use Rattle.std.proofs.Common.{◌≡◌, Bool, true, false, Option, Some, None, sym, ap, ◌∙◌}
use Rattle.std.specs.Option.{option_or}
use Rattle.proj_desc.specs.FirstCause.{when}

pub passed : {C : Type 0} (o p q : Option C) → o ≡ None → q ≡ p → q ≡ option_or o p
passed o p q e f = f ∙ sym (ap (λ r. option_or r p) e)

pub reached : {C : Type 0} (o p : Option C) (c : C) → Some c ≡ o → Some c ≡ option_or o p
reached o p c e = ap (λ r. option_or r p) e

pub ended : {C : Type 0} (o q : Option C) → q ≡ o → q ≡ option_or o None
ended None q e = e
ended (Some c) q e = e

pub not_when : {C : Type 0} (b : Bool) (c : C) → b ≡ false → when b c ≡ None
not_when b c e = ap (λ b. when b c) e

pub is_when : {C : Type 0} (b : Bool) (c : C) → b ≡ true → Some c ≡ when b c
is_when b c e = sym (ap (λ b. when b c) e)
