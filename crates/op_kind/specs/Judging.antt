-- What is answered where an operation may be refused.
use Rattle.std.specs.Prelude.{◌≡◌, Option, Some, None, Result, MatchResult}
use Rattle.op_kind.specs.declared.refusal.OpRefusal.{OpRefusal}
use Rattle.op_kind.specs.declared.refusal.OpError.{OpError}
use Rattle.op_kind.specs.declared.refusal.OpError.TheVariants.{Refused, Memory}

-- Ok comes only where there is no such refusal, and a refusal is this one
abbrev pub Decides : {A : Type 0} → Option OpRefusal → Result A OpRefusal → Type 0
Decides refusal r = MatchResult r (λ _. refusal ≡ None) (λ x. refusal ≡ Some x)

-- a refusal with this fact, or want of memory
abbrev pub IfRefused : (OpRefusal → Type 0) → OpError → Type 0
IfRefused fact (Refused r) = fact r
IfRefused fact Memory = Unit {0}

-- the same, and memory may want
abbrev pub Judges : {A : Type 0} → Option OpRefusal → Result A OpError → Type 0
Judges refusal r = MatchResult r (λ _. refusal ≡ None) (IfRefused (λ x. refusal ≡ Some x))
