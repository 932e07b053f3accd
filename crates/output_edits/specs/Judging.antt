-- What is answered where edits may be refused.
use Rattle.std.specs.Prelude.{◌≡◌, Option, Some, None, Result, MatchResult}
use Rattle.output_edits.specs.declared.refusal.EditRefusal.{EditRefusal}
use Rattle.output_edits.specs.declared.refusal.EditError.{EditError}
use Rattle.output_edits.specs.declared.refusal.EditError.TheVariants.{Refused, Memory}

-- a refusal with this fact, or want of memory
abbrev pub IfRefused : (EditRefusal → Type 0) → EditError → Type 0
IfRefused fact (Refused r) = fact r
IfRefused fact Memory = Unit {0}

-- Ok comes only where there is no such refusal, and a refusal is this one; memory may want
abbrev pub Judges : {A : Type 0} → Option EditRefusal → Result A EditError → Type 0
Judges refusal r = MatchResult r (λ _. refusal ≡ None) (IfRefused (λ x. refusal ≡ Some x))

-- the same, where memory doesn't want
abbrev pub Decides : {A : Type 0} → Option EditRefusal → Result A EditRefusal → Type 0
Decides refusal r = MatchResult r (λ _. refusal ≡ None) (λ x. refusal ≡ Some x)
