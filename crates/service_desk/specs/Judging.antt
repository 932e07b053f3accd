-- What is answered where what concerns the services may be refused.
use Rattle.std.specs.Prelude.{◌≡◌, Option, Some, None, Result, MatchResult}
use Rattle.core_event.specs.declared.reply.Refusal.{Refusal}
use Rattle.service_desk.specs.declared.error.ServiceError.{ServiceError}
use Rattle.service_desk.specs.declared.error.ServiceError.TheVariants.{Refused, Memory}

-- a refusal with this fact, or want of memory
abbrev pub IfRefused : (Refusal → Type 0) → ServiceError → Type 0
IfRefused fact (Refused r) = fact r
IfRefused fact Memory = Unit {0}

-- Ok comes only where there is no such refusal, and a refusal is this one; memory may want
abbrev pub Judges : {A : Type 0} → Option Refusal → Result A ServiceError → Type 0
Judges refusal r = MatchResult r (λ _. refusal ≡ None) (IfRefused (λ x. refusal ≡ Some x))
