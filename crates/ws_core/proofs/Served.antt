-- What concerns the services, refused or done by calls.
use Rattle.std.proofs.Common.{◌≡◌, ℕ, Bool, true, [], ◌∷◌, refl, ◌∙◌}
use Rattle.std.specs.Prelude.{Option, Some, None, Result, Ok, Err, IfOk}
use Rattle.std.specs.declared.alloc.AllocError.{AllocError}
use Rattle.proj_desc.specs.FirstCause.{first_cause}
use Rattle.pass_table.specs.Passes.{is_quiet}
use Rattle.core_event.specs.declared.event.Event.TheVariants.{Service}
use Rattle.core_event.specs.declared.reply.Refusal.{Refusal}
use Rattle.core_event.specs.declared.reply.Reply.{Reply}
use Rattle.core_event.specs.declared.service.ServiceEvent.{ServiceEvent}
use Rattle.core_event.specs.declared.twice.Twice.{Twice}
use Rattle.core_event.specs.Twice.{doubled}
use Rattle.service_desk.specs.declared.error.ServiceError.{ServiceError}
use Rattle.service_desk.specs.declared.error.ServiceError.TheVariants.{Refused, Memory}
use Rattle.service_desk.specs.Judging.{IfRefused}
use Rattle.ws_core.specs.States.{Moment}
use Rattle.ws_core.specs.Refusals.{service_causes}
use Rattle.ws_core.specs.Steps.{step}
use Rattle.ws_core.specs.Inside.Parts.{Tells}
use Rattle.ws_core.proofs.Stepped.{refused_called}

-- three causes, and a fourth after them
pub of_three : (a b c d : Option Refusal) (r : Refusal) → first_cause (a ∷ b ∷ c ∷ []) ≡ Some r → first_cause (a ∷ b ∷ c ∷ d ∷ []) ≡ Some r
of_three (Some a) b c d r h = h
of_three None (Some b) c d r h = h
of_three None None (Some c) d r h = h
of_three None None None d r h = cc

-- where none of three applies, each doesn't
pub none_of_three : (a b c : Option Refusal) → first_cause (a ∷ b ∷ c ∷ []) ≡ None → (a ≡ None) × (c ≡ None)
none_of_three None None None h = (refl, refl)
none_of_three (Some a) b c h = cc
none_of_three None (Some b) c h = cc
none_of_three None None (Some c) h = cc

-- the reply to an error that is the event's refusal
pub refused_for : (w : Bool) (s : Moment) (k : ℕ) (x : ServiceEvent) (error : ServiceError) (o : Result (Twice Reply) AllocError) (cause : Option Refusal)
    → ((r : Refusal) → cause ≡ Some r → first_cause (service_causes s k x) ≡ Some r) → IfRefused (λ r. cause ≡ Some r) error → IfOk o (Tells w error)
    → (is_quiet s.manager.passes ≡ true → s.remembered.told ≡ s.resources.tree) → IfOk o (λ r. (s, r) ≡ doubled w (step s k (Service x)))
refused_for w s k x (Refused r) o cause from judged told quiet = refused_called w s k (Service x) r o (from r judged) quiet told
refused_for w s k x Memory (Ok y) cause from judged told quiet = absurd told
refused_for w s k x Memory (Err y) cause from judged told quiet = tt

-- where two of three don't apply, the third is the first that does
pub third : (a b c : Option Refusal) → a ≡ None → b ≡ None → first_cause (a ∷ b ∷ c ∷ []) ≡ c
third a b c ha hb = (λ j. first_cause (ha j ∷ hb j ∷ c ∷ [])) ∙ last c
  where
    last : (o : Option Refusal) → first_cause (o ∷ []) ≡ o
    last None = refl
    last (Some r) = refl
