use Rattle.std.proofs.Common.{ap, sym, ◌∙◌, subst, ℕ, List}
use Rattle.core_event.specs.declared.event.Event.TheVariants.{Service}
use Rattle.core_event.specs.declared.service.ServiceEvent.TheVariants as services
use Rattle.build_laws.specs.States.{item}
use Rattle.ws_core.specs.Steps.{step}
use Rattle.build_core.specs.Histories.{given_of, Steps}
use Rattle.build_host.proofs.Handing.{hands}
use Rattle.build_host.proofs.Results.{handed_answered}
use Rattle.build_host.proofs.serving.hand.Goals as goal

pub unreachable-requires : goal.unreachable-requires
unreachable-requires g c = handed_answered c.args.core.now.state 1 (item c.args.project.now c.args.index c.args.command.now) c.args.kind c.requires.may c.requires.described
    (ap (λ (n : List ℕ). given_of (step c.args.core.now.state 1 (Service (services.Handed n c.args.index c.args.kind))).1.answer) (sym c.in_ok-copy.ensures) ∙ ap given_of (sym c.in_ok-answer.ensures.steps.1) ∙ sym c.given_of.ensures ∙ c.in-None.is)

pub returns-clause-given : goal.returns-clause-given
returns-clause-given g c = λ first began told le.
    hands 1 first began told (item c.args.project.now c.args.index c.args.command.now) c.args.kind c.in-Some.given c.args.core.now c.answered.new.core le c.requires.may c.requires.described
    (subst (λ (n : List ℕ). Steps 1 (Service (services.Handed n c.args.index c.args.kind)) c.args.core.now c.answered.new.core) c.in_ok-copy.ensures c.in_ok-answer.ensures.steps.0)
    (ap (λ (n : List ℕ). given_of (step c.args.core.now.state 1 (Service (services.Handed n c.args.index c.args.kind))).1.answer) (sym c.in_ok-copy.ensures) ∙ ap given_of (sym c.in_ok-answer.ensures.steps.1) ∙ sym c.given_of.ensures ∙ c.in-Some.is)
