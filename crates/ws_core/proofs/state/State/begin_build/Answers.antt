use Rattle.std.proofs.Common.{◌≡◌, true, sym, ap, ◌∙◌, subst}
use Rattle.std.specs.Option.{option_copied}
use Rattle.std.specs.Prelude.{None}
use Rattle.proj_desc.specs.FirstCause.{first_cause}
use Rattle.pass_table.specs.Passes.{is_quiet}
use Rattle.core_event.specs.declared.event.Event.TheVariants.{Service}
use Rattle.core_event.specs.declared.reply.Answer.TheVariants as answers
use Rattle.core_event.specs.declared.service.ServiceEvent.TheVariants.{Checkout}
use Rattle.core_event.specs.Twice.{doubled, twice}
use Rattle.ws_core.specs.States.{Moment}
use Rattle.ws_core.specs.Inside.Parts.{moment}
use Rattle.ws_core.specs.Refusals.{service_causes}
use Rattle.ws_core.specs.Steps.{step}
use Rattle.build_plan.specs.Plans.{plan}
use Rattle.ws_core.proofs.Stepped.{build_so}
use Rattle.ws_core.proofs.state.State.begin_build.Goals as goal

pub returns-clause-ok : goal.returns-clause-ok
returns-clause-ok g c =
    let i = c.self.inside in
    let s : Moment = moment i.content i.manager i.desk in
    let k = c.args.pass in
    let w = c.args.wants_copy in
    let purpose = c.args.purpose.now in
    let scope = option_copied c.args.project in
    let told : is_quiet s.manager.passes ≡ true → s.remembered.told ≡ s.resources.tree = subst (λ (z : Moment). is_quiet z.manager.passes ≡ true → z.remembered.told ≡ z.resources.tree) (sym c.self.view_is) c.requires.quiet in
    let none : first_cause (service_causes s k (Checkout purpose)) ≡ None = ap (λ (z : Moment). first_cause (service_causes z k (Checkout purpose))) c.self.view_is ∙ c.requires.allowed in
    let same = c.in_ok-apart.ensures ∙ c.in_ok-plan.ensures ∙ ap (λ t. plan t scope) c.tree.ensures in
    let reply = c.untold.ensures w (answers.Plan (plan s.resources.tree scope)) (c.in_ok-answer.ensures ∙ ap (λ p. twice w (answers.Plan p)) same) in
    (λ j. (moment i.content (record (i.manager) { passes = c.check_out.ensures j }) (c.take_out.ensures j), reply j))
    ∙ ap (doubled w) (build_so s k purpose c.requires.build.0 scope c.requires.build.1 none told)
    ∙ ap (λ z. doubled w (step z k (Service (Checkout purpose)))) c.self.view_is
