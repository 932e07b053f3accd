use Rattle.std.proofs.Common.{◌≡◌, true, not, [], ◌∷◌, sym, ap, ◌∙◌, subst}
use Rattle.std.specs.Prelude.{Some, None}
use Rattle.proj_desc.specs.FirstCause.{first_cause, when}
use Rattle.pass_table.specs.Passes.{is_quiet}
use Rattle.core_event.specs.declared.event.Event.TheVariants.{Service}
use Rattle.core_event.specs.declared.reply.Answer.TheVariants as answers
use Rattle.core_event.specs.declared.reply.Refusal.TheVariants.{NotServices}
use Rattle.core_event.specs.declared.service.ServiceEvent.TheVariants.{CheckIn}
use Rattle.core_event.specs.Twice.{doubled}
use Rattle.service_desk.specs.Desks.{may_end}
use Rattle.service_desk.specs.Refusals.{not_serving}
use Rattle.ws_core.specs.States.{Moment}
use Rattle.ws_core.specs.Inside.Parts.{moment}
use Rattle.ws_core.specs.Refusals.{refusal}
use Rattle.ws_core.specs.Steps.{step}
use Rattle.ws_core.proofs.Stepped.{check_in_so, refused_called}
use Rattle.ws_core.proofs.state.State.check_in.Goals as goal

pub returns-then-not-may_check_in-clause-ok : goal.returns-then-not-may_check_in-clause-ok
returns-then-not-may_check_in-clause-ok g c =
    let i = c.self.inside in
    let s : Moment = c.args.self.now in
    let k = c.args.pass in
    let outcome = c.args.outcome.now in
    let event = Service (CheckIn outcome) in
    let cause = NotServices c.services-holder.result in
    let holder : i.manager.passes.services ≡ s.manager.passes.services = ap (λ (z : Moment). z.manager.passes.services) c.self.view_is in
    let refused : not_serving s.manager.passes (may_end s.desk.serving outcome) k ≡ Some cause =
    ap (λ b. when b (NotServices s.manager.passes.services)) (ap not (sym c.may_check_in.ensures ∙ c.if-not-may_check_in.true)) ∙ ap (λ o. Some (NotServices o)) (sym (c.services-holder.ensures ∙ holder)) in
    let is : refusal s k event ≡ Some cause = ap (λ o. first_cause (o ∷ [])) refused in
    refused_called c.args.wants_copy s k event cause c.refuse.result is c.requires c.refuse.ensures

pub returns-clause-ok : goal.returns-clause-ok
returns-clause-ok g c =
    let i = c.self.inside in
    let s : Moment = moment i.content i.manager i.desk in
    let k = c.args.pass in
    let w = c.args.wants_copy in
    let told : is_quiet s.manager.passes ≡ true → s.remembered.told ≡ s.resources.tree = subst (λ (z : Moment). is_quiet z.manager.passes ≡ true → z.remembered.told ≡ z.resources.tree) (sym c.self.view_is) c.requires in
    let outcome = c.args.outcome.now in
    let none : not_serving s.manager.passes (may_end s.desk.serving outcome) k ≡ None =
    ap (λ (z : Moment). not_serving z.manager.passes (may_end z.desk.serving outcome) k) c.self.view_is
    ∙ ap (λ b. when b (NotServices c.args.self.now.manager.passes.services)) (ap not (sym c.may_check_in.ensures ∙ c.if-not-may_check_in.false)) in
    let reply = c.untold.ensures w answers.Done c.done_twice.ensures in
    (λ j. (moment (c.end_save.ensures j) (record (i.manager) { passes = c.check_in.ensures j }) (c.put_back.ensures j), reply j))
    ∙ ap (doubled w) (check_in_so s k outcome none told)
    ∙ ap (λ z. doubled w (step z k (Service (CheckIn outcome)))) c.self.view_is
