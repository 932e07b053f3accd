use Rattle.std.proofs.Common.{◌≡◌, true, sym, ap, ◌∙◌, subst}
use Rattle.std.specs.Prelude.{None}
use Rattle.core_event.specs.declared.event.Event.TheVariants.{Operation}
use Rattle.core_event.specs.Twice.{doubled}
use Rattle.job_manager.specs.Admission.{admission}
use Rattle.op_rule.specs.Rules.{operation_rule}
use Rattle.pass_table.specs.Passes.{is_quiet}
use Rattle.ws_core.specs.States.{Moment}
use Rattle.ws_core.specs.Steps.{step}
use Rattle.ws_core.specs.Inside.Parts.{moment}
use Rattle.ws_core.proofs.Stepped.{first_holds, operation_called}
use Rattle.ws_core.proofs.state.State.operate_admitted.Goals as goal

pub returns-clause-ok : goal.returns-clause-ok
returns-clause-ok g c =
    let i = c.self.inside in
    let s : Moment = moment i.content i.manager i.desk in
    let k = c.args.pass in
    let op = c.args.op.now in
    let w = c.args.wants_copy in
    let admitted : admission s.manager.passes.rules k (operation_rule op) ≡ None = ap (λ (z : Moment). admission z.manager.passes.rules k (operation_rule op)) c.self.view_is ∙ c.requires.admitted in
    let told : is_quiet s.manager.passes ≡ true → s.remembered.told ≡ s.resources.tree = subst (λ (z : Moment). is_quiet z.manager.passes ≡ true → z.remembered.told ≡ z.resources.tree) (sym c.self.view_is) c.requires.quiet in
    operation_called w s k op c.tells_after-tells.result c.operate.new.self c.in_ok-replied.replied c.leave_desk.new.desk admitted c.tells_after-tells.ensures told c.in_ok-replied.ensures.ok c.leave_desk.ensures
    ∙ ap (λ z. doubled w (step z k (Operation op))) c.self.view_is

pub operate-requires : goal.operate-requires
operate-requires g c =
    λ h. (subst (λ (z : Moment). is_quiet z.manager.passes ≡ true → z.remembered.told ≡ z.resources.tree) (sym c.self.view_is) c.requires.quiet) (first_holds _ _ (sym c.tells_after-tells.ensures ∙ h))
