use Rattle.std.proofs.Common.{◌≡◌, false, refl, ap, ◌∙◌, subst}
use Rattle.core_event.specs.Twice.{doubled}
use Rattle.job_manager.specs.declared.manager.JobManager.{JobManager}
use Rattle.job_manager.specs.Effects as managing
use Rattle.ws_core.specs.States.{Moment}
use Rattle.ws_core.specs.Steps.{step}
use Rattle.ws_core.specs.Inside.Parts.{moment}
use Rattle.pass_table.specs.Passes.{is_quiet}
use Rattle.ws_core.specs.Effects.{managed}
use Rattle.ws_core.proofs.Stepped.{managed_still, not_told}
use Rattle.ws_core.proofs.state.State.manage_open.Goals as goal

pub returns-clause-ok : goal.returns-clause-ok
returns-clause-ok g c =
    let i = c.self.inside in
    let s : Moment = moment i.content i.manager i.desk in
    let k = c.args.pass in
    let e = c.args.event.now in
    let w = c.args.wants_copy in
    let done = managing.outcome i.manager k e in
    let p = c.in_ok-answer.ensures.ok in
    let manager : c.act.new.self ≡ done.0 = ap (λ d. d.0) p in
    let reply = c.untold.ensures w done.1 (ap (λ d. d.1) p) in
    let was : is_quiet i.manager.passes ≡ false = ap (λ (z : Moment). is_quiet z.manager.passes) c.self.view_is ∙ c.requires.busy in
    let busy : is_quiet done.0.passes ≡ false = subst (λ (m : JobManager). is_quiet m.passes ≡ false) manager (c.in_ok-answer.ensures.busy c.requires.closes was) in
    (λ j. (moment i.content (manager j) i.desk, reply j))
    ∙ ap (doubled w) (managed_still s k e done c.requires.managed c.requires.plain refl (λ h. absurd (not_told e (managed s done).0 c.requires.other busy h)))
    ∙ ap (λ z. doubled w (step z k e)) c.self.view_is
