use Rattle.std.proofs.Common.{◌≡◌, refl, sym, ap, ◌∙◌, subst}
use Rattle.core_event.specs.Twice.{doubled}
use Rattle.job_manager.specs.Effects as managing
use Rattle.ws_core.specs.States.{Moment}
use Rattle.ws_core.specs.Steps.{step}
use Rattle.ws_core.specs.Inside.Parts.{moment}
use Rattle.ws_core.proofs.Stepped.{managed_still}
use Rattle.ws_core.proofs.state.State.manage_quiet.Goals as goal

pub returns-clause-ok : goal.returns-clause-ok
returns-clause-ok g c =
    let i = c.self.inside in
    let s : Moment = moment i.content i.manager i.desk in
    let k = c.args.pass in
    let e = c.args.event.now in
    let w = c.args.wants_copy in
    let done = managing.outcome i.manager k e in
    let p = c.in_ok-answer.ensures.ok in
    let manager : c.act.new.self ≡ done.0 = ap (λ d. d.0) p in
    let reply = c.untold.ensures w done.1 (ap (λ d. d.1) p) in
    let told : s.remembered.told ≡ s.resources.tree = subst (λ (z : Moment). z.remembered.told ≡ z.resources.tree) (sym c.self.view_is) c.requires.told in
    (λ j. (moment i.content (manager j) i.desk, reply j))
    ∙ ap (doubled w) (managed_still s k e done c.requires.managed c.requires.plain refl (λ _. told))
    ∙ ap (λ z. doubled w (step z k e)) c.self.view_is
