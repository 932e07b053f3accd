use Rattle.std.proofs.Common.{◌≡◌, true, sym, ap, subst}
use Rattle.pass_history.specs.There.{is_there}
use Rattle.ws_locked.proofs.Numbers.{enter_both, enter_new}
use Rattle.ws_locked.proofs.machine.LockedMachine.enter.Goals as goal

pub returns-clause-new : goal.returns-clause-new
returns-clause-new g c =
    let l = c.args.self.now in
    let a = c.in_ok-reply.ensures.asked in
    enter_new l.opening.core.value.opened c.args.pass c.in-Id.number l.core.history a.0 c.in_ok-reply.reply c.stands.ensures.first c.stands.ensures.legal a.2 c.in-Id.is

pub returns-clause-there : goal.returns-clause-there
returns-clause-there g c =
    let l = c.args.self.now in
    let a = c.in_ok-reply.ensures.asked in
    let s = l.opening.core.value.opened in
    let both = enter_both s c.args.pass c.in-Id.number l.core.history a.0 c.in_ok-reply.reply c.requires a.2 c.in-Id.is in
    subst (λ o. (is_there o c.ask.new.self.core.history c.in-Id.number ≡ true) × (is_there o c.ask.new.self.core.history c.args.pass ≡ true)) (sym (ap (λ o. o.core.value.opened) c.ask.ensures.opening))
    (subst (λ h. (is_there s h c.in-Id.number ≡ true) × (is_there s h c.args.pass ≡ true)) (sym a.1) both)
