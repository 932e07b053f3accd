use Rattle.std.proofs.Common.{◌≡◌, true, sym, ap, subst}
use Rattle.std.specs.Prelude.{OnErr}
use Rattle.pass_history.specs.There.{is_there}
use Rattle.ws_locked.proofs.Numbers.{left_err, left_ok, left_still}
use Rattle.ws_locked.proofs.machine.LockedMachine.leave.Goals as goal

pub returns-in-Ok-clause-ok : goal.returns-in-Ok-clause-ok
returns-in-Ok-clause-ok g c =
    let l = c.args.self.now in
    let a = c.in-Ok.ensures.asked in
    left_ok l.opening.core.value.opened c.args.pass l.core.history a.0 c.ask.new.self.core.history c.in-Ok.reply a.2 a.1 c.has_left.result c.has_left.ensures.ok

pub returns-in-Ok-clause-err : goal.returns-in-Ok-clause-err
returns-in-Ok-clause-err g c =
    let l = c.args.self.now in
    let a = c.in-Ok.ensures.asked in
    left_err l.opening.core.value.opened c.args.pass l.core.history a.0 c.ask.new.self.core.history c.in-Ok.reply a.2 a.1 c.has_left.result c.has_left.ensures.err

pub returns-in-Ok-clause-still : goal.returns-in-Ok-clause-still
returns-in-Ok-clause-still g c =
    let l = c.args.self.now in
    let a = c.in-Ok.ensures.asked in
    let still = left_still l.opening.core.value.opened c.args.pass l.core.history a.0 c.ask.new.self.core.history c.in-Ok.reply a.2 a.1 c.has_left.result c.requires c.has_left.ensures.err in
    subst (λ o. OnErr c.has_left.result (is_there o c.ask.new.self.core.history c.args.pass ≡ true)) (sym (ap (λ o. o.core.value.opened) c.ask.ensures.opening)) still
