use Rattle.std.proofs.Common.{◌≡◌, true, sym, ap, ◌∙◌, subst}
use Rattle.pass_history.specs.There.{is_there}
use Rattle.ws_turn.proofs.Lists.{some_same}
use Rattle.ws_locked.specs.Moved.{WasBrought}
use Rattle.ws_locked.proofs.Lent.{brought}
use Rattle.ws_locked.proofs.handing.GiveDeedLocked.make.Goals as goal

pub returns-clause-did : goal.returns-clause-did
returns-clause-did g c =
    let e = c.check_in.ensures in
    let l = c.args.machine.now in
    let s = l.opening.core.value.opened in
    let v = c.in-Some.given in
    let a = brought s c.args.pass v.outcome v.services l.core.history c.check_in.new.self.core.history c.check_in.result e.ok e.err e.never in
    let was = sym c.in-Some.is ∙ c.take.ensures.value in
    (a.0, a.1.grew, a.1.one, λ w is. subst (λ q. WasBrought s c.args.pass q.outcome q.services l.core.history a.0 c.check_in.result) (some_same v w (was ∙ is)) a.2)

pub returns-clause-still : goal.returns-clause-still
returns-clause-still g c =
    let e = c.check_in.ensures in
    let l = c.args.machine.now in
    let v = c.in-Some.given in
    let a = brought l.opening.core.value.opened c.args.pass v.outcome v.services l.core.history c.check_in.new.self.core.history c.check_in.result e.ok e.err e.never in
    subst (λ o. is_there o c.check_in.new.self.core.history c.args.pass ≡ true) (sym (ap (λ o. o.core.value.opened) e.opening)) (a.1.still c.requires.there)
