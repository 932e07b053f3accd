use Rattle.std.proofs.Common.{◌≡◌, true, sym, ap, subst}
use Rattle.pass_history.specs.There.{is_there}
use Rattle.ws_locked.proofs.Asked.{stood_there}
use Rattle.ws_locked.proofs.asking.WishAttemptLocked.attempt.Goals as goal

pub returns-in-Ok-Some-clause-still : goal.returns-in-Ok-Some-clause-still
returns-in-Ok-Some-clause-still g c =
    let l = c.args.machine.now in
    let s = l.opening.core.value.opened in
    let t = rw c.in-Ok-Some.field-0-is at c.in-Ok-Some.ensures.tried in
    let there = stood_there c.args.self.now.event s c.args.pass l.core.history t.0 c.requires.may c.requires.there t.2.entry in
    subst (λ o. is_there o c.try_event.new.self.core.history c.args.pass ≡ true) (sym (ap (λ o. o.core.value.opened) c.try_event.ensures.opening))
    (subst (λ h. is_there s h c.args.pass ≡ true) (sym t.1) there)
