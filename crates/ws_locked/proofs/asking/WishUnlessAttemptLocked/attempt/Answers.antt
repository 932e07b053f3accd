use Rattle.std.proofs.Common.{◌≡◌, true, refl, sym, ap, subst}
use Rattle.pass_history.specs.There.{is_there}
use Rattle.ws_locked.proofs.Asked.{answered, tried_one, tried_there}
use Rattle.ws_locked.proofs.asking.WishUnlessAttemptLocked.attempt.Goals as goal

pub returns-clause-did : goal.returns-clause-did
returns-clause-did g c =
    let e = c.args.self.now.event in
    let l = c.args.machine.now in
    let s = l.opening.core.value.opened in
    let t = c.try_event.ensures.tried in (
      t.0,
      t.1,
      tried_one e s c.args.pass l.core.history t.0 c.try_event.result c.requires.may t.2,
      answered e _ s c.args.pass l.core.history t.0 c.try_event.result c.answer_to.result t.2 refl c.answer_to.ensures.answer c.answer_to.ensures.waits,
    )

pub returns-clause-still : goal.returns-clause-still
returns-clause-still g c =
    let l = c.args.machine.now in
    let s = l.opening.core.value.opened in
    let t = c.try_event.ensures.tried in
    let there = tried_there c.args.self.now.event s c.args.pass l.core.history t.0 c.try_event.result c.requires.may c.requires.there t.2 in
    subst (λ o. is_there o c.try_event.new.self.core.history c.args.pass ≡ true) (sym (ap (λ o. o.core.value.opened) c.try_event.ensures.opening))
    (subst (λ h. is_there s h c.args.pass ≡ true) (sym t.1) there)
