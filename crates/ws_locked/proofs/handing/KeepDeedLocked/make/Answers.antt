use Rattle.std.proofs.Common.{◌≡◌, true, sym, ap, ◌∙◌, subst}
use Rattle.pass_history.specs.There.{is_there}
use Rattle.ws_turn.proofs.Lists.{some_same}
use Rattle.ws_locked.specs.Moved.{WereKept}
use Rattle.ws_locked.proofs.Keeping.{keeps_one, keeps_there}
use Rattle.ws_locked.proofs.handing.KeepDeedLocked.make.Goals as goal

pub returns-clause-did : goal.returns-clause-did
returns-clause-did g c =
    let a = c.keep_states.ensures.kept in
    let l = c.args.machine.now in
    let s = l.opening.core.value.opened in
    let was = sym c.in-Some.is ∙ c.take.ensures.value in (
      a.0,
      a.1,
      keeps_one c.in-Some.states s c.args.pass l.core.history a.0 c.keep_states.result a.2,
      λ states is. subst (λ z. WereKept z s c.args.pass l.core.history a.0 c.keep_states.result) (some_same c.in-Some.states states (was ∙ is)) a.2,
    )

pub returns-clause-still : goal.returns-clause-still
returns-clause-still g c =
    let a = c.keep_states.ensures.kept in
    let l = c.args.machine.now in
    let s = l.opening.core.value.opened in
    subst (λ o. is_there o c.keep_states.new.self.core.history c.args.pass ≡ true) (sym (ap (λ o. o.core.value.opened) c.keep_states.ensures.opening))
    (subst (λ h. is_there s h c.args.pass ≡ true) (sym a.1) (keeps_there c.in-Some.states s c.args.pass l.core.history a.0 c.keep_states.result c.requires.there a.2))
