use Rattle.std.proofs.Common.{◌≡◌, true, sym, ap, ◌∙◌, subst}
use Rattle.pass_history.specs.There.{is_there}
use Rattle.ws_turn.proofs.Lists.{some_same}
use Rattle.ws_locked.specs.Asked.{WasAsked, is_plain}
use Rattle.ws_locked.proofs.Asked.{adds_one, still_there}
use Rattle.ws_locked.proofs.asking.AskDeedLocked.make.Goals as goal

pub returns-clause-did : goal.returns-clause-did
returns-clause-did g c =
    let a = c.ask.ensures.asked in
    let l = c.args.machine.now in
    let s = l.opening.core.value.opened in
    let m = c.requires.may in
    let was = sym c.in-Some.is ∙ c.take.ensures.value in
    let plain = subst (λ e. is_plain e ≡ true) (some_same m.0 c.in-Some.event (sym (was ∙ m.1))) m.2 in (
      a.0,
      a.1,
      adds_one c.in-Some.event s c.args.pass l.core.history a.0 c.ask.result plain a.2,
      λ e is. subst (λ z. WasAsked z s c.args.pass l.core.history a.0 c.ask.result) (some_same c.in-Some.event e (was ∙ is)) a.2,
    )

pub returns-clause-still : goal.returns-clause-still
returns-clause-still g c =
    let a = c.ask.ensures.asked in
    let l = c.args.machine.now in
    let s = l.opening.core.value.opened in
    let m = c.requires.may in
    let was = sym c.in-Some.is ∙ c.take.ensures.value in
    let plain = subst (λ e. is_plain e ≡ true) (some_same m.0 c.in-Some.event (sym (was ∙ m.1))) m.2 in
    let there = still_there c.in-Some.event s c.args.pass l.core.history a.0 c.ask.result plain c.requires.there a.2 in
    subst (λ o. is_there o c.ask.new.self.core.history c.args.pass ≡ true) (sym (ap (λ o. o.core.value.opened) c.ask.ensures.opening))
    (subst (λ h. is_there s h c.args.pass ≡ true) (sym a.1) there)
