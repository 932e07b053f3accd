use Rattle.std.proofs.Common.{◌≡◌, true, refl, sym, ap, ◌∙◌, subst}
use Rattle.core_event.specs.declared.event.Event.TheVariants.{Service}
use Rattle.core_event.specs.declared.service.ServiceEvent.TheVariants.{Commit}
use Rattle.build_still.proofs.Still.{finds_still}
use Rattle.pass_history.specs.There.{is_there}
use Rattle.ws_turn.proofs.Lists.{some_same}
use Rattle.ws_locked.specs.Asked.{WasAsked}
use Rattle.ws_locked.proofs.Asked.{adds_one, still_there}
use Rattle.ws_locked.proofs.asking.CommitDeedLocked.make.Goals as goal

pub returns-clause-did : goal.returns-clause-did
returns-clause-did g c =
    let a = c.ask.ensures.asked in
    let l = c.args.machine.now in
    let s = l.opening.core.value.opened in
    let was = sym c.in-Some.is ∙ c.take.ensures.value in (
      a.0,
      a.1,
      adds_one (Service (Commit c.in-Some.edits)) s c.args.pass l.core.history a.0 c.ask.result refl a.2,
      λ e is. record {
        asked = subst (λ z. WasAsked (Service (Commit z)) s c.args.pass l.core.history a.0 c.ask.result) (some_same c.in-Some.edits e (was ∙ is)) a.2;
        still = finds_still s c.args.pass l.core.history c.stands.ensures.first c.stands.ensures.legal;
      },
    )

pub returns-clause-still : goal.returns-clause-still
returns-clause-still g c =
    let a = c.ask.ensures.asked in
    let l = c.args.machine.now in
    let s = l.opening.core.value.opened in
    let there = still_there (Service (Commit c.in-Some.edits)) s c.args.pass l.core.history a.0 c.ask.result refl c.requires.there a.2 in
    subst (λ o. is_there o c.ask.new.self.core.history c.args.pass ≡ true) (sym (ap (λ o. o.core.value.opened) c.ask.ensures.opening))
    (subst (λ h. is_there s h c.args.pass ≡ true) (sym a.1) there)
