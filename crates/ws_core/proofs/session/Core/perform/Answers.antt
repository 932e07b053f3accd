use Rattle.std.proofs.Common.{◌≡◌, true, sym, subst}
use Rattle.ws_core.specs.Histories.{has_entered}
use Rattle.ws_core.specs.Sessions.{Session}
use Rattle.ws_core.proofs.SessionsKept.{goes_on_so}
use Rattle.ws_core.proofs.session.Core.perform.Goals as goal

pub invariant_of-self-2 : goal.invariant_of-self-2
invariant_of-self-2 g c =
    let i = c.self.inside in
    let k = c.args.pass in
    let x : Session = record { opened = i.opened.value; history = i.entries.items; state = i.state } in
    let there : has_entered k x.state ≡ true = subst (λ (y : Session). has_entered k y.state ≡ true) (sym c.self.view_is) c.requires in
    let done = c.in_ok-advance.ensures in
    (goes_on_so x k c.args.event c.advance.new.state c.advance.new.entries.items c.self.invariant.0 there done.state done.entries, done.fits)
