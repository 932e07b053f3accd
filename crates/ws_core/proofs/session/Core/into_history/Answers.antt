use Rattle.std.proofs.Common.{◌≡◌, sym, ap, ◌∙◌, subst}
use Rattle.ws_core.specs.Histories.{notices, told_of}
use Rattle.ws_core.specs.Sessions.{Session}
use Rattle.ws_core.proofs.SessionsKept.{session_told}
use Rattle.ws_core.proofs.session.Core.into_history.Goals as goal

pub returns-clause-told : goal.returns-clause-told
returns-clause-told g c =
    let i = c.self.inside in
    let x : Session = record { opened = i.opened.value; history = i.entries.items; state = i.state } in
    let is : c.of.result ≡ c.args.self.history = c.of.ensures ∙ ap (λ (y : Session). y.history) c.self.view_is in
    subst (λ h. told_of h ≡ notices c.args.self.opened h) (sym is)
    (subst (λ (y : Session). told_of y.history ≡ notices y.opened y.history) c.self.view_is (session_told x c.self.invariant.0))
