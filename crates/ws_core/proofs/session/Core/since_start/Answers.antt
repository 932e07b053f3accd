use Rattle.std.proofs.Common.{sym, subst}
use Rattle.delta_kind.specs.Deltas.{TellsContents}
use Rattle.delta_kind.proofs.Contents.{tells_contents}
use Rattle.ws_core.specs.Sessions.{Session}
use Rattle.ws_core.proofs.Stepped.{if_ok}
use Rattle.ws_core.proofs.SessionsKept.{told_between}
use Rattle.ws_core.proofs.session.Core.since_start.Goals as goal

pub returns-clause-contents : goal.returns-clause-contents
returns-clause-contents g c =
    let i = c.self.inside in
    let x : Session = record { opened = i.opened.value; history = i.entries.items; state = i.state } in
    if_ok c.since_start.result (λ nodes is.
    subst (λ (y : Session). TellsContents y.opened.resources.tree y.state.resources.tree nodes) c.self.view_is
    (told_between x nodes c.self.invariant.0 (λ same.
    subst (TellsContents i.state.remembered.start i.state.resources.tree) (sym is) (tells_contents i.state.remembered.start i.state.resources.tree same)))) c.since_start.ensures
