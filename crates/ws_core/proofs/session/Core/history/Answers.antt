use Rattle.std.specs.Prelude.{take}
use Rattle.sched_rules.specs.Atoms.{atom_contains, atom_conflicts}
use Rattle.rule_table.specs.Tables.{IsApart}
use Rattle.std.proofs.Common.{◌≡◌, sym, ap, ◌∙◌, subst}
use Rattle.ws_core.specs.Histories.{notices, replay, told_of}
use Rattle.ws_core.specs.Sessions.{Session}
use Rattle.ws_core.proofs.SessionsKept.{fronts_apart, session_told}
use Rattle.ws_core.proofs.session.Core.history.Goals as goal

pub returns-clause-told : goal.returns-clause-told
returns-clause-told g c =
    let i = c.self.inside in
    let x : Session = record { opened = i.opened.value; history = i.entries.items; state = i.state } in
    let is : c.as_slice.result.now ≡ c.args.self.now.history = c.as_slice.ensures.value ∙ ap (λ (y : Session). y.history) c.self.view_is in
    subst (λ h. told_of h ≡ notices c.args.self.now.opened h) (sym is)
    (subst (λ (y : Session). told_of y.history ≡ notices y.opened y.history) c.self.view_is (session_told x c.self.invariant.0))

pub returns-clause-apart : goal.returns-clause-apart
returns-clause-apart g c n =
    let i = c.self.inside in
    let x : Session = record { opened = i.opened.value; history = i.entries.items; state = i.state } in
    let is : c.as_slice.result.now ≡ c.args.self.now.history = c.as_slice.ensures.value ∙ ap (λ (y : Session). y.history) c.self.view_is in
    subst (λ h. IsApart atom_contains atom_conflicts (replay c.args.self.now.opened (take n h)).manager.passes.rules) (sym is)
    (subst (λ (y : Session). IsApart atom_contains atom_conflicts (replay y.opened (take n y.history)).manager.passes.rules) c.self.view_is (fronts_apart x c.self.invariant.0 n))
