use Rattle.std.proofs.Common.{◌≡◌, ◌∙◌, sym, subst, true}
use Rattle.rule_table.specs.Tables.{IsApart, admits}
use Rattle.rule_table.proofs.Kept.{begun_apart}
use Rattle.rule_table.proofs.table.RuleTable.begin.Goals as goal

pub invariant_of-self-2 : goal.invariant_of-self-2
invariant_of-self-2 g c =
    let all = c.self.inside.held.items in
    let admitted : admits g.A.Atom.contains g.A.Atom.conflicts all c.args.holder c.args.rule ≡ true =
    (λ i. admits g.A.Atom.contains g.A.Atom.conflicts (c.self.view_is i) c.args.holder c.args.rule) ∙ c.in_ok-admit.ensures.admitted in
    subst (IsApart g.A.Atom.contains g.A.Atom.conflicts) (sym c.in_ok-push.ensures.items)
    (begun_apart g.met.A.Atom.lawful c.args.holder c.args.rule all c.self.invariant admitted)

pub returns-clause-apart : goal.returns-clause-apart
returns-clause-apart g c = invariant_of-self-2 g c
