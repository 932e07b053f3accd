use Rattle.std.proofs.Common.{◌≡◌, sym, subst, true, not}
use Rattle.rule_table.specs.Tables.{IsApart, fits, is_of}
use Rattle.rule_table.proofs.Kept.{pairs_filter}
use Rattle.rule_table.proofs.table.RuleTable.drop_all.Goals as goal

pub invariant_of-self : goal.invariant_of-self
invariant_of-self g c =
    subst (IsApart g.A.Atom.contains g.A.Atom.conflicts) (sym c.drop_all.ensures)
    (pairs_filter (λ earlier later. fits g.A.Atom.contains g.A.Atom.conflicts earlier later ≡ true) (λ held. not (is_of c.args.holder held)) c.self.inside.held.items c.self.invariant)

pub returns-clause-apart : goal.returns-clause-apart
returns-clause-apart g c = invariant_of-self g c
