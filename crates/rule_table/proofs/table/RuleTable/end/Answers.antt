use Rattle.std.proofs.Common.{◌≡◌, ◌∙◌, sym, ap, subst, true}
use Rattle.std.specs.List.{remove}
use Rattle.rule_table.specs.Tables.{IsApart, fits, without_last}
use Rattle.rule_table.proofs.Kept.{pairs_without_last}
use Rattle.rule_table.proofs.table.RuleTable.end.Goals as goal

pub invariant_of-self : goal.invariant_of-self
invariant_of-self g c =
    let all = c.self.inside.held.items in
    let rest : c.remove.new.self.items ≡ without_last c.args.holder all =
    c.remove.ensures.items ∙ (λ i. remove (sym c.as_slice.ensures.value i) c.in-Some.at) ∙ c.in-Some.ensures.removed ∙ ap (without_last c.args.holder) c.as_slice.ensures.value in
    subst (IsApart g.A.Atom.contains g.A.Atom.conflicts) (sym rest)
    (pairs_without_last (λ earlier later. fits g.A.Atom.contains g.A.Atom.conflicts earlier later ≡ true) c.args.holder all c.self.invariant)

pub returns-then-eq-clause-apart : goal.returns-then-eq-clause-apart
returns-then-eq-clause-apart g c = invariant_of-self g c
