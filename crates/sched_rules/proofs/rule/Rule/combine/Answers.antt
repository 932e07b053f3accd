use Rattle.std.proofs.Common.{◌∙◌, sym, ap, subst}
use Rattle.sched_rules.specs.Rules.{IsRule, combined, rule_contains}
use Rattle.sched_rules.proofs.Combining.{rule_of_is_rule, combined_contains_left, combined_contains_right, combined_least}
use Rattle.sched_rules.proofs.rule.Rule.combine.Goals as goal
use Rattle.std.proofs.Common.{◌++◌}

pub returns-clause-value : goal.returns-clause-value
returns-clause-value g c = c.in_ok-atoms.ensures
    ∙ (λ i. combined g.A.Ord.cmp g.A.Atom.contains ((c.as_slice.ensures.value ∙ c.a.view_is) i) ((c.as_slice-2.ensures.value ∙ c.b.view_is) i))

pub invariant_of-result : goal.invariant_of-result
invariant_of-result g c =
    subst (IsRule g.A.Ord.cmp g.A.Atom.contains) (sym c.in_ok-atoms.ensures)
    (rule_of_is_rule g.met.A.Atom.lawful g.met.A.Ord.total g.met.A.Atom.exact (c.as_slice.result.now ++ c.as_slice-2.result.now))

pub returns-clause-upper : goal.returns-clause-upper
returns-clause-upper g c =
    let a = c.args.a.now in
    let b = c.args.b.now in
    let one = subst (IsRule g.A.Ord.cmp g.A.Atom.contains) c.a.view_is c.a.invariant in
    let two = subst (IsRule g.A.Ord.cmp g.A.Atom.contains) c.b.view_is c.b.invariant in
    let same = returns-clause-value g c in (
      ap (λ r. rule_contains g.A.Atom.contains r a) same ∙ combined_contains_left g.met.A.Atom.lawful g.met.A.Ord.total g.met.A.Atom.exact a b one two,
      ap (λ r. rule_contains g.A.Atom.contains r b) same ∙ combined_contains_right g.met.A.Atom.lawful g.met.A.Ord.total g.met.A.Atom.exact a b one two,
    )

pub returns-clause-least : goal.returns-clause-least
returns-clause-least g c = λ wide h k.
    ap (rule_contains g.A.Atom.contains wide) (returns-clause-value g c)
    ∙ combined_least g.met.A.Atom.lawful g.met.A.Ord.total g.met.A.Atom.exact c.args.a.now c.args.b.now wide h k
