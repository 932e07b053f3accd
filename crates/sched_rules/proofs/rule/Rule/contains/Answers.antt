use Rattle.std.proofs.Common.{◌∙◌, sym, ap, subst}
use Rattle.sched_rules.specs.Rules.{IsRule, rule_contains}
use Rattle.sched_rules.proofs.RuleLaws.{rule_contains_itself, rule_contains_through, rule_contains_both, rule_contained_conflicts, wider_rule_conflicts}
use Rattle.sched_rules.proofs.rule.Rule.contains.Goals as goal

pub returns-clause-value : goal.returns-clause-value
returns-clause-value g c = c.all_covered.ensures ∙ (λ i. rule_contains g.A.Atom.contains ((c.as_slice.ensures.value ∙ c.self.view_is) i) ((c.as_slice-2.ensures.value ∙ c.other.view_is) i))

pub returns-clause-itself : goal.returns-clause-itself
returns-clause-itself g c = λ e. returns-clause-value g c ∙ ap (rule_contains g.A.Atom.contains c.args.self.now) (sym e) ∙ rule_contains_itself g.met.A.Atom.lawful c.args.self.now

pub returns-clause-both : goal.returns-clause-both
returns-clause-both g c = λ h k. rule_contains_both g.met.A.Atom.lawful g.met.A.Ord.total c.args.self.now c.args.other.now (subst (IsRule g.A.Ord.cmp g.A.Atom.contains) c.self.view_is c.self.invariant) (subst (IsRule g.A.Ord.cmp g.A.Atom.contains) c.other.view_is c.other.invariant) (sym (returns-clause-value g c) ∙ h) k

pub returns-clause-through : goal.returns-clause-through
returns-clause-through g c = λ t h k. rule_contains_through g.met.A.Atom.lawful c.args.self.now c.args.other.now t (sym (returns-clause-value g c) ∙ h) k

pub returns-clause-conflict : goal.returns-clause-conflict
returns-clause-conflict g c = λ h n. rule_contained_conflicts g.met.A.Atom.lawful c.args.self.now c.args.other.now (sym (returns-clause-value g c) ∙ h) n

pub returns-clause-wider : goal.returns-clause-wider
returns-clause-wider g c = λ t h k. wider_rule_conflicts g.met.A.Atom.lawful c.args.self.now c.args.other.now t (sym (returns-clause-value g c) ∙ h) k
