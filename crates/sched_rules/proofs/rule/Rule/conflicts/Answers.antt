use Rattle.std.proofs.Common.{◌∙◌, sym, ap}
use Rattle.sched_rules.specs.Rules.{rule_conflicts}
use Rattle.sched_rules.proofs.RuleLaws.{rule_conflicts_back, rule_conflicts_itself}
use Rattle.sched_rules.proofs.rule.Rule.conflicts.Goals as goal

pub returns-clause-value : goal.returns-clause-value
returns-clause-value g c = c.some_meet.ensures ∙ (λ i. rule_conflicts g.A.Atom.conflicts ((c.as_slice.ensures.value ∙ c.self.view_is) i) ((c.as_slice-2.ensures.value ∙ c.other.view_is) i))

pub returns-clause-back : goal.returns-clause-back
returns-clause-back g c = returns-clause-value g c ∙ rule_conflicts_back g.met.A.Atom.lawful c.args.self.now c.args.other.now

pub returns-clause-itself : goal.returns-clause-itself
returns-clause-itself g c = λ e n. returns-clause-value g c ∙ ap (rule_conflicts g.A.Atom.conflicts c.args.self.now) (sym e) ∙ rule_conflicts_itself g.met.A.Atom.lawful c.args.self.now n
