use Rattle.std.proofs.Common.{◌∙◌, sym}
use Rattle.std.specs.Cmp.Lexicographic.{pointwise}
use Rattle.sched_rules.proofs.RuleLaws.{same_rules}
use Rattle.sched_rules.proofs.rule.RulePartialEq.eq.Goals as goal

pub returns-clause-value : goal.returns-clause-value
returns-clause-value g c = c.eq.ensures ∙ (λ i. pointwise g.A.PartialEq.eq ((c.as_slice.ensures.value ∙ c.self.view_is) i) ((c.as_slice-2.ensures.value ∙ c.other.view_is) i))

pub returns-clause-same : goal.returns-clause-same
returns-clause-same g c =
    let decides = same_rules g.met.A.Atom.exact g.met.A.Ord.total g.met.A.Ord.matches_eq c.args.self.now c.args.other.now in
    (λ h. decides.0 (sym (returns-clause-value g c) ∙ h), λ e. returns-clause-value g c ∙ decides.1 e)
