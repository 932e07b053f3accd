use Rattle.std.specs.Prelude.{option_copied}
use Rattle.sched_rules.specs.Rules.{rule_conflicts}
use Rattle.rule_table.proofs.Lowest.{found_next}
use Rattle.rule_table.proofs.search.first_conflict.Goals as goal

pub loop-held-preserved : goal.loop-held-preserved
loop-held-preserved g c =
    found_next (λ held. rule_conflicts g.A.Atom.conflicts held.rule c.args.rule.now) c.args.all.now c.loop-held.held-index c.held-item.result
    (option_copied c.loop-held.found) (option_copied c.with_next-found.result) c.loop-held-test.true c.held-item.is c.loop-held.invariant c.with_next-found.ensures
