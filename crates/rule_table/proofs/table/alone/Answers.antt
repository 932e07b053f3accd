use Rattle.std.proofs.Common.{sym}
use Rattle.sched_rules.specs.Rules.{rule_conflicts}
use Rattle.rule_table.proofs.Lowest.{none_found}
use Rattle.rule_table.proofs.table.alone.Goals as goal

pub returns-in-None-clause-admitted : goal.returns-in-None-clause-admitted
returns-in-None-clause-admitted g c = none_found (λ held. rule_conflicts g.A.Atom.conflicts held.rule c.args.rule.now) c.args.all.now (sym c.in-None.ensures)
