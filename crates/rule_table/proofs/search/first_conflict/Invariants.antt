use Rattle.std.proofs.Common.{◌≡◌, take}
use Rattle.std.specs.Prelude.{option_copied}
use Rattle.std.specs.List.{filter}
use Rattle.sched_rules.specs.Rules.{rule_conflicts}
use Rattle.rule_table.specs.Tables.{lowest}
use Rattle.rule_table.proofs.search.first_conflict.Given as goal

abbrev pub invariant-loop-held : goal.invariant-loop-held
invariant-loop-held g l = option_copied l.found ≡ lowest (filter (λ held. rule_conflicts g.A.Atom.conflicts held.rule l.rule) (take l.held-index l.all))
