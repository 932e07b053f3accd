use Rattle.std.proofs.Common.{ℕ, take, sym, subst}
use Rattle.sched_rules.specs.Atoms.{atom_contains, atom_conflicts}
use Rattle.rule_table.specs.Tables.{IsApart}
use Rattle.ws_core.specs.Histories.{replay}
use Rattle.ws_top.proofs.running.ended.Goals as goal

pub returns-clause-thread : goal.returns-clause-thread
returns-clause-thread g c = record {
  legal = c.into_history-history.ensures.legal;
  told = c.into_history-history.ensures.told;
  apart = subst (λ h. (n : ℕ) → IsApart atom_contains atom_conflicts (replay c.args.core.opened (take n h)).manager.passes.rules) (sym c.into_history-history.ensures.history) c.keep_apart.ensures;
}
