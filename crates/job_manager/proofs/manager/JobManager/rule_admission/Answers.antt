use Rattle.std.proofs.Common.{◌≡◌, true, ap, sym, ◌∙◌, subst}
use Rattle.sched_rules.specs.Atoms.{atom_contains, atom_conflicts}
use Rattle.rule_table.specs.Tables.{admits}
use Rattle.job_manager.proofs.Admitted.{admitted}
use Rattle.job_manager.proofs.manager.JobManager.rule_admission.Goals as goal

pub returns-in-Ok : goal.returns-in-Ok
returns-in-Ok c =
    sym (admitted c.args.self.now.passes.rules c.args.pass c.args.rule.now
    (subst (λ all. admits atom_contains atom_conflicts all c.args.pass c.args.rule.now ≡ true) c.rules.ensures c.in-Ok.ensures.admitted))
