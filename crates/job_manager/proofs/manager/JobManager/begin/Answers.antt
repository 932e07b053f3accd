use Rattle.std.proofs.Common.{◌≡◌, true, ap, sym, ◌∙◌, subst}
use Rattle.sched_rules.specs.Atoms.{atom_contains, atom_conflicts}
use Rattle.rule_table.specs.Tables.{admits}
use Rattle.pass_table.specs.Rows.{begun}
use Rattle.core_event.specs.declared.event.Event.TheVariants.{Begin}
use Rattle.job_manager.specs.Effects.{decided}
use Rattle.core_event.specs.Twice.{doubled}
use Rattle.job_manager.proofs.Admitted.{admitted}
use Rattle.job_manager.proofs.manager.JobManager.begin.Goals as goal

pub returns-in-Ok-clause-ok : goal.returns-in-Ok-clause-ok
returns-in-Ok-clause-ok c =
    let m = c.args.self.now in
    let rule = c.args.rule.now in
    let after = c.in-Ok.ensures.ok ∙ ap (begun m.passes c.args.pass) c.in_ok-rule.ensures in
    (λ i. (record { jobs = m.jobs; passes = after i }, c.done_twice.ensures i))
    ∙ ap (λ r. doubled c.args.wants_copy (decided r m c.args.pass (Begin rule)))
    (sym (admitted m.passes.rules c.args.pass rule
    (subst (λ r. admits atom_contains atom_conflicts m.passes.rules c.args.pass r ≡ true) c.in_ok-rule.ensures c.in-Ok.ensures.admitted)))
