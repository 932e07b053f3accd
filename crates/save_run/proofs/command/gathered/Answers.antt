use Rattle.save_run.proofs.Courses.{all_gathered, all_stopped}
use Rattle.save_run.proofs.command.gathered.Goals as goal

pub returns-in-Ok-clause-gathered : goal.returns-in-Ok-clause-gathered
returns-in-Ok-clause-gathered g c = all_gathered c.args.kind c.saving_all.result (λ v. v.items) _ _ _ c.in-Ok.ensures.prepared c.saving_all.ensures.answered

pub returns-in-Ok-clause-stopped : goal.returns-in-Ok-clause-stopped
returns-in-Ok-clause-stopped g c = all_stopped c.args.kind c.saving_all.result _ _ _ c.in-Ok.ensures.prepared c.saving_all.ensures.stopped
