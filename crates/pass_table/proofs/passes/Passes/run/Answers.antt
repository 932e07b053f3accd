use Rattle.std.proofs.Common.{sym, ap, subst, ◌∙◌}
use Rattle.std.specs.FinMap.{get}
use Rattle.std.specs.Prelude.{IsSome, Some}
use Rattle.pass_table.specs.Passes.{Passes, is_quiet}
use Rattle.pass_table.proofs.Kept.{job_begun, quiet}
use Rattle.pass_table.proofs.passes.Passes.run.Goals.{in-Ok, in-Err}
use Rattle.pass_table.proofs.passes.Passes.run.Goals as goal

pub invariant_of-self : goal.invariant_of-self
invariant_of-self g c =
    job_begun c.self.inside.there c.set_job.new.self c.self.inside.next c.self.inside.in_batch c.args.pass (Some c.args.name)
    (subst (λ u. IsSome (get u c.args.pass)) (ap (λ (v : Passes g.row.A.Denot). v.there) (sym c.self.view_is)) c.requires.there) c.set_job.ensures c.self.invariant

pub returns-clause-quiet : goal.returns-clause-quiet
returns-clause-quiet g c =
    let i = c.self.inside in
    let here = ap (λ (v : Passes g.row.A.Denot). is_quiet v) c.self.view_is in
    elim c.match-begin.branch [
      | in-Ok w ↦
          ap (λ (v : Passes g.row.A.Denot). is_quiet v) w.self-is
          ∙ sym (quiet w.set_job.new.self i.next i.in_batch
          (job_begun i.there w.set_job.new.self i.next i.in_batch c.args.pass (Some c.args.name)
          (subst (λ u. IsSome (get u c.args.pass)) (ap (λ (v : Passes g.row.A.Denot). v.there) (sym c.self.view_is)) c.requires.there) w.set_job.ensures c.self.invariant))
          ∙ quiet i.there i.next i.in_batch c.self.invariant ∙ here
      | in-Err w ↦ ap (λ (v : Passes g.row.A.Denot). is_quiet v) w.self-is ∙ here
    ]
