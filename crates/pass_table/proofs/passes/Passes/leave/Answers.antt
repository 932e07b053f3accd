use Rattle.std.proofs.Common.{sym, ap, ◌∙◌}
use Rattle.std.specs.FinMap.{get}
use Rattle.std.specs.Option.{option_eq}
use Rattle.std.specs.Prelude.{is_some, not, ◌||◌, ◌==◌, Some}
use Rattle.rule_table.specs.Tables.{last_rule}
use Rattle.pass_table.specs.Passes.{Passes, is_busy, is_quiet, job_in, batches_in}
use Rattle.pass_table.proofs.Kept.{idle_bit, left_kept, neither, quiet}
use Rattle.pass_table.proofs.passes.Passes.leave.Goals as goal

pub invariant_of-self : goal.invariant_of-self
invariant_of-self g c =
    left_kept c.self.inside.there c.remove.new.self c.self.inside.next c.self.inside.in_batch c.args.pass c.self.invariant
    (idle_bit (is_some (last_rule c.args.pass c.self.inside.rules)) (is_some (job_in (get c.self.inside.there c.args.pass))) (get c.self.inside.there c.args.pass)
    (neither (is_some (last_rule c.args.pass c.self.inside.rules) || is_some (job_in (get c.self.inside.there c.args.pass)) || not (batches_in (get c.self.inside.there c.args.pass) == 0))
    (option_eq (λ a b. a == b) c.self.inside.services (Some c.args.pass))
    (ap (λ (v : Passes g.row.A.Denot). is_busy v c.args.pass) c.self.view_is ∙ sym c.is_busy.ensures ∙ c.if-is_busy.false)))
    c.remove.ensures

pub returns-clause-quiet : goal.returns-clause-quiet
returns-clause-quiet g c =
    sym (quiet c.remove.new.self c.self.inside.next c.self.inside.in_batch (invariant_of-self g c))
    ∙ quiet c.self.inside.there c.self.inside.next c.self.inside.in_batch c.self.invariant ∙ ap (λ (v : Passes g.row.A.Denot). is_quiet v) c.self.view_is
