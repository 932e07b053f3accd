use Rattle.std.proofs.Common.{refl, sym, ap, ◌∙◌, ◌-◌}
use Rattle.std.specs.FinMap.{get}
use Rattle.pass_table.specs.Passes.{Passes, batches_in, is_quiet}
use Rattle.pass_table.specs.Rows.{out_of_batch, with_batches}
use Rattle.job_queue.specs.Changed.{changed}
use Rattle.pass_table.proofs.Kept.{batch_ended, one_fewer, quiet, some_open}
use Rattle.pass_table.proofs.passes.Passes.is_last_batch.Goals as goal

pub without_last-requires : goal.without_last-requires
without_last-requires g c =
    some_open c.self.inside.there c.self.inside.next c.self.inside.in_batch c.args.pass c.batches-batches.result
    (c.batches-batches.ensures ∙ ap (λ (v : Passes g.row.A.Denot). batches_in (get v.there c.args.pass)) (sym c.self.view_is)) (λ h. c.requires (sym c.batches-batches.ensures ∙ h)) c.self.invariant

pub returns : goal.returns
returns g c =
    let i = c.self.inside in
    quiet (changed (λ pass. with_batches (pass.batches - 1) pass) c.args.pass i.there) i.next c.without_last.result
    (batch_ended i.there _ i.next i.in_batch c.without_last.result c.args.pass c.batches-batches.result _
    (c.batches-batches.ensures ∙ ap (λ (v : Passes g.row.A.Denot). batches_in (get v.there c.args.pass)) (sym c.self.view_is)) (λ h. c.requires (sym c.batches-batches.ensures ∙ h)) refl c.without_last.ensures
    (one_fewer i.there c.args.pass c.batches-batches.result (c.batches-batches.ensures ∙ ap (λ (v : Passes g.row.A.Denot). batches_in (get v.there c.args.pass)) (sym c.self.view_is))) c.self.invariant)
    ∙ ap (λ (v : Passes g.row.A.Denot). is_quiet (out_of_batch v c.args.pass)) c.self.view_is
