use Rattle.std.proofs.Common.{refl, sym, ap, ◌∙◌}
use Rattle.std.specs.FinMap.{get}
use Rattle.pass_table.specs.Passes.{Passes, batches_in}
use Rattle.pass_table.proofs.Kept.{batch_ended, some_open}
use Rattle.pass_table.proofs.passes.Passes.end_batch.Goals as goal

pub without_last-self-inside-requires : goal.without_last-self-inside-requires
without_last-self-inside-requires g c =
    some_open c.self.inside.there c.self.inside.next c.self.inside.in_batch c.args.pass c.batches-batches.result
    (c.batches-batches.ensures ∙ ap (λ (v : Passes g.row.A.Denot). batches_in (get v.there c.args.pass)) (sym c.self.view_is)) c.if-batches-eq0.false c.self.invariant

pub invariant_of-self : goal.invariant_of-self
invariant_of-self g c =
    batch_ended c.self.inside.there c.set_batches.new.self c.self.inside.next c.self.inside.in_batch c.without_last-self-inside.result c.args.pass c.batches-batches.result _
    (c.batches-batches.ensures ∙ ap (λ (v : Passes g.row.A.Denot). batches_in (get v.there c.args.pass)) (sym c.self.view_is)) c.if-batches-eq0.false refl c.without_last-self-inside.ensures c.set_batches.ensures c.self.invariant
