use Rattle.std.proofs.Common.{sym, ap, ◌∙◌}
use Rattle.pass_table.specs.Passes.{Passes, batches_of, is_quiet}
use Rattle.pass_table.specs.Rows.{finished}
use Rattle.pass_table.proofs.Kept.{quiet, batches_within, quiet_beside}
use Rattle.pass_table.proofs.passes.Passes.is_quiet_beside.Goals as goal

pub without_all-requires : goal.without_all-requires
without_all-requires g c =
    batches_within c.self.inside.there c.self.inside.next c.self.inside.in_batch c.args.pass c.batches-batches.result c.self.invariant
    (c.batches-batches.ensures ∙ ap (λ (v : Passes g.row.A.Denot). batches_of v c.args.pass) (sym c.self.view_is))

pub returns : goal.returns
returns g c =
    quiet_beside c.self.inside.there c.self.inside.next c.self.inside.in_batch c.without_all.result c.args.pass c.batches-batches.result c.self.invariant
    (c.batches-batches.ensures ∙ ap (λ (v : Passes g.row.A.Denot). batches_of v c.args.pass) (sym c.self.view_is)) c.without_all.ensures
    ∙ ap (λ (v : Passes g.row.A.Denot). is_quiet (finished v c.args.pass)) c.self.view_is
