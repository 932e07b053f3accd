use Rattle.std.proofs.Common.{rules, sym, ap, subst, ◌∙◌}
use Rattle.std.specs.FinMap.{get}
use Rattle.std.specs.Prelude.{IsSome}
use Rattle.pass_table.specs.Passes.{Passes, batches_in, batches_of}
use Rattle.pass_table.proofs.Kept.{at_most, batch_begun, one_open, quiet}
use Rattle.pass_table.proofs.passes.Passes.begin_batch.Goals as goal

pub with_one-self-inside-requires : goal.with_one-self-inside-requires
with_one-self-inside-requires g c = at_most c.self.inside.there c.self.inside.next c.self.inside.in_batch c.self.invariant

pub invariant_of-self : goal.invariant_of-self
invariant_of-self g c =
    let there = ap (λ (v : Passes g.row.A.Denot). v.there) (sym c.self.view_is) in
    batch_begun c.self.inside.there c.set_batches.new.self c.self.inside.next c.self.inside.in_batch c.with_one-self-inside.result c.args.pass c.batches-batches.result c.in-Some.more
    (subst (λ u. IsSome (get u c.args.pass)) there c.requires) (c.batches-batches.ensures ∙ ap (λ u. batches_in (get u c.args.pass)) there)
    (search (rules, c.in-Some.ensures)) c.with_one-self-inside.ensures c.set_batches.ensures c.self.invariant

pub returns-clause-quiet : goal.returns-clause-quiet
returns-clause-quiet g c =
    sym (quiet c.set_batches.new.self c.self.inside.next c.with_one-self-inside.result (invariant_of-self g c))
    ∙ one_open c.self.inside.there c.self.inside.next c.self.inside.in_batch c.with_one-self-inside.result c.args.pass c.batches-batches.result c.self.invariant
    (c.batches-batches.ensures ∙ ap (λ (v : Passes g.row.A.Denot). batches_of v c.args.pass) (sym c.self.view_is)) c.with_one-self-inside.ensures
