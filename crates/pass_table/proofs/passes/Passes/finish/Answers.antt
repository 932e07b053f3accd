use Rattle.std.proofs.Common.{ap}
use Rattle.std.specs.Prelude.{not}
use Rattle.pass_table.proofs.Kept.{all_ended, some_in_batch}
use Rattle.pass_table.proofs.passes.Passes.finish.Goals as goal

pub without_all-self-inside-requires : goal.without_all-self-inside-requires
without_all-self-inside-requires g c h = some_in_batch c.self.inside.there c.self.inside.next c.self.inside.in_batch c.args.pass c.reset-was.result c.reset-was.ensures.was (ap not h) c.self.invariant

pub invariant_of-self : goal.invariant_of-self
invariant_of-self g c =
    all_ended c.self.inside.there c.reset-was.new.self c.self.inside.next c.self.inside.in_batch c.without_all-self-inside.result c.args.pass c.reset-was.result c.reset-was.ensures.was
    c.without_all-self-inside.ensures c.reset-was.ensures.reset c.self.invariant
