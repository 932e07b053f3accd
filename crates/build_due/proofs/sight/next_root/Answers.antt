use Rattle.std.proofs.Common.{[], subst, sym}
use Rattle.std.specs.Option.{option_copied}
use Rattle.build_due.specs.Inside.Walks.{roots, IsNextRoot}
use Rattle.build_due.proofs.Roots.{next_first, next_step}
use Rattle.build_due.proofs.sight.next_root.Goals as goal

pub loop-input-init : goal.loop-input-init
loop-input-init c = subst (λ x. IsNextRoot (roots [] c.args.output.now) c.args.path.now x) (sym c.nearer-next.ensures) (next_first c.args.path.now c.args.output.now)

pub loop-input-preserved : goal.loop-input-preserved
loop-input-preserved c = next_step c.args.inputs.now c.args.output.now c.args.path.now (option_copied c.loop-input.next) (option_copied c.nearer-next-in-loop-input.result)
    c.loop-input.input-index c.input-item.result c.loop-input-test.true c.input-item.is c.loop-input.invariant c.nearer-next-in-loop-input.ensures
