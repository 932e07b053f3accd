use Rattle.std.proofs.Common.{sym, subst, ◌∙◌}
use Rattle.layer_log.specs.Records.{Meets}
use Rattle.tests_layers.proofs.Meeting.{AllFollow, all_meet}
use Rattle.tests_layers.proofs.changes.do_meet.Goals as goal

pub loop-path-init : goal.loop-path-init
loop-path-init c = subst (λ es. AllFollow c.args.first.now es → Meets c.args.first.now c.args.next.now)
    (sym c.iter-path-items.ensures ∙ sym c.into_iter-path-iterator.ensures.into_iter_gives) (all_meet c.args.first.now c.args.next.now)
