use Rattle.std.proofs.Common.{get_or, refl}
use Rattle.build_order.proofs.Grouping.{members_more}
use Rattle.build_order.proofs.groups.members_of.Goals as goal

pub loop-number-preserved : goal.loop-number-preserved
loop-number-preserved c =
    let n = c.loop-number.number in
    let leads = c.args.leads.now in
    members_more leads c.loop-number.members c.push.new.self n (get_or leads n 0) (c.requires n 0 c.loop-number-test.true) refl c.in_ok-push.ensures c.loop-number.invariant
