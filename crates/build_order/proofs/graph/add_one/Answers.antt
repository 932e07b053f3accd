use Rattle.std.proofs.Common.{arith}
use Rattle.build_order.proofs.Rowing.{added_more, added_same}
use Rattle.build_order.proofs.graph.add_one.Goals as goal

pub returns-in_ok-push-in-Some : goal.returns-in_ok-push-in-Some
returns-in_ok-push-in-Some c references old h =
    added_more c.args.names.now c.args.from c.in-Some.to references c.args.name.now old c.args.graph.now c.push.new.self c.requires.rising (omega (arith, c.requires.from, h.as_long))
    c.in-Some.ensures.0 c.in-Some.ensures.1 c.in_ok-push-in-Some.ensures h

pub returns-in-None : goal.returns-in-None
returns-in-None c references old h = added_same c.args.names.now c.args.from references c.args.name.now old c.args.graph.now c.in-None.ensures h
