use Rattle.layer_log.proofs.Taking.{no_idle, kept_put, others_put, kept_gone, others_gone, most_put, most_gone}
use Rattle.layer_log.proofs.log.Log.take_in.Goals as goal

pub returns-in_ok-put-clause-at : goal.returns-in_ok-put-clause-at
returns-in_ok-put-clause-at c = kept_put c.args.self.now c.take-first.new.self c.args.path.now c.args.next.now c.take-first.result c.in_ok-change.change c.take-first.ensures.before c.take-first.ensures.removed c.in_ok-change.ensures c.put.new.self c.in_ok-copy.field-0 c.in_ok-copy.ensures c.in_ok-put.ensures.ok (no_idle c.is_idle.result c.if-not-is_idle.true c.is_idle.ensures)

pub returns-in_ok-put-clause-others : goal.returns-in_ok-put-clause-others
returns-in_ok-put-clause-others c = others_put c.args.self.now c.take-first.new.self c.args.path.now c.args.next.now c.take-first.result c.in_ok-change.change c.take-first.ensures.before c.take-first.ensures.removed c.in_ok-change.ensures c.put.new.self c.in_ok-copy.field-0 c.in_ok-copy.ensures c.in_ok-put.ensures.ok

pub returns-else-not-is_idle-clause-at : goal.returns-else-not-is_idle-clause-at
returns-else-not-is_idle-clause-at c = kept_gone c.args.self.now c.take-first.new.self c.args.path.now c.args.next.now c.take-first.result c.in_ok-change.change c.take-first.ensures.before c.take-first.ensures.removed c.in_ok-change.ensures (c.is_idle.ensures.0 c.if-not-is_idle.false)

pub returns-else-not-is_idle-clause-others : goal.returns-else-not-is_idle-clause-others
returns-else-not-is_idle-clause-others c = others_gone c.args.self.now c.take-first.new.self c.args.path.now c.args.next.now c.take-first.result c.in_ok-change.change c.take-first.ensures.before c.take-first.ensures.removed c.in_ok-change.ensures

pub returns-in_ok-put-clause-most : goal.returns-in_ok-put-clause-most
returns-in_ok-put-clause-most c = most_put c.args.self.now c.take-first.new.self c.put.new.self c.args.path.now c.in_ok-copy.field-0 c.in_ok-change.change c.take-first.ensures.removed c.in_ok-put.ensures.ok

pub returns-else-not-is_idle-clause-most : goal.returns-else-not-is_idle-clause-most
returns-else-not-is_idle-clause-most c = most_gone c.args.self.now c.take-first.new.self c.args.path.now c.take-first.ensures.removed
