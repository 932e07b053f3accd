use Rattle.std.proofs.Common.{◌+◌, length, List, sym, subst, ap, arith, ◌∙◌}
use Rattle.std.specs.FinMap.{len-entries}
use Rattle.res_path.specs.Paths.{Names}
use Rattle.layer_log.specs.declared.change.Change.{Change}
use Rattle.layer_log.proofs.Taking.{Taking, taking_begins, taking_steps}
use Rattle.layer_log.proofs.changes.take_all.Goals as goal

pub loop-path-init : goal.loop-path-init
loop-path-init g c = record {
  taken = subst (λ es. Taking c.args.log.now c.args.next.now es c.args.log.now) (sym c.iter-path-items.ensures ∙ sym c.into_iter-path-iterator.ensures.into_iter_gives) (taking_begins c.args.log.now c.args.next.now c.requires);
  most =
      let all = ap (λ (es : List (Names × Change)). length es) (c.into_iter-path-iterator.ensures.into_iter_gives ∙ c.iter-path-items.ensures) ∙ sym (len-entries c.args.next.now) in
      omega (arith, all);
  cost = ap (λ (es : List (Names × Change)). c.args.steps.now + length es) (c.into_iter-path-iterator.ensures.into_iter_gives ∙ c.iter-path-items.ensures) ∙ ap (λ n. c.args.steps.now + n) (sym (len-entries c.args.next.now));
}

pub loop-path-preserved : goal.loop-path-preserved
loop-path-preserved g c = record {
  taken = taking_steps c.args.log.now c.args.next.now c.loop-path.log c.take_in.new.self (c.in-Some.path.now, c.in-Some.change.now) c.next.new.self
      (subst (λ es. Taking c.args.log.now c.args.next.now es c.loop-path.log) c.in-Some.ensures.steps c.loop-path.invariant.taken)
      c.in_ok-take_in.ensures.at c.in_ok-take_in.ensures.others;
  most = omega (arith, c.in_ok-take_in.ensures.most, c.loop-path.invariant.most, ap length c.in-Some.ensures.steps);
  cost = omega (arith, c.tick.ensures, c.loop-path.invariant.cost, ap length c.in-Some.ensures.steps);
}
