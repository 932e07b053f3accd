use Rattle.std.proofs.Common.{Ok, ap, ◌∙◌}
use Rattle.ws_outside.specs.Disk.{held}
use Rattle.disk_area.proofs.Moments.{both}
use Rattle.disk_area.proofs.Reached.{at_first, further, closed_there, stopped_there, all_steps}
use Rattle.disk_area.proofs.Readings.{both_told, one_told}
use Rattle.disk_area.proofs.whole.records_behind.Goals as goal

pub loop-step-init : goal.loop-step-init
loop-step-init g c = record {
  seen = c.size.ensures.seen;
  any_moment = c.size.ensures.any_moment;
  faults = c.in_ok-most.ensures.cause;
  told = one_told (g.D.Disk.seen c.args.disk.now) (λ both size. at_first (held c.args.area both) c.args.gate c.in_ok-most.most c.empty-bodies.result size c.empty-bodies.ensures) c.in_ok-most.ensures.told;
}

pub returns-in-Ok-None-clause-told : goal.returns-in-Ok-None-clause-told
returns-in-Ok-None-clause-told g c =
    let now = c.loop-step in
    both_told (g.D.Disk.seen c.args.disk.now) (g.D.Disk.seen now.disk) now.invariant.seen now.invariant.told c.in-Ok-None.ensures.record
    (λ both reached found. ap (λ r. Ok r) (closed_there (held c.args.area both) c.args.gate c.in_ok-most.most now._step now.bodies now.gate c.in-Ok-None.field-0 c.loop-step-test.true found c.in-Ok-None.field-0-is reached))

pub returns-in-Err-clause-told : goal.returns-in-Err-clause-told
returns-in-Err-clause-told g c =
    let now = c.loop-step in
    both_told (g.D.Disk.seen c.args.disk.now) (g.D.Disk.seen now.disk) now.invariant.seen now.invariant.told c.in-Err.ensures.record
    (λ both reached found. stopped_there c.args.area (held c.args.area both) c.args.gate c.in_ok-most.most now._step now.bodies now.gate c.in-Err.fault _ c.loop-step-test.true found c.stopped.ensures.damaged c.stopped.ensures.disk c.stopped.ensures.memory reached)

pub loop-step-preserved : goal.loop-step-preserved
loop-step-preserved g c =
    let now = c.loop-step in
    let kept = now.invariant in
    record {
      seen = c.record_piece.ensures.seen ∙ kept.seen;
      any_moment = both g.D.Disk.moment g.D.Disk.left_since g.D.Disk.may_leave c.args.disk.now now.disk c.record_piece.new.disk (g.D.Disk.may_leave c.args.disk.now) (g.D.Disk.may_leave now.disk)
          kept.any_moment c.record_piece.ensures.any_moment kept.any_moment.now;
      faults = c.in-Ok-Some.ensures.cause ∙ kept.faults;
      told = both_told (g.D.Disk.seen c.args.disk.now) (g.D.Disk.seen now.disk) kept.seen kept.told c.in-Ok-Some.ensures.record
          (λ areas reached found. further (held c.args.area areas) c.args.gate c.in_ok-most.most now._step now.bodies c.push.new.self now.gate c.in-Ok-Some.field-0 c.in-Ok-Some.piece c.loop-step-test.true found c.in-Ok-Some.field-0-is c.in_ok-push-in-Ok-Some.ensures.ok reached);
    }

pub returns-clause-told : goal.returns-clause-told
returns-clause-told g c =
    let now = c.loop-step in
    one_told (g.D.Disk.seen c.args.disk.now)
    (λ both reached. ap (λ r. Ok r) (all_steps (held c.args.area both) c.args.gate c.in_ok-most.most now._step now.bodies now.gate c.loop-step-test.false reached)) now.invariant.told
