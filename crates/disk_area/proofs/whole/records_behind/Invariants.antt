use Rattle.std.proofs.Common.{◌≡◌, IfSome}
use Rattle.ws_outside.specs.Disk.{held, LeavesOnly}
use Rattle.disk_area.proofs.Reached.{Reached}
use Rattle.disk_area.proofs.whole.records_behind.Given as goal

abbrev pub invariant-loop-step : goal.invariant-loop-step
invariant-loop-step g l = record {
  seen : g.D.Disk.seen l.disk ≡ g.D.Disk.seen l.fn.disk;
  any_moment : LeavesOnly g.D.Disk.moment g.D.Disk.left_since g.D.Disk.may_leave l.fn.disk l.disk (g.D.Disk.may_leave l.fn.disk);
  faults : g.D.Disk.faults l.disk ≡ g.D.Disk.faults l.fn.disk;
  told : IfSome (g.D.Disk.seen l.fn.disk) (λ both. Reached (held l.area both) l.fn.gate l.most l._step l.bodies l.gate);
}
