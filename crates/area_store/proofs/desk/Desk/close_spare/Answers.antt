use Rattle.std.proofs.Common.{◌∷◌, drop}
use Rattle.disk_area.specs.Writes.{SameBehind, Becomes}
use Rattle.disk_area.proofs.Moments.{at_start, only_wider}
use Rattle.area_pair.specs.Reads.{other}
use Rattle.area_store.specs.Kept.{ReadsAs}
use Rattle.area_store.proofs.Steps.{start_reads, closing_reads, closing_kept, closed_kept, run_in, sure_in}
use Rattle.area_store.proofs.desk.Desk.close_spare.Goals as goal

pub returns-then-self-clause-any_moment : goal.returns-then-self-clause-any_moment
returns-then-self-clause-any_moment g c first begun kept =
    let d = g.D.Disk in
    at_start d.moment d.left_since d.may_leave g.met.D.Disk.only_now c.args.self.now.disk (ReadsAs (first ∷ begun)) (start_reads d.may_leave first begun c.args.self.now kept)

pub returns-in_err-close_gate-clause-any_moment : goal.returns-in_err-close_gate-clause-any_moment
returns-in_err-close_gate-clause-any_moment g c first begun kept =
    let d = g.D.Disk in
    let old = c.args.self.now in
    let run = run_in d.moment d.left_since d.may_leave old.disk c.close_gate.new.disk SameBehind _ (other old.home) c.other_of.ensures c.close_gate.ensures.any_moment in
    only_wider d.moment d.left_since d.may_leave old.disk c.close_gate.new.disk (ReadsAs (first ∷ begun)) _ run (closing_reads d.may_leave first begun old kept c.if-self.false)

pub returns-clause-any_moment : goal.returns-clause-any_moment
returns-clause-any_moment g c first begun kept =
    let d = g.D.Disk in
    let old = c.args.self.now in
    let run = run_in d.moment d.left_since d.may_leave old.disk c.close_gate.new.disk SameBehind _ (other old.home) c.other_of.ensures c.close_gate.ensures.any_moment in
    only_wider d.moment d.left_since d.may_leave old.disk c.close_gate.new.disk (ReadsAs (first ∷ begun)) _ run (closing_reads d.may_leave first begun old kept c.if-self.false)

pub returns-in_err-close_gate-clause-kept : goal.returns-in_err-close_gate-clause-kept
returns-in_err-close_gate-clause-kept g c first begun kept =
    let d = g.D.Disk in
    let old = c.args.self.now in
    let run = run_in d.moment d.left_since d.may_leave old.disk c.close_gate.new.disk SameBehind _ (other old.home) c.other_of.ensures c.close_gate.ensures.any_moment in
    closing_kept d.may_leave first begun old kept c.close_gate.new.disk c.if-self.false run.now

pub returns-clause-kept : goal.returns-clause-kept
returns-clause-kept g c first begun kept =
    let d = g.D.Disk in
    let old = c.args.self.now in
    closed_kept d.may_leave first begun old kept c.close_gate.new.disk
    (sure_in (d.may_leave old.disk) (d.may_leave c.close_gate.new.disk) (Becomes (λ old. 0 ∷ drop 1 old)) _ (other old.home) c.other_of.ensures c.in_ok-close_gate.ensures.closed)
