use Rattle.std.proofs.Common.{[], ◌∷◌, ◌++◌}
use Rattle.disk_area.proofs.Moments.{only_wider}
use Rattle.area_store.specs.Kept.{recorded, ReadsAs}
use Rattle.area_store.proofs.Appends.{told_inside, appending_reads, appending_kept, appended_kept}
use Rattle.area_store.proofs.Steps.{on_err_of}
use Rattle.area_store.proofs.desk.Desk.append.Goals as goal

pub write_record-requires-clause-gate : goal.write_record-requires-clause-gate
write_record-requires-clause-gate g c =
    let old = c.args.self.now in
    told_inside old.home c.args.gate (g.D.Disk.may_leave old.disk) (g.D.Disk.seen old.disk) (g.met.D.Disk.reads_itself old.disk) c.requires.closed

pub returns-in_err-write_record-clause-any_moment : goal.returns-in_err-write_record-clause-any_moment
returns-in_err-write_record-clause-any_moment g c first begun kept =
    let d = g.D.Disk in
    let old = c.args.self.now in
    only_wider d.moment d.left_since d.may_leave old.disk c.write_record.new.disk (ReadsAs (first ∷ begun ++ recorded c.args.body.now first ∷ [])) _ c.write_record.ensures.any_moment
    (appending_reads d.may_leave first begun old kept c.args.gate c.args.body.now c.requires.acknowledged c.requires.sound)

pub returns-clause-any_moment : goal.returns-clause-any_moment
returns-clause-any_moment g c first begun kept =
    let d = g.D.Disk in
    let old = c.args.self.now in
    only_wider d.moment d.left_since d.may_leave old.disk c.write_record.new.disk (ReadsAs (first ∷ begun ++ recorded c.args.body.now first ∷ [])) _ c.write_record.ensures.any_moment
    (appending_reads d.may_leave first begun old kept c.args.gate c.args.body.now c.requires.acknowledged c.requires.sound)

pub returns-in_err-write_record-clause-unsaved : goal.returns-in_err-write_record-clause-unsaved
returns-in_err-write_record-clause-unsaved g c =
    let d = g.D.Disk in
    on_err_of c.from_residual.result (λ first begun kept. appending_kept d.may_leave first begun c.args.self.now kept c.args.gate c.args.body.now c.requires.acknowledged c.requires.sound c.write_record.new.disk c.write_record.ensures.any_moment.now)

pub returns-clause-saved : goal.returns-clause-saved
returns-clause-saved g c first begun kept =
    let d = g.D.Disk in
    appended_kept d.may_leave first begun c.args.self.now kept c.args.gate c.args.body.now c.requires.acknowledged c.requires.sound c.write_record.new.disk c.write_record.ensures.any_moment.now c.in_ok-write_record.ensures.recorded
