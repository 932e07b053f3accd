use Rattle.std.proofs.Common.{◌+◌, ◌≤◌, length, true, false}
use Rattle.area_store.specs.Kept.{recorded, gate_of, room_of}
use Rattle.area_store.proofs.Sound.{room_told}
use Rattle.area_store.proofs.Steps.{on_err_of}
use Rattle.save_store.proofs.Runs.{record_step, room_in, now_stored, still_stored, run_stored}
use Rattle.save_store.proofs.saves.Saves.append.Goals as goal

pub returns-in_err-snapshot-clause-any_moment : goal.returns-in_err-snapshot-clause-any_moment
returns-in_err-snapshot-clause-any_moment g c =
    let d = g.D.Disk in
    let old = c.args.self.now in
    let room = room_told old.areas.failed old.areas.gate (length c.args.body.now) (room_in old.failed (room_of old.areas) (λ room. length c.args.body.now ≤ room) c.requires.room) in
    run_stored d.may_leave old c.snapshot.new.self c.args.last (recorded c.args.body.now) (record_step d.may_leave old c.args.last c.args.body.now room.0 room.1 room.2 c.requires.is)
    d.moment d.left_since c.snapshot.ensures.any_moment

pub returns-in_err-snapshot-clause-unsaved : goal.returns-in_err-snapshot-clause-unsaved
returns-in_err-snapshot-clause-unsaved g c =
    let d = g.D.Disk in
    let old = c.args.self.now in
    let room = room_told old.areas.failed old.areas.gate (length c.args.body.now) (room_in old.failed (room_of old.areas) (λ room. length c.args.body.now ≤ room) c.requires.room) in
    on_err_of c.from_residual.result
    (still_stored d.may_leave old c.snapshot.new.self c.args.last (recorded c.args.body.now) (record_step d.may_leave old c.args.last c.args.body.now room.0 room.1 room.2 c.requires.is)
    true c.in_err-snapshot.ensures.failed c.in_err-snapshot.ensures.unsaved)

pub returns-clause-any_moment : goal.returns-clause-any_moment
returns-clause-any_moment g c =
    let d = g.D.Disk in
    let old = c.args.self.now in
    let room = room_told old.areas.failed old.areas.gate (length c.args.body.now) (room_in old.failed (room_of old.areas) (λ room. length c.args.body.now ≤ room) c.requires.room) in
    run_stored d.may_leave old c.snapshot.new.self c.args.last (recorded c.args.body.now) (record_step d.may_leave old c.args.last c.args.body.now room.0 room.1 room.2 c.requires.is)
    d.moment d.left_since c.snapshot.ensures.any_moment

pub returns-clause-saved : goal.returns-clause-saved
returns-clause-saved g c =
    let d = g.D.Disk in
    let old = c.args.self.now in
    let room = room_told old.areas.failed old.areas.gate (length c.args.body.now) (room_in old.failed (room_of old.areas) (λ room. length c.args.body.now ≤ room) c.requires.room) in
    now_stored d.may_leave old c.snapshot.new.self c.args.last (recorded c.args.body.now) (record_step d.may_leave old c.args.last c.args.body.now room.0 room.1 room.2 c.requires.is)
    false (gate_of old.areas + 41 + length c.args.body.now) c.in_ok-snapshot.ensures.gate c.in_ok-snapshot.ensures.saved
