use Rattle.std.proofs.Common.{◌+◌, length, true, false}
use Rattle.area_store.specs.Kept.{saved as image_point}
use Rattle.area_store.proofs.Steps.{on_err_of}
use Rattle.save_store.proofs.Runs.{image_step, now_stored, still_stored, run_stored}
use Rattle.save_store.proofs.saves.Saves.write.Goals as goal

pub returns-in_err-full-clause-any_moment : goal.returns-in_err-full-clause-any_moment
returns-in_err-full-clause-any_moment g c =
    let d = g.D.Disk in
    run_stored d.may_leave c.args.self.now c.full.new.self c.args.last (λ _. image_point c.args.image.now) (image_step d.may_leave c.args.self.now c.args.last c.args.image.now c.requires)
    d.moment d.left_since c.full.ensures.any_moment

pub returns-in_err-full-clause-unsaved : goal.returns-in_err-full-clause-unsaved
returns-in_err-full-clause-unsaved g c =
    let d = g.D.Disk in
    on_err_of c.from_residual.result
    (still_stored d.may_leave c.args.self.now c.full.new.self c.args.last (λ _. image_point c.args.image.now) (image_step d.may_leave c.args.self.now c.args.last c.args.image.now c.requires)
    true c.in_err-full.ensures.failed c.in_err-full.ensures.unsaved)

pub returns-clause-any_moment : goal.returns-clause-any_moment
returns-clause-any_moment g c =
    let d = g.D.Disk in
    run_stored d.may_leave c.args.self.now c.full.new.self c.args.last (λ _. image_point c.args.image.now) (image_step d.may_leave c.args.self.now c.args.last c.args.image.now c.requires)
    d.moment d.left_since c.full.ensures.any_moment

pub returns-clause-saved : goal.returns-clause-saved
returns-clause-saved g c =
    let d = g.D.Disk in
    now_stored d.may_leave c.args.self.now c.full.new.self c.args.last (λ _. image_point c.args.image.now) (image_step d.may_leave c.args.self.now c.args.last c.args.image.now c.requires)
    false (57 + length c.args.image.now) c.in_ok-full.ensures.gate c.in_ok-full.ensures.saved
