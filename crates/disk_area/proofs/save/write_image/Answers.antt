use Rattle.std.proofs.lemmas.Result.{on_ok_weaker}
use Rattle.ws_outside.specs.Disk.{held}
use Rattle.disk_area.specs.Area.{behind_gate}
use Rattle.disk_area.specs.Moments.{Saving}
use Rattle.disk_area.specs.Writes.{Rewriting}
use Rattle.disk_area.proofs.ReadingBack.{save_back, saving}
use Rattle.disk_area.proofs.Staging.{wider_run}
use Rattle.disk_area.proofs.save.write_image.Goals as goal

pub returns-clause-any_moment : goal.returns-clause-any_moment
returns-clause-any_moment g c =
    let a = c.args in
    wider_run g.D.Disk.moment g.D.Disk.left_since g.D.Disk.may_leave a.area a.disk.now c.rewrite.new.disk (Rewriting a.closed (behind_gate a.number a.image.now)) (Saving a.closed a.number a.image.now)
    (λ i d left written. saving a.closed a.number a.image.now (held a.area d) (held a.area i) c.requires.small c.requires.number.0 c.requires.number.1 written)
    c.rewrite.ensures.any_moment

pub returns-clause-saved : goal.returns-clause-saved
returns-clause-saved g c =
    let a = c.args in
    on_ok_weaker c.rewrite.result (λ done i left. save_back a.number a.image.now (held a.area i) c.requires.small c.requires.number.0 c.requires.number.1 (done i left).2.here) c.rewrite.ensures.done
