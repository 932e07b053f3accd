use Rattle.std.proofs.Common.{arith}
use Rattle.std.proofs.lemmas.Result.{on_ok_weaker}
use Rattle.ws_outside.specs.Disk.{held}
use Rattle.disk_area.specs.Area.{record_behind}
use Rattle.disk_area.specs.Moments.{Growing}
use Rattle.disk_area.specs.Writes.{Recording}
use Rattle.disk_area.proofs.Chain.{gains_record}
use Rattle.disk_area.proofs.ReadingBack.{record_back, growing}
use Rattle.disk_area.proofs.Staging.{wider_run}
use Rattle.disk_area.proofs.save.write_record.Goals as goal

pub returns-clause-any_moment : goal.returns-clause-any_moment
returns-clause-any_moment g c =
    let a = c.args in
    wider_run g.D.Disk.moment g.D.Disk.left_since g.D.Disk.may_leave a.area a.disk.now c.append.new.disk (Recording a.gate (record_behind a.body.now)) (Growing a.gate a.body.now)
    (λ i d left written. growing a.gate a.body.now (held a.area d) (held a.area i) (omega (arith, c.requires.small)) (c.requires.shut d left) written)
    c.append.ensures.any_moment

pub returns-clause-recorded : goal.returns-clause-recorded
returns-clause-recorded g c =
    let a = c.args in
    on_ok_weaker c.append.result (λ done i left. record_back a.gate a.body.now (held a.area (done i left).0) (held a.area i) (omega (arith, c.requires.small)) (done i left).2.here) c.append.ensures.done

pub returns-clause-gained : goal.returns-clause-gained
returns-clause-gained g c =
    let a = c.args in
    on_ok_weaker c.append.result (λ done i left. let d = done i left in
    (d.0, d.1, record { here = gains_record a.gate a.body.now (held a.area d.0) (held a.area i) d.2.here; there = d.2.there })) c.append.ensures.done
