use Rattle.std.proofs.Common.{[]}
use Rattle.area_store.proofs.Opened.{begun_kept}
use Rattle.area_store.proofs.Sound.{one_reads}
use Rattle.area_store.proofs.store.AreaStore.open.Goals as goal

pub returns-in-Ok-clause-kept : goal.returns-in-Ok-clause-kept
returns-in-Ok-clause-kept g c =
    let d = g.D.Disk in
    begun_kept d.may_leave (d.seen c.args.disk) c.find.new.disk c.in-Ok.found c.begin-desk.result.0 c.begin-desk.result.1 c.begin-desk.ensures.desk c.begin-desk.ensures.texts c.in-Ok.ensures.found c.in-Ok.ensures.durable

pub invariant_of-result : goal.invariant_of-result
invariant_of-result g c =
    let d = g.D.Disk in
    let kept = begun_kept d.may_leave (d.seen c.args.disk) c.find.new.disk c.in-Ok.found c.begin-desk.result.0 c.begin-desk.result.1 c.begin-desk.ensures.desk c.begin-desk.ensures.texts c.in-Ok.ensures.found c.in-Ok.ensures.durable in
    ∣ (c.begin-desk.result.1, [], kept) ∣₁

pub returns-in-Ok-clause-reads : goal.returns-in-Ok-clause-reads
returns-in-Ok-clause-reads g c =
    let d = g.D.Disk in
    let kept = begun_kept d.may_leave (d.seen c.args.disk) c.find.new.disk c.in-Ok.found c.begin-desk.result.0 c.begin-desk.result.1 c.begin-desk.ensures.desk c.begin-desk.ensures.texts c.in-Ok.ensures.found c.in-Ok.ensures.durable in
    one_reads d.may_leave c.begin-desk.result.0 c.begin-desk.result.1 kept
