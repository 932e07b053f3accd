use Rattle.std.proofs.Common.{◌+◌, length}
use Rattle.ws_outside.specs.declared.contents.Which.TheVariants.{Left}
use Rattle.disk_area.proofs.ReadingBack.{saved_gate, recorded_gate}
use Rattle.tests_disk.proofs.crashes.write_all.Goals as goal

pub write_record-requires-clause-gate : goal.write_record-requires-clause-gate
write_record-requires-clause-gate g c = saved_gate Left c.args.number c.args.image.now _ _ c.in_ok-write_image.ensures.seen

pub write_record-requires-clause-shut : goal.write_record-requires-clause-shut
write_record-requires-clause-shut g c = λ i left. (c.in_ok-write_image.ensures.saved i left).last

pub write_record-requires-2-clause-gate : goal.write_record-requires-2-clause-gate
write_record-requires-2-clause-gate g c =
    recorded_gate Left (57 + length c.args.image.now) c.args.first.now _ _ _ (g.met.D.Disk.reads_itself c.write_record.new.disk) c.in_ok-write_record.ensures.bytes

pub write_record-requires-2-clause-shut : goal.write_record-requires-2-clause-shut
write_record-requires-2-clause-shut g c = λ i left. (c.in_ok-write_record.ensures.recorded i left).last
