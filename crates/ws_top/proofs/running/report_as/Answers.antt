use Rattle.std.proofs.Common.{inl, inr, map, ap, ◌∙◌, subst, sym}
use Rattle.std.specs.Prelude.{is_some}
use Rattle.save_history.specs.Kept.{disk_of, first_disk}
use Rattle.ws_top.specs.Areas.{TellsDiskFault}
use Rattle.ws_top.specs.Inside.Parts.{IsBreak}
use Rattle.ws_top.specs.Texts.{report_of}
use Rattle.ws_top.proofs.Opened.{disk_at_end, disk_either, unwritten_end}
use Rattle.ws_top.proofs.Performed.{performs_all, performs_fault, performs_want}
use Rattle.ws_top.proofs.running.report_as.Goals as goal

pub returns-in-Ok-clause-performs : goal.returns-in-Ok-clause-performs
returns-in-Ok-clause-performs g c = performs_all c.ended.result.kept (report_of c.args.telling (map (λ p. g.P.Participant.tells p) c.args.kit.participants)) (g.K.Sink.written c.args.sink.now) (g.K.Sink.written c.write_run.new.sink) (g.K.Sink.faults c.args.sink.now) (g.K.Sink.faults c.write_run.new.sink) c.ended.result.status c.args.status c.args.core.opened c.args.core.history c.ended.result.history (ap is_some c.ended.ensures.kept ∙ c.requires.some) (unwritten_end c.args.keeper.failed c.args.status c.requires.status) c.ended.ensures.status c.ended.ensures.history c.ended.ensures.thread c.requires.calm c.in-Ok.ensures.written

pub returns-in-Ok-clause-fault : goal.returns-in-Ok-clause-fault
returns-in-Ok-clause-fault g c = subst (λ disk. TellsDiskFault (g.D.Disk.faults (first_disk c.args.keeper)) (g.D.Disk.faults disk) c.ended.result.status) (sym c.ended.ensures.disk) (disk_at_end c.args.keeper.failed (g.D.Disk.faults (first_disk c.args.keeper)) (g.D.Disk.faults (disk_of c.args.keeper)) c.ended.result.status c.args.status c.requires.told c.requires.status c.ended.ensures.status)

pub returns-in-Err-Fault-clause-performs : goal.returns-in-Err-Fault-clause-performs
returns-in-Err-Fault-clause-performs g c = performs_fault c.ended-in-Err-Fault.result.kept (report_of c.args.telling (map (λ p. g.P.Participant.tells p) c.args.kit.participants)) (g.K.Sink.written c.args.sink.now) (g.K.Sink.written c.write_run.new.sink) (g.K.Sink.faults c.args.sink.now) (g.K.Sink.faults c.write_run.new.sink) c.ended-in-Err-Fault.result.status c.args.status c.args.core.opened c.args.core.history c.ended-in-Err-Fault.result.history (unwritten_end c.args.keeper.failed c.args.status c.requires.status) c.ended-in-Err-Fault.ensures.status c.ended-in-Err-Fault.ensures.history c.ended-in-Err-Fault.ensures.thread c.requires.calm (subst (λ e. IsBreak e (g.K.Sink.written c.args.sink.now) (g.K.Sink.written c.write_run.new.sink) (g.K.Sink.faults c.args.sink.now) (g.K.Sink.faults c.write_run.new.sink) (report_of c.args.telling (map (λ p. g.P.Participant.tells p) c.args.kit.participants)) c.args.core.opened c.args.core.history c.args.status) c.in-Err-Fault.field-0-is c.in-Err-Fault.ensures.written)

pub returns-in-Err-Fault-clause-fault : goal.returns-in-Err-Fault-clause-fault
returns-in-Err-Fault-clause-fault g c = subst (λ disk. TellsDiskFault (g.D.Disk.faults (first_disk c.args.keeper)) (g.D.Disk.faults disk) c.ended-in-Err-Fault.result.status) (sym c.ended-in-Err-Fault.ensures.disk) (disk_either c.args.keeper.failed (g.D.Disk.faults (first_disk c.args.keeper)) (g.D.Disk.faults (disk_of c.args.keeper)) c.ended-in-Err-Fault.result.status c.requires.told (inl c.ended-in-Err-Fault.ensures.status))

pub returns-in-Err-Memory-clause-performs : goal.returns-in-Err-Memory-clause-performs
returns-in-Err-Memory-clause-performs g c = performs_want c.ended-in-Err-Memory.result.kept (report_of c.args.telling (map (λ p. g.P.Participant.tells p) c.args.kit.participants)) (g.K.Sink.written c.args.sink.now) (g.K.Sink.written c.write_run.new.sink) (g.K.Sink.faults c.args.sink.now) (g.K.Sink.faults c.write_run.new.sink) c.ended-in-Err-Memory.result.status c.args.core.opened c.args.core.history c.ended-in-Err-Memory.result.history (ap is_some c.ended-in-Err-Memory.ensures.kept ∙ c.requires.some) c.ended-in-Err-Memory.ensures.status c.ended-in-Err-Memory.ensures.history c.ended-in-Err-Memory.ensures.thread (subst (λ e. IsBreak e (g.K.Sink.written c.args.sink.now) (g.K.Sink.written c.write_run.new.sink) (g.K.Sink.faults c.args.sink.now) (g.K.Sink.faults c.write_run.new.sink) (report_of c.args.telling (map (λ p. g.P.Participant.tells p) c.args.kit.participants)) c.args.core.opened c.args.core.history c.args.status) c.in-Err-Memory.field-0-is c.in-Err-Memory.ensures.written)

pub returns-in-Err-Memory-clause-fault : goal.returns-in-Err-Memory-clause-fault
returns-in-Err-Memory-clause-fault g c = subst (λ disk. TellsDiskFault (g.D.Disk.faults (first_disk c.args.keeper)) (g.D.Disk.faults disk) c.ended-in-Err-Memory.result.status) (sym c.ended-in-Err-Memory.ensures.disk) (disk_either c.args.keeper.failed (g.D.Disk.faults (first_disk c.args.keeper)) (g.D.Disk.faults (disk_of c.args.keeper)) c.ended-in-Err-Memory.result.status c.requires.told (inr c.ended-in-Err-Memory.ensures.status))
