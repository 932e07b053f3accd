use Rattle.std.proofs.Common.{inr, map, ap, ◌∙◌, subst, sym}
use Rattle.std.specs.Prelude.{is_some}
use Rattle.save_history.specs.Kept.{disk_of, first_disk}
use Rattle.ws_top.specs.Areas.{TellsDiskFault}
use Rattle.ws_top.specs.Texts.{report_of}
use Rattle.ws_top.proofs.Lines.{line_8}
use Rattle.ws_top.proofs.Opened.{disk_either}
use Rattle.ws_top.proofs.Performed.{performs_cut}
use Rattle.ws_top.proofs.running.report_cut.Goals as goal

pub write_run-requires-clause-line : goal.write_run-requires-clause-line
write_run-requires-clause-line g c = line_8

pub returns-clause-performs : goal.returns-clause-performs
returns-clause-performs g c = performs_cut c.ended.result.kept (report_of c.args.telling (map (λ p. g.P.Participant.tells p) c.args.kit.participants)) (g.K.Sink.written c.args.sink.now) (g.K.Sink.written c.write_run.new.sink) (g.K.Sink.faults c.args.sink.now) (g.K.Sink.faults c.write_run.new.sink) c.ended.result.status c.args.core.opened c.args.core.history c.ended.result.history c.write_run.result (ap is_some c.ended.ensures.kept ∙ c.requires.some) c.ended.ensures.status c.ended.ensures.history c.ended.ensures.thread c.write_run.ensures.written

pub returns-clause-fault : goal.returns-clause-fault
returns-clause-fault g c = subst (λ disk. TellsDiskFault (g.D.Disk.faults (first_disk c.args.keeper)) (g.D.Disk.faults disk) c.ended.result.status) (sym c.ended.ensures.disk) (disk_either c.args.keeper.failed (g.D.Disk.faults (first_disk c.args.keeper)) (g.D.Disk.faults (disk_of c.args.keeper)) c.ended.result.status c.requires.told (inr c.ended.ensures.status))
