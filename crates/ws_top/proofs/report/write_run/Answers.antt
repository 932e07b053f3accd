use Rattle.std.proofs.Common.{map}
use Rattle.ws_top.specs.Texts.{report_of}
use Rattle.ws_top.proofs.Fronts.{run_then, run_some}
use Rattle.ws_top.proofs.report.write_run.Goals as goal

pub returns-in-Ok : goal.returns-in-Ok
returns-in-Ok g c = record {
  written = run_then (g.K.Sink.written c.args.sink.now) (g.K.Sink.written c.write_report.new.sink) (g.K.Sink.written c.write_last.new.sink)
      (g.K.Sink.faults c.args.sink.now) (g.K.Sink.faults c.write_report.new.sink) (g.K.Sink.faults c.write_last.new.sink)
      (report_of c.args.telling (map (λ p. g.P.Participant.tells p) c.args.parts.now)) c.args.core.now.opened c.args.core.now.history c.args.status c.args.line.now c.write_last.result c.requires.line c.in-Ok.ensures.written c.write_last.ensures.written;
}

pub returns-in-Err : goal.returns-in-Err
returns-in-Err g c = record { written = run_some (g.K.Sink.written c.args.sink.now) (g.K.Sink.written c.write_report.new.sink) (g.K.Sink.faults c.args.sink.now) (g.K.Sink.faults c.write_report.new.sink) (report_of c.args.telling (map (λ p. g.P.Participant.tells p) c.args.parts.now)) c.args.core.now.opened c.args.core.now.history c.args.status c.in-Err.error c.in-Err.ensures.written }
