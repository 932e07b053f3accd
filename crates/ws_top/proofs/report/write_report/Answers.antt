use Rattle.std.proofs.Common.{map, subst}
use Rattle.run_text.specs.Printing.{PrintsAll}
use Rattle.ws_top.specs.Inside.Parts.{WritesLast}
use Rattle.ws_top.specs.Texts.{report_of}
use Rattle.ws_top.proofs.Fronts.{report_then, report_some}
use Rattle.ws_top.proofs.report.write_report.Goals as goal

pub returns-in-Ok : goal.returns-in-Ok
returns-in-Ok g c = record {
  written = report_then (g.K.Sink.written c.args.sink.now) (g.K.Sink.written c.print_told.new.sink) (g.K.Sink.written c.write_last.new.sink)
      (g.K.Sink.faults c.args.sink.now) (g.K.Sink.faults c.print_told.new.sink) (g.K.Sink.faults c.write_last.new.sink)
      (report_of c.args.telling (map (λ p. g.P.Participant.tells p) c.args.parts.now) c.args.core.now.opened c.args.core.now.history) c.print_told.new.out.items c.write_last.result
      (subst (λ waited. PrintsAll (g.K.Sink.written c.args.sink.now) (g.K.Sink.written c.print_told.new.sink) (g.K.Sink.faults c.args.sink.now) (g.K.Sink.faults c.print_told.new.sink) waited (report_of c.args.telling (map (λ p. g.P.Participant.tells p) c.args.parts.now) c.args.core.now.opened c.args.core.now.history) c.print_told.new.out.items) c.new-out.ensures.items c.in-Ok.ensures.printed)
      (subst (λ bytes. WritesLast (g.K.Sink.written c.print_told.new.sink) (g.K.Sink.written c.write_last.new.sink) (g.K.Sink.faults c.print_told.new.sink) (g.K.Sink.faults c.write_last.new.sink) bytes c.write_last.result) c.as_slice.ensures.value c.write_last.ensures.written);
}

pub returns : goal.returns
returns g c = record { written = report_some (g.K.Sink.written c.args.sink.now) (g.K.Sink.written c.print_told.new.sink) (g.K.Sink.faults c.args.sink.now) (g.K.Sink.faults c.print_told.new.sink) c.new-out.result.items (report_of c.args.telling (map (λ p. g.P.Participant.tells p) c.args.parts.now) c.args.core.now.opened c.args.core.now.history) c.in-Err.error c.new-out.ensures.items c.in-Err.ensures.printed }
