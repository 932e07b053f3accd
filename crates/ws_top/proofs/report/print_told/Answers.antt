use Rattle.std.proofs.Common.{map, sym, subst}
use Rattle.run_text.specs.Printing.{Printed}
use Rattle.ws_top.specs.Texts.{report_of}
use Rattle.ws_top.proofs.report.print_told.Goals as goal

pub returns-in-All : goal.returns-in-All
returns-in-All g c = record {
  printed = subst (λ t. Printed (g.K.Sink.written c.args.sink.now) (g.K.Sink.written c.print_report.new.sink) (g.K.Sink.faults c.args.sink.now) (g.K.Sink.faults c.print_report.new.sink) c.args.out.now.items (report_of t (map (λ p. g.P.Participant.tells p) c.args.parts.now) c.args.core.now.opened c.args.core.now.history) c.print_report.new.out.items c.print_report.result)
      (sym c.in-All.is) c.print_report.ensures.printed;
}

pub returns-in-Summary : goal.returns-in-Summary
returns-in-Summary g c = record {
  printed = subst (λ t. Printed (g.K.Sink.written c.args.sink.now) (g.K.Sink.written c.print_summary.new.sink) (g.K.Sink.faults c.args.sink.now) (g.K.Sink.faults c.print_summary.new.sink) c.args.out.now.items (report_of t (map (λ p. g.P.Participant.tells p) c.args.parts.now) c.args.core.now.opened c.args.core.now.history) c.print_summary.new.out.items c.print_summary.result)
      (sym c.in-Summary.is) c.print_summary.ensures.printed;
}
