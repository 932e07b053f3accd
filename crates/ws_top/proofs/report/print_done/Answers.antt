use Rattle.std.proofs.Common.{subst}
use Rattle.run_text.specs.Lines.{history_lines}
use Rattle.run_text.specs.Printing.{PrintsAll, PrintsFront}
use Rattle.run_text.proofs.Pieces.{and_then, but_first}
use Rattle.ws_top.specs.Texts.{changes_from}
use Rattle.ws_top.proofs.report.print_done.Goals as goal

pub returns-in-Ok : goal.returns-in-Ok
returns-in-Ok g c = record {
  printed = and_then (g.K.Sink.written c.args.sink.now) (g.K.Sink.written c.print_entries.new.sink) (g.K.Sink.written c.print_changes.new.sink)
      (g.K.Sink.faults c.args.sink.now) (g.K.Sink.faults c.print_entries.new.sink) (g.K.Sink.faults c.print_changes.new.sink)
      c.args.out.now.items (history_lines c.args.core.now.history) c.print_entries.new.out.items (changes_from c.args.core.now.opened c.args.core.now.history) c.print_changes.new.out.items c.print_changes.result
      (subst (λ h. PrintsAll (g.K.Sink.written c.args.sink.now) (g.K.Sink.written c.print_entries.new.sink) (g.K.Sink.faults c.args.sink.now) (g.K.Sink.faults c.print_entries.new.sink) c.args.out.now.items (history_lines h) c.print_entries.new.out.items) c.history.ensures.history c.in-Ok.ensures.printed) c.print_changes.ensures.printed;
}

pub returns-in-Err : goal.returns-in-Err
returns-in-Err g c = record {
  printed = but_first (g.K.Sink.written c.args.sink.now) (g.K.Sink.written c.print_entries.new.sink) (g.K.Sink.faults c.args.sink.now) (g.K.Sink.faults c.print_entries.new.sink) c.args.out.now.items (history_lines c.args.core.now.history) (changes_from c.args.core.now.opened c.args.core.now.history) c.in-Err.error
      (subst (λ h. PrintsFront (g.K.Sink.written c.args.sink.now) (g.K.Sink.written c.print_entries.new.sink) (g.K.Sink.faults c.args.sink.now) (g.K.Sink.faults c.print_entries.new.sink) c.args.out.now.items (history_lines h) c.in-Err.error) c.history.ensures.history c.in-Err.ensures.printed);
}
