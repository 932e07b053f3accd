use Rattle.run_text.specs.Lines.{entry_blocks}
use Rattle.run_text.specs.Replies.{entry_line}
use Rattle.run_text.proofs.Pieces.{and_then, but_first}
use Rattle.run_text.proofs.printing.print_shown.Goals as goal

pub returns-in-Ok : goal.returns-in-Ok
returns-in-Ok g c = record {
  printed = and_then (g.K.Sink.written c.args.sink.now) (g.K.Sink.written c.print_line.new.sink) (g.K.Sink.written c.print_blocks.new.sink)
      (g.K.Sink.faults c.args.sink.now) (g.K.Sink.faults c.print_line.new.sink) (g.K.Sink.faults c.print_blocks.new.sink)
      c.args.out.now.items (entry_line c.args.under.now c.args.entry.now) c.print_line.new.out.items (entry_blocks c.args.entry.now) c.print_blocks.new.out.items c.print_blocks.result c.in-Ok.ensures.printed
      c.print_blocks.ensures.printed;
}

pub returns-in-Err : goal.returns-in-Err
returns-in-Err g c = record {
  printed = but_first (g.K.Sink.written c.args.sink.now) (g.K.Sink.written c.print_line.new.sink) (g.K.Sink.faults c.args.sink.now) (g.K.Sink.faults c.print_line.new.sink)
      c.args.out.now.items (entry_line c.args.under.now c.args.entry.now) (entry_blocks c.args.entry.now) c.in-Err.error c.in-Err.ensures.printed;
}
