use Rattle.std.proofs.Common.{subst}
use Rattle.run_text.specs.Lines.{handed_lines, notice_lines}
use Rattle.run_text.specs.Printing.{Printed}
use Rattle.run_text.proofs.Pieces.{and_then, but_first}
use Rattle.run_text.proofs.printing.print_blocks.Goals as goal

pub returns-in-Ok : goal.returns-in-Ok
returns-in-Ok g c = record {
  printed = and_then (g.K.Sink.written c.args.sink.now) (g.K.Sink.written c.print_handed.new.sink) (g.K.Sink.written c.print_notice.new.sink)
      (g.K.Sink.faults c.args.sink.now) (g.K.Sink.faults c.print_handed.new.sink) (g.K.Sink.faults c.print_notice.new.sink)
      c.args.out.now.items (handed_lines c.args.entry.now.reply.answer) c.print_handed.new.out.items (notice_lines c.args.entry.now.reply.notice) c.print_notice.new.out.items c.print_notice.result c.in-Ok.ensures.printed
      (subst (λ notice. Printed (g.K.Sink.written c.print_handed.new.sink) (g.K.Sink.written c.print_notice.new.sink) (g.K.Sink.faults c.print_handed.new.sink) (g.K.Sink.faults c.print_notice.new.sink)
      c.print_handed.new.out.items (notice_lines notice) c.print_notice.new.out.items c.print_notice.result) c.delta.ensures c.print_notice.ensures.printed);
}

pub returns-in-Err : goal.returns-in-Err
returns-in-Err g c = record {
  printed = but_first (g.K.Sink.written c.args.sink.now) (g.K.Sink.written c.print_handed.new.sink) (g.K.Sink.faults c.args.sink.now) (g.K.Sink.faults c.print_handed.new.sink)
      c.args.out.now.items (handed_lines c.args.entry.now.reply.answer) (notice_lines c.args.entry.now.reply.notice) c.in-Err.error c.in-Err.ensures.printed;
}
