use Rattle.run_text.specs.Replies.{entry_line}
use Rattle.run_text.proofs.Pieces.{front_none, after_put}
use Rattle.run_text.proofs.printing.print_line.Goals as goal

pub returns-in-Ok : goal.returns-in-Ok
returns-in-Ok g c = record {
  printed = after_put (g.K.Sink.written c.args.sink.now) (g.K.Sink.written c.print_gathered.new.sink) (g.K.Sink.faults c.args.sink.now) (g.K.Sink.faults c.print_gathered.new.sink)
      c.args.out.now.items (entry_line c.args.under.now c.args.entry.now) c.put_line.new.out.items c.print_gathered.new.out.items c.print_gathered.result c.in-Ok.ensures c.print_gathered.ensures.printed;
}

pub returns-in-Err : goal.returns-in-Err
returns-in-Err g c = record { printed = front_none (g.K.Sink.written c.args.sink.now) (g.K.Sink.faults c.args.sink.now) c.args.out.now.items (entry_line c.args.under.now c.args.entry.now) }
