use Rattle.std.proofs.Common.{◌++◌, ◌+◌, drop, subst, sym}
use Rattle.run_text.specs.Lines.{entry_lines, history_lines, lines_from}
use Rattle.run_text.specs.Printing.{PrintsAll}
use Rattle.run_text.specs.UnderWay.{under_after}
use Rattle.run_text.proofs.Dropped.{dropped}
use Rattle.run_text.proofs.Pieces.{left_at_start, left_next, ends_in}
use Rattle.run_text.proofs.printing.print_entries.Goals as goal

pub loop-entry-init : goal.loop-entry-init
loop-entry-init g c = subst (λ u. PrintsAll (g.K.Sink.written c.args.sink.now) (g.K.Sink.written c.args.sink.now) (g.K.Sink.faults c.args.sink.now) (g.K.Sink.faults c.args.sink.now) c.args.out.now.items (history_lines c.args.entries.now) (c.args.out.now.items ++ lines_from u c.args.entries.now))
    (sym c.none-under.ensures) (left_at_start (g.K.Sink.written c.args.sink.now) (g.K.Sink.faults c.args.sink.now) c.args.out.now.items (history_lines c.args.entries.now))

pub loop-entry-preserved : goal.loop-entry-preserved
loop-entry-preserved g c = subst (λ u. PrintsAll (g.K.Sink.written c.args.sink.now) (g.K.Sink.written c.print_entry.new.sink) (g.K.Sink.faults c.args.sink.now) (g.K.Sink.faults c.print_entry.new.sink) c.args.out.now.items (history_lines c.args.entries.now) (c.print_entry.new.out.items ++ lines_from u (drop (c.loop-entry.entry-index + 1) c.args.entries.now)))
    (sym c.after-under.ensures)
    (left_next (g.K.Sink.written c.args.sink.now) (g.K.Sink.written c.loop-entry.sink) (g.K.Sink.written c.print_entry.new.sink)
    (g.K.Sink.faults c.args.sink.now) (g.K.Sink.faults c.loop-entry.sink) (g.K.Sink.faults c.print_entry.new.sink)
    c.args.out.now.items (history_lines c.args.entries.now) c.loop-entry.out.items (entry_lines c.loop-entry.under c.entry-item.result)
    (lines_from (under_after c.loop-entry.under c.entry-item.result) (drop (c.loop-entry.entry-index + 1) c.args.entries.now)) c.print_entry.new.out.items
    (subst (λ xs. PrintsAll (g.K.Sink.written c.args.sink.now) (g.K.Sink.written c.loop-entry.sink) (g.K.Sink.faults c.args.sink.now) (g.K.Sink.faults c.loop-entry.sink) c.args.out.now.items (history_lines c.args.entries.now) (c.loop-entry.out.items ++ lines_from c.loop-entry.under xs))
    (dropped c.args.entries.now c.loop-entry.entry-index c.entry-item.result c.loop-entry-test.true c.entry-item.is) c.loop-entry.invariant)
    c.in-Ok.ensures.printed)

pub returns-in-Err : goal.returns-in-Err
returns-in-Err g c = record {
  printed = ends_in (g.K.Sink.written c.args.sink.now) (g.K.Sink.written c.loop-entry.sink) (g.K.Sink.written c.print_entry.new.sink)
      (g.K.Sink.faults c.args.sink.now) (g.K.Sink.faults c.loop-entry.sink) (g.K.Sink.faults c.print_entry.new.sink)
      c.args.out.now.items (history_lines c.args.entries.now) c.loop-entry.out.items (entry_lines c.loop-entry.under c.entry-item.result)
      (lines_from (under_after c.loop-entry.under c.entry-item.result) (drop (c.loop-entry.entry-index + 1) c.args.entries.now)) c.in-Err.error
      (subst (λ xs. PrintsAll (g.K.Sink.written c.args.sink.now) (g.K.Sink.written c.loop-entry.sink) (g.K.Sink.faults c.args.sink.now) (g.K.Sink.faults c.loop-entry.sink) c.args.out.now.items (history_lines c.args.entries.now) (c.loop-entry.out.items ++ lines_from c.loop-entry.under xs))
      (dropped c.args.entries.now c.loop-entry.entry-index c.entry-item.result c.loop-entry-test.true c.entry-item.is) c.loop-entry.invariant)
      c.in-Err.ensures.printed;
}
