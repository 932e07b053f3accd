use Rattle.std.proofs.Common.{◌++◌, drop}
use Rattle.run_text.specs.Lines.{history_lines, lines_from}
use Rattle.run_text.specs.Printing.{PrintsAll}
use Rattle.run_text.proofs.printing.print_entries.Given as goal

-- the lines of the other entries are left to print, before which this command is under way
abbrev pub invariant-loop-entry : goal.invariant-loop-entry
invariant-loop-entry g l = PrintsAll (g.K.Sink.written l.fn.sink) (g.K.Sink.written l.sink) (g.K.Sink.faults l.fn.sink) (g.K.Sink.faults l.sink) l.fn.out.items (history_lines l.entries) (l.out.items ++ lines_from l.under (drop l.entry-index l.entries))
