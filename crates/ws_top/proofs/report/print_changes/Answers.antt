use Rattle.std.proofs.Common.{◌++◌, codes, subst}
use Rattle.report_text.specs.Deltas.{delta_lines}
use Rattle.run_text.specs.Printing.{Printed}
use Rattle.run_text.proofs.Pieces.{front_none}
use Rattle.ws_top.specs.Texts.{changes_from}
use Rattle.ws_top.proofs.report.print_changes.Goals as goal

pub returns-in-Ok : goal.returns-in-Ok
returns-in-Ok g c = record {
  printed = subst (λ nodes. Printed (g.K.Sink.written c.args.sink.now) (g.K.Sink.written c.print_headed-printed.new.sink) (g.K.Sink.faults c.args.sink.now) (g.K.Sink.faults c.print_headed-printed.new.sink) c.args.out.now.items (codes "since start\n" ++ delta_lines nodes) c.print_headed-printed.new.out.items c.print_headed-printed.result) c.in-Ok.ensures.replayed c.print_headed-printed.ensures.printed;
}

pub returns-in-Err : goal.returns-in-Err
returns-in-Err g c = record { printed = front_none (g.K.Sink.written c.args.sink.now) (g.K.Sink.faults c.args.sink.now) c.args.out.now.items (changes_from c.args.core.now.opened c.args.core.now.history) }
