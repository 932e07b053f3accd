use Rattle.std.proofs.Common.{true, false, ap, sym, ◌∙◌}
use Rattle.ws_top.specs.Inside.Running.{end_status}
use Rattle.ws_top.proofs.Lines.{line_0, line_5}
use Rattle.ws_top.proofs.running.report.Goals as goal

pub report_as-requires-clause-status : goal.report_as-requires-clause-status
report_as-requires-clause-status g c = ap end_status (sym c.if-has_failed.true ∙ c.has_failed.ensures)

pub report_as-requires-clause-line : goal.report_as-requires-clause-line
report_as-requires-clause-line g c = line_5

pub report_as-requires-else-has_failed-clause-status : goal.report_as-requires-else-has_failed-clause-status
report_as-requires-else-has_failed-clause-status g c = ap end_status (sym c.if-has_failed.false ∙ c.has_failed.ensures)

pub report_as-requires-else-has_failed-clause-line : goal.report_as-requires-else-has_failed-clause-line
report_as-requires-else-has_failed-clause-line g c = line_0
