use Rattle.std.proofs.Common.{true, false, sym, rules}
use Rattle.include_lines.proofs.Cut.{ends}
use Rattle.include_lines.proofs.lines.without_line_feed.Goals as goal

pub returns-then-last-eq10 : goal.returns-then-last-eq10
returns-then-last-eq10 c = sym (ends c.args.line.now c.in-Some.front.now c.in-Some.last.now true c.in-Some.ensures.cases.0 (search rules))

pub returns-else-last-eq10 : goal.returns-else-last-eq10
returns-else-last-eq10 c = sym (ends c.args.line.now c.in-Some.front.now c.in-Some.last.now false c.in-Some.ensures.cases.0 (search rules))
