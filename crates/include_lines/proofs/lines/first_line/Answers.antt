use Rattle.include_lines.proofs.Cut.{cut_at, uncut}
use Rattle.include_lines.proofs.lines.first_line.Goals as goal

pub returns-in-Some-clause-lines : goal.returns-in-Some-clause-lines
returns-in-Some-clause-lines c =
    cut_at c.args.bytes.now c.split_at.result.0.now c.split_at.result.1.now c.in-Some.at c.in-Some.ensures c.split_at.ensures.front c.split_at.ensures.back

pub returns-in-None-clause-lines : goal.returns-in-None-clause-lines
returns-in-None-clause-lines c =
    uncut c.args.bytes.now c.split_at-in-None.result.0.now c.split_at-in-None.result.1.now c.requires c.in-None.ensures c.split_at-in-None.ensures.front c.split_at-in-None.ensures.back
