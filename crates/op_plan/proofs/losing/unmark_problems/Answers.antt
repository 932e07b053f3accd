use Rattle.op_plan.proofs.Lost.{problems_removed}
use Rattle.op_plan.proofs.losing.unmark_problems.Goals as goal

pub returns : goal.returns
returns c = let e = problems_removed c.args.count c.args.marks.now in cc (c.remove_all.ensures, c.in_ok-ids.ensures)
