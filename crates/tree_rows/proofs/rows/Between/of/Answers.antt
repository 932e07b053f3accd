use Rattle.std.proofs.Common.{ap}
use Rattle.tree_rows.specs.Inside.Pairs.{rows_in}
use Rattle.tree_rows.proofs.Merged.{leads_so}
use Rattle.tree_rows.proofs.rows.Between.of.Goals as goal

pub returns-clause-leads : goal.returns-clause-leads
returns-clause-leads c = leads_so c.args.before.now.map c.args.after.now.map _ (ap rows_in c.of.ensures)
