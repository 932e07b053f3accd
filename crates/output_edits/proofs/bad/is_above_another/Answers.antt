use Rattle.std.proofs.Common.{sym, ◌∙◌}
use Rattle.std.specs.Map.Iter.{deref_pair}
use Rattle.output_edits.proofs.Below.{next_tells, none_tells}
use Rattle.output_edits.proofs.bad.is_above_another.Goals as goal

pub returns-in-None : goal.returns-in-None
returns-in-None c = none_tells c.args.files.now.map c.args.path.now (sym c.in-None.ensures)

pub returns-in-Some : goal.returns-in-Some
returns-in-Some c = c.is_prefix_of.ensures ∙ next_tells c.args.files.now.map c.args.path.now (deref_pair (c.in-Some.next, c.in-Some._file)) (sym c.in-Some.ensures)
