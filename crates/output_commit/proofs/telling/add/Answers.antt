use Rattle.std.proofs.Common.{ap, ◌∙◌}
use Rattle.op_kind.specs.Marking.{with_marker}
use Rattle.output_commit.specs.Told.{problem_type}
use Rattle.output_commit.proofs.telling.add.Goals as goal

pub returns-in-Ok : goal.returns-in-Ok
returns-in-Ok c = c.in-Ok.ensures.ok ∙ ap (λ a. with_marker c.args.marks.now c.args.id problem_type a) (c.as_slice.ensures ∙ c.in_ok-attributes.ensures)
