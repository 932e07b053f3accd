use Rattle.std.proofs.lemmas.Bool.Decides.{same_from_decides}
use Rattle.mark_set.specs.Markers.{same_marks, same_marks-Decides}
use Rattle.mark_set.proofs.marks.MarkSetPartialEq.eq.Goals as goal

pub returns-clause-value : goal.returns-clause-value
returns-clause-value c = same_from_decides c.is_same.result (same_marks c.args.self.now c.args.other.now) c.is_same.ensures (same_marks-Decides c.args.self.now c.args.other.now)
