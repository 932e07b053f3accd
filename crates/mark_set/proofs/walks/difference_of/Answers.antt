use Rattle.std.proofs.Common.{ap, sym, ◌∙◌}
use Rattle.std.specs.Prelude.{Some}
use Rattle.std.proofs.lemmas.Bool.Decides.{same_from_decides}
use Rattle.mark_set.specs.Markers.{same_marker, same_marker-Decides}
use Rattle.mark_set.proofs.walks.difference_of.Goals as goal

pub returns-then-is_same : goal.returns-then-is_same
returns-then-is_same c =
    let a = c.args.before.now in
    let b = c.in-Some.after.now in
    rw (c.in-Some.is, sym (same_from_decides c.is_same.result (same_marker a b) c.is_same.ensures (same_marker-Decides a b)) ∙ c.if-is_same.true)

pub returns-in_ok-changed-in-Some : goal.returns-in_ok-changed-in-Some
returns-in_ok-changed-in-Some c =
    let a = c.args.before.now in
    let b = c.in-Some.after.now in
    rw (c.in-Some.is, sym (same_from_decides c.is_same.result (same_marker a b) c.is_same.ensures (same_marker-Decides a b)) ∙ c.if-is_same.false) (ap Some c.in_ok-changed-in-Some.ensures)
