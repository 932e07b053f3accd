use Rattle.std.proofs.Common.{rules, ◌≡◌, ◌==◌, ◌++◌, length, not, sym, ap, ◌∙◌}
use Rattle.std.specs.Prelude.{filter}
use Rattle.std.proofs.lemmas.List.{append-nil}
use Rattle.op_plan.specs.Edits.{Edits}
use Rattle.op_plan.specs.Inside.Lists.{put}
use Rattle.op_kind.specs.Entries.{Entries}
use Rattle.op_kind.specs.Marking.{change_all, unmarked, count_marks}
use Rattle.op_plan.proofs.Lost.{none_left}
use Rattle.op_plan.proofs.losing.unmark_all.Goals as goal

pub returns-clause-changes : goal.returns-clause-changes
returns-clause-changes c =
    let lost : Entries → Edits = λ es. put (change_all (unmarked c.args.mark_type.now) (filter (λ e. not (count_marks c.args.mark_type.now e.1 == 0)) es)) in
    let none : length c.loop-entry.rest.now ≡ 0 = search rules in
    sym (append-nil c.loop-entry.changes) ∙ ap (λ es. c.loop-entry.changes ++ lost es) (sym (none_left c.loop-entry.rest.now none)) ∙ c.loop-entry.invariant.changes
    ∙ ap (λ es. c.args.changes.now ++ lost es) c.as_slice-rest.ensures
