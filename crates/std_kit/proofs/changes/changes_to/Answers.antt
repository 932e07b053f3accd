use Rattle.std.proofs.Common.{◌++◌, sym, ap, ◌∙◌, subst}
use Rattle.std_kit.specs.Changes.{AreChanges}
use Rattle.std_kit.specs.Inside.Walks.{edits_along}
use Rattle.std_kit.proofs.Walks.{along}
use Rattle.std_kit.proofs.changes.changes_to.Goals as goal

pub returns : goal.returns
returns c =
    subst (AreChanges c.args.output.now c.args.view.now c.args.made)
    (sym (c.of.ensures ∙ c.in_ok-put_all.ensures ∙ c.in_ok-compare_all.ensures
    ∙ ap (λ es. es ++ edits_along c.args.output.now c.files_of_root.result.now c.into_map-left.result) c.new-edits.ensures.items
    ∙ ap (λ fs. edits_along c.args.output.now fs c.into_map-left.result) c.files_of_root.ensures ∙ ap (edits_along c.args.output.now _) c.into_map-left.ensures.files))
    (along c.args.output.now c.args.view.now c.args.made c.into_map-left.ensures.made.named)
