use Rattle.std.proofs.Common.{sym, ap, ◌∙◌}
use Rattle.std.specs.Prelude.{List, Some}
use Rattle.std.specs.Option.{option_copied}
use Rattle.save_state.specs.declared.change.Change.{Change}
use Rattle.save_build.proofs.Lists.{no_kept}
use Rattle.save_build.proofs.records.kept_tree_of.Goals as goal

pub returns-in-None-2 : goal.returns-in-None-2
returns-in-None-2 c =
    let never = rw c.in-None-2.is at c.in_ok-tree_of-in-Some.ensures in
    no_kept c.args.tree.now.map (option_copied c.args.told) c.as_slice.result.now (ap option_copied c.in-Some.is ∙ ap (λ (cs : List Change). Some cs) (sym c.as_slice.ensures)) never
