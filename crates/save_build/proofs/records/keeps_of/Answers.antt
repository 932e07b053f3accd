use Rattle.std.proofs.Common.{◌+◌, map, take, sym, subst}
use Rattle.std.specs.Prelude.{List}
use Rattle.ws_durable.specs.declared.kept.Kept.{Kept as Record}
use Rattle.ws_durable.specs.Saved.{saved_kept}
use Rattle.save_build.specs.Told.{told_tree, AllTold, IsKeptOf}
use Rattle.save_build.proofs.Lists.{kept_changes, told_next, none_told}
use Rattle.save_build.proofs.records.keeps_of.Goals as goal

pub kept_of-requires-clause-changes : goal.kept_of-requires-clause-changes
kept_of-requires-clause-changes c = kept_changes (told_tree c.args.tree.now.map) c.args.told.now c.requires.told c.loop-first.first-index c.first-item.result c.loop-first-test.true c.first-item.is

pub returns-in-None : goal.returns-in-None
returns-in-None c =
    let never = rw c.in-None.is at c.in_ok-kept_of.ensures in
    none_told (IsKeptOf c.args.tree.now.map) saved_kept c.args.told.now c.loop-first.first-index c.first-item.result c.loop-first-test.true c.first-item.is never

pub loop-first-preserved : goal.loop-first-preserved
loop-first-preserved c =
    let found = rw c.in-Some.is at c.in_ok-kept_of.ensures in
    let more = told_next (IsKeptOf c.args.tree.now.map) saved_kept c.loop-first.states.items c.args.told.now c.loop-first.first-index c.in-Some.kept c.first-item.result c.loop-first.invariant c.loop-first-test.true c.first-item.is found in
    subst (λ (rs : List Record). AllTold (IsKeptOf c.args.tree.now.map) (map saved_kept rs) (take (c.loop-first.first-index + 1) c.args.told.now)) (sym c.in_ok-push-in-Some.ensures.items) more
