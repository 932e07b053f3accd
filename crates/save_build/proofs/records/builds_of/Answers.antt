use Rattle.std.proofs.Common.{◌+◌, map, take, sym, subst}
use Rattle.std.specs.Prelude.{List}
use Rattle.ws_durable.specs.declared.built.Built.{Built as Record}
use Rattle.ws_durable.specs.Saved.{saved_built}
use Rattle.save_build.specs.Told.{told_tree, AllTold, IsBuiltOf}
use Rattle.save_build.proofs.Lists.{built_changes, told_next, none_told}
use Rattle.save_build.proofs.records.builds_of.Goals as goal

pub built_of-requires-clause-changes : goal.built_of-requires-clause-changes
built_of-requires-clause-changes c = built_changes (told_tree c.args.tree.now.map) c.args.told.now c.requires.told c.loop-first.first-index c.first-item.result c.loop-first-test.true c.first-item.is

pub returns-in-None : goal.returns-in-None
returns-in-None c =
    let never = rw c.in-None.is at c.in_ok-built_of.ensures in
    none_told (IsBuiltOf c.args.tree.now.map) saved_built c.args.told.now c.loop-first.first-index c.first-item.result c.loop-first-test.true c.first-item.is never

pub loop-first-preserved : goal.loop-first-preserved
loop-first-preserved c =
    let found = rw c.in-Some.is at c.in_ok-built_of.ensures in
    let more = told_next (IsBuiltOf c.args.tree.now.map) saved_built c.loop-first.records.items c.args.told.now c.loop-first.first-index c.in-Some.built c.first-item.result c.loop-first.invariant c.loop-first-test.true c.first-item.is found in
    subst (λ (rs : List Record). AllTold (IsBuiltOf c.args.tree.now.map) (map saved_built rs) (take (c.loop-first.first-index + 1) c.args.told.now)) (sym c.in_ok-push-in-Some.ensures.items) more
