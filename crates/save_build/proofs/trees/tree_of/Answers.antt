use Rattle.std.proofs.Common.{◌≡◌, ◌+◌, ◌-◌, ◌<◌, length, arith}
use Rattle.save_build.specs.Told.{told_tree}
use Rattle.save_build.proofs.Changes.{at_fits, set_next, fit_next, none_tells}
use Rattle.save_build.proofs.trees.tree_of.Goals as goal

pub entry_of-requires : goal.entry_of-requires
entry_of-requires c =
    let lt : c.loop-at.at - 1 < length c.args.changes.now = omega arith in
    (at_fits (told_tree c.args.base.now.map) c.args.changes.now c.requires.changes (c.loop-at.at - 1) c.index-changes-at.result lt c.index-changes-at.is).1

pub loop-at-preserved : goal.loop-at-preserved
loop-at-preserved c =
    let changes = c.args.changes.now in
    let change = c.index-changes-at.result in
    let at = c.loop-at.at - 1 in
    let lt : at < length changes = omega arith in
    let more : c.loop-at.at ≡ at + 1 = omega arith in
    let found = rw c.in-Some.is at c.in_ok-entry_of.ensures in
    let fits = at_fits (told_tree c.args.base.now.map) changes c.requires.changes at change lt c.index-changes-at.is in
    record {
      place = omega arith;
      told = set_next c.args.base.now.map changes at c.loop-at.at change c.loop-at.tree.map c.set.new.tree.map c.in-Some.entry lt more c.index-changes-at.is c.loop-at.invariant.told found.0 c.in_ok-set-in-Some.ensures;
      fit = fit_next change c.loop-at.tree.map c.set.new.tree.map c.in-Some.entry c.loop-at.invariant.fit fits.0 fits.1 found.0 found.1 c.in_ok-set-in-Some.ensures;
    }

pub returns-in-None : goal.returns-in-None
returns-in-None c t h =
    let changes = c.args.changes.now in
    let at = c.loop-at.at - 1 in
    let lt : at < length changes = omega arith in
    let never = rw c.in-None.is at c.in_ok-entry_of.ensures in
    none_tells c.args.base.now.map changes c.requires.changes at c.index-changes-at.result lt c.index-changes-at.is never t.map h.0 h.1
