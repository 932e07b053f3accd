use Rattle.std.proofs.Common.{subst}
use Rattle.elem_tree.proofs.Gathers.{GatheringAll, all_begins, all_steps, all_ends, all_most, no_items}
use Rattle.elem_tree.proofs.gathering.gather_layers.Goals as goal

pub loop-first-init : goal.loop-first-init
loop-first-init c = all_begins c.args.changes.now c.args.layers.now c.args.newest.now.map

pub loop-first-preserved : goal.loop-first-preserved
loop-first-preserved c =
    all_steps c.args.changes.now c.args.layers.now c.args.newest.now.map c.loop-first.changes c.gather_notes.new.changes c.in-Some.first.now c.in-Some.others.now
    (subst (GatheringAll c.args.changes.now c.args.layers.now c.args.newest.now.map c.loop-first.changes) c.in-Some.ensures.cases.0 c.loop-first.invariant)
    c.in_ok-gather_notes.ensures.gathers c.in_ok-gather_notes.ensures.most

pub returns-clause-gathers : goal.returns-clause-gathers
returns-clause-gathers c =
    all_ends c.args.changes.now c.args.layers.now c.args.newest.now.map c.loop-first.changes
    (subst (GatheringAll c.args.changes.now c.args.layers.now c.args.newest.now.map c.loop-first.changes) (no_items c.loop-first.rest.now c.in_default.ensures.cases) c.loop-first.invariant)

pub returns-clause-most : goal.returns-clause-most
returns-clause-most c =
    all_most c.args.changes.now c.args.layers.now c.args.newest.now.map c.loop-first.changes
    (subst (GatheringAll c.args.changes.now c.args.layers.now c.args.newest.now.map c.loop-first.changes) (no_items c.loop-first.rest.now c.in_default.ensures.cases) c.loop-first.invariant)
