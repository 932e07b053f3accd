use Rattle.std.specs.FinMap.{entries}
use Rattle.std.specs.Option.{option_copied}
use Rattle.build_due.specs.Inside.Walks.{seen_files}
use Rattle.build_due.proofs.Walked.{seen_start, seen_more, left_shorter}
use Rattle.build_due.proofs.sight.seen_files.Goals as goal

pub loop-at-init : goal.loop-at-init
loop-at-init g c = seen_start c.args.inputs.now c.args.output.now (g.T.TreeRep.tree c.args.tree.now) c.root-last.result (option_copied c.get.result)
    c.new-files.result.items c.add_seen.new.files.items c.root-last.ensures c.get.ensures c.new-files.ensures.items c.in_ok-add_seen.ensures

pub loop-at-preserved : goal.loop-at-preserved
loop-at-preserved g c =
    let tree = g.T.TreeRep.tree c.args.tree.now in
    seen_more c.args.inputs.now c.args.output.now tree c.loop-at.last c.in_ok-last.last (c.in-Some.at.now, option_copied c.in-Some.element) c.in-Some.ensures c.in_ok-last.ensures
    c.loop-at.files.items c.add_seen-in-Some.new.files.items (seen_files c.args.inputs.now c.args.output.now (entries tree)) c.in_ok-add_seen-2.ensures c.loop-at.invariant

pub loop-at-smaller : goal.loop-at-smaller
loop-at-smaller g c = left_shorter c.args.inputs.now c.args.output.now (g.T.TreeRep.tree c.args.tree.now) c.loop-at.last c.in_ok-last.last
    (c.in-Some.at.now, option_copied c.in-Some.element) c.in-Some.ensures c.in_ok-last.ensures
