use Rattle.tree_memory.specs.Spared.{left}
use Rattle.ws_content.specs.Saves.{save_begun}
use Rattle.ws_content.specs.Inside.Opened.{kept_onto}
use Rattle.ws_content.proofs.Keeps.{begun_on}
use Rattle.ws_content.proofs.opening.keep_all.Goals as goal

pub keep_in_turn-requires-clause-known : goal.keep_in_turn-requires-clause-known
keep_in_turn-requires-clause-known g c =
    let k = c.requires.known in
    (k.0, save_begun k.1, begun_on g.T.Remembers.number (left g.T.TreeRep.remembered c.args.tree.now) c.args.marks.now c.begin_save.new.self c.begin_save.ensures k.0 k.1 k.2)

pub close-requires : goal.close-requires
close-requires g c =
    let k = c.requires.known in (
      k.0,
      record (save_begun k.1) { kept = kept_onto (k.1).kept c.args.kept.now },
      c.in_ok-last.ensures.holds k.0 (save_begun k.1) (begun_on g.T.Remembers.number (left g.T.TreeRep.remembered c.args.tree.now) c.args.marks.now c.begin_save.new.self c.begin_save.ensures k.0 k.1 k.2),
    )

pub returns-clause-holds : goal.returns-clause-holds
returns-clause-holds g c start v h =
    c.close.ensures.holds start (record (save_begun v) { kept = kept_onto v.kept c.args.kept.now }) (c.in_ok-last.ensures.holds start (save_begun v)
    (begun_on g.T.Remembers.number (left g.T.TreeRep.remembered c.args.tree.now) c.args.marks.now c.begin_save.new.self c.begin_save.ensures start v h))
