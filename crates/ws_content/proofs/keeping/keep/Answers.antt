use Rattle.tree_memory.specs.Spared.{left}
use Rattle.ws_content.proofs.Keeps.{behind_moved, kept_behind, kept_on, not_kept, not_kept_behind}
use Rattle.ws_content.proofs.keeping.keep.Goals as goal

pub returns-in_err-state-clause-behind : goal.returns-in_err-state-clause-behind
returns-in_err-state-clause-behind g c start count v h le =
    behind_moved g.T.Remembers.number start count (left g.T.TreeRep.remembered c.args.tree.now) (left g.T.TreeRep.remembered c.state_now.new.tree) c.args.marks.now c.in_err-state.ensures.err

pub returns-in-Ok-clause-holds : goal.returns-in-Ok-clause-holds
returns-in-Ok-clause-holds g c =
    let s = c.in_ok-state.ensures in
    kept_on g.T.Remembers.number (left g.T.TreeRep.remembered c.args.tree.now) (left g.T.TreeRep.remembered c.state_now.new.tree) c.args.marks.now (g.T.TreeRep.tree c.args.tree.now.tree)
    c.in_ok-state.state c.args.name.now c.args.bytes.now c.args.with_tree s.taken c.set_kept.new.self s.participant s.bytes c.requires.saving c.in-Ok.ensures.ok

pub returns-in-Ok-clause-behind : goal.returns-in-Ok-clause-behind
returns-in-Ok-clause-behind g c =
    kept_behind g.T.Remembers.number (left g.T.TreeRep.remembered c.args.tree.now) (left g.T.TreeRep.remembered c.state_now.new.tree) c.args.marks.now (g.T.TreeRep.tree c.args.tree.now.tree)
    c.in_ok-state.state c.args.name.now c.args.bytes.now c.args.with_tree c.in_ok-state.ensures.taken c.set_kept.new.self c.requires.saving c.in-Ok.ensures.ok

pub returns-in-Err-clause-same : goal.returns-in-Err-clause-same
returns-in-Err-clause-same g c =
    not_kept g.T.Remembers.number (left g.T.TreeRep.remembered c.args.tree.now) (left g.T.TreeRep.remembered c.state_now.new.tree) c.args.marks.now (g.T.TreeRep.tree c.args.tree.now.tree)
    c.in_ok-state.state c.args.name.now c.args.bytes.now c.args.with_tree c.in_ok-state.ensures.taken (left g.T.TreeRep.remembered c.give_up_kept.new.tree) c.set_kept.new.self c.in-Err.failed.value c.in-Err.ensures.back c.in-Err.ensures.err c.give_up_kept.ensures.others

pub returns-in-Err-clause-behind : goal.returns-in-Err-clause-behind
returns-in-Err-clause-behind g c start count v h le =
    not_kept_behind g.T.Remembers.number (left g.T.TreeRep.remembered c.args.tree.now) (left g.T.TreeRep.remembered c.state_now.new.tree) c.args.marks.now (g.T.TreeRep.tree c.args.tree.now.tree)
    c.in_ok-state.state c.args.name.now c.args.bytes.now c.args.with_tree c.in_ok-state.ensures.taken (left g.T.TreeRep.remembered c.give_up_kept.new.tree) c.set_kept.new.self c.in-Err.failed.value c.in-Err.ensures.back c.in-Err.ensures.err c.give_up_kept.ensures.others
    start count v h
