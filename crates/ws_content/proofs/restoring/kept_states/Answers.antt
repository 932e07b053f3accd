use Rattle.std.proofs.Common.{sym, ◌∙◌}
use Rattle.std.specs.FinMap.{values}
use Rattle.tree_memory.specs.Spared.{left}
use Rattle.ws_content.proofs.Lasts.{IsKeptThere, kept_now, kept_there, since_is}
use Rattle.ws_content.proofs.Listed.{telling_done, telling_next, unmapped}
use Rattle.ws_content.proofs.restoring.kept_states.Goals as goal

pub loop-state-preserved : goal.loop-state-preserved
loop-state-preserved g c =
    let trees = left g.T.TreeRep.remembered c.args.tree.now in
    telling_next (IsKeptThere g.T.Remembers.number trees) (kept_now g.T.Remembers.number trees (g.T.TreeRep.tree c.args.tree.now.tree)) (λ k. k) (values c.args.marks.now.kept) c.loop-state.kept.items
    c.push.new.self.items c.loop-state.state-iterator c.next.new.self c.in-Some.state.now c.in_ok-state_since.field-0 c.in-Some.ensures.steps c.in_ok-push.ensures.items
    c.in_ok-state_since.ensures c.loop-state.invariant

pub returns : goal.returns
returns g c start v h =
    let trees = left g.T.TreeRep.remembered c.args.tree.now in
    let number = g.T.Remembers.number in
    let now = g.T.TreeRep.tree c.args.tree.now.tree in
    let all = values c.args.marks.now.kept in
    sym (unmapped c.loop-state.kept.items)
    ∙ telling_done (IsKeptThere number trees) (kept_now number trees now) (λ k. k) all c.loop-state.kept.items c.loop-state.state-iterator c.in-None.ensures.steps.0 c.loop-state.invariant
    (kept_there number trees start c.args.marks.now v h)
    ∙ since_is number trees start c.args.marks.now v h now
