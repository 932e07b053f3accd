use Rattle.std.proofs.Common.{map, ap, ◌∙◌}
use Rattle.std.specs.FinMap.{values}
use Rattle.tree_memory.specs.Spared.{left}
use Rattle.ws_durable.specs.Saved.{saved_kept}
use Rattle.ws_content.proofs.Lasts.{IsKeptThere, kept_is, kept_lasting, kept_there}
use Rattle.ws_content.proofs.Listed.{telling_done, telling_next}
use Rattle.ws_content.proofs.lasting.durable_states.Goals as goal

pub loop-state-preserved : goal.loop-state-preserved
loop-state-preserved g c =
    let trees = left g.T.TreeRep.remembered c.args.tree.now in
    telling_next (IsKeptThere g.T.Remembers.number trees) (kept_lasting g.T.Remembers.number trees) saved_kept (values c.args.marks.now.kept) c.loop-state.kept.items c.push.new.self.items
    c.loop-state.state-iterator c.next.new.self c.in-Some.state.now c.in_ok-durable_state.field-0 c.in-Some.ensures.steps c.in_ok-push.ensures.items c.in_ok-durable_state.ensures
    c.loop-state.invariant

pub returns : goal.returns
returns g c start v h =
    let trees = left g.T.TreeRep.remembered c.args.tree.now in
    let number = g.T.Remembers.number in
    let all = values c.args.marks.now.kept in
    ap (map saved_kept) c.of.ensures
    ∙ telling_done (IsKeptThere number trees) (kept_lasting number trees) saved_kept all c.loop-state.kept.items c.loop-state.state-iterator c.in-None.ensures.steps.0 c.loop-state.invariant
    (kept_there number trees start c.args.marks.now v h)
    ∙ kept_is number trees start c.args.marks.now v h
