use Rattle.std.proofs.Common.{◌∙◌, subst}
use Rattle.tree_memory.specs.Spared.{left}
use Rattle.std.specs.FinMap.{remove}
use Rattle.ws_content.specs.Deeds.{kept_if}
use Rattle.ws_content.specs.Inside.Held.{Holds}
use Rattle.ws_content.proofs.Calls.{kept_built, moved}
use Rattle.ws_content.proofs.building.finish_clean.Goals as goal

pub remove_built-requires : goal.remove_built-requires
remove_built-requires g c =
    let k = c.requires.known in
    (k.0, kept_if c.args.tells (g.T.TreeRep.tree c.args.tree.now.tree) k.1, moved g.T.Remembers.number k.0 _ _ _ _ c.drop_room.ensures.remembered (c.in-Ok.ensures.holds k.0 k.1 k.2))

pub returns-in-Ok-clause-holds : goal.returns-in-Ok-clause-holds
returns-in-Ok-clause-holds g c start v h =
    let t = g.T.TreeRep.tree c.args.tree.now.tree in
    subst (Holds g.T.Remembers.number start (left g.T.TreeRep.remembered c.remove_built.new.tree) c.remove_built.new.marks)
    (kept_built c.args.tells t v (λ rs. remove rs (c.args.site.now.project, c.args.site.now.index)))
    (c.remove_built.ensures.holds start (kept_if c.args.tells t v) (moved g.T.Remembers.number start _ _ _ _ c.drop_room.ensures.remembered (c.in-Ok.ensures.holds start v h)))

pub returns-in-Err-clause-kept : goal.returns-in-Err-clause-kept
returns-in-Err-clause-kept g c start v h = moved g.T.Remembers.number start _ _ _ _ (c.drop_room-in-Err.ensures.remembered ∙ c.take_back.ensures.remembered) (c.in-Err.ensures.kept start v h)
