use Rattle.std.proofs.Common.{◌∙◌}
use Rattle.ws_content.proofs.Calls.{moved}
use Rattle.ws_content.proofs.operating.finish.Goals as goal

pub returns-in-Ok-clause-holds : goal.returns-in-Ok-clause-holds
returns-in-Ok-clause-holds g c start v h = moved g.T.Remembers.number start _ _ _ _ c.drop_room.ensures.remembered (c.in-Ok.ensures.holds start v h)

pub returns-in-Err-clause-kept : goal.returns-in-Err-clause-kept
returns-in-Err-clause-kept g c start v h = moved g.T.Remembers.number start _ _ _ _ (c.drop_room-in-Err.ensures.remembered ∙ c.take_back.ensures.remembered) (c.in-Err.ensures.kept start v h)
