use Rattle.std.proofs.Common.{◌∙◌}
use Rattle.core_event.specs.Twice.{twice}
use Rattle.ws_content.specs.Deeds.{reply_of}
use Rattle.ws_content.proofs.Calls.{if_done}
use Rattle.ws_content.proofs.operating.answer_told.Goals as goal

pub returns-clause-reply : goal.returns-clause-reply
returns-clause-reply g c = if_done c.tell.result (λ x reply start v h. reply start v h ∙ (λ i. twice c.args.wants_copy (reply_of c.args.tells v.told (g.T.TreeRep.tree c.args.tree.now.tree) (c.in_ok-answer.ensures i)))) c.tell.ensures.reply
