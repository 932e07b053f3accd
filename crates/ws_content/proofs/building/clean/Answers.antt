use Rattle.std.proofs.Common.{◌∙◌, ap, subst, sym}
use Rattle.tree_memory.specs.Spared.{left}
use Rattle.std.specs.FinMap.{remove}
use Rattle.op_kind.specs.Resources.{Resources}
use Rattle.core_event.specs.declared.reply.Answer.TheVariants.{Done}
use Rattle.core_event.specs.Twice.{twice}
use Rattle.ws_content.specs.States.{with_built}
use Rattle.ws_content.specs.Deeds.{kept_if, reply_of}
use Rattle.ws_content.specs.Inside.Held.{Holds}
use Rattle.ws_content.proofs.Calls.{if_both, moved, on_both, on_not}
use Rattle.ws_content.proofs.building.clean.Goals as goal

pub finish_clean-requires-clause-known : goal.finish_clean-requires-clause-known
finish_clean-requires-clause-known g c = (c.requires.0, c.requires.1, moved g.T.Remembers.number c.requires.0 _ _ _ _ c.in-Ok.ensures.remembered c.requires.2)

pub returns-in-Ok-clause-holds : goal.returns-in-Ok-clause-holds
returns-in-Ok-clause-holds g c =
    let s = c.args.site.now in
    on_both c.finish_clean.result (λ same holds start v h.
    subst (λ t. Holds g.T.Remembers.number start (left g.T.TreeRep.remembered c.finish_clean.new.tree) c.finish_clean.new.marks
    (kept_if c.args.tells t (with_built v (remove v.built (s.project, s.index))))) (ap (λ (r : Resources). r.tree) (sym same))
    (holds start v (moved g.T.Remembers.number start _ _ _ _ c.in-Ok.ensures.remembered h))) c.finish_clean.ensures.resources c.finish_clean.ensures.holds

pub returns-in-Ok-clause-reply : goal.returns-in-Ok-clause-reply
returns-in-Ok-clause-reply g c =
    if_both c.finish_clean.result (λ same x reply start v h.
    reply start v (moved g.T.Remembers.number start _ _ _ _ c.in-Ok.ensures.remembered h)
    ∙ ap (λ (r : Resources). twice c.args.wants_copy (reply_of c.args.tells v.told r.tree Done)) (sym same)) c.finish_clean.ensures.resources c.finish_clean.ensures.reply

pub returns-in-Ok-clause-kept : goal.returns-in-Ok-clause-kept
returns-in-Ok-clause-kept g c =
    on_not c.finish_clean.result (λ kept start v h. kept start v (moved g.T.Remembers.number start _ _ _ _ c.in-Ok.ensures.remembered h)) c.finish_clean.ensures.kept
