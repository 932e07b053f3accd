use Rattle.std.proofs.Common.{◌∙◌, ap, subst, sym}
use Rattle.tree_memory.specs.Spared.{left}
use Rattle.std.specs.FinMap.{insert}
use Rattle.op_kind.specs.Resources.{Resources}
use Rattle.core_event.specs.declared.reply.Answer.TheVariants.{Committed}
use Rattle.core_event.specs.Twice.{twice}
use Rattle.ws_content.specs.States.{with_built}
use Rattle.ws_content.specs.Deeds.{kept_if, record_of, reply_of}
use Rattle.ws_content.specs.Inside.Held.{Holds}
use Rattle.ws_content.proofs.Calls.{moved}
use Rattle.ws_content.proofs.Steps.{on_failed}
use Rattle.ws_content.proofs.building.commit.Goals as goal

pub finish_commit-requires-clause-known : goal.finish_commit-requires-clause-known
finish_commit-requires-clause-known g c = (c.requires.0, c.requires.1, moved g.T.Remembers.number c.requires.0 _ _ _ _ c.in-Ok.ensures.remembered c.requires.2)

pub returns-in_err-finish_commit-in-Ok-clause-kept : goal.returns-in_err-finish_commit-in-Ok-clause-kept
returns-in_err-finish_commit-in-Ok-clause-kept g c = on_failed c.from_residual.result c.from_residual.ensures.0 (λ start v h.
    c.in_err-finish_commit-in-Ok.ensures.kept start v (moved g.T.Remembers.number start _ _ _ _ c.in-Ok.ensures.remembered h))

pub returns-in_ok-finish_commit-in-Ok-clause-holds : goal.returns-in_ok-finish_commit-in-Ok-clause-holds
returns-in_ok-finish_commit-in-Ok-clause-holds g c start v h =
    let s = c.args.site.now in
    let same = ap (λ (r : Resources). r.tree) (sym c.in_ok-finish_commit-in-Ok.ensures.resources) in
    subst (λ t. Holds g.T.Remembers.number start (left g.T.TreeRep.remembered c.finish_commit.new.tree) c.finish_commit.new.marks
    (kept_if c.args.tells t (with_built v (insert v.built (s.project, s.index) (record_of s t))))) same
    (c.in_ok-finish_commit-in-Ok.ensures.holds start v (moved g.T.Remembers.number start _ _ _ _ c.in-Ok.ensures.remembered h))

pub returns-in_ok-finish_commit-in-Ok-clause-reply : goal.returns-in_ok-finish_commit-in-Ok-clause-reply
returns-in_ok-finish_commit-in-Ok-clause-reply g c start v h =
    let same = ap (λ (r : Resources). r.tree) (sym c.in_ok-finish_commit-in-Ok.ensures.resources) in
    c.in_ok-finish_commit-in-Ok.ensures.reply start v (moved g.T.Remembers.number start _ _ _ _ c.in-Ok.ensures.remembered h)
    ∙ (λ i. twice c.args.wants_copy (reply_of c.args.tells v.told (same i) (Committed (c.in-Ok.ensures.touched i) (c.in-Ok.ensures.problems i))))
