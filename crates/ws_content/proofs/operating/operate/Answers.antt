use Rattle.std.proofs.Common.{◌∙◌, ap, subst, sym}
use Rattle.tree_memory.specs.Spared.{left}
use Rattle.std.specs.Option.{option_map}
use Rattle.op_kind.specs.Resources.{Resources, resources}
use Rattle.core_event.specs.Replies.{answered}
use Rattle.core_event.specs.Twice.{twice}
use Rattle.ws_content.specs.States.{with_built}
use Rattle.ws_content.specs.Deeds.{forgets, forgotten, kept_if, reply_of}
use Rattle.ws_content.specs.Inside.Held.{Holds}
use Rattle.ws_content.proofs.Calls.{described_op, kept_built, moved}
use Rattle.ws_content.proofs.Steps.{on_failed}
use Rattle.ws_content.proofs.operating.operate.Goals as goal

pub finish-requires-clause-known : goal.finish-requires-clause-known
finish-requires-clause-known g c = (c.requires.0, c.requires.1, moved g.T.Remembers.number c.requires.0 _ _ _ _ c.in-Ok.ensures.remembered c.requires.2)

pub returns-in_err-replied-in-Ok-clause-kept : goal.returns-in_err-replied-in-Ok-clause-kept
returns-in_err-replied-in-Ok-clause-kept g c = on_failed c.from_residual-in_err-replied-in-Ok.result c.from_residual-in_err-replied-in-Ok.ensures.0 (λ start v h.
    c.in_err-replied-in-Ok.ensures.kept start v (moved g.T.Remembers.number start _ _ _ _ c.in-Ok.ensures.remembered h))

pub forget-requires : goal.forget-requires
forget-requires g c =
    let k = c.requires in (
      k.0,
      kept_if c.args.tells (g.T.TreeRep.tree c.apply.new.tree.tree) k.1,
      c.in_ok-replied-in-Ok.ensures.holds k.0 k.1 (moved g.T.Remembers.number k.0 _ _ _ _ c.in-Ok.ensures.remembered k.2),
    )

pub returns-in-Ok-clause-holds : goal.returns-in-Ok-clause-holds
returns-in-Ok-clause-holds g c start v h =
    let t = g.T.TreeRep.tree c.apply.new.tree.tree in
    let same = c.forget.ensures.tree ∙ ap (λ (r : Resources). r.tree) c.in_ok-replied-in-Ok.ensures.resources in
    let gone = c.in_ok-gone.ensures (described_op (resources (g.T.TreeRep.tree c.args.tree.now.tree) c.args.side.now) c.args.op.now c.in-Ok.ensures.allowed) in
    subst (λ u. Holds g.T.Remembers.number start (left g.T.TreeRep.remembered c.forget.new.tree) c.forget.new.marks (kept_if c.args.tells u (with_built v (forgotten (forgets c.args.op.now) v.built)))) (sym same)
    (subst (λ z. Holds g.T.Remembers.number start (left g.T.TreeRep.remembered c.forget.new.tree) c.forget.new.marks (kept_if c.args.tells t (with_built v (forgotten z v.built)))) gone
    (subst (Holds g.T.Remembers.number start (left g.T.TreeRep.remembered c.forget.new.tree) c.forget.new.marks)
    (kept_built c.args.tells t v (forgotten (option_map (λ f. (f.project, f.index)) c.in_ok-gone.gone)))
    (c.forget.ensures.holds start (kept_if c.args.tells t v) (c.in_ok-replied-in-Ok.ensures.holds start v (moved g.T.Remembers.number start _ _ _ _ c.in-Ok.ensures.remembered h)))))

pub returns-in-Ok-clause-reply : goal.returns-in-Ok-clause-reply
returns-in-Ok-clause-reply g c start v h =
    let same = c.forget.ensures.tree ∙ ap (λ (r : Resources). r.tree) c.in_ok-replied-in-Ok.ensures.resources in
    c.in_ok-replied-in-Ok.ensures.reply start v (moved g.T.Remembers.number start _ _ _ _ c.in-Ok.ensures.remembered h)
    ∙ (λ i. twice c.args.wants_copy (reply_of c.args.tells v.told (sym same i) (answered (c.in-Ok.ensures.answer i))))
