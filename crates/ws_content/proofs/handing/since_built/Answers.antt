use Rattle.std.proofs.Common.{◌∙◌, ap, sym}
use Rattle.tree_memory.specs.Spared.{left}
use Rattle.std.specs.Option.{option_copied}
use Rattle.ws_content.proofs.Calls.{cut_since, none_since, others_since}
use Rattle.ws_content.proofs.handing.since_built.Goals as goal

pub returns-in_default : goal.returns-in_default
returns-in_default g c start v h =
    none_since g.T.Remembers.number start (left g.T.TreeRep.remembered c.args.tree.now) c.args.marks.now v c.args.site.now c.args.kind (g.T.TreeRep.tree c.args.tree.now.tree)
    (sym c.built.ensures ∙ ap option_copied c.in_default.is) h

pub returns-then-not-is_same : goal.returns-then-not-is_same
returns-then-not-is_same g c start v h =
    others_since g.T.Remembers.number start (left g.T.TreeRep.remembered c.args.tree.now) c.args.marks.now v c.args.site.now c.args.kind (g.T.TreeRep.tree c.args.tree.now.tree)
    c.in-Some.last.now c.is_same.result (sym c.built.ensures ∙ ap option_copied c.in-Some.is) c.is_same.ensures c.if-not-is_same.true h

pub returns : goal.returns
returns g c start v h =
    cut_since g.T.Remembers.number start (left g.T.TreeRep.remembered c.args.tree.now) c.args.marks.now v c.args.site.now c.args.kind (g.T.TreeRep.tree c.args.tree.now.tree)
    c.in-Some.last.now c.is_same.result c.is_whole.result c.in_ok-delta.delta c.in_ok-under.field-0 c.as_slice.result.now (sym c.built.ensures ∙ ap option_copied c.in-Some.is)
    c.is_same.ensures c.if-not-is_same.false c.is_whole.ensures c.if-is_whole.false c.in_ok-delta.ensures (c.as_slice.ensures ∙ c.in_ok-scope.ensures) c.in_ok-under.ensures h
