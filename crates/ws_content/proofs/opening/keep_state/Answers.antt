use Rattle.std.proofs.Common.{ℕ, sym, subst}
use Rattle.std.specs.Prelude.{Option}
use Rattle.std.specs.FinMap.{insert}
use Rattle.ws_elem.specs.Trees.{Tree}
use Rattle.tree_memory.specs.Spared.{left}
use Rattle.ws_content.specs.Inside.Held.{Holds}
use Rattle.ws_content.proofs.Begun.{shown_with, shown_without}
use Rattle.ws_content.proofs.opening.keep_state.Goals as goal

pub returns-in_ok-keep-in-None-clause-holds : goal.returns-in_ok-keep-in-None-clause-holds
returns-in_ok-keep-in-None-clause-holds g c start v h =
    let s = c.args.kept.now in
    subst (λ x. Holds g.T.Remembers.number start (left g.T.TreeRep.remembered c.keep.new.tree) c.keep.new.marks (record v { kept = insert v.kept s.participant x }))
    (shown_without s (g.T.TreeRep.tree c.args.tree.now.tree) c.in-None.is)
    (c.in_ok-keep-in-None.ensures.holds start v h)

pub keep-requires-in-Some-clause-known : goal.keep-requires-in-Some-clause-known
keep-requires-in-Some-clause-known g c =
    let k = c.requires.known in
    (k.0, k.1, subst (λ (f : ℕ → Option Tree). Holds g.T.Remembers.number k.0 f c.args.marks.now k.1) (sym c.in_ok-lead-in-Some.ensures.remembered) k.2)

pub returns-in_ok-keep-in-Some-clause-holds : goal.returns-in_ok-keep-in-Some-clause-holds
returns-in_ok-keep-in-Some-clause-holds g c start v h =
    let s = c.args.kept.now in
    subst (λ x. Holds g.T.Remembers.number start (left g.T.TreeRep.remembered c.keep-in-Some.new.tree) c.keep-in-Some.new.marks (record v { kept = insert v.kept s.participant x }))
    (shown_with s (g.T.TreeRep.tree c.lead.new.tree.tree) c.in-Some.wanted c.in-Some.is c.in_ok-lead-in-Some.ensures.tree)
    (c.in_ok-keep-in-Some.ensures.holds start v (subst (λ (f : ℕ → Option Tree). Holds g.T.Remembers.number start f c.args.marks.now v) (sym c.in_ok-lead-in-Some.ensures.remembered) h))
