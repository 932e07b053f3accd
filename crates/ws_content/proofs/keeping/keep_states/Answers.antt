use Rattle.std.proofs.Common.{sym, subst, ◌∙◌}
use Rattle.tree_memory.specs.Spared.{left}
use Rattle.ws_content.specs.Saves.{save_begun, states_kept}
use Rattle.ws_content.specs.Inside.Held.{Holds}
use Rattle.ws_content.proofs.Calls.{on_done, on_not}
use Rattle.ws_content.proofs.Keeps.{begun_on, kept_either, none_before}
use Rattle.ws_content.proofs.keeping.keep_states.Goals as goal

pub keep_in_save-kept-requires-clause-known : goal.keep_in_save-kept-requires-clause-known
keep_in_save-kept-requires-clause-known g c =
    let k = c.requires in
    (k.0, save_begun k.1, begun_on g.T.Remembers.number (left g.T.TreeRep.remembered c.args.tree.now) c.args.marks.now c.begin_save.new.self c.begin_save.ensures k.0 k.1 k.2)

pub close-requires : goal.close-requires
close-requires g c =
    let k = c.requires in
    kept_either g.T.Remembers.number c.keep_in_save-kept.result (left g.T.TreeRep.remembered c.args.tree.now) (left g.T.TreeRep.remembered c.keep_in_save-kept.new.tree) c.begin_save.new.self c.keep_in_save-kept.new.marks
    (λ v. states_kept (g.T.TreeRep.tree c.args.tree.now.tree) v c.args.states.now) c.keep_in_save-kept.ensures.holds c.keep_in_save-kept.ensures.same (k.0, save_begun k.1, begun_on g.T.Remembers.number (left g.T.TreeRep.remembered c.args.tree.now) c.args.marks.now c.begin_save.new.self c.begin_save.ensures k.0 k.1 k.2)

pub returns-clause-holds : goal.returns-clause-holds
returns-clause-holds g c = on_done c.keep_in_save-kept.result (λ holds start v h.
    let t = g.T.TreeRep.tree c.args.tree.now.tree in
    let none = none_before g.T.Remembers.number (left g.T.TreeRep.remembered c.args.tree.now) c.args.marks.now start v (sym c.is_saving.ensures ∙ c.if-is_saving.false) h in
    subst (λ b. Holds g.T.Remembers.number start (left g.T.TreeRep.remembered c.close.new.tree) c.close.new.marks (record (states_kept t v c.args.states.now) { before = b })) (sym none)
    (c.close.ensures.holds start (states_kept t (save_begun v) c.args.states.now) (holds start (save_begun v)
    (begun_on g.T.Remembers.number (left g.T.TreeRep.remembered c.args.tree.now) c.args.marks.now c.begin_save.new.self c.begin_save.ensures start v h)))) c.keep_in_save-kept.ensures.holds

pub returns-clause-same : goal.returns-clause-same
returns-clause-same g c = on_not c.keep_in_save-kept.result (λ same start v h.
    let none = none_before g.T.Remembers.number (left g.T.TreeRep.remembered c.args.tree.now) c.args.marks.now start v (sym c.is_saving.ensures ∙ c.if-is_saving.false) h in
    subst (λ b. Holds g.T.Remembers.number start (left g.T.TreeRep.remembered c.close.new.tree) c.close.new.marks (record v { before = b })) (sym none)
    (c.close.ensures.holds start (save_begun v) (same start (save_begun v)
    (begun_on g.T.Remembers.number (left g.T.TreeRep.remembered c.args.tree.now) c.args.marks.now c.begin_save.new.self c.begin_save.ensures start v h)))) c.keep_in_save-kept.ensures.same
