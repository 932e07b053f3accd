use Rattle.std.proofs.Common.{◌+◌, sym, ap, subst, ◌∙◌}
use Rattle.std.specs.List.{remove}
use Rattle.elem_tree.specs.Inside.Forgets.{JoinsAt, AreSpared, notes_at, with_notes}
use Rattle.elem_tree.specs.Inside.Joins.{IsJoined, IsSpared}
use Rattle.elem_tree.specs.Inside.Slots.{NoneReady}
use Rattle.elem_tree.proofs.Forgets.{before, ended_at, joins_at, spared_at, still_there}
use Rattle.elem_tree.proofs.forgetting.join_at.Goals as goal

pub join-requires : goal.join-requires
join-requires c =
    subst NoneReady (sym (c.replace-earlier.ensures.value ∙ ap (λ ls. notes_at ls c.args.place) c.replace-later.ensures.items))
    (ended_at c.args.place c.args.layers.now.items c.empty.result c.requires.place c.requires.ended)

pub returns-in-Ok-clause-ok : goal.returns-in-Ok-clause-ok
returns-in-Ok-clause-ok c =
    subst (JoinsAt c.args.place c.args.layers.now.items)
    (sym (c.remove.ensures ∙ ap (λ ls. remove ls (c.args.place + 1)) (c.replace.ensures.items ∙ ap (λ ls. with_notes ls c.args.place c.in-Ok.both)
    (c.replace-earlier.ensures.items ∙ ap (λ ls. with_notes ls c.args.place c.empty-2.result) c.replace-later.ensures.items))))
    (joins_at c.args.place c.args.layers.now.items c.empty.result c.empty-2.result c.in-Ok.both c.requires.place
    (subst (λ e. IsJoined e (notes_at c.args.layers.now.items (c.args.place + 1)) c.in-Ok.both) (c.replace-earlier.ensures.value ∙ ap (λ ls. notes_at ls c.args.place) c.replace-later.ensures.items)
    (subst (λ l. IsJoined c.replace-earlier.result l c.in-Ok.both) c.replace-later.ensures.value c.in-Ok.ensures.ok)))

pub returns-in-Err-clause-err : goal.returns-in-Err-clause-err
returns-in-Err-clause-err c =
    subst (AreSpared c.args.layers.now.items)
    (sym (c.replace-in-Err-2.ensures.items ∙ ap (λ ls. with_notes ls (c.args.place + 1) c.in-Err.later) (c.replace-in-Err.ensures.items ∙ ap (λ ls. with_notes ls c.args.place c.in-Err.earlier)
    (c.replace-earlier.ensures.items ∙ ap (λ ls. with_notes ls c.args.place c.empty-2.result) c.replace-later.ensures.items))))
    (spared_at c.args.place c.args.layers.now.items c.empty.result c.empty-2.result c.in-Err.earlier c.in-Err.later c.requires.place
    (subst (λ e. IsSpared e c.in-Err.earlier) (c.replace-earlier.ensures.value ∙ ap (λ ls. notes_at ls c.args.place) c.replace-later.ensures.items) c.in-Err.ensures.err.0)
    (subst (λ l. IsSpared l c.in-Err.later) c.replace-later.ensures.value c.in-Err.ensures.err.1))

pub replace-earlier-requires : goal.replace-earlier-requires
replace-earlier-requires c =
    still_there c.args.layers.now.items c.replace-later.new.layers.items (c.args.place + 1) c.args.place c.empty.result c.replace-later.ensures.items (before c.args.place _ c.requires.place)

pub replace-requires : goal.replace-requires
replace-requires c =
    still_there c.replace-later.new.layers.items c.replace-earlier.new.layers.items c.args.place c.args.place c.empty-2.result c.replace-earlier.ensures.items
    (still_there c.args.layers.now.items c.replace-later.new.layers.items (c.args.place + 1) c.args.place c.empty.result c.replace-later.ensures.items (before c.args.place _ c.requires.place))

pub remove-requires : goal.remove-requires
remove-requires c =
    still_there c.replace-earlier.new.layers.items c.replace.new.layers.items c.args.place (c.args.place + 1) c.in-Ok.both c.replace.ensures.items
    (still_there c.replace-later.new.layers.items c.replace-earlier.new.layers.items c.args.place (c.args.place + 1) c.empty-2.result c.replace-earlier.ensures.items
    (still_there c.args.layers.now.items c.replace-later.new.layers.items (c.args.place + 1) (c.args.place + 1) c.empty.result c.replace-later.ensures.items c.requires.place))

pub replace-requires-in-Err : goal.replace-requires-in-Err
replace-requires-in-Err c =
    still_there c.replace-later.new.layers.items c.replace-earlier.new.layers.items c.args.place c.args.place c.empty-2.result c.replace-earlier.ensures.items
    (still_there c.args.layers.now.items c.replace-later.new.layers.items (c.args.place + 1) c.args.place c.empty.result c.replace-later.ensures.items (before c.args.place _ c.requires.place))

pub replace-requires-in-Err-2 : goal.replace-requires-in-Err-2
replace-requires-in-Err-2 c =
    still_there c.replace-earlier.new.layers.items c.replace-in-Err.new.layers.items c.args.place (c.args.place + 1) c.in-Err.earlier c.replace-in-Err.ensures.items
    (still_there c.replace-later.new.layers.items c.replace-earlier.new.layers.items c.args.place (c.args.place + 1) c.empty-2.result c.replace-earlier.ensures.items
    (still_there c.args.layers.now.items c.replace-later.new.layers.items (c.args.place + 1) (c.args.place + 1) c.empty.result c.replace-later.ensures.items c.requires.place))
