use Rattle.std.proofs.Common.{slice_set, ap, ◌∙◌}
use Rattle.elem_tree.proofs.Forgets.{at_place, set_place}
use Rattle.elem_tree.proofs.forgetting.replace.Goals as goal

pub returns-clause-value : goal.returns-clause-value
returns-clause-value c = c.replace.ensures.value ∙ at_place c.args.layers.now.items c.args.place c.index_mut.result.now c.requires c.index_mut.ensures.value

pub returns-clause-items : goal.returns-clause-items
returns-clause-items c =
    ap (λ x. slice_set c.args.layers.now.items c.args.place (record { mark = c.index_mut.result.now.mark; notes = x })) c.replace.ensures.after
    ∙ set_place c.args.layers.now.items c.args.place c.index_mut.result.now c.args.notes c.requires c.index_mut.ensures.value
