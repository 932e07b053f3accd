use Rattle.std.proofs.Common.{[], ◌∷◌, ◌++◌, take, sym, ap, ◌∙◌}
use Rattle.std.specs.List.{flat_map}
use Rattle.std.proofs.lemmas.List.{flat_map_more, take_more}
use Rattle.report_text.specs.Deltas.{marker_line}
use Rattle.report_text.proofs.delta_text.put_markers.Goals as goal

pub loop-delta-preserved : goal.loop-delta-preserved
loop-delta-preserved c =
    let before = take c.loop-delta.delta-index c.args.deltas.now in
    c.in_ok-put_marker.ensures
    ∙ ap (λ out. out ++ marker_line c.delta-item.result) c.loop-delta.invariant
    ∙ flat_map_more marker_line c.args.out.now.items before c.delta-item.result
    ∙ ap (λ deltas. c.args.out.now.items ++ flat_map marker_line deltas)
    (ap (λ delta. before ++ delta ∷ []) c.delta-item.is ∙ sym (take_more c.args.deltas.now c.loop-delta.delta-index c.delta-item.result c.loop-delta-test.true))
