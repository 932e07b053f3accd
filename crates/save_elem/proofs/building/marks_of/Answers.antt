use Rattle.std.proofs.Common.{map, ap, ◌∙◌}
use Rattle.std.specs.Cmp.{nat_cmp_total}
use Rattle.std.specs.FinMap.{nat_cmp-IsAntisymmetric}
use Rattle.std.specs.Map.{values_of}
use Rattle.std.proofs.lemmas.List.{take_all}
use Rattle.mark_set.proofs.Maps.{entries-empty}
use Rattle.save_elem.specs.Fits.{FitsMark}
use Rattle.save_elem.specs.Telling.{told_mark}
use Rattle.save_elem.proofs.Items.{none_next, fit_at, mark_next, saved_next, none_saved, lasting_all, all_owned, IsOwn}
use Rattle.save_elem.proofs.building.marks_of.Goals as goal

pub loop-first-init : goal.loop-first-init
loop-first-init c = rw c.empty-marks.ensures (ap (λ l. map told_mark (values_of l)) (entries-empty nat_cmp_total nat_cmp-IsAntisymmetric), none_saved)

pub mark_of-requires : goal.mark_of-requires
mark_of-requires c = (fit_at FitsMark c.args.told.now c.loop-first.first-index c.first-item.result c.loop-first-test.true c.first-item.is c.requires).1.attrs.1

pub returns-in_default : goal.returns-in_default
returns-in_default c =
    let never = rw c.in_default.is at c.in_ok-marker.ensures in
    λ x h. none_next told_mark IsOwn c.args.told.now c.loop-first.first-index c.first-item.result c.loop-first-test.true c.first-item.is never _ h.0 (all_owned x h.1)

pub loop-first-preserved : goal.loop-first-preserved
loop-first-preserved c =
    let so = rw c.in-Some.is at c.in_ok-marker.ensures in
    rw c.in_ok-put.ensures.ok (
      mark_next c.loop-first.marks c.in-Some.marker c.args.told.now c.loop-first.first-index c.first-item.result c.loop-first.invariant.0 c.loop-first-test.true c.first-item.is so.0 c.loop-first.invariant.1 c.requires,
      saved_next c.loop-first.marks c.in-Some.marker c.loop-first.invariant.1 so.1,
    )

pub returns : goal.returns
returns c = (ap (map told_mark) (lasting_all c.loop-first.marks c.loop-first.invariant.1) ∙ c.loop-first.invariant.0 ∙ take_all c.loop-first.first-index c.args.told.now c.loop-first-test.false, c.loop-first.invariant.1)
