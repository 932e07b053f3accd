use Rattle.std.proofs.Common.{◌≡◌, map, ◌∙◌}
use Rattle.std.proofs.lemmas.List.{take_all}
use Rattle.save_elem.specs.Sound.{IsAttr}
use Rattle.save_elem.specs.Telling.{told_attr}
use Rattle.save_elem.proofs.Items.{told_next, all_next, none_next, in_name_order, to_attributes, of_attributes}
use Rattle.save_elem.proofs.building.attrs_of.Goals as goal

pub returns-in_default : goal.returns-in_default
returns-in_default c =
    let never = rw c.in_default.is at c.in_ok-value.ensures in
    λ x h. none_next told_attr IsAttr c.args.told.now c.loop-first.first-index c.first-item.result c.loop-first-test.true c.first-item.is never _ h.0 (of_attributes x h.1)

pub loop-first-preserved : goal.loop-first-preserved
loop-first-preserved c =
    let so = rw c.in-Some.is at c.in_ok-value.ensures in
    rw c.in_ok-push.ensures.items (
      told_next told_attr c.loop-first.values.items c.in-Some.value c.args.told.now c.loop-first.first-index c.first-item.result c.loop-first.invariant.0 c.loop-first-test.true c.first-item.is so.0,
      all_next IsAttr c.loop-first.values.items c.in-Some.value c.loop-first.invariant.1 so.1,
    )

pub of-requires : goal.of-requires
of-requires c = in_name_order c.loop-first.values.items c.args.told.now (c.loop-first.invariant.0 ∙ take_all c.loop-first.first-index c.args.told.now c.loop-first-test.false) c.requires

pub returns : goal.returns
returns c =
    let whole : map told_attr c.loop-first.values.items ≡ c.args.told.now = c.loop-first.invariant.0 ∙ take_all c.loop-first.first-index c.args.told.now c.loop-first-test.false in
    (rw c.of.ensures whole, to_attributes c.of.result (rw c.of.ensures c.loop-first.invariant.1))
