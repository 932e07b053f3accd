use Rattle.std.proofs.Common.{sym, ◌∙◌}
use Rattle.std.specs.FinMap.{slice_cmp-IsAntisymmetric, nat_cmp-IsAntisymmetric}
use Rattle.mark_set.specs.Attributes.{text_cmp}
use Rattle.mark_set.proofs.Placing.{passed_none, passed_more, place_here, place_before, place_last}
use Rattle.mark_set.proofs.places.place_of.Goals as goal

pub loop-first-init : goal.loop-first-init
loop-first-init c = passed_none text_cmp c.args.name.now c.args.values.now

pub loop-first-preserved : goal.loop-first-preserved
loop-first-preserved c =
    passed_more text_cmp c.args.name.now c.args.values.now c.loop-first.at c.loop-first.rest.now c.in-Some.first.now c.in-Some.others.now
    c.in-Some.ensures.cases.0 (sym c.cmp.ensures ∙ c.in-Greater.is) c.loop-first.invariant

pub returns-in-Less-clause-absent : goal.returns-in-Less-clause-absent
returns-in-Less-clause-absent c =
    place_before text_cmp c.args.name.now c.args.values.now c.loop-first.at c.loop-first.rest.now c.in-Some.first.now c.in-Some.others.now
    c.in-Some.ensures.cases.0 (sym c.cmp.ensures ∙ c.in-Less.is) c.loop-first.invariant

pub returns-in-Equal-clause-there : goal.returns-in-Equal-clause-there
returns-in-Equal-clause-there c =
    place_here text_cmp c.args.name.now c.args.values.now (slice_cmp-IsAntisymmetric nat_cmp-IsAntisymmetric) c.loop-first.at c.loop-first.rest.now
    c.in-Some.first.now c.in-Some.others.now c.in-Some.ensures.cases.0 (sym c.cmp.ensures ∙ c.in-Equal.is) c.loop-first.invariant

pub returns-clause-absent : goal.returns-clause-absent
returns-clause-absent c =
    place_last text_cmp c.args.name.now c.args.values.now c.loop-first.at c.loop-first.rest.now c.in_default.ensures.cases c.loop-first.invariant
