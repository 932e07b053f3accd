use Rattle.std.proofs.Common.{arith, get_or, length, ◌<◌, refl, subst}
use Rattle.std.proofs.lemmas.List.{take_all}
use Rattle.build_order.specs.Inside.Searches.{AreMarked}
use Rattle.build_order.proofs.Steps.{marked_none, marked_more}
use Rattle.build_order.proofs.search.mark_all.Goals as goal

pub loop-member-init : goal.loop-member-init
loop-member-init c = marked_none c.args.marks.now c.args.mark

pub loop-member-preserved : goal.loop-member-preserved
loop-member-preserved c =
    let inside : get_or c.args.members.now c.loop-member.member-index 0 < length c.loop-member.marks = omega (arith, c.requires c.loop-member.member-index 0 c.loop-member-test.true) in
    marked_more c.args.marks.now c.loop-member.marks c.args.members.now c.loop-member.member-index (get_or c.args.members.now c.loop-member.member-index 0) c.args.mark
    c.loop-member-test.true refl inside c.loop-member.invariant

pub returns : goal.returns
returns c = subst (λ xs. AreMarked xs c.args.mark c.args.marks.now c.loop-member.marks) (take_all c.loop-member.member-index c.args.members.now c.loop-member-test.false) c.loop-member.invariant
