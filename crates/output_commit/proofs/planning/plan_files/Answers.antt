use Rattle.std.proofs.Common.{sym, ap, ◌∙◌, subst}
use Rattle.op_kind.specs.Resources.{Resources, resources}
use Rattle.proj_desc.specs.FirstCause.{first_cause}
use Rattle.output_commit.specs.Committed.{changed_to, room_causes}
use Rattle.output_commit.specs.Inside.Plans.{IsChange}
use Rattle.output_commit.proofs.Planned.{room_is}
use Rattle.output_commit.proofs.planning.plan_files.Goals as goal

pub returns-in-Ok : goal.returns-in-Ok
returns-in-Ok g c =
    let r : Resources = resources (g.T.TreeRep.tree c.args.tree.now) c.args.side.now in
    let is : IsChange r c.args.output.now c.in_ok-wanted.wanted.map c.args.index c.args.problems.now c.in_ok-change.change = c.in_ok-change.ensures in
    let room = room_is r c.args.output.now c.in_ok-wanted.wanted.map c.args.index c.args.problems.now c.in_ok-change.change is in
    let none = sym (ap first_cause room) ∙ c.in-Ok.ensures in (
      ap (λ w. first_cause (room_causes r (changed_to r c.args.output.now w c.args.index c.args.problems.now))) (sym c.in_ok-wanted.ensures) ∙ none,
      subst (λ w. IsChange r c.args.output.now w c.args.index c.args.problems.now c.in_ok-change.change) c.in_ok-wanted.ensures is,
    )

pub returns : goal.returns
returns g c =
    let r : Resources = resources (g.T.TreeRep.tree c.args.tree.now) c.args.side.now in
    let is : IsChange r c.args.output.now c.in_ok-wanted.wanted.map c.args.index c.args.problems.now c.in_ok-change.change = c.in_ok-change.ensures in
    let room = room_is r c.args.output.now c.in_ok-wanted.wanted.map c.args.index c.args.problems.now c.in_ok-change.change is in
    ap (λ w. first_cause (room_causes r (changed_to r c.args.output.now w c.args.index c.args.problems.now))) (sym c.in_ok-wanted.ensures) ∙ sym (ap first_cause room) ∙ c.in-Err.ensures
