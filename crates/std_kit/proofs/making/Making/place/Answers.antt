use Rattle.std.proofs.lemmas.Result.{on_ok_weaker}
use Rattle.std_kit.proofs.Makings.{left_out}
use Rattle.std_kit.proofs.making.Making.place.Goals as goal

pub returns : goal.returns
returns c =
    on_ok_weaker c.tell.result
    (left_out c.self.inside.files c.place.new.self c.self.inside.problems.items c.args.self.now c.args.location.now c.args.path c.args.bytes
    c.in_ok-place.field-0 c.in_ok-problem_of.field-0 c.tell.new.self c.self.view_is c.in_ok-place.ensures.ok c.in_ok-place.ensures.answer c.if-branch.false c.in_ok-problem_of.ensures)
    c.tell.ensures
