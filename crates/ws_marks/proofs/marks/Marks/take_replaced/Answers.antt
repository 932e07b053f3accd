use Rattle.std.proofs.Common.{subst}
use Rattle.std.specs.Prelude.{IfSome}
use Rattle.ws_marks.specs.Inside.{AllThere}
use Rattle.ws_marks.proofs.Kept.{there_taken}
use Rattle.ws_marks.proofs.marks.Marks.take_replaced.Goals as goal

pub invariant_of-self-2 : goal.invariant_of-self-2
invariant_of-self-2 g c =
    there_taken c.self.inside.kept c.in-Some.replaced.items c.take_in_save.new.replaced.items c.take_in_save.result c.take_in_save.ensures.last c.take_in_save.ensures.same
    (subst (λ o. IfSome o (λ rs. AllThere c.self.inside.kept rs.items)) c.in-Some.is c.self.invariant)
