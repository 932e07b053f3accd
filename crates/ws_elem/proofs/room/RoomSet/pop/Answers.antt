use Rattle.std.proofs.Common.{◌≡◌, false, ◌∷◌, sym, ap, ◌∙◌, subst}
use Rattle.std.specs.Prelude.{IfSome}
use Rattle.ws_elem.specs.Inside.Slots.{is_among, one_and, SetsRoom}
use Rattle.ws_elem.proofs.Apart.{takes_one}
use Rattle.ws_elem.proofs.room.RoomSet.pop.Goals as goal

pub returns-in-Some-clause-gone : goal.returns-in-Some-clause-gone
returns-in-Some-clause-gone c =
    let others = c.self.inside.others.keys in
    let is_one = sym c.take.ensures.value ∙ c.in-Some.is in
    subst (λ room. SetsRoom room (one_and c.take.new.self others) c.in-Some.path false) (ap (λ one. one_and one others) (sym is_one) ∙ c.self.view_is)
    (subst (λ one. SetsRoom (c.in-Some.path ∷ others) (one_and one others) c.in-Some.path false) (sym c.take.ensures.after)
    (takes_one others c.in-Some.path (subst (λ one. IfSome one (λ p. is_among others p ≡ false)) is_one c.self.invariant)))
