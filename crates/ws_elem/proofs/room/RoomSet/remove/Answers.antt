use Rattle.std.proofs.Common.{false, sym, ◌∙◌, subst}
use Rattle.ws_elem.specs.Inside.Slots.{one_and, SetsRoom}
use Rattle.ws_elem.proofs.Apart.{takes_apart, takes_other}
use Rattle.ws_elem.proofs.room.RoomSet.remove.Goals as goal

pub returns-then-is_kept_apart : goal.returns-then-is_kept_apart
returns-then-is_kept_apart c =
    let others = c.self.inside.others.keys in
    subst (λ one. SetsRoom c.args.self.now (one_and one others) c.args.path.now false) (sym c.take.ensures.after)
    (subst (λ room. SetsRoom room others c.args.path.now false) c.self.view_is
    (takes_apart c.self.inside.one others c.args.path.now c.self.invariant (sym c.is_kept_apart.ensures ∙ c.if-is_kept_apart.true)))

pub returns-else-is_kept_apart : goal.returns-else-is_kept_apart
returns-else-is_kept_apart c =
    subst (λ room. SetsRoom room (one_and c.self.inside.one c.remove.new.self.keys) c.args.path.now false) c.self.view_is
    (takes_other c.self.inside.one c.self.inside.others.keys c.remove.new.self.keys c.args.path.now (sym c.is_kept_apart.ensures ∙ c.if-is_kept_apart.false)
    c.remove.ensures.updates.0)
