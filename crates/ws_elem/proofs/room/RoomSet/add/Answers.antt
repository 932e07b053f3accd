use Rattle.std.proofs.Common.{true, ◌∷◌, ap, sym, ◌∙◌, subst}
use Rattle.std.specs.Prelude.{not}
use Rattle.ws_elem.specs.Inside.Slots.{one_and, SetsRoom}
use Rattle.ws_elem.proofs.Apart.{sets_again, sets_one}
use Rattle.ws_elem.proofs.room.RoomSet.add.Goals as goal

pub returns-then-is_kept_apart-clause-ok : goal.returns-then-is_kept_apart-clause-ok
returns-then-is_kept_apart-clause-ok c =
    subst (λ room. SetsRoom room room c.args.path.now true) c.self.view_is
    (sets_again c.self.inside.one c.self.inside.others.keys c.args.path.now (sym c.is_kept_apart.ensures ∙ c.if-is_kept_apart.true))

pub returns-then-is_empty-clause-ok : goal.returns-then-is_empty-clause-ok
returns-then-is_empty-clause-ok c =
    let others = c.self.inside.others.keys in
    subst (λ room. SetsRoom room (c.in_ok-copy.field-0 ∷ others) c.args.path.now true) c.self.view_is
    (subst (λ p. SetsRoom (one_and c.self.inside.one others) (p ∷ others) c.args.path.now true) (sym c.in_ok-copy.ensures)
    (sets_one c.self.inside.one others c.args.path.now (c.is_none.ensures ∙ ap not c.if-is_none.true)))
