use Rattle.std.proofs.Common.{rules, ◌≡◌, Some, ◌∷◌, []}
use Rattle.ws_turn.proofs.Seats.{opens}
use Rattle.ws_turn.proofs.shared.Shared.new.Goals as goal

pub new-requires : goal.new-requires
new-requires g c =
    let x = c.args.value in
    let items : c.push_reserved.new.self.items ≡ Some x ∷ [] = search rules in
    rw (c.of-about.ensures, items) (opens g.S.Logged.list g.S.Logged.base g.S.Logged.by g.S.Logged.gives x c.requires)
