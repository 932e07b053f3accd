use Rattle.std.proofs.Common.{rules, ap}
use Rattle.ws_turn.proofs.Seats.{notes, tells}
use Rattle.ws_turn.proofs.steps.learn_from.Goals as goal

pub split_seat-note-requires : goal.split_seat-note-requires
split_seat-note-requires g c = (search rules, search rules, notes g.S.Logged.list g.S.Logged.base g.S.Logged.by g.S.Logged.gives _ _ _ c.requires.live.1)

pub join_seat-requires : goal.join_seat-requires
join_seat-requires g c = let e = c.split_seat-note.ensures.4 in (
  search rules,
  search rules,
  ap (λ m. m.1) e,
  search rules,
  tells g.S.Logged.list g.S.Logged.base g.S.Logged.by g.S.Logged.gives _ _ c.args.chair.now.me.0 _ c.split_seat-note.result.me.0 c.requires.live.0 (ap (λ m. m.0.spent) e) (ap (λ m. m.0.ticket) e) (ap (λ m. m.0.held) e),
)
