use Rattle.std.proofs.Common.{◌∷◌, []}
use Rattle.save_parts.specs.Heard.{heard_more}
use Rattle.save_parts.proofs.Told.{AreToldTo}
use Rattle.save_parts.proofs.listeners.tell_each.Given as goal

-- those before the place were told
abbrev pub invariant-loop-at : goal.invariant-loop-at
invariant-loop-at g l = AreToldTo g.L.Listener.heard (heard_more (l.delta ∷ [])) l.at l.fn.all.items l.all.items
