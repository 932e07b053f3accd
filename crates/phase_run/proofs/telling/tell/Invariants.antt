use Rattle.std.proofs.Common.{map, take}
use Rattle.ws_core.specs.Histories.{told_of}
use Rattle.save_parts.specs.Heard.{HeardMore}
use Rattle.phase_run.proofs.telling.tell.Given as goal

-- what the entries so far tell was told
abbrev pub invariant-loop-entry : goal.invariant-loop-entry
invariant-loop-entry g l = HeardMore (told_of (take l.entry-index l.entries)) (map (λ x. g.L.Listener.heard x) l.fn.listeners) (map (λ x. g.L.Listener.heard x) l.listeners)
