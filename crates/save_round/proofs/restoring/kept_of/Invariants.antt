use Rattle.std.proofs.Common.{◌≡◌, length}
use Rattle.std.specs.List.{find}
use Rattle.std.specs.Str.{bytes_eq}
use Rattle.save_round.proofs.restoring.kept_of.Given as goal

-- none of those before has the name
abbrev pub invariant-loop-first : goal.invariant-loop-first
invariant-loop-first g l = find (λ k. bytes_eq (g.P.Participant.tells l.one).named k.name) l.rest ≡ find (λ k. bytes_eq (g.P.Participant.tells l.one).named k.name) l.kept

abbrev pub decreases-loop-first : goal.decreases-loop-first
decreases-loop-first g l = length l.rest
