use Rattle.std.proofs.Common.{◌≡◌, length}
use Rattle.std.specs.List.{list_any}
use Rattle.std.specs.Str.{bytes_eq}
use Rattle.save_round.proofs.pass.has_name.Given as goal

-- none of those before has the name
abbrev pub invariant-loop-first : goal.invariant-loop-first
invariant-loop-first g l = list_any (λ p. bytes_eq (g.P.Participant.tells p).named l.name) l.rest ≡ list_any (λ p. bytes_eq (g.P.Participant.tells p).named l.name) l.all

abbrev pub decreases-loop-first : goal.decreases-loop-first
decreases-loop-first g l = length l.rest
