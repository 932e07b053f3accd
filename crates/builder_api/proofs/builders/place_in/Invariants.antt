use Rattle.std.proofs.Common.{◌≡◌, ◌+◌, length}
use Rattle.std.specs.List.{position_from}
use Rattle.std.specs.Str.{bytes_eq}
use Rattle.builder_api.proofs.builders.place_in.Given as goal

-- those that are left have their places from `at` on
abbrev pub invariant-loop-first : goal.invariant-loop-first
invariant-loop-first g l =
    (position_from (λ b. bytes_eq (g.B.Builder.tells b).named l.name) l.at l.rest ≡ position_from (λ b. bytes_eq (g.B.Builder.tells b).named l.name) 0 l.all)
    × (l.at + length l.rest ≡ length l.all)

abbrev pub decreases-loop-first : goal.decreases-loop-first
decreases-loop-first g l = length l.rest
