use Rattle.std.proofs.Common.{◌≡◌, ℕ, List, [], ◌∷◌, length, get_or}
use Rattle.build_order.specs.Inside.Graphs.{Graph}
use Rattle.build_order.specs.Inside.Placings.{Holds}
use Rattle.build_order.proofs.places.Places.look.Given as goal

abbrev pub invariant-loop-target : goal.invariant-loop-target
invariant-loop-target l = record {
  holds : (g : Graph) (rest : List ℕ) → Holds g l.leads (l.lead ∷ rest) l.fn.self → Holds g l.leads (l.lead ∷ rest) l.self;
  placed : l.self.is_placed ≡ l.fn.self.is_placed;
}

abbrev pub decreases-loop-target : goal.decreases-loop-target
decreases-loop-target l = length (get_or l.self.targets l.lead [])
