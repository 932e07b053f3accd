use Rattle.std.proofs.Common.{◌≡◌, map, take}
use Rattle.build_order.proofs.names.all_names.Given as goal

abbrev pub invariant-loop-project : goal.invariant-loop-project
invariant-loop-project l = l.names.items ≡ map (λ p. p.0) (take l.project-index l.projects)
