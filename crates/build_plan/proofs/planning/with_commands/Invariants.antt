use Rattle.std.proofs.Common.{◌≡◌, ℕ, ◌<◌, ◌≤◌, [], List, map, take, length, get_or}
use Rattle.std.specs.Prelude.{unwrap_or}
use Rattle.build_plan.specs.Inside.Walks.{commands_in}
use Rattle.build_plan.proofs.planning.with_commands.Given as goal

abbrev pub invariant-loop-name : goal.invariant-loop-name
invariant-loop-name l = record {
  placed : l.order.items ≡ map (λ n. (n, unwrap_or (commands_in l.fn.commands n) [])) (take l.name-index l.names);
  left : (k : ℕ) (d : List ℕ) → l.name-index ≤ k → k < length l.names → commands_in l.commands (get_or l.names k d) ≡ commands_in l.fn.commands (get_or l.names k d);
}
