use Rattle.std.proofs.Common.{◌≡◌, ◌++◌, map, not, string_bytes}
use Rattle.std.specs.List.{filter}
use Rattle.proj_desc.specs.Causes.{is_member}
use Rattle.proj_desc.proofs.shape.push_other_keys.Given as goal

-- the names of other members so far
abbrev pub invariant-members : goal.invariant-members
invariant-members l = record {
  fine : (goal.iterator-members).can_next l.key-iterator × (goal.iterator-members).is_finite l.key-iterator;
  names : l.names.items ≡ l.fn.names.items ++ filter (λ k. not (is_member l.level k)) (map (λ p. string_bytes p.0.now) l.yielded);
}
