use Rattle.std.proofs.Common.{◌≡◌, ◌↔◌, map}
use Rattle.save_valid.specs.Rules.{nodes_of}
use Rattle.save_valid.specs.Inside.Fresh.{Fresh, with_all}
use Rattle.save_valid.proofs.numbers.are_nodes_new.Given as goal

-- what is left decides
abbrev pub invariant-loop-path : goal.invariant-loop-path
invariant-loop-path l = (Fresh l.seen (map (λ e. e.1.node) l._path-iterator) ↔ Fresh l.initial.seen (nodes_of l.tree.map))
    × (with_all l.seen (map (λ e. e.1.node) l._path-iterator) ≡ with_all l.initial.seen (nodes_of l.tree.map))
