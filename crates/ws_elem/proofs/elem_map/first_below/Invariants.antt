use Rattle.std.proofs.Common.{◌≡◌, ◌++◌}
use Rattle.ws_elem.specs.Inside.Walks.{first_below}
use Rattle.ws_elem.proofs.elem_map.first_below.Given as goal

abbrev pub invariant-loop-at : goal.invariant-loop-at
invariant-loop-at l = l.paths.items ++ first_below l.path l.at-iterator ≡ first_below l.path l.fn.entries
