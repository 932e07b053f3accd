use Rattle.std.proofs.Common.{◌≡◌, ◌++◌, map}
use Rattle.std.specs.Vec.Iter.{into_iter_items}
use Rattle.ws_core.specs.Inside.Kept.{state_of}
use Rattle.ws_core.proofs.opening.states_of.Given as goal

-- those so far, and those to come
abbrev pub invariant-loop-one : goal.invariant-loop-one
invariant-loop-one l = l.states.items ++ map state_of (into_iter_items l.one-iterator) ≡ map state_of l.fn.kept
