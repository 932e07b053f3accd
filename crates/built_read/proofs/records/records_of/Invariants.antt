use Rattle.std.proofs.Common.{◌≡◌, ◌++◌, map}
use Rattle.std.specs.List.{AllByRecursion}
use Rattle.std.specs.Vec.Iter.{into_iter_items}
use Rattle.built_read.specs.Records.{HasCommand, record_of}
use Rattle.built_read.proofs.records.records_of.Given as goal

-- those so far, and those to come
abbrev pub invariant-loop-one : goal.invariant-loop-one
invariant-loop-one l = record {
  done : l.records.items ++ map record_of (into_iter_items l.one-iterator) ≡ map record_of l.fn.built;
  rest : AllByRecursion HasCommand (into_iter_items l.one-iterator);
}
