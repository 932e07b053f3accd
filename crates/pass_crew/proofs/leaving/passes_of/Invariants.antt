use Rattle.std.proofs.Common.{◌≡◌, ◌+◌, ◌≤◌, ◌++◌, length, map}
use Rattle.std.specs.Vec.{vec_len, vec_capacity}
use Rattle.std.specs.Vec.Iter.{into_iter_items}
use Rattle.phase_pool.specs.declared.worker.Worker.{Worker}
use Rattle.pass_crew.proofs.leaving.passes_of.Given as goal

-- those so far, and room for the others
abbrev pub invariant-loop-worker : goal.invariant-loop-worker
invariant-loop-worker g l = record {
  room : vec_len l.passes + length (into_iter_items l.worker-iterator) ≤ vec_capacity l.passes;
  all : l.passes.items ++ map (λ (w : Worker _). w.pass) (into_iter_items l.worker-iterator) ≡ map (λ (w : Worker _). w.pass) l.fn.workers.items;
}
