use Rattle.std.proofs.Common.{◌≡◌}
use Rattle.std.specs.Prelude.{find}
use Rattle.std.specs.FinMap.{get, entries}
use Rattle.job_queue.specs.Inside.Kept.{has_free}
use Rattle.job_queue.proofs.queue.first_free.Given as goal

-- what is found among all is found among those that are left
abbrev pub invariant-loop-name : goal.invariant-loop-name
invariant-loop-name g l = find (λ e. has_free g.A.Atom.conflicts l.held (get l.jobs e.1)) (entries l.turns) ≡ find (λ e. has_free g.A.Atom.conflicts l.held (get l.jobs e.1)) l.name-iterator
