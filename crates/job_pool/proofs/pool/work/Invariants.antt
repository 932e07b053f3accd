use Rattle.job_pool.proofs.pool.work.Given as goal

-- the worker went on by whole jobs
abbrev pub invariant-loop : goal.invariant-loop
invariant-loop g l =
    (goal.iterator-loop g).can_next l.iterator' × (goal.iterator-loop g).is_finite l.iterator'
    × g.B.Board.goes l.board l.initial.worker l.worker × g.B.Board.ready l.board l.worker
