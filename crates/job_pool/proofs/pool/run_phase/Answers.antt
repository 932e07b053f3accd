use Rattle.std.proofs.Common.{◌≡◌, ◌∙◌, sym, ap, subst, arith, length, drop}
use Rattle.std.proofs.lemmas.List.{take-append-le, take_all}
use Rattle.job_pool.specs.Workers.{Pairs, Worked}
use Rattle.job_pool.proofs.Places.{pairs_each}
use Rattle.job_pool.proofs.pool.run_phase.Goals as goal

pub returns : goal.returns
returns g c =
    let n = c.args.workers.len in
    let ys = c.work_all.new.workers in
    let same : length ys ≡ length c.args.workers.items = c.work_all.ensures.len ∙ ap length c.as_mut_slice.ensures.value in
    let fits : length ys ≡ n = omega (arith, same, c.args.workers.ok.0) in
    let left = take-append-le n ys (drop (length ys) c.args.workers.items) (omega (arith, fits)) ∙ take_all n ys (omega (arith, fits)) in
    let each = subst (λ xs. Pairs (Worked g.B.Board.ready g.B.Board.goes g.B.Board.over c.args.board.now) xs ys) c.as_mut_slice.ensures.value (pairs_each _ c.as_mut_slice.result.now ys c.work_all.ensures.len c.work_all.ensures.each) in
    subst (λ zs. Pairs (Worked g.B.Board.ready g.B.Board.goes g.B.Board.over c.args.board.now) c.args.workers.items zs) (sym left) each
