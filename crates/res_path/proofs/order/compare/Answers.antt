use Rattle.std.proofs.Common.{sym, ◌∙◌}
use Rattle.res_path.proofs.order.compare.Goals as goal
use Rattle.res_path.proofs.Words.{ended_cmp, differ_cmp}

pub returns : goal.returns
returns c =
    c.cmp-2.ensures
    ∙ sym (ended_cmp c.same_front-at.result.0 c.args.a.now c.args.b.now c.same_front-at.ensures.same c.same_front-at.ensures.within.0 c.same_front-at.ensures.within.1
    (c.same_front-at.ensures.ended c.if-differs.false))

pub returns-then-differs : goal.returns-then-differs
returns-then-differs c =
    let decided = differ_cmp c.same_front-at.result.0 c.args.a.now c.args.b.now c.same_front-at.ensures.same (c.same_front-at.ensures.differs c.if-differs.true) in
    cc
