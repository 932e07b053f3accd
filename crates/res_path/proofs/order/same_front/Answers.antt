use Rattle.std.proofs.Common.{◌+◌, arith}
use Rattle.std.proofs.lemmas.Nat.{xor_lt}
use Rattle.res_path.proofs.order.same_front.Goals as goal
use Rattle.res_path.proofs.Words.{passed_word, passed_below, fewer_same, differ_in_word}

pub returns-then-differences-ne0-clause-same : goal.returns-then-differences-ne0-clause-same
returns-then-differences-ne0-clause-same c =
    passed_below c.loop-last.at c.args.a.now c.args.b.now c.word_at.result c.word_at-in-loop-last.result c.type_inv.a c.type_inv.b (omega arith) (omega arith)
    c.word_at.ensures c.word_at-in-loop-last.ensures c.loop-last.invariant.same (omega arith) (xor_lt 64 c.word_at.result c.word_at-in-loop-last.result c.word_at.type_inv c.word_at-in-loop-last.type_inv)

pub returns-then-differences-ne0-clause-differs : goal.returns-then-differences-ne0-clause-differs
returns-then-differences-ne0-clause-differs c = λ _.
    differ_in_word c.loop-last.at c.args.a.now c.args.b.now c.word_at.result c.word_at-in-loop-last.result c.type_inv.a c.type_inv.b (omega arith) (omega arith)
    c.word_at.ensures c.word_at-in-loop-last.ensures (omega arith) (xor_lt 64 c.word_at.result c.word_at-in-loop-last.result c.word_at.type_inv c.word_at-in-loop-last.type_inv)

pub returns-then-at-last-clause-same : goal.returns-then-at-last-clause-same
returns-then-at-last-clause-same c =
    passed_word c.loop-last.at c.args.a.now c.args.b.now c.word_at.result c.word_at-in-loop-last.result c.type_inv.a c.type_inv.b (omega arith) (omega arith)
    c.word_at.ensures c.word_at-in-loop-last.ensures c.loop-last.invariant.same (omega arith)

pub loop-last-preserved : goal.loop-last-preserved
loop-last-preserved c = record {
  same = fewer_same c.min-at.result (c.loop-last.at + 8) c.args.a.now c.args.b.now (omega arith)
      (passed_word c.loop-last.at c.args.a.now c.args.b.now c.word_at.result c.word_at-in-loop-last.result c.type_inv.a c.type_inv.b (omega arith) (omega arith)
      c.word_at.ensures c.word_at-in-loop-last.ensures c.loop-last.invariant.same (omega arith));
  within = omega arith;
  first = c.loop-last.invariant.first;
  second = c.loop-last.invariant.second;
  shorter = c.loop-last.invariant.shorter;
}
