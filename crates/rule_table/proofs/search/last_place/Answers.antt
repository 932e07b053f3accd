use Rattle.std.proofs.Common.{◌≡◌, false}
use Rattle.rule_table.specs.Tables.{is_of}
use Rattle.rule_table.proofs.Newest.{none_more, stays_more, found_at, removed_at, is_his, is_not_his}
use Rattle.rule_table.proofs.search.last_place.Goals as goal

pub loop-at-preserved : goal.loop-at-preserved
loop-at-preserved g c =
    let other : is_of c.args.holder c.index-all-at.result ≡ false = is_not_his c.args.holder c.index-all-at.result _ c.index-all-at.is c.if-all-at.false in
    record {
      none = none_more (is_of c.args.holder) c.args.all.now c.loop-at.at c.index-all-at.result c.loop-at-test.true c.index-all-at.is other c.loop-at.invariant.none;
      stays = stays_more c.args.holder c.args.all.now c.loop-at.at c.index-all-at.result c.loop-at-test.true c.loop-at.invariant.none.within c.index-all-at.is other c.loop-at.invariant.stays;
    }

pub returns-then-all-at-clause-entry : goal.returns-then-all-at-clause-entry
returns-then-all-at-clause-entry g c = λ d.
    found_at (is_of c.args.holder) c.args.all.now c.loop-at.at c.index-all-at.result d c.loop-at-test.true c.index-all-at.is
    (is_his c.args.holder c.index-all-at.result _ c.index-all-at.is c.if-all-at.true) c.loop-at.invariant.none

pub returns-then-all-at-clause-removed : goal.returns-then-all-at-clause-removed
returns-then-all-at-clause-removed g c =
    removed_at c.args.holder c.args.all.now c.loop-at.at c.index-all-at.result c.loop-at-test.true c.loop-at.invariant.none.within c.index-all-at.is
    (is_his c.args.holder c.index-all-at.result _ c.index-all-at.is c.if-all-at.true) c.loop-at.invariant.stays
