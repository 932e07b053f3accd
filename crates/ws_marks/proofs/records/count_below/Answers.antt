use Rattle.std.proofs.Common.{rules, of_calls}
use Rattle.std.proofs.lemmas.Fn.{always_returns_same}
use Rattle.std.specs.Ordering.{is_lt}
use Rattle.ws_marks.specs.Places.{place_cmp, place_of}
use Rattle.ws_marks.proofs.Sorted.{below_before, none_after, parted}
use Rattle.ws_marks.proofs.records.count_below.Goals as goal

pub returns-clause-before : goal.returns-clause-before
returns-clause-before g c =
    below_before (c.args.project.now, c.args.index) c.args.records.now c.partition_point.result c.partition_point.ensures.bound
    (c.partition_point.ensures.partitioned (λ r. is_lt (place_cmp (place_of r) (c.args.project.now, c.args.index))) (always_returns_same _ _ _ (λ a r f k. search (rules, of_calls)))
    (parted (c.args.project.now, c.args.index) c.args.records.now c.requires)).0

pub returns-clause-from : goal.returns-clause-from
returns-clause-from g c =
    none_after (c.args.project.now, c.args.index) c.args.records.now c.partition_point.result
    (c.partition_point.ensures.partitioned (λ r. is_lt (place_cmp (place_of r) (c.args.project.now, c.args.index))) (always_returns_same _ _ _ (λ a r f k. search (rules, of_calls)))
    (parted (c.args.project.now, c.args.index) c.args.records.now c.requires)).1
