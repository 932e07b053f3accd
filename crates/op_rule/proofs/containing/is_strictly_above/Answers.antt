use Rattle.std.proofs.Common.{◌≡◌, ◌&&◌, ◌||◌, nat_le, nat_lt, length, ◌∙◌}
use Rattle.op_rule.proofs.Above.{strictly_above}
use Rattle.op_rule.proofs.containing.is_strictly_above.Goals as goal

pub returns : goal.returns
returns c =
    let q = c.args.outer.now in
    let p = c.args.path.now in
    let higher : c.is_higher.result ≡ (nat_le (length p) 1 || nat_lt (length q) (length p)) =
    c.is_higher.ensures ∙ (λ i. nat_le (c.depth-2.ensures.depth i) 1 || nat_lt (c.depth.ensures.depth i) (c.depth-2.ensures.depth i)) in
    c.both.ensures ∙ (λ i. c.is_prefix_of.ensures i && higher i) ∙ strictly_above q p
