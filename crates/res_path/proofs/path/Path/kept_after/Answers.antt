use Rattle.std.proofs.Common.{◌∙◌, ap, arith, length, drop, length-append}
use Rattle.res_path.specs.Paths.{slashed}
use Rattle.res_path.proofs.Built.{prefix_slashed, prefix_split, kept_rest}
use Rattle.res_path.proofs.path.Path.kept_after.Goals as goal

pub split_at-requires : goal.split_at-requires
split_at-requires c =
    let whole = ap length (prefix_slashed c.args.from.now c.args.self.now c.requires) in
    let parts = length-append (slashed c.args.from.now) (slashed (drop (length c.args.from.now) c.args.self.now)) in
    omega (arith, whole, parts, ap length c.kept.ensures.bytes, ap length c.kept-2.ensures.bytes)

pub returns-clause-bytes : goal.returns-clause-bytes
returns-clause-bytes c =
    c.split_at.ensures.back ∙ (λ i. drop (length (c.kept-2.ensures.bytes i)) (c.kept.ensures.bytes i)) ∙ kept_rest c.args.from.now c.args.self.now c.requires

pub returns-clause-shorter : goal.returns-clause-shorter
returns-clause-shorter c =
    let whole = ap length (prefix_split c.args.from.now c.args.self.now c.requires) in
    omega (arith, whole, length-append c.args.from.now (drop (length c.args.from.now) c.args.self.now))
