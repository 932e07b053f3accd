use Rattle.std.proofs.Common.{◌≡◌, ◌+◌, ◌≤◌, length, drop, ap, ◌∙◌, arith}
use Rattle.res_path.specs.Paths.{slashed, path_text}
use Rattle.report_text.proofs.Relative.{below_bound, below_text}
use Rattle.report_text.proofs.branch_text.names_below.Goals as goal

pub overflow_add-start : goal.overflow_add-start
overflow_add-start c =
    let bound : length (slashed c.args.base.now) + 1 ≤ length (path_text c.args.path.now) = below_bound c.args.base.now c.args.path.now c.requires.below c.requires.apart in
    let long : length (path_text c.args.path.now) ≤ 4096 = c.as_str.ensures.form.long in
    omega (arith, c.kept_len-start.ensures)

pub split_at-requires : goal.split_at-requires
split_at-requires c =
    let bound : length (slashed c.args.base.now) + 1 ≤ length (path_text c.args.path.now) = below_bound c.args.base.now c.args.path.now c.requires.below c.requires.apart in
    let same : length c.as_bytes-text.result.now ≡ length (path_text c.args.path.now) = ap length (c.as_bytes-text.ensures.value ∙ c.as_str.ensures.text) in
    omega (arith, c.kept_len-start.ensures)

pub returns : goal.returns
returns c =
    c.split_at.ensures.back
    ∙ (λ i. drop (c.kept_len-start.ensures i + 1) ((c.as_bytes-text.ensures.value ∙ c.as_str.ensures.text) i))
    ∙ below_text c.args.base.now c.args.path.now c.requires.below c.requires.apart
