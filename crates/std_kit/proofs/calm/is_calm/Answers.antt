use Rattle.std.proofs.Common.{◌≡◌, true, sym, ap, ◌∙◌}
use Rattle.std.specs.Prelude.{None}
use Rattle.std.proofs.lemmas.Result.{IfOk-weaker}
use Rattle.delta_kind.specs.Deltas.{paths_of}
use Rattle.delta_kind.proofs.Rising.{sorted_rises}
use Rattle.std_kit.specs.Since.{IsCalm}
use Rattle.std_kit.specs.Inside.Walks.{are_calm}
use Rattle.std_kit.proofs.Losses.{calm}
use Rattle.std_kit.proofs.calm.is_calm.Goals as goal

pub returns : goal.returns
returns c =
    IfOk-weaker c.are_calm.result (λ b. b ≡ are_calm c.args.root.now c.args.output.now c.args.view.now c.nodes.result.now)
    (λ b. b ≡ true → IsCalm c.args.root.now c.args.output.now c.args.view.now c.args.delta.now)
    (λ b is yes. calm c.args.root.now c.args.output.now c.args.view.now None c.args.delta.now (sorted_rises (paths_of c.args.delta.now) c.nodes.ensures.order)
    (ap (are_calm c.args.root.now c.args.output.now c.args.view.now) (sym c.nodes.ensures.nodes) ∙ sym is ∙ yes))
    c.are_calm.ensures
