use Rattle.std.proofs.Common.{◌++◌, ap, ◌∙◌}
use Rattle.std_kit.specs.Inside.Walks.{edits_at_nodes}
use Rattle.std_kit.proofs.Nodes.{at_nodes}
use Rattle.std_kit.proofs.since.changes_at.Goals as goal

pub returns : goal.returns
returns c =
    at_nodes c.args.output.now c.args.root.now c.args.view.now c.args.delta.now c.of.result c.nodes.ensures.order
    (c.of.ensures ∙ c.in_ok-compare_nodes.ensures c.if-not-branch.false
    ∙ ap (λ es. es ++ edits_at_nodes c.args.output.now c.args.root.now c.args.view.now c.nodes.result.now) c.new-edits.ensures.items
    ∙ ap (edits_at_nodes c.args.output.now c.args.root.now c.args.view.now) c.nodes.ensures.nodes)
