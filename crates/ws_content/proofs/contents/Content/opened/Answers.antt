use Rattle.op_kind.specs.Resources.{resources}
use Rattle.ws_content.specs.Inside.Parts.{contents}
use Rattle.ws_content.proofs.contents.Content.opened.Goals as goal

pub invariant_of-result : goal.invariant_of-result
invariant_of-result g c = c.in_ok-opened.ensures.holds.held

pub returns : goal.returns
returns g c =
    let t = c.in_ok-opened.ensures.tree in
    let x = c.in_ok-opened.ensures.holds.seen in
    λ i. contents (resources (t i) c.args.side) (x i)
