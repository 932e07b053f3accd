use Rattle.std.proofs.Common.{ap, ◌∙◌}
use Rattle.sync_set.specs.Syncs.{with_bytes}
use Rattle.ws_elem.specs.declared.element.Element.{Element}
use Rattle.op_kind.specs.Partners.{number_of}
use Rattle.op_plan.specs.Inside.Plans.{put_at}
use Rattle.op_plan.proofs.Planned.{put_planned}
use Rattle.ws_ops.proofs.syncing.sync.Goals as goal

pub returns : goal.returns
returns g c =
    let tree = g.T.TreeRep.tree c.args.tree.now in
    let side = c.args.side.now in (
      c.in_ok-element.ensures.judged,
      put_planned tree side c.args.path.now (λ e. record e { attached = record e.attached { syncs = with_bytes e.attached.syncs (number_of side.partners c.args.name.now) c.args.bytes.now } })
          c.in_ok-element.element.now c.in_ok-plan_sync.field-0 c.in_ok-element.ensures.element
          (c.in_ok-plan_sync.ensures ∙ ap (λ n. let e : Element = c.in_ok-element.element.now in put_at side c.args.path.now (record e { attached = record e.attached { syncs = with_bytes e.attached.syncs n c.args.bytes.now } })) c.in_ok-element.ensures.number),
    )
