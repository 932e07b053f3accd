use Rattle.std.proofs.Common.{◌<◌, ◌++◌, [], ◌∷◌, length, map, get_or, refl, ap, subst, sym, ◌∙◌}
use Rattle.std.specs.List.{All, filter}
use Rattle.build_order.specs.Orders.{is_knot}
use Rattle.build_order.specs.Inside.Rows.{name_at, group_of}
use Rattle.build_order.proofs.Ordered.{order_more, knots_more}
use Rattle.build_order.proofs.answer.told.Goals as goal

pub add_names-requires : goal.add_names-requires
add_names-requires c = subst (All (λ a. a < length c.args.names.now)) (sym c.at-group.ensures) (c.requires.members (get_or c.args.places.now c.loop-lead.lead-index 0))

pub add_knot-requires : goal.add_knot-requires
add_knot-requires c = subst (All (λ a. a < length c.args.names.now)) (sym c.at-group.ensures) (c.requires.members (get_or c.args.places.now c.loop-lead.lead-index 0))

pub loop-lead-preserved : goal.loop-lead-preserved
loop-lead-preserved c =
    let i = c.loop-lead.lead-index in
    let l = get_or c.args.places.now i 0 in
    let f = group_of c.args.names.now c.args.members.now in
    record {
      order = order_more f c.args.places.now i l c.loop-lead.order.items c.add_names.new.found.items c.loop-lead-test.true refl c.loop-lead.invariant.order
          (c.in_ok-add_names.ensures ∙ ap (λ xs. c.loop-lead.order.items ++ map (name_at c.args.names.now) xs) c.at-group.ensures);
      knots = knots_more f c.args.places.now i l c.loop-lead.knots.items c.add_knot.new.knots.items c.loop-lead-test.true refl c.loop-lead.invariant.knots
          (c.in_ok-add_knot.ensures ∙ ap (λ xs. c.loop-lead.knots.items ++ filter is_knot (map (name_at c.args.names.now) xs ∷ [])) c.at-group.ensures);
    }
