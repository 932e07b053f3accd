use Rattle.std.proofs.Common.{length, ap, sym, ◌∙◌, refl}
use Rattle.std.specs.List.{flat_map}
use Rattle.std.proofs.lemmas.Result.{err_from_is_err_and}
use Rattle.build_run.proofs.Nexts.{knot_next, lone_next, map_length, cut_front, cut_back, cut_fits, members_described, knot_halted, lone_halted, knot_came, lone_came}
use Rattle.build_run.proofs.groups.build_next.Goals as goal

pub split_at-requires : goal.split_at-requires
split_at-requires g c =
    let r = c.requires.planned in
    let n = knot_next _ _ _ r.0 r.1 c.index-order-0.result _ _ r.2 c.index-order-0.is c.in-Some.ensures.found.0 c.in-Some.ensures.found.1 in
    cut_fits _ r.0 (flat_map (λ g. g) r.1) _ r.2.ordered (ap length (c.as_slice.ensures ∙ n.names) ∙ map_length r.0)

pub build_knot-requires-clause-described : goal.build_knot-requires-clause-described
build_knot-requires-clause-described g c =
    let r = c.requires.planned in
    let n = knot_next _ _ _ r.0 r.1 c.index-order-0.result _ _ r.2 c.index-order-0.is c.in-Some.ensures.found.0 c.in-Some.ensures.found.1 in
    members_described _ _ _ r.0 r.1 _ r.2 (c.split_at.ensures.front ∙ cut_front _ r.0 (flat_map (λ g. g) r.1) _ r.2.ordered (ap length (c.as_slice.ensures ∙ n.names) ∙ map_length r.0))

pub returns-in_err-build_knot-in-Some-clause-halted : goal.returns-in_err-build_knot-in-Some-clause-halted
returns-in_err-build_knot-in-Some-clause-halted g c = λ group groups plan.
    let p = err_from_is_err_and c.from_residual.result c.from_residual.ensures.1 in
    let n = knot_next _ _ _ group groups c.index-order-0.result _ _ plan c.index-order-0.is c.in-Some.ensures.found.0 c.in-Some.ensures.found.1 in
    rw (p.1, p.2) (knot_halted g.H.Told.Meanings.meaning _ c.args.kind group _ _ _ _ n.two
    (c.split_at.ensures.front ∙ cut_front _ group (flat_map (λ g. g) groups) _ plan.ordered (ap length (c.as_slice.ensures ∙ n.names) ∙ map_length group)) n.names
    c.in_err-build_knot-in-Some.ensures.halted)

pub returns-in_ok-build_knot-in-Some-clause-came : goal.returns-in_ok-build_knot-in-Some-clause-came
returns-in_ok-build_knot-in-Some-clause-came g c = λ group groups plan.
    let n = knot_next _ _ _ group groups c.index-order-0.result _ _ plan c.index-order-0.is c.in-Some.ensures.found.0 c.in-Some.ensures.found.1 in
    let many = ap length (c.as_slice.ensures ∙ n.names) ∙ map_length group in
    let built = c.in_ok-build_knot-in-Some.ensures.built in
    knot_came g.H.Told.Meanings.meaning _ _ c.args.kind _ _ group groups _ _ _ _ built.0 plan n
    (c.split_at.ensures.front ∙ cut_front _ group (flat_map (λ g. g) groups) _ plan.ordered many)
    (c.split_at.ensures.back ∙ cut_back _ group (flat_map (λ g. g) groups) _ plan.ordered many) built.1 built.2

pub build_round-requires-clause-described : goal.build_round-requires-clause-described
build_round-requires-clause-described g c =
    let r = c.requires.planned in
    let n = lone_next _ _ _ r.0 r.1 c.index-order-0.result r.2 c.index-order-0.is (c.in-None.ensures.none refl) in
    members_described _ _ _ r.0 r.1 _ r.2 (c.split_at-in-None.ensures.front ∙ cut_front _ r.0 (flat_map (λ g. g) r.1) 1 r.2.ordered (sym (ap length n.is)))

pub returns-in_err-build_round-in-None-clause-halted : goal.returns-in_err-build_round-in-None-clause-halted
returns-in_err-build_round-in-None-clause-halted g c = λ group groups plan.
    let p = err_from_is_err_and c.from_residual-in_err-build_round-in-None.result c.from_residual-in_err-build_round-in-None.ensures.1 in
    let n = lone_next _ _ _ group groups c.index-order-0.result plan c.index-order-0.is (c.in-None.ensures.none refl) in
    rw (p.1, p.2) (lone_halted g.H.Told.Meanings.meaning _ c.args.kind group _ n.project _ _ n.is
    (c.split_at-in-None.ensures.front ∙ cut_front _ group (flat_map (λ g. g) groups) 1 plan.ordered (sym (ap length n.is))) c.in_err-build_round-in-None.ensures.halted)

pub returns-in_ok-build_round-in-None-clause-came : goal.returns-in_ok-build_round-in-None-clause-came
returns-in_ok-build_round-in-None-clause-came g c = λ group groups plan.
    let n = lone_next _ _ _ group groups c.index-order-0.result plan c.index-order-0.is (c.in-None.ensures.none refl) in
    lone_came g.H.Told.Meanings.meaning _ _ c.args.kind _ _ group groups _ _ _ plan n
    (c.split_at-in-None.ensures.front ∙ cut_front _ group (flat_map (λ g. g) groups) 1 plan.ordered (sym (ap length n.is)))
    (c.split_at-in-None.ensures.back ∙ cut_back _ group (flat_map (λ g. g) groups) 1 plan.ordered (sym (ap length n.is))) c.in_ok-build_round-in-None.ensures.came
