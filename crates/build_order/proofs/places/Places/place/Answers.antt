use Rattle.std.proofs.Common.{◌<◌, ◌+◌, true, drop, refl, subst, sym, ◌∙◌, arith}
use Rattle.std.specs.Vec.{with_item}
use Rattle.std.proofs.lemmas.List.{drop_more, drop_all}
use Rattle.build_order.specs.declared.places.Places.{Places}
use Rattle.build_order.specs.Inside.Placings.{Holds, left}
use Rattle.build_order.proofs.Placing.{placed_on, left_fewer}
use Rattle.build_order.proofs.places.Places.place.Goals as goal

pub loop-other-init : goal.loop-other-init
loop-other-init c =
    let old = c.args.self.now in
    let new : Places = record { targets = old.targets; parked = c.take-parked.new.self; free = old.free; is_placed = with_item old.is_placed c.args.lead true; order = c.push.new.self } in
    record {
      holds = λ g can. subst (λ xs. Holds g c.args.leads.now xs new) (sym (c.as_slice-other-items.ensures ∙ c.take-parked.ensures.list))
          (placed_on g c.args.leads.now c.args.lead old new refl c.take-parked.ensures.others refl refl c.in_ok-push.ensures.items can);
      fewer = let w = c.requires.1.free.waiting in left_fewer old.is_placed.items c.args.lead (omega (arith, w.within, c.requires.1.holds.long_placed)) w.waits;
    }

pub look-requires : goal.look-requires
look-requires c =
    let xs = c.as_slice-other-items.result.now in
    let i = c.loop-other.other-index in
    (c.requires.0, drop (i + 1) xs, subst (λ ys. Holds c.requires.0 c.args.leads.now ys c.loop-other.self) (drop_more xs i 0 c.loop-other-test.true) (c.loop-other.invariant.holds c.requires.0 c.requires.1))

pub loop-other-preserved : goal.loop-other-preserved
loop-other-preserved c =
    let xs = c.as_slice-other-items.result.now in
    let i = c.loop-other.other-index in
    record {
      holds = λ g can. c.in_ok-look.ensures.holds g (drop (i + 1) xs) (subst (λ ys. Holds g c.args.leads.now ys c.loop-other.self) (drop_more xs i 0 c.loop-other-test.true) (c.loop-other.invariant.holds g can));
      fewer = subst (λ v. left v.items < left c.args.self.now.is_placed.items) (sym c.in_ok-look.ensures.placed) c.loop-other.invariant.fewer;
    }

pub returns : goal.returns
returns c = record {
  holds = λ g can. subst (λ ys. Holds g c.args.leads.now ys c.loop-other.self) (drop_all c.loop-other.other-index c.as_slice-other-items.result.now c.loop-other-test.false) (c.loop-other.invariant.holds g can);
  fewer = c.loop-other.invariant.fewer;
}
