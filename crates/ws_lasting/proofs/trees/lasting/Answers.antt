use Rattle.std.proofs.Common.{◌∷◌, ◌+◌, drop, refl, sym, ap, ◌∙◌, subst}
use Rattle.std.proofs.lemmas.List.{drop_more, drop_all}
use Rattle.ws_lasting.proofs.Settled.{IsSettled, all_settled, first_settled, settled_more}
use Rattle.ws_lasting.proofs.trees.lasting.Goals as goal

pub loop-path-init : goal.loop-path-init
loop-path-init c = record {
  settled = first_settled c.args.tree.map c.as_slice-path-items.result.now (c.as_slice-path-items.ensures.value ∙ c.in_ok-paths.ensures);
  room = refl;
}

pub loop-path-preserved : goal.loop-path-preserved
loop-path-preserved c =
    let items = c.as_slice-path-items.result.now in
    let rest = drop (c.loop-path.path-index + 1) items in
    let left = drop_more items c.loop-path.path-index c.path-item.result c.loop-path-test.true ∙ ap (λ p. p ∷ rest) (sym c.path-item.is) in
    record {
      settled = settled_more c.args.tree.map c.loop-path.tree.map c.leave_out.new.tree.map c.path-item.result rest c.in_ok-leave_out.ensures.map
          (subst (IsSettled c.args.tree.map c.loop-path.tree.map) left c.loop-path.invariant.settled);
      room = c.leave_out.ensures.room ∙ c.loop-path.invariant.room;
    }

pub returns-clause-map : goal.returns-clause-map
returns-clause-map c =
    all_settled c.args.tree.map c.loop-path.tree.map _ (drop_all c.loop-path.path-index c.as_slice-path-items.result.now c.loop-path-test.false) c.loop-path.invariant.settled
