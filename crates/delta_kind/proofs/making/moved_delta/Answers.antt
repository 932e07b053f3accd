use Rattle.std.proofs.Common.{◌≡◌, map, ap, ◌∙◌}
use Rattle.std.proofs.lemmas.Result.{IfOk-weaker}
use Rattle.delta_kind.specs.Deltas.{delta}
use Rattle.delta_kind.specs.Rows.{shown, delta_of_rows}
use Rattle.delta_kind.proofs.Same.{rows_delta}
use Rattle.delta_kind.proofs.making.moved_delta.Goals as goal

pub returns : goal.returns
returns c = IfOk-weaker c.delta_of_rows.result _ (λ d. d ≡ delta c.args.before.now.map c.args.after.now.map) (λ d is.
    is ∙ ap (λ rows. delta_of_rows (map shown rows)) c.as_slice.ensures.value ∙ rows_delta c.args.before.now.map c.args.after.now.map (map shown c.in_ok-rows.rows.items) c.in_ok-rows.ensures.rows c.in_ok-rows.ensures.order)
    c.delta_of_rows.ensures
