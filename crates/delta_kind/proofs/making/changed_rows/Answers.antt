use Rattle.std.proofs.Common.{◌≡◌, ◌++◌, None, map, ap, sym, subst, ◌∙◌, append-nil}
use Rattle.std.specs.Prelude.{filter}
use Rattle.std.specs.FinMap.{find}
use Rattle.res_path.specs.Paths.{path_cmp}
use Rattle.delta_kind.specs.Deltas.{InPathOrder}
use Rattle.delta_kind.specs.Rows.{shown, row_paths}
use Rattle.delta_kind.proofs.Merged.{row_differs, rows_between, between_rises, between_found}
use Rattle.delta_kind.proofs.Rising.{rises_sorted}
use Rattle.delta_kind.proofs.making.changed_rows.Goals as goal

pub returns-clause-order : goal.returns-clause-order
returns-clause-order c =
    let all : map shown c.loop-row.rows.items ≡ rows_between c.args.before.now.map c.args.after.now.map =
    sym (append-nil (map shown c.loop-row.rows.items)) ∙ ap (λ rows. map shown c.loop-row.rows.items ++ filter row_differs rows) (sym c.in-None.ensures.steps.0) ∙ c.loop-row.invariant in
    subst (λ rows. InPathOrder (row_paths rows)) (sym all) (rises_sorted None _ (between_rises c.args.before.now.map c.args.after.now.map))

pub returns-clause-rows : goal.returns-clause-rows
returns-clause-rows c p =
    let all : map shown c.loop-row.rows.items ≡ rows_between c.args.before.now.map c.args.after.now.map =
    sym (append-nil (map shown c.loop-row.rows.items)) ∙ ap (λ rows. map shown c.loop-row.rows.items ++ filter row_differs rows) (sym c.in-None.ensures.steps.0) ∙ c.loop-row.invariant in
    ap (find path_cmp p) all ∙ between_found c.args.before.now.map c.args.after.now.map p
