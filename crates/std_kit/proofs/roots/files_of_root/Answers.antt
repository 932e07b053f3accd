use Rattle.std.proofs.Common.{T, not, sym, ap, ◌∙◌, subst}
use Rattle.std.specs.Prelude.{filter}
use Rattle.std.specs.FinMap.{entries, entries_sorted, is_sorted}
use Rattle.std.specs.List.{list_all}
use Rattle.res_path.specs.Paths.{path_cmp}
use Rattle.std_kit.proofs.Runs.{is_before, is_under, from_sorted, from_all, under_from}
use Rattle.std_kit.proofs.roots.files_of_root.Goals as goal

pub files_from-requires : goal.files_from-requires
files_from-requires c = subst (λ es. T (is_sorted path_cmp es)) (sym c.as_slice.ensures) (entries_sorted c.args.view.now)

pub files_under-requires-clause-sorted : goal.files_under-requires-clause-sorted
files_under-requires-clause-sorted c =
    subst (λ es. T (is_sorted path_cmp es)) (sym (c.files_from.ensures ∙ ap (filter (λ e. not (is_before c.args.root.now e))) c.as_slice.ensures))
    (from_sorted c.args.root.now (entries c.args.view.now) (entries_sorted c.args.view.now))

pub files_under-requires-clause-from : goal.files_under-requires-clause-from
files_under-requires-clause-from c =
    ap (list_all (λ e. not (is_before c.args.root.now e))) c.files_from.ensures ∙ from_all (λ e. not (is_before c.args.root.now e)) c.as_slice.result.now

pub returns : goal.returns
returns c =
    c.files_under.ensures ∙ ap (filter (is_under c.args.root.now)) c.files_from.ensures ∙ under_from c.args.root.now c.as_slice.result.now
    ∙ ap (filter (is_under c.args.root.now)) c.as_slice.ensures
