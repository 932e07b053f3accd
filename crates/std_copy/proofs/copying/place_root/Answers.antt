use Rattle.std.proofs.Common.{◌≡◌, ◌∙◌, true, ap, sym, subst}
use Rattle.std.specs.FinMap.{entries}
use Rattle.std.specs.List.{All}
use Rattle.std.proofs.lemmas.List.Elements.{All-get_or, filter_passes}
use Rattle.res_path.specs.Paths.{is_prefix}
use Rattle.std_copy.proofs.copying.place_root.Goals as goal

-- each file of the root lies at or below it
pub place_file-requires : goal.place_file-requires
place_file-requires c =
    ap (λ file. is_prefix c.args.root.now file.0) c.file-item.is
    ∙ All-get_or (λ file. is_prefix c.args.root.now file.0 ≡ true) c.files_of_root-file-items.result.now c.loop-file.file-index c.file-item.result c.loop-file-test.true
    (subst (All (λ file. is_prefix c.args.root.now file.0 ≡ true)) (sym c.files_of_root-file-items.ensures) (filter_passes (λ file. is_prefix c.args.root.now file.0) (entries c.args.view.now)))
