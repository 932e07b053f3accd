use Rattle.std.proofs.Common.{ℕ, List, ap, sym, ◌∙◌}
use Rattle.std.specs.List.{list_all}
use Rattle.res_path.specs.Paths.{Names, is_prefix}
use Rattle.std_expand.proofs.Finding.{all_last, found_first, found_more}
use Rattle.std_expand.proofs.named.named_files.Goals as goal

pub loop-file-init : goal.loop-file-init
loop-file-init c = (c.requires, λ n. found_first c.args.root.now c.args.files.now c.new.result.entries c.new.ensures.empty n)

pub loop-file-preserved : goal.loop-file-preserved
loop-file-preserved c =
    let under : Names × List ℕ → _ = λ e. is_prefix c.args.root.now e.0 in
    let parts = all_last under c.in-Some.others.now c.in-Some.file.now (ap (list_all under) (sym c.in-Some.ensures.cases.0) ∙ c.loop-file.invariant.0) in (
      parts.0,
      λ n.
          found_more c.args.root.now c.loop-file.rest.now c.in-Some.others.now c.in-Some.file.now c.in_ok-name_of.field-0 c.in_ok-clone.field-0 c.loop-file.named.files.entries c.put-in-Some.new.self.files.entries n c.in-Some.ensures.cases.0 c.in_ok-name_of.ensures
          c.in_ok-clone.ensures.cases (c.in_ok-put.ensures n)
          ∙ c.loop-file.invariant.1 n,
    )
