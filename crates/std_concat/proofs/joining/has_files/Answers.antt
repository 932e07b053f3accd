use Rattle.std.proofs.Common.{◌==◌, length, ap, ◌∙◌}
use Rattle.std_concat.proofs.Joined.{some_files}
use Rattle.std_concat.proofs.joining.has_files.Goals as goal

pub returns-then-not-is_empty : goal.returns-then-not-is_empty
returns-then-not-is_empty c =
    some_files c.args.roots.now c.args.view.now c.loop-root.root-index c.root-item.result c.is_empty.result c.loop-root-test.true c.root-item.is c.loop-root.invariant
    (c.is_empty.ensures ∙ ap (λ files. length files == 0) c.files_of_root.ensures) c.if-not-is_empty.true
