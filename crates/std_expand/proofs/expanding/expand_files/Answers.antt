use Rattle.res_path.specs.Paths.{is_prefix}
use Rattle.std_expand.proofs.Finding.{all_at}
use Rattle.std_expand.proofs.expanding.expand_files.Goals as goal

pub expand_file-requires : goal.expand_file-requires
expand_file-requires c = all_at (λ e. is_prefix c.args.root.now e.0) c.args.files.now c.loop-file.file-index c.file-item.result c.requires c.loop-file-test.true c.file-item.is
