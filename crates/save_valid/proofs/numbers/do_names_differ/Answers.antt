use Rattle.std.specs.Cmp.Lexicographic.{nat_list_cmp_total}
use Rattle.std.specs.FinMap.{nat_cmp-IsAntisymmetric, slice_cmp-IsAntisymmetric}
use Rattle.save_valid.proofs.Labels.{one_decides}
use Rattle.save_valid.proofs.numbers.do_names_differ.Goals as goal

pub returns : goal.returns
returns c = one_decides nat_list_cmp_total (slice_cmp-IsAntisymmetric nat_cmp-IsAntisymmetric) c.args.names.now c.none-seen.result c.are_names_new.result c.none-seen.ensures c.are_names_new.ensures
