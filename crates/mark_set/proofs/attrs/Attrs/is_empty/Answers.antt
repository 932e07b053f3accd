use Rattle.std.proofs.Common.{refl, arith}
use Rattle.std.specs.Cmp.Lexicographic.{nat_list_cmp_total}
use Rattle.std.specs.FinMap.{slice_cmp-IsAntisymmetric, nat_cmp-IsAntisymmetric}
use Rattle.std.proofs.lemmas.Bool.Decides.{nat_tests}
use Rattle.mark_set.proofs.Sorted.{no_entries}
use Rattle.mark_set.proofs.attrs.Attrs.is_empty.Goals as goal

pub returns : goal.returns
returns c =
    let none = no_entries nat_list_cmp_total (slice_cmp-IsAntisymmetric nat_cmp-IsAntisymmetric) c.args.self.now in
    (λ t. none.0 (rw (← c.len.ensures) (grind (arith, nat_tests))), λ e. rw (c.len.ensures, none.1 e) refl)
