-- The laws of the order and the equality of paths.
use Rattle.std.specs.Prelude.{◌≡◌, Some, refl}
use Rattle.std.proofs.Common.{subst}
use Rattle.std.specs.Ordering.{nat_cmp, eq_by_cmp}
use Rattle.std.specs.Cmp.{IsTotalOrder, IsPartialOrder, Agrees}
use Rattle.std.specs.Cmp.Lexicographic.{slice_cmp, slice_partial_cmp, nat_list_cmp_total, lists_total, lists_ties, lists_po, lists_agrees, texts_ties, texts_po}
use Rattle.res_path.specs.Paths.{Names, path_cmp, path_eq}

pub path_cmp_total : IsTotalOrder path_cmp
path_cmp_total = lists_total nat_list_cmp_total

pub path_ties : (p q : Names) → path_eq p q ≡ eq_by_cmp path_cmp p q
path_ties = lists_ties (slice_cmp nat_cmp) texts_ties

pub path_po : IsPartialOrder path_eq (λ p q. Some (path_cmp p q))
path_po =
    let texts : Agrees (slice_partial_cmp (λ x y. Some (slice_cmp nat_cmp x y))) path_cmp = lists_agrees (λ x y. refl) in
    subst (IsPartialOrder path_eq) (λ i p q. texts p q i) (lists_po texts_po)
