-- The laws of the workspace's atoms.
use Rattle.std.proofs.Common.{◌≡◌, ℕ, true, ◌&&◌, ◌||◌, List, refl, sym, ap, ◌∙◌}
use Rattle.std.specs.declared.cmp.Ordering.{Ordering}
use Rattle.std.specs.declared.cmp.Ordering.TheVariants.{Less, Equal, Greater}
use Rattle.std.specs.Ordering.{nat_cmp, ordering_then, ordering_reverse}
use Rattle.std.specs.Cmp.{IsTotalOrder}
use Rattle.std.specs.Cmp.Lexicographic.{nat_list_cmp_total, nat_list_eq_equiv, lists_equiv, bytes_decides, pointwise_decides}
use Rattle.std.specs.FinMap.{IsAntisymmetric, nat_cmp-IsAntisymmetric, slice_cmp-IsAntisymmetric}
use Rattle.std.specs.Str.{bytes_eq}
use Rattle.std.proofs.lemmas.Cmp.{nat_cmp_total, on_total, then_total}
use Rattle.res_path.specs.Paths.{Names, is_prefix, path_eq, path_cmp, overlap}
use Rattle.res_path.specs.PathLaws.{path_cmp_total}
use Rattle.res_path.proofs.Prefixes.{path_cmp_exact}
use Rattle.res_path.proofs.Spelled.{both}
use Rattle.sched_rules.specs.declared.ws_atom.WsAtom.{WsAtom}
use Rattle.sched_rules.specs.declared.ws_atom.WsAtom.TheVariants.{Path, Mutex, Lines}
use Rattle.sched_rules.specs.Laws.{IsLawful}
use Rattle.sched_rules.specs.Ranges.{lies_within, share_a_line, range_cmp}
use Rattle.sched_rules.specs.Atoms.{atom_contains, atom_conflicts, atom_cmp}
use Rattle.sched_rules.specs.Inside.Prefixes.{prefix_itself, prefix_both, prefix_through, wider_overlap, or_left, or_back, name_itself, same_name}
use Rattle.sched_rules.specs.Inside.RangeLaws.{range_contains, ranges_conflict, range_itself, range_contains_both, range_contains_through, ranges_conflict_back, range_contained_conflicts, wider_range_conflicts}

path_itself : (p : Names) → path_eq p p ≡ true
path_itself p = (lists_equiv nat_list_eq_equiv).refl p

same_path : (p q : Names) → path_eq p q ≡ true → p ≡ q
same_path p q h = (pointwise_decides bytes_decides p q).0 h

contains_itself : (a : WsAtom) → atom_contains a a ≡ true
contains_itself (Path p) = prefix_itself p
contains_itself (Mutex m) = name_itself m
contains_itself (Lines f a b) = (λ i. path_itself f i && (range_itself a b i || lies_within a b a b))

contains_both : (a b : WsAtom) → atom_contains a b ≡ true → atom_contains b a ≡ true → a ≡ b
contains_both (Path p) (Path q) h g = ap Path (prefix_both p q h g)
contains_both (Mutex m) (Mutex n) h g = ap Mutex (same_name m n h)
contains_both (Lines f a b) (Lines k c d) h g =
    let one = both (path_eq f k) (range_contains a b c d) h in
    let two = both (path_eq k f) (range_contains c d a b) g in
    let file = same_path f k one.0 in
    let numbers = range_contains_both a b c d one.1 two.1 in
    λ i. Lines (file i) (numbers.0 i) (numbers.1 i)
contains_both a b h g = cc

contains_through : (a b c : WsAtom) → atom_contains a b ≡ true → atom_contains b c ≡ true → atom_contains a c ≡ true
contains_through (Path p) (Path q) (Path r) h g = prefix_through p q r h g
contains_through (Path p) (Path q) (Lines r c d) h g = prefix_through p q r h g
contains_through (Path p) (Lines f a b) (Lines k c d) h g =
    let two = both (path_eq f k) (range_contains a b c d) g in
    ap (is_prefix p) (sym (same_path f k two.0)) ∙ h
contains_through (Mutex m) (Mutex n) (Mutex k) h g = ap (bytes_eq m) (sym (same_name n k g)) ∙ h
contains_through (Lines f a b) (Lines k c d) (Lines l x y) h g =
    let one = both (path_eq f k) (range_contains a b c d) h in
    let two = both (path_eq k l) (range_contains c d x y) g in
    let file : f ≡ l = same_path f k one.0 ∙ same_path k l two.0 in
    (λ i. path_eq (file i) l && range_contains a b x y) ∙ (λ i. path_itself l i && range_contains_through a b c d x y one.1 two.1 i)
contains_through a b c h g = cc

conflicts_itself : (a : WsAtom) → atom_conflicts a a ≡ true
conflicts_itself (Path p) = or_left (is_prefix p p) (is_prefix p p) (prefix_itself p)
conflicts_itself (Mutex m) = name_itself m
conflicts_itself (Lines f a b) = (λ i. path_itself f i && (range_itself a b i || share_a_line a b a b))

names_back : (m n : List ℕ) → bytes_eq m n ≡ bytes_eq n m
names_back m n = nat_list_eq_equiv.symm m n

paths_back : (p q : Names) → path_eq p q ≡ path_eq q p
paths_back p q = (lists_equiv nat_list_eq_equiv).symm p q

conflicts_back : (a b : WsAtom) → atom_conflicts a b ≡ atom_conflicts b a
conflicts_back (Path p) (Path q) = or_back (is_prefix p q) (is_prefix q p)
conflicts_back (Path p) (Lines f a b) = or_back (is_prefix p f) (is_prefix f p)
conflicts_back (Lines f a b) (Path p) = or_back (is_prefix f p) (is_prefix p f)
conflicts_back (Mutex m) (Mutex n) = names_back m n
conflicts_back (Lines f a b) (Lines k c d) = λ i. paths_back f k i && ranges_conflict_back a b c d i
conflicts_back a b = refl

contained_conflicts : (a b : WsAtom) → atom_contains a b ≡ true → atom_conflicts a b ≡ true
contained_conflicts (Path p) (Path q) h = or_left (is_prefix p q) (is_prefix q p) h
contained_conflicts (Path p) (Lines f a b) h = or_left (is_prefix p f) (is_prefix f p) h
contained_conflicts (Mutex m) (Mutex n) h = h
contained_conflicts (Lines f a b) (Lines k c d) h =
    let one = both (path_eq f k) (range_contains a b c d) h in
    (λ i. one.0 i && range_contained_conflicts a b c d one.1 i)
contained_conflicts a b h = cc

wider_conflicts : (a b c : WsAtom) → atom_contains a b ≡ true → atom_conflicts b c ≡ true → atom_conflicts a c ≡ true
wider_conflicts (Path p) (Path q) (Path r) h g = wider_overlap p q r h g
wider_conflicts (Path p) (Path q) (Lines r c d) h g = wider_overlap p q r h g
wider_conflicts (Path p) (Lines f a b) (Path r) h g = wider_overlap p f r h g
wider_conflicts (Path p) (Lines f a b) (Lines k c d) h g =
    let two = both (path_eq f k) (ranges_conflict a b c d) g in
    or_left (is_prefix p k) (is_prefix k p) (ap (is_prefix p) (sym (same_path f k two.0)) ∙ h)
wider_conflicts (Mutex m) (Mutex n) (Mutex k) h g = ap (λ x. bytes_eq x k) (same_name m n h) ∙ g
wider_conflicts (Lines f a b) (Lines k c d) (Path r) h g =
    let one = both (path_eq f k) (range_contains a b c d) h in
    ap (λ x. overlap x r) (same_path f k one.0) ∙ g
wider_conflicts (Lines f a b) (Lines k c d) (Lines l x y) h g =
    let one = both (path_eq f k) (range_contains a b c d) h in
    let two = both (path_eq k l) (ranges_conflict c d x y) g in
    let file : f ≡ l = same_path f k one.0 ∙ same_path k l two.0 in
    (λ i. path_eq (file i) l && ranges_conflict a b x y) ∙ (λ i. path_itself l i && wider_range_conflicts a b c d x y one.1 two.1 i)
wider_conflicts a b c h g = cc

pub atoms_lawful : IsLawful atom_contains atom_conflicts
atoms_lawful = record {
  contains_itself = contains_itself;
  contains_both = contains_both;
  contains_through = contains_through;
  conflicts_itself = conflicts_itself;
  conflicts_back = conflicts_back;
  contained_conflicts = contained_conflicts;
  wider_conflicts = wider_conflicts;
}

-- ---- the order

range_cmp_total : IsTotalOrder range_cmp
range_cmp_total = then_total (on_total (λ r. r.0) path_cmp_total) (then_total (on_total (λ r. r.1) nat_cmp_total) (on_total (λ r. r.2) nat_cmp_total))

antisymm : (a b : WsAtom) → atom_cmp a b ≡ ordering_reverse (atom_cmp b a)
antisymm (Path p) (Path q) = path_cmp_total.antisymm p q
antisymm (Mutex m) (Mutex n) = nat_list_cmp_total.antisymm m n
antisymm (Lines f a b) (Lines k c d) = range_cmp_total.antisymm (f, a, b) (k, c, d)
antisymm a b = refl

trans : (a b c : WsAtom) → atom_cmp a b ≡ Less → atom_cmp b c ≡ Less → atom_cmp a c ≡ Less
trans (Path p) (Path q) (Path r) h g = path_cmp_total.trans p q r h g
trans (Mutex m) (Mutex n) (Mutex k) h g = nat_list_cmp_total.trans m n k h g
trans (Lines f a b) (Lines k c d) (Lines l x y) h g = range_cmp_total.trans (f, a, b) (k, c, d) (l, x, y) h g
trans (Path p) (Mutex n) (Path r) h g = cc
trans (Path p) (Lines k c d) (Lines l x y) h g = refl
trans (Mutex m) (Lines k c d) (Lines l x y) h g = refl
trans a b c h g = cc

congr : (a b c : WsAtom) → atom_cmp a b ≡ Equal → atom_cmp a c ≡ atom_cmp b c
congr (Path p) (Path q) (Path r) h = path_cmp_total.congr p q r h
congr (Mutex m) (Mutex n) (Mutex k) h = nat_list_cmp_total.congr m n k h
congr (Lines f a b) (Lines k c d) (Lines l x y) h = range_cmp_total.congr (f, a, b) (k, c, d) (l, x, y) h
congr a b c h = cc

pub atom_cmp_total : IsTotalOrder atom_cmp
atom_cmp_total = record { antisymm = antisymm; trans = trans; congr = congr }

then_equal : (o w : Ordering) → ordering_then o w ≡ Equal → (o ≡ Equal) × (w ≡ Equal)
then_equal Less w h = cc
then_equal Equal w h = (refl, h)
then_equal Greater w h = cc

-- atoms that compare alike are one
pub atom_cmp_exact : IsAntisymmetric atom_cmp
atom_cmp_exact (Path p) (Path q) h = ap Path (path_cmp_exact p q h)
atom_cmp_exact (Mutex m) (Mutex n) h = ap Mutex (slice_cmp-IsAntisymmetric nat_cmp-IsAntisymmetric m n h)
atom_cmp_exact (Lines f a b) (Lines k c d) h =
    let file = then_equal (path_cmp f k) (ordering_then (nat_cmp a c) (nat_cmp b d)) h in
    let numbers = then_equal (nat_cmp a c) (nat_cmp b d) file.1 in
    let files = path_cmp_exact f k file.0 in
    let firsts = nat_cmp-IsAntisymmetric a c numbers.0 in
    let lasts = nat_cmp-IsAntisymmetric b d numbers.1 in
    λ i. Lines (files i) (firsts i) (lasts i)
atom_cmp_exact a b h = cc
