-- Synchronisation bytes: a finite map from a partner's number to the bytes kept for it.
use Rattle.std.specs.Prelude.{◌≡◌, ℕ, Bool, Option, Some, None, List, nat_eq, ◌&&◌, refl}
use Rattle.std.specs.Bool.{Decides}
use Rattle.std.specs.Ordering.{nat_cmp}
use Rattle.std.specs.FinMap.{FinMap, insert, remove, entries, same_entries_map}
use Rattle.std.specs.Cmp.{IsEquivalence, unsigned_Decides}
use Rattle.std.specs.Cmp.Lexicographic.{pointwise}
use Rattle.std.proofs.Common.{sym, ap}
use Rattle.std.proofs.lemmas.Bool.Decides.{Decides-and, same_from_decides}
use Rattle.std.proofs.lemmas.Slice.Eq.{slice_eq-Decides, bytes_eq-Decides}

abbrev pub Syncs : Type 0
Syncs = FinMap nat_cmp (List ℕ)

-- the bytes of one partner become these, or go where there are none
abbrev pub with_bytes : Syncs → ℕ → Option (List ℕ) → Syncs
with_bytes syncs partner (Some bytes) = insert syncs partner bytes
with_bytes syncs partner None = remove syncs partner

-- whether two entries have the same partner and the same bytes
abbrev pub same_entry : ℕ × List ℕ → ℕ × List ℕ → Bool
same_entry a b = nat_eq a.0 b.0 && pointwise nat_eq a.1 b.1

-- whether the same partners have the same bytes
unfoldable pub same_syncs : Syncs → Syncs → Bool
same_syncs a b = pointwise same_entry (entries a) (entries b)

same_entry-Decides : (a b : ℕ × List ℕ) → Decides (same_entry a b) (a ≡ b)
same_entry-Decides a b =
    let both = Decides-and _ _ (unsigned_Decides a.0 b.0) (bytes_eq-Decides a.1 b.1) in
    (λ t. let parts = both.0 t in λ i. (parts.0 i, parts.1 i), λ e. both.1 (ap (λ (p : ℕ × List ℕ). p.0) e, ap (λ (p : ℕ × List ℕ). p.1) e))

-- it is equality
pub same_syncs-Decides : (a b : Syncs) → Decides (same_syncs a b) (a ≡ b)
unfolding same_syncs
same_syncs-Decides a b =
    let lists = slice_eq-Decides same_entry-Decides (entries a) (entries b) (same_syncs a b) refl in
    (λ t. same_entries_map a b (lists.0 t), λ e. lists.1 (ap entries e))

pub same_syncs-IsEquivalence : IsEquivalence same_syncs
same_syncs-IsEquivalence =
    let is = same_syncs-Decides in
    record {
      refl = λ a. (is a a).1 refl;
      symm = λ a b. same_from_decides _ _ (is a b) (λ t. sym ((is b a).0 t), λ e. (is b a).1 (sym e));
      congr = λ a b c t. ap (λ (x : Syncs). same_syncs x c) ((is a b).0 t);
    }
