-- What was given back, printed for one participant after another.
use Rattle.std.proofs.Common.{◌≡◌, ℕ, ◌+◌, ◌≤◌, List, [], ◌∷◌, ◌++◌, length, drop, map, slice_get, Option, Some, refl, sym, ◌∙◌, ap, subst, arith}
use Rattle.std.proofs.lemmas.List.{drop_all, length-map}
use Rattle.std.proofs.lemmas.Option.{get_or_from_slice_get, slice_get_within}
use Rattle.run_text.specs.declared.writing.Unwritten.{Unwritten}
use Rattle.run_text.specs.Printing.{PrintsAll, PrintsFront}
use Rattle.run_text.proofs.Dropped.{dropped}
use Rattle.run_text.proofs.Pieces.{ends_in, left_at_end, left_next}
use Rattle.run_text.proofs.Printed.{prints_none}
use Rattle.save_round.specs.declared.restoring.KeptState.{KeptState}
use Rattle.save_round.specs.Told.{Told}
use Rattle.save_round.specs.Firsts.{firsts_after}
use Rattle.save_round.specs.Restoring.{kept_for_each, kept_where}
use Rattle.ws_top.specs.Texts.{restored_block, restored_blocks}

-- a text that was gathered waits
pub all_waits : (a : Option (List ℕ)) (f : ℕ) (p t q : List ℕ) → q ≡ p ++ t → PrintsAll a a f f p t q
all_waits a f p t q e = record { printed = prints_none a p t q e; calm = refl }

kept_count : (kept : List KeptState) (before : List (List ℕ)) (xs : List Told) → length (kept_where kept (firsts_after before xs) xs) ≡ length xs
kept_count kept before [] = refl
kept_count kept before (x ∷ xs) = omega (arith, kept_count kept (x.named ∷ before) xs)

-- something, or nothing, is kept for each
pub each_count : {A : Type 0} (tells : A → Told) (kept : List KeptState) (xs : List A) → length (kept_for_each kept (map tells xs)) ≡ length xs
each_count tells kept xs = kept_count kept [] (map tells xs) ∙ length-map xs tells

from_it : (each : List (Option KeptState)) (i : ℕ) (k : Option KeptState) → slice_get each i ≡ Some k → restored_blocks (drop i each) ≡ restored_block k ++ restored_blocks (drop (i + 1) each)
from_it each i k is = ap restored_blocks (dropped each i k (slice_get_within each i k is) (sym (get_or_from_slice_get each i k k is)))

-- one more was told
pub blocks_next : (a b c : Option (List ℕ)) (f g h : ℕ) (p q l : List ℕ) (each : List (Option KeptState)) (i : ℕ) (k : Option KeptState) → slice_get each i ≡ Some k
    → PrintsAll a b f g p (restored_blocks each) (q ++ restored_blocks (drop i each)) → PrintsAll b c g h q (restored_block k) l → PrintsAll a c f h p (restored_blocks each) (l ++ restored_blocks (drop (i + 1) each))
blocks_next a b c f g h p q l each i k is so_far next = left_next a b c f g h p (restored_blocks each) q (restored_block k) (restored_blocks (drop (i + 1) each)) l
    (subst (λ t. PrintsAll a b f g p (restored_blocks each) (q ++ t)) (from_it each i k is) so_far) next

-- the printing ends at one
pub blocks_end_at : (a b c : Option (List ℕ)) (f g h : ℕ) (p q : List ℕ) (each : List (Option KeptState)) (i : ℕ) (k : Option KeptState) (e : Unwritten) → slice_get each i ≡ Some k
    → PrintsAll a b f g p (restored_blocks each) (q ++ restored_blocks (drop i each)) → PrintsFront b c g h q (restored_block k) e → PrintsFront a c f h p (restored_blocks each) e
blocks_end_at a b c f g h p q each i k e is so_far next = ends_in a b c f g h p (restored_blocks each) q (restored_block k) (restored_blocks (drop (i + 1) each)) e
    (subst (λ t. PrintsAll a b f g p (restored_blocks each) (q ++ t)) (from_it each i k is) so_far) next

-- all were told
pub blocks_all : (a b : Option (List ℕ)) (f g : ℕ) (p q : List ℕ) (each : List (Option KeptState)) (i : ℕ) → length each ≤ i
    → PrintsAll a b f g p (restored_blocks each) (q ++ restored_blocks (drop i each)) → PrintsAll a b f g p (restored_blocks each) q
blocks_all a b f g p q each i le so_far = left_at_end a b f g p (restored_blocks each) q (subst (λ rest. PrintsAll a b f g p (restored_blocks each) (q ++ restored_blocks rest)) (drop_all i each le) so_far)
