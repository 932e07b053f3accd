-- What participants get back, told for one after another.
use Rattle.std.proofs.Common.{◌≡◌, ℕ, ◌+◌, ◌≤◌, List, [], ◌∷◌, ◌++◌, length, map, take, slice_get, Option, Some, refl, sym, ◌∙◌, ap, arith}
use Rattle.std.specs.List.{flat_map}
use Rattle.std.proofs.lemmas.List.{flat_map_more, length-map, take_all, take_more}
use Rattle.std.proofs.lemmas.Option.{get_or_from_slice_get, slice_get_within}
use Rattle.save_round.specs.declared.restoring.KeptState.{KeptState}
use Rattle.save_round.specs.Told.{Told}
use Rattle.save_round.specs.Firsts.{firsts_after}
use Rattle.save_round.specs.Restoring.{kept_for_each, kept_where}
use Rattle.ws_opening.specs.declared.restoring.Restored.{Restored}
use Rattle.ws_opening.specs.Restored.{restored_of, restored_one}

kept_count : (kept : List KeptState) (before : List (List ℕ)) (xs : List Told) → length (kept_where kept (firsts_after before xs) xs) ≡ length xs
kept_count kept before [] = refl
kept_count kept before (x ∷ xs) = omega (arith, kept_count kept (x.named ∷ before) xs)

-- something, or nothing, is kept for each
pub each_count : {A : Type 0} (tells : A → Told) (kept : List KeptState) (xs : List A) → length (kept_for_each kept (map tells xs)) ≡ length xs
each_count tells kept xs = kept_count kept [] (map tells xs) ∙ length-map xs tells

-- one more is told
pub told_next : (each : List (Option KeptState)) (i : ℕ) (k : Option KeptState) (before after : List Restored) → slice_get each i ≡ Some k → before ≡ flat_map restored_one (take i each) → after ≡ before ++ restored_one k
    → after ≡ flat_map restored_one (take (i + 1) each)
told_next each i k before after is so_far next =
    next
    ∙ ap (λ told. told ++ restored_one k) so_far
    ∙ flat_map_more restored_one [] (take i each) k
    ∙ ap (flat_map restored_one) (ap (λ x. take i each ++ x ∷ []) (sym (get_or_from_slice_get each i k k is)) ∙ sym (take_more each i k (slice_get_within each i k is)))

-- all are told
pub told_all : {A : Type 0} (tells : A → Told) (kept : List KeptState) (xs : List A) (i : ℕ) (told : List Restored) → length xs ≤ i → told ≡ flat_map restored_one (take i (kept_for_each kept (map tells xs))) → told ≡ restored_of kept (map tells xs)
told_all tells kept xs i told le so_far = so_far ∙ ap (flat_map restored_one) (take_all i (kept_for_each kept (map tells xs)) (omega (arith, le, each_count tells kept xs)))
