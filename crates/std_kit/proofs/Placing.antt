-- Files that are placed don't overlap.
use Rattle.std.proofs.Common.{◌≡◌, ℕ, Bool, true, false, cond, not, ◌||◌, List, [], ◌∷◌, refl, sym, ap, ◌∙◌, subst}
use Rattle.std.specs.Prelude.{Some, None, IsSome}
use Rattle.std.specs.FinMap.{get, insert, keys, empty, get-insert, get-empty}
use Rattle.std.specs.List.{list_any}
use Rattle.std.specs.Ordering.{eq_by_cmp}
use Rattle.res_path.specs.Paths.{Names, path_cmp, is_prefix, overlap}
use Rattle.res_path.specs.PathLaws.{path_cmp_total}
use Rattle.builder_api.specs.Files.{Files}
use Rattle.builder_api.specs.Meanings.{Meaning, IsMeaning}
use Rattle.builder_api.proofs.Maps.{same_path, put_elsewhere}
use Rattle.std_kit.specs.Placed.{AreMade, is_free, with_placed}
use Rattle.std_kit.proofs.Keys.{passes_one, none_passes}

nowhere : (q : Names) → IsSome (get {X = List ℕ} {R = path_cmp} empty q) → ⊥
nowhere q h = let none : IsSome {T = List ℕ} None = subst IsSome (get-empty path_cmp q) h in cc

pub empty_made : AreMade empty
empty_made = record { named = get-empty path_cmp []; apart = λ p q h g over. absurd (nowhere p h) }

-- nothing is in the way of a path that is free
clear : (m : Files) (p q : Names) → is_free m p ≡ true → IsSome (get m q) → overlap p q ≡ true → ⊥
clear m [] q free there over = cc
clear m (n ∷ p) q free there over = let taken : list_any (overlap (n ∷ p)) (keys m) ≡ true = passes_one m (overlap (n ∷ p)) q there over in
    let never : false ≡ true = sym (ap not taken) ∙ free in cc

turned : (p q : Names) → overlap p q ≡ overlap q p
turned p q = by (is_prefix p q) (is_prefix q p)
  where
    by : (a b : Bool) → (a || b) ≡ (b || a)
    by true true = refl
    by true false = refl
    by false true = refl
    by false false = refl

one_more : (m : Files) → AreMade m → (k : Names) (bytes : List ℕ) → is_free m k ≡ true → (p q : Names) → IsSome (get (insert m k bytes) p) → IsSome (get (insert m k bytes) q) → overlap p q ≡ true → p ≡ q
one_more m made k bytes free p q h g over =
    by (eq_by_cmp path_cmp p k) refl (eq_by_cmp path_cmp q k) refl (subst IsSome (get-insert path_cmp_total m k bytes p) h) (subst IsSome (get-insert path_cmp_total m k bytes q) g)
  where
    by : (a : Bool) → eq_by_cmp path_cmp p k ≡ a → (b : Bool) → eq_by_cmp path_cmp q k ≡ b → IsSome (cond a (Some bytes) (get m p)) → IsSome (cond b (Some bytes) (get m q)) → p ≡ q
    by true i true j h g = same_path p k i ∙ sym (same_path q k j)
    by true i false j h g = absurd (clear m k q free g (ap (λ x. overlap x q) (sym (same_path p k i)) ∙ over))
    by false i true j h g = absurd (clear m k p free h (ap (λ x. overlap x p) (sym (same_path q k j)) ∙ turned q p ∙ over))
    by false i false j h g = made.apart p q h g over

still_named : (m : Files) → get m [] ≡ None → (k : Names) (bytes : List ℕ) → is_free m k ≡ true → get (insert m k bytes) [] ≡ None
still_named m h [] bytes free = cc
still_named m h (n ∷ k) bytes free = put_elsewhere m (n ∷ k) bytes [] (λ e. cc) ∙ h

pub inserted_made : (m : Files) → AreMade m → (k : Names) (bytes : List ℕ) → is_free m k ≡ true → AreMade (insert m k bytes)
inserted_made m made k bytes free = record { named = still_named m made.named k bytes free; apart = one_more m made k bytes free }

-- placing keeps them so
pub placed_made : (m : Files) (k : Names) (bytes : List ℕ) → AreMade m → AreMade (with_placed m k bytes)
placed_made m k bytes made = by (is_free m k) refl
  where
    by : (b : Bool) → is_free m k ≡ b → AreMade (cond b (insert m k bytes) m)
    by true free = inserted_made m made k bytes free
    by false free = made

none_in_way : (p : Names) → list_any (overlap p) (keys {X = List ℕ} {R = path_cmp} empty) ≡ false
none_in_way p = sym (none_passes empty (overlap p) (λ q h. get-empty path_cmp q))

-- among no files each path with a name is free
pub placed_first : (name : List ℕ) (r : Names) (bytes : List ℕ) → with_placed empty (name ∷ r) bytes ≡ insert empty (name ∷ r) bytes
placed_first name r bytes = ap (λ b. cond (not b) (insert empty (name ∷ r) bytes) empty) (none_in_way (name ∷ r))

-- what always makes such files is a meaning
pub meaning_of : (m : Meaning) → ((c : _) (f : Files) → AreMade (m c f).files) → IsMeaning m
meaning_of m made = record { named = λ c f. (made c f).named; apart = λ c f. (made c f).apart }
