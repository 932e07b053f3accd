-- Files that differ nowhere are the same.
use Rattle.std.proofs.Common.{◌≡◌, ℕ, Bool, true, false, cond, not, ◌||◌, List, [], ◌∷◌, ◌++◌, length, refl, sym, ap, ◌∙◌, Option, Some, None, arith}
use Rattle.std.specs.Prelude.{is_some, filter}
use Rattle.std.specs.Option.{option_eq, option_or}
use Rattle.std.specs.List.{list_any}
use Rattle.std.specs.Ordering.{eq_by_cmp}
use Rattle.std.specs.Str.{bytes_eq}
use Rattle.std.specs.Cmp.Lexicographic.{bytes_decides}
use Rattle.std.specs.FinMap.{get, entries, from_entries, keys, contains_key, contains_key-keys, find, get-from_entries, get-entries}
use Rattle.res_path.specs.Paths.{Names, path_cmp}
use Rattle.res_path.specs.PathLaws.{path_cmp_total}
use Rattle.builder_api.specs.Files.{Files}
use Rattle.builder_api.proofs.Maps.{same_files, same_path}
use Rattle.build_laws.specs.Commits.{differing}

pub find_first : (q : Names) (es ds : List (Names × List ℕ)) → find path_cmp q (es ++ ds) ≡ option_or (find path_cmp q es) (find path_cmp q ds)
find_first q [] ds = refl
find_first q (e ∷ es) ds = by (eq_by_cmp path_cmp q e.0) (find_first q es ds)
  where
    by : (b : Bool) → find path_cmp q (es ++ ds) ≡ option_or (find path_cmp q es) (find path_cmp q ds) → cond b (Some e.1) (find path_cmp q (es ++ ds)) ≡ option_or (cond b (Some e.1) (find path_cmp q es)) (find path_cmp q ds)
    by true h = refl
    by false h = h

no_length : (xs : List Names) → length xs ≡ 0 → xs ≡ []
no_length [] h = refl
no_length (x ∷ xs) h = absurd (omega arith)

same_bytes : (a b : Option (List ℕ)) → not (option_eq bytes_eq a b) ≡ false → a ≡ b
same_bytes None None h = refl
same_bytes None (Some y) h = cc
same_bytes (Some x) None h = cc
same_bytes (Some x) (Some y) h = ap Some ((bytes_decides x y).0 (by (bytes_eq x y) h))
  where
    by : (t : Bool) → not t ≡ false → t ≡ true
    by true h = refl
    by false h = cc

-- a test that passes none of a list fails at each
fails : (test : Names → Bool) (ks : List Names) → filter test ks ≡ [] → (q : Names) → list_any (eq_by_cmp path_cmp q) ks ≡ true → test q ≡ false
fails test [] none q is = cc
fails test (k ∷ ks) none q is = by (test k) refl none (eq_by_cmp path_cmp q k) refl is (λ n i. fails test ks n q i)
  where
    by : (t : Bool) → test k ≡ t → cond t (k ∷ filter test ks) (filter test ks) ≡ [] → (b : Bool) → eq_by_cmp path_cmp q k ≡ b → (b || list_any (eq_by_cmp path_cmp q) ks) ≡ true
        → (filter test ks ≡ [] → list_any (eq_by_cmp path_cmp q) ks ≡ true → test q ≡ false) → test q ≡ false
    by true e none b f is next = cc
    by false e none true f is next = ap test (same_path q k f) ∙ e
    by false e none false f is next = next none is

both_none : (x y : Option (List ℕ)) → option_or x y ≡ None → x ≡ y
both_none None None h = refl
both_none None (Some y) h = cc
both_none (Some x) y h = cc

absent : (x : Option (List ℕ)) → is_some x ≡ false → x ≡ None
absent None h = refl
absent (Some x) h = cc

abbrev joined : Files → Files → Files
joined a b = from_entries (entries a ++ entries b)

pub no_difference : (a b : Files) → length (differing a b) ≡ 0 → a ≡ b
no_difference a b h = same_files a b (λ q. by q (contains_key (joined a b) q) refl)
  where
    by : (q : Names) (t : Bool) → contains_key (joined a b) q ≡ t → get a q ≡ get b q
    by q true e = same_bytes (get a q) (get b q) (fails (λ p. not (option_eq bytes_eq (get a p) (get b p))) (keys (joined a b)) (no_length (differing a b) h) q (sym (contains_key-keys (joined a b) q) ∙ e))
    by q false e = both_none (get a q) (get b q) (sym (get-from_entries path_cmp_total (entries a ++ entries b) q ∙ find_first q (entries a) (entries b) ∙ (λ i. option_or (sym (get-entries a q) i) (sym (get-entries b q) i))) ∙ absent (get (joined a b) q) e)
