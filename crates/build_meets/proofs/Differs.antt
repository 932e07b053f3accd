-- How many files differ after one more path changed.
use Rattle.std.proofs.Common.{◌≡◌, ℕ, ◌+◌, Bool, true, false, cond, not, List, [], ◌∷◌, ◌++◌, map, length, T, refl, sym, ap, ◌∙◌, arith}
use Rattle.std.specs.Prelude.{Option, Some, None, IsSomeAnd, is_some, filter}
use Rattle.std.specs.Option.{option_eq, option_or}
use Rattle.std.specs.Ordering.{eq_by_cmp}
use Rattle.std.specs.Str.{bytes_eq}
use Rattle.std.specs.Cmp.Lexicographic.{bytes_decides}
use Rattle.std.specs.FinMap.{get, insert, entries, entries_sorted, from_entries, from_sorted, keys, contains_key, len, find, is_sorted, get-entries, get-from_entries, get-from_sorted, get-insert, len-entries, len-insert, entries-from_sorted, same_map}
use Rattle.std.specs.FinMap.Entries.{find-where_key, is_sorted-where_key}
use Rattle.res_path.specs.Paths.{Names, path_cmp}
use Rattle.res_path.specs.PathLaws.{path_cmp_total}
use Rattle.res_path.proofs.Prefixes.{path_cmp_exact}
use Rattle.builder_api.specs.Files.{Files}
use Rattle.builder_api.proofs.Maps.{same_path}
use Rattle.build_laws.specs.Commits.{differing}
use Rattle.build_laws.proofs.Differing.{find_first}

-- the files differ at the path
abbrev differs : Files → Files → Names → Bool
differs a b q = not (option_eq bytes_eq (get a q) (get b q))

abbrev both : Files → Files → Files
both a b = from_entries (entries a ++ entries b)

-- the entries at which they differ, and their map
abbrev parting : Files → Files → List (Names × List ℕ)
parting a b = filter (λ e. differs a b e.0) (entries (both a b))

abbrev parted : Files → Files → Files
parted a b = from_entries (parting a b)

-- ---- so many

length_keys : (test : Names → Bool) (es : List (Names × List ℕ)) → length (filter test (map (λ e. e.0) es)) ≡ length (filter (λ e. test e.0) es)
length_keys test [] = refl
length_keys test (e ∷ es) = by (test e.0) (length_keys test es)
  where
    by : (b : Bool) → length (filter test (map (λ e. e.0) es)) ≡ length (filter (λ e. test e.0) es)
        → length (cond b (e.0 ∷ filter test (map (λ e. e.0) es)) (filter test (map (λ e. e.0) es))) ≡ length (cond b (e ∷ filter (λ e. test e.0) es) (filter (λ e. test e.0) es))
    by true h = omega arith
    by false h = h

len_sorted : (es : List (Names × List ℕ)) → T (is_sorted path_cmp es) → len (from_entries {R = path_cmp} es) ≡ length es
len_sorted es h = ap len (same_map path_cmp_total path_cmp_exact (from_entries es) (from_sorted es) (λ q. get-from_entries path_cmp_total es q ∙ sym (get-from_sorted path_cmp es q h)))
    ∙ len-entries (from_sorted {R = path_cmp} es) ∙ ap length (entries-from_sorted path_cmp es h)

pub count_is : (a b : Files) → length (differing a b) ≡ len (parted a b)
count_is a b = length_keys (differs a b) (entries (both a b)) ∙ sym (len_sorted (parting a b) (is_sorted-where_key path_cmp (differs a b) (entries (both a b)) (entries_sorted (both a b))))

get-both : (a b : Files) (q : Names) → get (both a b) q ≡ option_or (get a q) (get b q)
get-both a b q = get-from_entries path_cmp_total (entries a ++ entries b) q ∙ find_first q (entries a) (entries b) ∙ (λ i. option_or (sym (get-entries a q) i) (sym (get-entries b q) i))

get-parted : (a b : Files) (q : Names) → get (parted a b) q ≡ cond (differs a b q) (option_or (get a q) (get b q)) None
get-parted a b q = get-from_entries path_cmp_total (parting a b) q
    ∙ find-where_key path_cmp (differs a b) q (λ x h. ap (differs a b) (sym (path_cmp_exact q x h))) (entries (both a b))
    ∙ ap (λ x. cond (differs a b q) x None) (sym (get-entries (both a b) q) ∙ get-both a b q)

-- ---- one more path

same_bytes : (bytes : List ℕ) → bytes_eq bytes bytes ≡ true
same_bytes bytes = (bytes_decides bytes bytes).1 refl

equal_itself : (x : Option (List ℕ)) → option_eq bytes_eq x x ≡ true
equal_itself None = refl
equal_itself (Some bytes) = same_bytes bytes

-- of two that differ one is there
some_either : (x y : Option (List ℕ)) → not (option_eq bytes_eq x y) ≡ true → IsSomeAnd (option_or x y) (λ v. option_or x y ≡ Some v)
some_either None None h = cc
some_either None (Some bytes) h = refl
some_either (Some bytes) y h = refl

module _ (a b c : Files) (p : Names) (was : get b p ≡ get a p) (still : (q : Names) → eq_by_cmp path_cmp q p ≡ false → get c q ≡ get b q) where
  none_yet : get (parted a b) p ≡ None
  none_yet = get-parted a b p ∙ ap (λ x. cond (not (option_eq bytes_eq (get a p) x)) (option_or (get a p) x) None) was ∙ ap (λ e. cond (not e) (option_or (get a p) (get a p)) None) (equal_itself (get a p))

  elsewhere : (q : Names) → eq_by_cmp path_cmp q p ≡ false → get (parted a c) q ≡ get (parted a b) q
  elsewhere q other = get-parted a c q ∙ ap (λ x. cond (not (option_eq bytes_eq (get a q) x)) (option_or (get a q) x) None) (still q other) ∙ sym (get-parted a b q)

  here_same : option_eq bytes_eq (get a p) (get c p) ≡ true → parted a c ≡ parted a b
  here_same same = same_map path_cmp_total path_cmp_exact (parted a c) (parted a b) (λ q. by q (eq_by_cmp path_cmp q p) refl)
    where
      by : (q : Names) (t : Bool) → eq_by_cmp path_cmp q p ≡ t → get (parted a c) q ≡ get (parted a b) q
      by q false other = elsewhere q other
      by q true at = ap (get (parted a c)) (same_path q p at) ∙ get-parted a c p ∙ ap (λ e. cond (not e) (option_or (get a p) (get c p)) None) same
          ∙ sym (ap (get (parted a b)) (same_path q p at) ∙ none_yet)

  here_new : (v : List ℕ) → get (parted a c) p ≡ Some v → parted a c ≡ insert (parted a b) p v
  here_new v there = same_map path_cmp_total path_cmp_exact (parted a c) (insert (parted a b) p v) (λ q. by q (eq_by_cmp path_cmp q p) refl ∙ sym (get-insert path_cmp_total (parted a b) p v q))
    where
      by : (q : Names) (t : Bool) → eq_by_cmp path_cmp q p ≡ t → get (parted a c) q ≡ cond (eq_by_cmp path_cmp q p) (Some v) (get (parted a b) q)
      by q false other = elsewhere q other ∙ sym (ap (λ e. cond e (Some v) (get (parted a b) q)) other)
      by q true at = ap (get (parted a c)) (same_path q p at) ∙ there ∙ sym (ap (λ e. cond e (Some v) (get (parted a b) q)) at)

  -- one more file differs, where it does at p
  pub one_more : length (differing a c) ≡ length (differing a b) + cond (option_eq bytes_eq (get a p) (get c p)) 0 1
  one_more = count_is a c ∙ by (option_eq bytes_eq (get a p) (get c p)) refl ∙ ap (λ n. n + cond (option_eq bytes_eq (get a p) (get c p)) 0 1) (sym (count_is a b))
    where
      grown : (x : Option (List ℕ)) → IsSomeAnd x (λ v. x ≡ Some v) → get (parted a c) p ≡ x → len (parted a c) ≡ len (parted a b) + 1
      grown None h is = absurd h
      grown (Some v) h is = ap len (here_new v is) ∙ len-insert path_cmp_total (parted a b) p v ∙ ap (λ (x : Option (List ℕ)). cond (is_some x) (len (parted a b)) (len (parted a b) + 1)) none_yet

      by : (e : Bool) → option_eq bytes_eq (get a p) (get c p) ≡ e → len (parted a c) ≡ len (parted a b) + cond (option_eq bytes_eq (get a p) (get c p)) 0 1
      by true is = ap len (here_same is) ∙ plus_none (len (parted a b)) ∙ ap (λ e. len (parted a b) + cond e 0 1) (sym is)
        where
          plus_none : (n : ℕ) → n ≡ n + 0
          plus_none n = omega arith
      by false is = grown (option_or (get a p) (get c p)) (some_either (get a p) (get c p) (ap not is)) (get-parted a c p ∙ ap (λ e. cond (not e) (option_or (get a p) (get c p)) None) is)
          ∙ ap (λ e. len (parted a b) + cond e 0 1) (sym is)

-- ---- none

none_passes : (test : Names → Bool) (ks : List Names) → ((q : Names) → test q ≡ false) → length (filter test ks) ≡ 0
none_passes test [] h = refl
none_passes test (k ∷ ks) h = ap (λ b. length (cond b (k ∷ filter test ks) (filter test ks))) (h k) ∙ none_passes test ks h

-- files don't differ from themselves
pub none_differ : (a : Files) → length (differing a a) ≡ 0
none_differ a = none_passes (differs a a) (keys (both a a)) (λ q. ap not (equal_itself (get a q)))
