-- A map that is built by going through the ids of another.
use Rattle.std.proofs.Common.{◌≡◌, ◌+◌, ◌||◌, ◌≤◌, length, append_assoc, ℕ, Bool, true, false, cond, List, [], ◌∷◌, ◌++◌, ◌&&◌, nat_eq, nat_cmp, refl, sym, ap, subst, ◌∙◌}
use Rattle.std.specs.Prelude.{Option, Some, None}
use Rattle.std.specs.List.{list_any}
use Rattle.std.specs.FinMap.{FinMap, get, insert, empty, get-empty}
use Rattle.std.proofs.lemmas.List.Folds.{list_any-append}
use Rattle.std.proofs.lemmas.Bool.{eqb-true}
use Rattle.std.proofs.lemmas.Grind.{take_at_read}
use Rattle.std.proofs.lemmas.Option.{slice_get_within, get_or_from_slice_get}
use Rattle.std.proofs.lemmas.List.{map-append, take_all}
use Rattle.std.specs.Cmp.{nat_cmp_total}
use Rattle.std.specs.Ordering.{eq_by_cmp, is_lt}
use Rattle.std.specs.Map.{lookup, keys_of}
use Rattle.std.specs.List.{slice_get, filter_map, cons_option}
use Rattle.std.specs.Prelude.{is_some, option_map, take, map, T}
use Rattle.std.specs.FinMap.{entries, keys, values, get-from_entries, find, from_entries, from_sorted, get-entries, get-from_sorted, entries-from_sorted, entries_sorted, is_sorted, contains_key-keys}
use Rattle.std.specs.FinMap.Entries.{below_all}
use Rattle.mark_set.specs.Deltas.{added, came, difference, difference_at, differences, marker_deltas}
use Rattle.mark_set.specs.Markers.{Marks}
use Rattle.mark_set.specs.declared.marker.Marker.{Marker}
use Rattle.mark_set.specs.declared.delta.MarkerDelta.{MarkerDelta}
use Rattle.mark_set.specs.Inside.Builds.{Covers, with_some}
use Rattle.mark_set.proofs.Ids.{get_insert, get_is, same_gets, ties}

module _ {Y : Type 0} (pick : ℕ → Option Y) where
  pub covers_none : Covers pick empty []
  covers_none q = get-empty nat_cmp q

  put_case : (t a : Bool) (x : Option Y) (y : Y) → (t ≡ true → x ≡ Some y) → cond t (Some y) (cond a x None) ≡ cond (a || (t || false)) x None
  put_case true true x y h = sym (h refl)
  put_case true false x y h = sym (h refl)
  put_case false true x y h = refl
  put_case false false x y h = refl

  skip_case : (t a : Bool) (x : Option Y) → (t ≡ true → x ≡ None) → cond a x None ≡ cond (a || (t || false)) x None
  skip_case true true x h = refl
  skip_case true false x h = sym (h refl)
  skip_case false true x h = refl
  skip_case false false x h = refl

  again_case : (t a : Bool) (x : Option Y) → (t ≡ true → a ≡ true) → cond a x None ≡ cond (a || (t || false)) x None
  again_case true true x h = refl
  again_case true false x h = let no : false ≡ true = h refl in cc
  again_case false true x h = refl
  again_case false false x h = refl

  more : (ids : List ℕ) (k q : ℕ) → list_any (nat_eq q) (ids ++ k ∷ []) ≡ (list_any (nat_eq q) ids || (nat_eq q k || false))
  more ids k q = list_any-append (nat_eq q) ids (k ∷ [])

  pub covers_put : (built : FinMap nat_cmp Y) (ids : List ℕ) (k : ℕ) (y : Y) → Covers pick built ids → pick k ≡ Some y → Covers pick (insert built k y) (ids ++ k ∷ [])
  covers_put built ids k y covers is q =
      get_insert built k y q ∙ ap (cond (nat_eq q k) (Some y)) (covers q)
      ∙ put_case (nat_eq q k) (list_any (nat_eq q) ids) (pick q) y (λ t. ap pick (eqb-true q k t) ∙ is)
      ∙ sym (ap (λ b. cond b (pick q) None) (more ids k q))

  pub covers_skip : (built : FinMap nat_cmp Y) (ids : List ℕ) (k : ℕ) → Covers pick built ids → pick k ≡ None → Covers pick built (ids ++ k ∷ [])
  covers_skip built ids k covers is q =
      covers q ∙ skip_case (nat_eq q k) (list_any (nat_eq q) ids) (pick q) (λ t. ap pick (eqb-true q k t) ∙ is)
      ∙ sym (ap (λ b. cond b (pick q) None) (more ids k q))

  pub covers_again : (built : FinMap nat_cmp Y) (ids : List ℕ) (k : ℕ) → Covers pick built ids → list_any (nat_eq k) ids ≡ true → Covers pick built (ids ++ k ∷ [])
  covers_again built ids k covers is q =
      covers q ∙ again_case (nat_eq q k) (list_any (nat_eq q) ids) (pick q) (λ t. ap (λ (x : ℕ). list_any (nat_eq x) ids) (eqb-true q k t) ∙ is)
      ∙ sym (ap (λ b. cond b (pick q) None) (more ids k q))

  pub covers_all : (built : FinMap nat_cmp Y) (ids : List ℕ) → Covers pick built ids → ((q : ℕ) → list_any (nat_eq q) ids ≡ false → pick q ≡ None) → (q : ℕ) → get built q ≡ pick q
  covers_all built ids covers rest q = covers q ∙ go (list_any (nat_eq q) ids) refl where
    go : (b : Bool) → list_any (nat_eq q) ids ≡ b → cond b (pick q) None ≡ pick q
    go true e = refl
    go false e = sym (rest q e)

  -- one more id, with what is picked for it
  pub covers_step : (built : FinMap nat_cmp Y) (ids : List ℕ) (k : ℕ) (o : Option Y) → Covers pick built ids → pick k ≡ o → Covers pick (with_some built k o) (ids ++ k ∷ [])
  covers_step built ids k (Some y) covers is = covers_put built ids k y covers is
  covers_step built ids k None covers is = covers_skip built ids k covers is

  here_case : (t a : Bool) (x : Option Y) (y : Y) → (t ≡ true → x ≡ Some y) → cond t (Some y) (cond a x None) ≡ cond (t || a) x None
  here_case true a x y h = sym (h refl)
  here_case false a x y h = refl

  there_case : (t a : Bool) (x : Option Y) → (t ≡ true → x ≡ None) → cond a x None ≡ cond (t || a) x None
  there_case true true x h = refl
  there_case true false x h = sym (h refl)
  there_case false a x h = refl

  picked_from : (k q : ℕ) (o : Option Y) (es : List (ℕ × Y)) (a : Bool) → pick k ≡ o → find nat_cmp q es ≡ cond a (pick q) None
      → find nat_cmp q (cons_option (option_map (λ y. (k, y)) o) es) ≡ cond (nat_eq q k || a) (pick q) None
  picked_from k q (Some y) es a e rest =
      ap (λ b. cond b (Some y) (find nat_cmp q es)) (ties q k) ∙ ap (cond (nat_eq q k) (Some y)) rest ∙ here_case (nat_eq q k) a (pick q) y (λ t. ap pick (eqb-true q k t) ∙ e)
  picked_from k q None es a e rest = rest ∙ there_case (nat_eq q k) a (pick q) (λ t. ap pick (eqb-true q k t) ∙ e)

  -- the first value for an id among those picked for a list of ids
  pub find_picked : (ids : List ℕ) (q : ℕ) → find nat_cmp q (filter_map (λ id. option_map (λ y. (id, y)) (pick id)) ids) ≡ cond (list_any (nat_eq q) ids) (pick q) None
  find_picked [] q = refl
  find_picked (k ∷ ids) q = picked_from k q (pick k) _ (list_any (nat_eq q) ids) refl (find_picked ids q)

-- the entry at a place is the next one
pub take_next : {X : Type 0} (es : List X) (i : ℕ) (e : X) → slice_get es i ≡ Some e → take (i + 1) es ≡ take i es ++ e ∷ []
take_next es i e h = (take_at_read es i e (slice_get_within es i e h)).1 ∙ ap (λ x. take i es ++ x ∷ []) (get_or_from_slice_get es i e e h)

pub keys_next : {X : Type 0} (es : List (ℕ × X)) (i : ℕ) (e : ℕ × X) → slice_get es i ≡ Some e → keys_of (take (i + 1) es) ≡ keys_of (take i es) ++ e.0 ∷ []
keys_next {X = X} es i e h = ap (λ l. keys_of l) (take_next es i e h) ∙ map-append (λ (x : ℕ × X). x.0) (take i es) (e ∷ [])

-- an id that no entry has
pub is_some_lookup : {X : Type 0} (es : List (ℕ × X)) (q : ℕ) → is_some (lookup (nat_eq q) es) ≡ list_any (nat_eq q) (keys_of es)
is_some_lookup [] q = refl
is_some_lookup (e ∷ es) q = elim (nat_eq q e.0) as (λ b. is_some (cond b (Some e.1) (lookup (nat_eq q) es)) ≡ (b || list_any (nat_eq q) (keys_of es))) [ true ↦ refl | false ↦ is_some_lookup es q ]

module _ {X : Type 0} where
  -- the ids alone
  abbrev shadow : List (ℕ × X) → List (ℕ × Unit {0})
  shadow es = map (λ e. (e.0, tt)) es

  below_shadow : (k : ℕ) (es : List (ℕ × X)) → below_all nat_cmp k (shadow es) ≡ below_all nat_cmp k es
  below_shadow k [] = refl
  below_shadow k (e ∷ es) = ap (λ b. is_lt (nat_cmp k e.0) && b) (below_shadow k es)

  sorted_shadow : (es : List (ℕ × X)) → is_sorted nat_cmp (shadow es) ≡ is_sorted nat_cmp es
  sorted_shadow [] = refl
  sorted_shadow (e ∷ es) = ap (λ b. b && is_sorted nat_cmp (shadow es)) (below_shadow e.0 es) ∙ ap (λ b. below_all nat_cmp e.0 es && b) (sorted_shadow es)

  find_shadow : (q : ℕ) (es : List (ℕ × X)) → find nat_cmp q (shadow es) ≡ option_map (λ _. tt) (find nat_cmp q es)
  find_shadow q [] = refl
  find_shadow q (e ∷ es) = elim (eq_by_cmp nat_cmp q e.0) as (λ b. cond b (Some tt) (find nat_cmp q (shadow es)) ≡ option_map (λ _. tt) (cond b (Some e.1) (find nat_cmp q es))) [ true ↦ refl | false ↦ find_shadow q es ]

  keys_shadow : (es : List (ℕ × X)) → keys_of (shadow es) ≡ keys_of es
  keys_shadow [] = refl
  keys_shadow (e ∷ es) = ap (λ ks. e.0 ∷ ks) (keys_shadow es)

  -- maps with the same ids have the same keys
  pub same_keys : (m : FinMap nat_cmp (Unit {0})) (n : FinMap nat_cmp X) → ((q : ℕ) → get m q ≡ option_map (λ _. tt) (get n q)) → keys m ≡ keys n
  same_keys m n h =
      let es = entries n in
      let sorted : T (is_sorted nat_cmp (shadow es)) = subst T (sym (sorted_shadow es)) (entries_sorted n) in
      let is : m ≡ from_sorted (shadow es) = same_gets m (from_sorted (shadow es)) (λ q. h q ∙ ap (λ o. option_map (λ _. tt) o) (get-entries n q) ∙ sym (find_shadow q es) ∙ sym (get-from_sorted nat_cmp (shadow es) q sorted)) in
      ap (λ (x : FinMap nat_cmp (Unit {0})). keys x) is ∙ ap (λ (l : List (ℕ × Unit {0})). keys_of l) (entries-from_sorted nat_cmp (shadow es) sorted) ∙ keys_shadow es

none_of : {A : Type 0} (o : Option A) → is_some o ≡ false → o ≡ None
none_of None e = refl
none_of (Some x) e = absurd cc

pub none_there : {X : Type 0} (es : List (ℕ × X)) (q : ℕ) → list_any (nat_eq q) (keys_of es) ≡ false → get (from_entries {R = nat_cmp} es) q ≡ None
none_there es q h = get_is es q ∙ none_of (lookup (nat_eq q) es) (is_some_lookup es q ∙ h)

tied_any : (ids : List ℕ) (q : ℕ) → list_any (eq_by_cmp nat_cmp q) ids ≡ list_any (nat_eq q) ids
tied_any [] q = refl
tied_any (k ∷ ids) q = ap (λ b. b || list_any (eq_by_cmp nat_cmp q) ids) (ties q k) ∙ ap (λ b. nat_eq q k || b) (tied_any ids q)

none_key : {X : Type 0} (m : FinMap nat_cmp X) (q : ℕ) → list_any (nat_eq q) (keys m) ≡ false → get m q ≡ None
none_key m q h = none_of (get m q) (contains_key-keys m q ∙ tied_any (keys m) q ∙ h)

neither : (a b : Bool) → (a || b) ≡ false → (a ≡ false) × (b ≡ false)
neither true b e = absurd cc
neither false b e = (refl, e)

pub neither_has : (xs ys : List ℕ) (q : ℕ) → list_any (nat_eq q) (xs ++ ys) ≡ false → (list_any (nat_eq q) xs ≡ false) × (list_any (nat_eq q) ys ≡ false)
neither_has xs ys q h = neither _ _ (sym (list_any-append (nat_eq q) xs ys) ∙ h)

-- an id that is in the first list is in both
pub told_in_front : {X : Type 0} (es : List (ℕ × X)) (ids : List ℕ) (q : ℕ) → is_some (lookup (nat_eq q) es) ≡ true → list_any (nat_eq q) (keys_of es ++ ids) ≡ true
told_in_front es ids q t = list_any-append (nat_eq q) (keys_of es) ids ∙ ap (λ b. b || list_any (nat_eq q) ids) (sym (is_some_lookup es q) ∙ t)

-- one more entry of a list that is walked behind ids that are done
pub walked : {X Y : Type 0} (pick : ℕ → Option Y) (done : List ℕ) (es : List (ℕ × X)) (i k : ℕ) (x : X) (more new : FinMap nat_cmp Y)
    → slice_get es i ≡ Some (k, x) → new ≡ more → Covers pick more ((done ++ keys_of (take i es)) ++ k ∷ []) → Covers pick new (done ++ keys_of (take (i + 1) es))
walked {Y = Y} pick done es i k x more new at is covers =
    let regrouped : (done ++ keys_of (take i es)) ++ k ∷ [] ≡ done ++ keys_of (take (i + 1) es) =
    append_assoc done (keys_of (take i es)) (k ∷ []) ∙ ap (λ l. done ++ l) (sym (keys_next es i (k, x) at)) in
    subst (λ (ids : List ℕ). Covers pick new ids) regrouped (subst (λ (m : FinMap nat_cmp Y). Covers pick m ((done ++ keys_of (take i es)) ++ k ∷ [])) (sym is) covers)

-- the walk is over
pub walked_all : {X Y : Type 0} (pick : ℕ → Option Y) (done : List ℕ) (es : List (ℕ × X)) (i : ℕ) (built : FinMap nat_cmp Y)
    → length es ≤ i → Covers pick built (done ++ keys_of (take i es)) → Covers pick built (done ++ keys_of es)
walked_all {X = X} pick done es i built over covers = subst (λ (l : List (ℕ × X)). Covers pick built (done ++ keys_of l)) (take_all i es over) covers

-- a marker that is there now: one that was there too has been told already
pub covers_came : (pick : ℕ → Option MarkerDelta) (built : FinMap nat_cmp MarkerDelta) (ids : List ℕ) (k : ℕ) (before : Option Marker) (after : Marker)
    → Covers pick built ids → pick k ≡ difference before (Some after) → (is_some before ≡ true → list_any (nat_eq k) ids ≡ true) → Covers pick (with_some built k (came before after)) (ids ++ k ∷ [])
covers_came pick built ids k (Some x) after covers is told = covers_again pick built ids k covers (told refl)
covers_came pick built ids k None after covers is told = covers_put pick built ids k (added after) covers is

-- what became of a marker with an id
pub get_differences : (old new : Marks) (q : ℕ) → get (differences old new) q ≡ difference (get old q) (get new q)
get_differences old new q =
    let pick : ℕ → Option MarkerDelta = λ id. difference (get old id) (get new id) in
    covers_all pick (differences old new) (keys old ++ keys new) (λ id. get-from_entries nat_cmp_total _ id ∙ find_picked pick (keys old ++ keys new) id)
    (λ id h. let apart = neither_has (keys old) (keys new) id h in ap (λ x. difference x (get new id)) (none_key old id apart.0) ∙ ap (λ x. difference None x) (none_key new id apart.1)) q

-- what the two walks find is what became of each marker
pub deltas_are : (os ns : List (ℕ × Marker)) (found : FinMap nat_cmp MarkerDelta) → Covers (difference_at os ns) found (keys_of os ++ keys_of ns) → values found ≡ marker_deltas (from_entries os) (from_entries ns)
unfolding marker_deltas
deltas_are os ns found covers =
    let old = from_entries {R = nat_cmp} os in
    let new = from_entries {R = nat_cmp} ns in
    let here : (q : ℕ) → get found q ≡ difference_at os ns q = covers_all (difference_at os ns) found (keys_of os ++ keys_of ns) covers
    (λ q h. let apart = neither_has (keys_of os) (keys_of ns) q h in ap (λ x. difference x (get new q)) (none_there os q apart.0) ∙ ap (λ x. difference None x) (none_there ns q apart.1)) in
    ap (λ (m : FinMap nat_cmp MarkerDelta). values m) (same_gets found (differences old new) (λ q. here q ∙ sym (get_differences old new q)))
