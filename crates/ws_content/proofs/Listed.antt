-- Lists of what stands in maps, told one after another.
use Rattle.std.proofs.Common.{◌≡◌, Bool, true, false, ◌&&◌, T, List, [], ◌∷◌, ◌++◌, map, append-nil, append_assoc, refl, sym, ap, ◌∙◌, subst}
use Rattle.std.specs.Prelude.{Some}
use Rattle.std.specs.List.{AllByRecursion}
use Rattle.std.specs.Cmp.{IsTotalOrder, tied_itself}
use Rattle.std.specs.Ordering.{eq_by_cmp, is_eq, is_lt, ordering_reverse}
use Rattle.std.specs.declared.cmp.Ordering.{Ordering}
use Rattle.std.specs.declared.cmp.Ordering.TheVariants.{Less, Equal, Greater}
use Rattle.std.specs.FinMap.{FinMap, IsAntisymmetric, entries, entries_sorted, entries-from_sorted, find, from_entries, get, get-entries, get-from_entries, get-from_sorted, is_sorted, same_map, values}
use Rattle.std.specs.FinMap.Entries.{below_all}
use Rattle.ws_content.specs.Inside.Held.{mapped}

-- ---- told one after another

-- what is told of these, and what is left to tell, is all that is to be told, where what is there is so of all
pub record IsTelling {A B C : Type 0} (There : A → Type 0) (tells : A → C) (shown : B → C) (all : List A) (done : List B) (rest : List A) : Type 0 where
  pub left : AllByRecursion There all → AllByRecursion There rest
  pub told : AllByRecursion There all → map shown done ++ map tells rest ≡ map tells all

one_more : {B C : Type 0} (shown : B → C) (done : List B) (b : B) → map shown (done ++ b ∷ []) ≡ map shown done ++ shown b ∷ []
one_more shown [] b = refl
one_more shown (d ∷ done) b = ap (λ xs. shown d ∷ xs) (one_more shown done b)

module _ {A B C : Type 0} (There : A → Type 0) (tells : A → C) (shown : B → C) where
  -- nothing is told yet
  pub telling_none : (all : List A) → IsTelling There tells shown all [] all
  telling_none all = record { left = λ h. h; told = λ h. refl }

  -- one more is told
  pub telling_next : (all : List A) (done more : List B) (rest others : List A) (a : A) (b : B) → rest ≡ a ∷ others → more ≡ done ++ b ∷ [] → (There a → shown b ≡ tells a)
      → IsTelling There tells shown all done rest → IsTelling There tells shown all more others
  telling_next all done more rest others a b is added one t = record {
    left = λ h. (parts h).1;
    told = λ h.
        ap (λ xs. map shown xs ++ map tells others) added ∙ ap (λ xs. xs ++ map tells others) (one_more shown done b) ∙ append_assoc (map shown done) (shown b ∷ []) (map tells others)
        ∙ ap (λ c. map shown done ++ c ∷ map tells others) (one (parts h).0) ∙ ap (λ xs. map shown done ++ map tells xs) (sym is) ∙ t.told h;
  }
    where
      parts : AllByRecursion There all → There a × AllByRecursion There others
      parts h = subst (AllByRecursion There) is (t.left h)

  -- nothing is left to tell
  pub telling_done : (all : List A) (done : List B) (rest : List A) → rest ≡ [] → IsTelling There tells shown all done rest → AllByRecursion There all → map shown done ≡ map tells all
  telling_done all done rest is t h = sym (append-nil (map shown done)) ∙ ap (λ xs. map shown done ++ map tells xs) (sym is) ∙ t.told h

pub unmapped : {A : Type 0} (xs : List A) → map (λ x. x) xs ≡ xs
unmapped [] = refl
unmapped (x ∷ xs) = ap (λ ys. x ∷ ys) (unmapped xs)

-- ---- maps

both : (a b : Bool) → T (a && b) → T a × T b
both true b h = (tt, h)
both false b h = absurd h

above : {K : Type 0} {R : K → K → Ordering} → IsTotalOrder R → (a b : K) → T (is_lt (R a b)) → eq_by_cmp R b a ≡ false
above {R = R} o a b h = let e : R b a ≡ Greater = o.antisymm b a ∙ ap ordering_reverse (less (R a b) h) in ap is_eq e
  where
    less : (r : Ordering) → T (is_lt r) → r ≡ Less
    less Less h = refl
    less Equal h = absurd h
    less Greater h = absurd h

module _ {K X : Type 0} {R : K → K → Ordering} (o : IsTotalOrder R) where
  above_is : (k : K) (es : List (K × X)) → T (below_all R k es) → AllByRecursion (λ e. eq_by_cmp R e.0 k ≡ false) es
  above_is k [] h = tt
  above_is k (e ∷ es) h = let p = both _ _ h in (above o k e.0 p.0, above_is k es p.1)

  found_later : (k : K) (x : X) (es all : List (K × X)) → AllByRecursion (λ e. eq_by_cmp R e.0 k ≡ false) es → AllByRecursion (λ e. find R e.0 all ≡ Some e.1) es
      → AllByRecursion (λ e. find R e.0 ((k, x) ∷ all) ≡ Some e.1) es
  found_later k x [] all a b = tt
  found_later k x (e ∷ es) all a b = (rw a.0 b.0, found_later k x es all a.1 b.1)

  each_found : (es : List (K × X)) → T (is_sorted R es) → AllByRecursion (λ e. find R e.0 es ≡ Some e.1) es
  each_found [] h = tt
  each_found (e ∷ es) h =
      let p = both _ _ h in
      let itself : eq_by_cmp R e.0 e.0 ≡ true = ap is_eq (tied_itself o e.0) in
      (rw itself refl, found_later e.0 e.1 es es (above_is e.0 es p.0) (each_found es p.1))

  -- what is so of all that is found is so of all values
  pub all_values : (P : X → Type 0) (m : FinMap R X) → ((q : K) (x : X) → get m q ≡ Some x → P x) → AllByRecursion P (values m)
  all_values P m h = by (entries m) (each_found (entries m) (entries_sorted m))
    where
      by : (es : List (K × X)) → AllByRecursion (λ e. find R e.0 (entries m) ≡ Some e.1) es → AllByRecursion P (map (λ e. e.1) es)
      by [] a = tt
      by (e ∷ es) a = (h e.0 e.1 (get-entries m e.0 ∙ a.0), by es a.1)

module _ {K Y : Type 0} {R : K → K → Ordering} (o : IsTotalOrder R) (same : IsAntisymmetric R) where
  in_order : (es : List (K × Y)) → T (is_sorted R es) → entries (from_entries {R = R} es) ≡ es
  in_order es h = ap entries (same_map o same _ _ (λ q. get-from_entries o es q ∙ sym (get-from_sorted R es q h))) ∙ entries-from_sorted R es h

module _ {K X Y : Type 0} where
  seconds : (f : X → Y) (es : List (K × X)) → map (λ (e : K × Y). e.1) (map (λ (e : K × X). (e.0, f e.1)) es) ≡ map f (map (λ (e : K × X). e.1) es)
  seconds f [] = refl
  seconds f (e ∷ es) = ap (λ ys. f e.1 ∷ ys) (seconds f es)

module _ {K X Y : Type 0} {R : K → K → Ordering} (o : IsTotalOrder R) (same : IsAntisymmetric R) where
  below_mapped : (f : X → Y) (k : K) (es : List (K × X)) → below_all R k (map (λ (e : K × X). (e.0, f e.1)) es) ≡ below_all R k es
  below_mapped f k [] = refl
  below_mapped f k (e ∷ es) = ap (λ b. is_lt (R k e.0) && b) (below_mapped f k es)

  sorted_mapped : (f : X → Y) (es : List (K × X)) → is_sorted R (map (λ (e : K × X). (e.0, f e.1)) es) ≡ is_sorted R es
  sorted_mapped f [] = refl
  sorted_mapped f (e ∷ es) = λ i. below_mapped f e.0 es i && sorted_mapped f es i

  -- the values of a map with other values
  pub values_mapped : (f : X → Y) (m : FinMap R X) → values (mapped f m) ≡ map f (values m)
  values_mapped f m =
      ap (map (λ (e : K × Y). e.1)) (in_order o same (map (λ (e : K × X). (e.0, f e.1)) (entries m)) (subst T (sym (sorted_mapped f (entries m))) (entries_sorted m)))
      ∙ seconds f (entries m)
