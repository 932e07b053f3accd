-- The slots that aren't empty, as the entries of the tree that they make.
use Rattle.std.proofs.Common.{◌≡◌, ◌≤◌, ◌+◌, ◌-◌, ℕ, suc, Bool, true, false, cond, ◌&&◌, [], ◌∷◌, length, map, T, refl, sym, ap, ◌∙◌, subst, arith}
use Rattle.std.specs.Option.{option_flatten}
use Rattle.std.specs.Prelude.{Option, Some, None, filter}
use Rattle.std.specs.BTreeMap.{is_at}
use Rattle.std.specs.BTreeMap.Range.{range_contains}
use Rattle.std.specs.declared.ops.Bound.TheVariants.{Unbounded}
use Rattle.std.specs.FinMap.{entries, keys, len, from_sorted, is_sorted, get-from_sorted, entries-from_sorted, len-insert, len-remove, len-empty, len-entries, contains_key, same_map}
use Rattle.std.specs.FinMap.Entries.{below_all}
use Rattle.std.specs.List.{AllByRecursion}
use Rattle.std.specs.List.Sorted.{IsStrictlySortedBy}
use Rattle.std.specs.Map.{lookup, keys_of}
use Rattle.std.specs.Ordering.{is_eq, is_lt}
use Rattle.std.specs.declared.cmp.Ordering.TheVariants.{Less}
use Rattle.std.proofs.lemmas.Map.Keys.{sorted_head, sorted_tail}
use Rattle.res_path.specs.Paths.{Names, path_cmp}
use Rattle.res_path.specs.PathLaws.{path_cmp_total}
use Rattle.res_path.proofs.Prefixes.{path_cmp_exact}
use Rattle.ws_elem.specs.declared.element.Element.{Element}
use Rattle.ws_elem.specs.Inside.Slots.{Slots, slot_at, tree_of, unless_empty, filled, agrees}
use Rattle.ws_elem.specs.Trees.{set_at}
use Rattle.ws_elem.proofs.Cuts.{same_at}
use Rattle.ws_elem.proofs.Ordered.{find_is, both}
use Rattle.ws_elem.proofs.Kept.{get-tree_of}

-- ---- in order

below_none : (p : Names) (slots : Slots) → AllByRecursion (λ q. path_cmp p q ≡ Less) (keys_of slots) → slot_at slots p ≡ None
below_none p [] h = refl
below_none p (s ∷ slots) h = ap (λ o. cond (is_eq o) (Some s.1) (slot_at slots p)) h.0 ∙ below_none p slots h.1

below_filled : (p : Names) (slots : Slots) → AllByRecursion (λ q. path_cmp p q ≡ Less) (keys_of slots) → T (below_all path_cmp p (filled slots))
below_filled p [] h = tt
below_filled p (s ∷ slots) h = by s.1 (below_filled p slots h.1)
  where
    by : (x : Option Element) → T (below_all path_cmp p (filled slots)) → T (below_all path_cmp p (unless_empty s.0 x (filled slots)))
    by None g = g
    by (Some e) g = subst (λ o. T (is_lt o && below_all path_cmp p (filled slots))) (sym h.0) g

pub sorted_filled : (slots : Slots) → IsStrictlySortedBy path_cmp (keys_of slots) → T (is_sorted path_cmp (filled slots))
sorted_filled [] h = tt
sorted_filled (s ∷ slots) h = by s.1 (sorted_filled slots (sorted_tail path_cmp s.0 (keys_of slots) h))
  where
    by : (x : Option Element) → T (is_sorted path_cmp (filled slots)) → T (is_sorted path_cmp (unless_empty s.0 x (filled slots)))
    by None g = g
    by (Some e) g = both _ _ (below_filled s.0 slots (sorted_head path_cmp s.0 (keys_of slots) h)) g

found : (slots : Slots) → IsStrictlySortedBy path_cmp (keys_of slots) → (q : Names) → lookup (is_at (path_cmp q)) (filled slots) ≡ option_flatten (slot_at slots q)
found [] h q = refl
found (s ∷ slots) h q = by s.1 (is_at (path_cmp q) s.0) refl (found slots (sorted_tail path_cmp s.0 (keys_of slots) h) q)
  where
    by : (x : Option Element) (b : Bool) → is_at (path_cmp q) s.0 ≡ b → lookup (is_at (path_cmp q)) (filled slots) ≡ option_flatten (slot_at slots q)
        → lookup (is_at (path_cmp q)) (unless_empty s.0 x (filled slots)) ≡ option_flatten (cond b (Some x) (slot_at slots q))
    by None true i g = g ∙ ap option_flatten (ap (slot_at slots) (same_at q s.0 i) ∙ below_none s.0 slots (sorted_head path_cmp s.0 (keys_of slots) h))
    by None false i g = g
    by (Some e) true i g = ap (λ b. cond b (Some e) (lookup (is_at (path_cmp q)) (filled slots))) i
    by (Some e) false i g = ap (λ b. cond b (Some e) (lookup (is_at (path_cmp q)) (filled slots))) i ∙ g

as_filled : (slots : Slots) → IsStrictlySortedBy path_cmp (keys_of slots) → tree_of slots ≡ from_sorted (filled slots)
as_filled slots h = same_map path_cmp_total path_cmp_exact _ _ (λ q.
    get-tree_of slots q ∙ sym (found slots h q) ∙ sym (find_is (filled slots) q) ∙ sym (get-from_sorted path_cmp (filled slots) q (sorted_filled slots h)))

pub entries-tree_of : (slots : Slots) → IsStrictlySortedBy path_cmp (keys_of slots) → entries (tree_of slots) ≡ filled slots
entries-tree_of slots h = ap entries (as_filled slots h) ∙ entries-from_sorted path_cmp (filled slots) (sorted_filled slots h)

pub keys-tree_of : (slots : Slots) → IsStrictlySortedBy path_cmp (keys_of slots) → keys (tree_of slots) ≡ map (λ e. e.0) (filled slots)
keys-tree_of slots h = ap (map (λ e. e.0)) (entries-tree_of slots h)

-- ---- parts

pub filled_filter : (f : Names → Bool) (slots : Slots) → filled (filter (λ s. f s.0) slots) ≡ filter (λ e. f e.0) (filled slots)
filled_filter f [] = refl
filled_filter f (s ∷ slots) = by (f s.0) refl s.1 refl (filled_filter f slots)
  where
    by : (b : Bool) → f s.0 ≡ b → (x : Option Element) → s.1 ≡ x → filled (filter (λ s. f s.0) slots) ≡ filter (λ e. f e.0) (filled slots)
        → filled (cond b (s ∷ filter (λ s. f s.0) slots) (filter (λ s. f s.0) slots)) ≡ filter (λ e. f e.0) (unless_empty s.0 x (filled slots))
    by true i None j h = ap (λ x. unless_empty s.0 x (filled (filter (λ s. f s.0) slots))) j ∙ h
    by true i (Some e) j h = ap (λ x. unless_empty s.0 x (filled (filter (λ s. f s.0) slots))) j ∙ ap (λ es. (s.0, e) ∷ es) h
        ∙ sym (ap (λ b. cond b ((s.0, e) ∷ filter (λ e. f e.0) (filled slots)) (filter (λ e. f e.0) (filled slots))) i)
    by false i None j h = h
    by false i (Some e) j h = h ∙ sym (ap (λ b. cond b ((s.0, e) ∷ filter (λ e. f e.0) (filled slots)) (filter (λ e. f e.0) (filled slots))) i)

pub filter_all : (slots : Slots) → filter (λ s. range_contains path_cmp Unbounded Unbounded s.0) slots ≡ slots
filter_all [] = refl
filter_all (s ∷ slots) = ap (λ rest. s ∷ rest) (filter_all slots)

-- ---- how many

no_more : (n m : ℕ) (b : Bool) → n ≤ m → cond b (n - 1) n ≤ suc m
no_more n m true h = omega arith
no_more n m false h = omega arith

one_more : (n m : ℕ) (b : Bool) → n ≤ m → cond b n (n + 1) ≤ suc m
one_more n m true h = omega arith
one_more n m false h = omega arith

pub len-tree_of : (slots : Slots) → len (tree_of slots) ≤ length slots
len-tree_of [] = subst (λ n. n ≤ 0) (sym (len-empty path_cmp Element)) (omega arith)
len-tree_of (s ∷ slots) = by s.1 (len-tree_of slots)
  where
    by : (x : Option Element) → len (tree_of slots) ≤ length slots → len (set_at (tree_of slots) s.0 x) ≤ suc (length slots)
    by None h = subst (λ n. n ≤ suc (length slots)) (sym (len-remove path_cmp_total (tree_of slots) s.0)) (no_more (len (tree_of slots)) (length slots) (contains_key (tree_of slots) s.0) h)
    by (Some e) h = subst (λ n. n ≤ suc (length slots)) (sym (len-insert path_cmp_total (tree_of slots) s.0 e)) (one_more (len (tree_of slots)) (length slots) (contains_key (tree_of slots) s.0) h)

pub length-filled : (slots : Slots) → length (filled slots) ≤ length slots
length-filled [] = omega arith
length-filled (s ∷ slots) = by s.1 (length-filled slots)
  where
    by : (x : Option Element) → length (filled slots) ≤ length slots → length (unless_empty s.0 x (filled slots)) ≤ suc (length slots)
    by None h = omega arith
    by (Some e) h = omega arith

too_many : (n m : ℕ) → n ≤ m → n ≡ suc m → ⊥
too_many n m h g = omega arith

one_less : (n m : ℕ) → suc n ≡ suc m → n ≡ m
one_less n m h = omega arith

all_filled : (slots : Slots) → length (filled slots) ≡ length slots → (q : Names) → agrees (slot_at slots q) false ≡ true
all_filled [] h q = refl
all_filled (s ∷ slots) h q = by s.1 refl (λ g. all_filled slots g q)
  where
    either : (e : Element) (b : Bool) → agrees (slot_at slots q) false ≡ true → agrees (cond b (Some (Some e)) (slot_at slots q)) false ≡ true
    either e true g = refl
    either e false g = g

    by : (x : Option Element) → s.1 ≡ x → (length (filled slots) ≡ length slots → agrees (slot_at slots q) false ≡ true) → agrees (cond (is_at (path_cmp q) s.0) (Some s.1) (slot_at slots q)) false ≡ true
    by None i rest = absurd (too_many (length (filled slots)) (length slots) (length-filled slots) (ap (λ x. length (unless_empty s.0 x (filled slots))) (sym i) ∙ h))
    by (Some e) i rest = ap (λ x. agrees (cond (is_at (path_cmp q) s.0) (Some x) (slot_at slots q)) false) i
        ∙ either e (is_at (path_cmp q) s.0) (rest (one_less (length (filled slots)) (length slots) (ap (λ x. length (unless_empty s.0 x (filled slots))) (sym i) ∙ h)))

-- where there are as many elements as slots, no slot is empty
pub none_empty : (slots : Slots) → IsStrictlySortedBy path_cmp (keys_of slots) → length slots ≡ len (tree_of slots) → (q : Names) → agrees (slot_at slots q) false ≡ true
none_empty slots s h = all_filled slots (sym (h ∙ len-entries (tree_of slots) ∙ ap length (entries-tree_of slots s)))
