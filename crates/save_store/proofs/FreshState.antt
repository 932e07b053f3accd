-- The fresh workspace's state is valid.
use Rattle.std.proofs.Common.{◌≡◌, ◌≢◌, ℕ, ◌<◌, ◌≤◌, ◌+◌, ◌^◌, List, [], ◌∷◌, ◌++◌, length, map, Bool, true, false, cond, refl, sym, ◌∙◌, ap, subst, arith, length-append}
use Rattle.std.proofs.lemmas.List.{length-map}
use Rattle.std.specs.Prelude.{Option, Some, None, IfSome, filter, not}
use Rattle.std.specs.declared.cmp.Ordering.{Ordering}
use Rattle.std.specs.List.{All, AllByRecursion}
use Rattle.std.specs.FinMap.{empty, get, contains_key, entries, len, get-empty, len-empty, len-entries, len-insert}
use Rattle.std.specs.Ordering.{nat_cmp}
use Rattle.std.proofs.lemmas.List.Elements.{All-nil, All-cons}
use Rattle.res_path.specs.Paths.{Names, path_cmp}
use Rattle.res_path.specs.PathLaws.{path_cmp_total}
use Rattle.mark_set.specs.Markers.{is_transient}
use Rattle.mark_set.specs.declared.marker.Marker.{Marker}
use Rattle.ws_elem.specs.declared.kind.Kind.TheVariants.{File, Root}
use Rattle.ws_elem.specs.declared.element.Element.{Element}
use Rattle.ws_elem.specs.Elements.{bare}
use Rattle.ws_elem.specs.Stamps.{SameContents, AgreeByStamps}
use Rattle.ws_elem.specs.Trees.{Tree, fresh_tree}
use Rattle.ws_elem.proofs.Fresh.{get-fresh_tree, whole-fresh_tree}
use Rattle.save_form.specs.Laws.{FitEach}
use Rattle.save_elem.specs.declared.elem.Mark.{Mark}
use Rattle.save_elem.specs.declared.elem.Sync.{Sync}
use Rattle.save_elem.specs.Fits.{FitsElem, FitsMark, FitsSync}
use Rattle.save_elem.specs.Sound.{IsSaved, IsSound}
use Rattle.save_elem.specs.Telling.{told, told_mark, told_sync, lasting}
use Rattle.save_build.specs.Told.{IsFit}
use Rattle.save_read.specs.Sayable.{IsSayable}
use Rattle.save_valid.specs.Rules.{Counters, IsBelow, counters_of, AllDiffer, nodes_of}
use Rattle.save_valid.specs.Descriptions.{IsDescribed}
use Rattle.save_format.specs.Valid.{IsLawful, Valid}
use Rattle.save_store.specs.States.{fresh}

-- ---- nothing, and the root alone

no_items : {A : Type 0} (xs : List A) → length xs ≡ 0 → xs ≡ []
no_items [] e = refl
no_items (x ∷ xs) e = absurd (omega (arith, e))

no_entries : {K X : Type 0} (R : K → K → Ordering) → entries (empty {K = K} {X = X} {R = R}) ≡ []
no_entries {X = X} R = no_items (entries empty) (sym (len-entries empty) ∙ len-empty R X)

at_root : (A : Names → Element → Type 0) → A [] (bare Root 1) → (p : Names) → IfSome (get fresh_tree p) (A p)
at_root A h [] = subst (λ (x : Option Element). IfSome x (A [])) (sym (get-fresh_tree [])) h
at_root A h (n ∷ p) = subst (λ (x : Option Element). IfSome x (A (n ∷ p))) (sym (get-fresh_tree (n ∷ p))) tt

nowhere : (A : Names → Element → Type 0) (p : Names) → IfSome (get (empty {X = Element} {R = path_cmp}) p) (A p)
nowhere A p = subst (λ (x : Option Element). IfSome x (A p)) (sym (get-empty path_cmp p)) tt

one_or_none : (b : Bool) (n : ℕ) → n ≡ 0 → cond b n (n + 1) ≤ 1
one_or_none true n e = omega (arith, e)
one_or_none false n e = omega (arith, e)

one_element : len fresh_tree ≤ 1
one_element = subst (λ (n : ℕ). n ≤ 1) (sym (len-insert path_cmp_total empty [] (bare Root 1)))
    (one_or_none (contains_key {R = path_cmp} empty []) (len empty) (len-empty path_cmp Element))

none_there : len (empty {X = Element} {R = path_cmp}) ≡ 0
none_there = len-empty path_cmp Element

-- ---- the root can be told

no_marks : map told_mark (lasting empty) ≡ []
no_marks = ap (λ (es : List (ℕ × Marker)). map told_mark (filtered es)) (no_entries nat_cmp)
  where
    filtered : List (ℕ × Marker) → List Marker
    filtered es = filter (λ m. not (is_transient m)) (map (λ e. e.1) es)

no_syncs : map told_sync (entries (empty {R = nat_cmp})) ≡ []
no_syncs = ap (λ (es : List (ℕ × List ℕ)). map told_sync es) (no_entries nat_cmp)

root_spelled : FitsElem (told (bare Root 1))
root_spelled = record {
  node = omega arith;
  stamp = omega arith;
  desc_stamp = omega arith;
  desc = omega arith;
  bytes = omega arith;
  marks = subst (λ (ms : List Mark). (length ms < 2 ^ 32) × FitEach FitsMark None ms) (sym no_marks) (omega arith, tt);
  syncs = subst (λ (ss : List Sync). (length ss < 2 ^ 32) × FitEach FitsSync None ss) (sym no_syncs) (omega arith, tt);
}

root_sound : IsSound (bare Root 1)
root_sound = record {
  fields = ((refl, refl), ((refl, refl, refl), refl));
  marks = λ id. subst (λ (x : Option Marker). IfSome x (IsSaved id)) (sym (get-empty nat_cmp id)) tt;
}

root_fit : IsFit [] (bare Root 1)
root_fit = record { sound = root_sound; spelled = root_spelled; path = record { names = tt; deep = omega arith; long = omega arith } }

fresh_sayable : IsSayable fresh
fresh_sayable = record {
  next_node = omega arith;
  next_stamp = omega arith;
  next_marker = omega arith;
  partners = (omega arith, tt);
  tree = (at_root IsFit root_fit, omega (arith, one_element));
  shelf = (nowhere IsFit, omega (arith, none_there));
  built = (omega arith, tt);
  kept = (omega arith, tt);
}

-- ---- and is lawful

short_differ : (xs : List ℕ) → length xs ≤ 1 → AllDiffer xs
short_differ [] le = tt
short_differ (x ∷ []) le = (tt, tt)
short_differ (x ∷ y ∷ xs) le = absurd (omega (arith, le))

nodes_short : (t s : Tree) → len t ≤ 1 → len s ≡ 0 → length (nodes_of t ++ nodes_of s) ≤ 1
nodes_short t s one none =
    omega (arith, one, none, len-entries t, len-entries s, length-append (nodes_of t) (nodes_of s), length-map (entries t) (λ (e : Names × Element). e.1.node), length-map (entries s) (λ (e : Names × Element). e.1.node))

root_below : (c : Counters) → 1 < c.node → 0 < c.stamp → IsBelow c (bare Root 1)
root_below c node stamp = record {
  node = node;
  stamp = stamp;
  desc_stamp = stamp;
  marks = subst (λ (es : List (ℕ × Marker)). AllByRecursion (λ m. m.id < c.marker) (map (λ e. e.1) es)) (sym (no_entries nat_cmp)) tt;
  syncs = subst (λ (es : List (ℕ × List ℕ)). AllByRecursion (λ s. s.0 < c.partners) es) (sym (no_entries nat_cmp)) tt;
}

if_on : (A B : Element → Type 0) (x : Option Element) → ((e : Element) → A e → B e) → IfSome x A → IfSome x B
if_on A B None f h = tt
if_on A B (Some e) f h = f e h

if_any : (B : Element → Type 0) (x : Option Element) → ((e : Element) → B e) → IfSome x B
if_any B None f = tt
if_any B (Some e) f = f e

-- no file is there
no_files : (a b : Tree) → ((p : Names) → IfSome (get a p) (λ e. e.kind ≢ File)) → SameContents a b
no_files a b none p q = if_on (λ e. e.kind ≢ File) (λ e. IfSome (get b q) (λ f. e.kind ≡ File → f.kind ≡ File → e.stamp ≡ f.stamp → e.bytes ≡ f.bytes)) (get a p)
    (λ e is. if_any (λ f. e.kind ≡ File → f.kind ≡ File → e.stamp ≡ f.stamp → e.bytes ≡ f.bytes) (get b q) (λ f file. absurd (is file))) (none p)

agrees : (a : Tree) → ((p : Names) → IfSome (get a p) (λ e. e.kind ≢ File)) → All (SameContents a) (empty ∷ fresh_tree ∷ [])
agrees a none = All-cons (SameContents a) empty (fresh_tree ∷ []) (no_files a empty none) (All-cons (SameContents a) fresh_tree [] (no_files a fresh_tree none) (All-nil (SameContents a)))

fresh_agrees : AgreeByStamps (empty ∷ fresh_tree ∷ [])
fresh_agrees =
    let Row : Tree → Type 0 = λ a. All (SameContents a) (empty ∷ fresh_tree ∷ []) in
    All-cons Row empty (fresh_tree ∷ []) (agrees empty (nowhere (λ _ e. e.kind ≢ File)))
    (All-cons Row fresh_tree [] (agrees fresh_tree (at_root (λ _ e. e.kind ≢ File) (λ is. cc))) (All-nil Row))

fresh_lawful : IsLawful fresh
fresh_lawful = record {
  whole = (whole-fresh_tree, tt);
  shelf = nowhere _;
  nodes = short_differ _ (nodes_short fresh_tree empty one_element none_there);
  few = omega (arith, one_element, none_there);
  next_node = omega arith;
  next_stamp = omega arith;
  next_marker = omega arith;
  below = (nowhere (λ _. IsBelow (counters_of fresh)), (at_root (λ _. IsBelow (counters_of fresh)) (root_below (counters_of fresh) (omega arith) (omega arith)), tt));
  partners = tt;
  stamps = fresh_agrees;
  described = (at_root IsDescribed (λ is. cc), tt);
  built = tt;
}

pub fresh_valid : Valid fresh
fresh_valid = record { sayable = fresh_sayable; lawful = fresh_lawful }
