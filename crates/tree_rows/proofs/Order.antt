-- Entries in path order.
use Rattle.std.proofs.Common.{◌≡◌, Bool, true, false, cond, ◌&&◌, [], ◌∷◌, T, refl, sym, ap, ◌∙◌}
use Rattle.std.specs.Prelude.{Option, Some, None}
use Rattle.std.specs.declared.cmp.Ordering.{Ordering}
use Rattle.std.specs.declared.cmp.Ordering.TheVariants.{Less, Equal, Greater}
use Rattle.std.specs.FinMap.{entries, entries_sorted, find, is_sorted}
use Rattle.std.specs.Ordering.{is_lt, is_eq, ordering_reverse}
use Rattle.res_path.specs.Paths.{Names, path_cmp, path_eq}
use Rattle.res_path.specs.PathLaws.{path_cmp_total, path_ties}
use Rattle.res_path.proofs.Prefixes.{path_cmp_exact}
use Rattle.ws_elem.specs.declared.element.Element.{Element}
use Rattle.ws_elem.specs.Trees.{Tree}
use Rattle.tree_rows.specs.Rows.{IsAbove}
use Rattle.tree_rows.specs.Inside.Pairs.{Listed}

pub less : (o : Ordering) → is_lt o ≡ true → o ≡ Less
less Less h = refl
less Equal h = absurd cc
less Greater h = absurd cc

pub is_less : (o : Ordering) → T (is_lt o) → is_lt o ≡ true
is_less Less h = refl
is_less Equal h = absurd h
is_less Greater h = absurd h

is_equal : (o : Ordering) → is_eq o ≡ true → o ≡ Equal
is_equal Less h = absurd cc
is_equal Equal h = refl
is_equal Greater h = absurd cc

pub greater_is : (p q : Names) → path_cmp p q ≡ Greater → path_cmp q p ≡ Less
greater_is p q e = path_cmp_total.antisymm q p ∙ ap ordering_reverse e

pub above_more : (l : Option Names) (p q : Names) → IsAbove l p → path_cmp p q ≡ Less → IsAbove l q
above_more None p q h g = tt
above_more (Some l) p q h g = ap is_lt (path_cmp_total.trans l p q (less _ h) g)

-- entries whose paths rise, from the path on if there is one
abbrev pub Listing : Option Names → Listed → Type 0
Listing l [] = Unit {0}
Listing l (x ∷ xs) = IsAbove l x.0 × Listing (Some x.0) xs

listing_lower : (l : Option Names) (p : Names) (xs : Listed) → IsAbove l p → Listing (Some p) xs → Listing l xs
listing_lower l p [] h g = tt
listing_lower l p (x ∷ xs) h g = (above_more l p x.0 h (less _ g.0), g.1)

-- a path below all is not found
pub find_missing : (p : Names) (xs : Listed) → Listing (Some p) xs → find path_cmp p xs ≡ None
find_missing p [] h = refl
find_missing p (x ∷ xs) h = ap (λ o. cond (is_eq o) (Some x.1) (find path_cmp p xs)) (less _ h.0) ∙ find_missing p xs (listing_lower (Some p) x.0 xs h.0 h.1)

-- ---- a map's entries

one : (a b : Bool) → T (a && b) → T a
one true b h = tt
one false b h = h

two : (a b : Bool) → T (a && b) → T b
two true b h = h
two false b h = absurd h

entries_from : (e : Names × Element) (es : Listed) → T (is_sorted path_cmp (e ∷ es)) → Listing (Some e.0) es
entries_from e [] h = tt
entries_from e (f ∷ es) h = (is_less _ (one _ _ (one _ _ h)), entries_from f es (two _ _ h))

rising : (es : Listed) → T (is_sorted path_cmp es) → Listing None es
rising [] h = tt
rising (e ∷ es) h = (tt, entries_from e es h)

pub entries_rise : (m : Tree) → Listing None (entries m)
entries_rise m = rising (entries m) (entries_sorted m)

-- ---- two paths

turned_same : (o : Ordering) → is_eq (ordering_reverse o) ≡ is_eq o
turned_same Less = refl
turned_same Equal = refl
turned_same Greater = refl

pub met : (p q : Names) → path_eq q p ≡ is_eq (path_cmp p q)
met p q = path_ties q p ∙ ap is_eq (path_cmp_total.antisymm q p) ∙ turned_same (path_cmp p q)

pub missed : (p q : Names) → is_eq (path_cmp p q) ≡ true → p ≡ q
missed p q e = path_cmp_exact p q (is_equal _ e)

pub apart : (p q : Names) → is_lt (path_cmp p q) ≡ true → is_eq (path_cmp p q) ≡ true → ⊥
apart p q low e = let n : Less ≡ Equal = sym (less _ low) ∙ is_equal _ e in cc
