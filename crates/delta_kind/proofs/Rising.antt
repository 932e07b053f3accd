-- Paths that rise.
use Rattle.std.proofs.Common.{◌≡◌, Bool, true, false, cond, ◌&&◌, List, [], ◌∷◌, map, T, refl, ap, ◌∙◌}
use Rattle.std.specs.Prelude.{Option, Some, None}
use Rattle.std.specs.declared.cmp.Ordering.{Ordering}
use Rattle.std.specs.declared.cmp.Ordering.TheVariants.{Less, Equal, Greater}
use Rattle.std.specs.FinMap.{FinMap, entries, keys, entries_sorted, find, is_sorted}
use Rattle.std.specs.List.{AllByRecursion}
use Rattle.std.specs.List.Sorted.{IsStrictlySortedBy}
use Rattle.std.specs.Ordering.{is_eq, is_lt}
use Rattle.std.proofs.lemmas.Map.Keys.{sorted_head, sorted_tail}
use Rattle.res_path.specs.Paths.{Names, path_cmp}
use Rattle.res_path.specs.PathLaws.{path_cmp_total}

-- p is above the path, if there is one
abbrev pub Over : Option Names → Names → Type 0
Over None p = Unit {0}
Over (Some l) p = path_cmp l p ≡ Less

-- the paths rise from the one on, if there is one
abbrev pub Rises : Option Names → List Names → Type 0
Rises l [] = Unit {0}
Rises l (p ∷ ps) = Over l p × Rises (Some p) ps

pub over_more : (l : Option Names) (p q : Names) → Over l p → path_cmp p q ≡ Less → Over l q
over_more None p q h g = tt
over_more (Some l) p q h g = path_cmp_total.trans l p q h g

-- what rises from p on rises from a path below p on
pub rises_lower : (l : Option Names) (p : Names) (ps : List Names) → Over l p → Rises (Some p) ps → Rises l ps
rises_lower l p [] h g = tt
rises_lower l p (q ∷ ps) h g = (over_more l p q h g.0, g.1)

all_lower : (p q : Names) (ps : List Names) → path_cmp p q ≡ Less → AllByRecursion (λ r. path_cmp q r ≡ Less) ps → AllByRecursion (λ r. path_cmp p r ≡ Less) ps
all_lower p q [] h g = tt
all_lower p q (r ∷ ps) h g = (path_cmp_total.trans p q r h g.0, all_lower p q ps h g.1)

pub all_over : (p : Names) (ps : List Names) → Rises (Some p) ps → AllByRecursion (λ q. path_cmp p q ≡ Less) ps
all_over p [] h = tt
all_over p (q ∷ ps) h = (h.0, all_lower p q ps h.0 (all_over q ps h.1))

pub rises_sorted : (l : Option Names) (ps : List Names) → Rises l ps → IsStrictlySortedBy path_cmp ps
unfolding IsStrictlySortedBy
rises_sorted l [] h = tt
rises_sorted l (p ∷ ps) h = (all_over p ps h.1, rises_sorted (Some p) ps h.1)

from_first : (p : Names) (ps : List Names) → IsStrictlySortedBy path_cmp (p ∷ ps) → Rises (Some p) ps
from_first p [] h = tt
from_first p (q ∷ ps) h = let all = sorted_head path_cmp p (q ∷ ps) h in (all.0, from_first q ps (sorted_tail path_cmp p (q ∷ ps) h))

pub sorted_rises : (ps : List Names) → IsStrictlySortedBy path_cmp ps → Rises None ps
sorted_rises [] h = tt
sorted_rises (p ∷ ps) h = (tt, from_first p ps h)

first : (a b : Bool) → T (a && b) → T a
first true b h = tt
first false b h = h

second : (a b : Bool) → T (a && b) → T b
second true b h = h
second false b h = absurd h

less : (o : Ordering) → T (is_lt o) → o ≡ Less
less Less h = refl
less Equal h = absurd h
less Greater h = absurd h

module _ {X : Type 0} where
  entries_from : (e : Names × X) (es : List (Names × X)) → T (is_sorted path_cmp (e ∷ es)) → Rises (Some e.0) (map (λ e. e.0) es)
  entries_from e [] h = tt
  entries_from e (f ∷ es) h = (less _ (first _ _ (first _ _ h)), entries_from f es (second _ _ h))

  rising : (es : List (Names × X)) → T (is_sorted path_cmp es) → Rises None (map (λ e. e.0) es)
  rising [] h = tt
  rising (e ∷ es) h = (tt, entries_from e es h)

  -- a map's paths rise
  pub keys_rise : (m : FinMap path_cmp X) → Rises None (keys m)
  keys_rise m = rising (entries m) (entries_sorted m)

  -- a path below all is not found
  pub find_missing : (p : Names) (es : List (Names × X)) → Rises (Some p) (map (λ e. e.0) es) → find path_cmp p es ≡ None
  find_missing p es h = none es (all_over p (map (λ e. e.0) es) h)
    where
      none : (es : List (Names × X)) → AllByRecursion (λ q. path_cmp p q ≡ Less) (map (λ e. e.0) es) → find path_cmp p es ≡ None
      none [] h = refl
      none (e ∷ es) h = ap (λ o. cond (is_eq o) (Some e.1) (find path_cmp p es)) h.0 ∙ none es h.1
