-- The files next to a path, in path order.
use Rattle.std.proofs.Common.{◌≡◌, ℕ, false, ◌||◌, List, [], ◌∷◌, ◌++◌, refl, sym, ap, ◌∙◌, subst}
use Rattle.std.specs.Prelude.{Some, None, IsSome, IfSome, slice_get}
use Rattle.std.specs.declared.cmp.Ordering.{Ordering}
use Rattle.std.specs.declared.cmp.Ordering.TheVariants.{Less, Equal, Greater}
use Rattle.std.specs.declared.ops.Bound.TheVariants.{Included, Unbounded}
use Rattle.std.specs.Ordering.{is_lt, is_gt, ordering_reverse}
use Rattle.std.specs.BTreeMap.{BTreeMap, is_at}
use Rattle.std.specs.BTreeMap.Range.{IsRangeOf, IsEntryInRange}
use Rattle.std.specs.FinMap.{get, keys, from_entries}
use Rattle.std.specs.List.{list_any}
use Rattle.std.specs.Map.{lookup}
use Rattle.res_path.specs.Paths.{Names, path_cmp, is_prefix, overlap}
use Rattle.res_path.specs.PathLaws.{path_cmp_total}
use Rattle.res_path.proofs.Prefixes.{prefix_le, prefix_between}
use Rattle.ws_elem.proofs.Ordered.{get_is}
use Rattle.builder_api.specs.Files.{Files}
use Rattle.std_kit.specs.Placed.{AreMade}
use Rattle.std_kit.specs.Inside.Neighbours.{IsLast, IsFirst}
use Rattle.std_kit.proofs.Keys.{alike, one_passes, passes_one, none_passes, any_either}

reversed : (o : Ordering) → is_gt (ordering_reverse o) ≡ is_lt o
reversed Less = refl
reversed Equal = refl
reversed Greater = refl

-- what isn't below is not above, the other way round
pub not_over : (p q : Names) → is_lt (path_cmp p q) ≡ false → is_gt (path_cmp q p) ≡ false
not_over p q h = ap is_gt (path_cmp_total.antisymm q p) ∙ reversed (path_cmp p q) ∙ h

pub not_under : (p q : Names) → is_gt (path_cmp p q) ≡ false → is_lt (path_cmp q p) ≡ false
not_under p q h = sym (reversed (path_cmp q p)) ∙ ap is_gt (sym (path_cmp_total.antisymm p q)) ∙ h

module _ (b : BTreeMap Names (List ℕ)) (m : Files) (view : from_entries {R = path_cmp} b.entries ≡ m) where
  here : (q : Names) → get m q ≡ lookup (is_at (path_cmp q)) b.entries
  here q = ap (λ m. get m q) (sym view) ∙ get_is b.entries q

  some : (q : Names) (v : List ℕ) → lookup (is_at (path_cmp q)) b.entries ≡ Some v → IsSome (get m q)
  some q v h = subst IsSome (sym (here q ∙ h)) refl

  pub last_some : (p : Names) (r t : List (Names × List ℕ)) (x : Names) (v : List ℕ) → IsRangeOf path_cmp Unbounded (Included p) b r → r ≡ t ++ (x, v) ∷ [] → IsLast m p (Some x)
  last_some p r t x v range is = let mine = range.3 (x, v) t is in (
    some x v mine.1,
    mine.0.1,
    λ q h g. not_over x q (range.4 (x, v) t is q (tt, h) (subst IsSome (here q) g)),
  )

  pub last_none : (p : Names) (r : List (Names × List ℕ)) → IsRangeOf path_cmp Unbounded (Included p) b r → r ≡ [] → IsLast m p None
  last_none p r range is = λ q h. here q ∙ range.5 is q (tt, h)

  pub first_some : (p : Names) (r t : List (Names × List ℕ)) (x : Names) (v : List ℕ) → IsRangeOf path_cmp (Included p) Unbounded b r → r ≡ (x, v) ∷ t → IsFirst m p (Some x)
  first_some p r t x v range is =
      let mine = subst (λ r. IfSome (slice_get r 0) (IsEntryInRange path_cmp (Included p) Unbounded b)) is range.1 in (
        some x v mine.1,
        mine.0.0,
        λ q h g. subst (λ r. IfSome (slice_get r 0) (λ e. is_gt (path_cmp e.0 q) ≡ false)) is (range.2 q (h, tt) (subst IsSome (here q) g)),
      )

  pub first_none : (p : Names) (r : List (Names × List ℕ)) → IsRangeOf path_cmp (Included p) Unbounded b r → r ≡ [] → IsFirst m p None
  first_none p r range is = λ q h. here q ∙ range.5 is q (h, tt)

-- where no two overlap, the last one before a path is the only one that may be above it
pub under_some : (m : Files) → AreMade m → (p x : Names) → IsLast m p (Some x) → is_prefix x p ≡ list_any (λ q. is_prefix q p) (keys m)
under_some m made p x last = alike _ _ (λ h. passes_one m (λ q. is_prefix q p) x last.0 h) (λ any.
    let found = one_passes m (λ q. is_prefix q p) any in
    let before = last.2 found.path (prefix_le found.path p found.passes) found.there in
    let above = prefix_between found.path x p before last.1 found.passes in
    let same : found.path ≡ x = made.apart found.path x found.there last.0 (ap (λ b. b || is_prefix x found.path) above) in
    ap (λ q. is_prefix q p) (sym same) ∙ found.passes)

pub under_none : (m : Files) (p : Names) → IsLast m p None → false ≡ list_any (λ q. is_prefix q p) (keys m)
under_none m p last = none_passes m (λ q. is_prefix q p) (λ q h. last q (prefix_le q p h))

-- what is below a path follows it
pub over_some : (m : Files) (p x : Names) → IsFirst m p (Some x) → is_prefix p x ≡ list_any (λ q. is_prefix p q) (keys m)
over_some m p x first = alike _ _ (λ h. passes_one m (λ q. is_prefix p q) x first.0 h) (λ any.
    let found = one_passes m (λ q. is_prefix p q) any in
    prefix_between p x found.path first.1 (first.2 found.path (prefix_le p found.path found.passes) found.there) found.passes)

pub over_none : (m : Files) (p : Names) → IsFirst m p None → false ≡ list_any (λ q. is_prefix p q) (keys m)
over_none m p first = none_passes m (λ q. is_prefix p q) (λ q h. first q (prefix_le p q h))

pub overlaps : (m : Files) (p : Names) → list_any (overlap p) (keys m) ≡ (list_any (λ q. is_prefix p q) (keys m) || list_any (λ q. is_prefix q p) (keys m))
overlaps m p = any_either (λ q. is_prefix p q) (λ q. is_prefix q p) (keys m)
