-- The first entry of a map is taken out.
use Rattle.std.proofs.Common.{◌≡◌, ◌↔◌, ℕ, suc, ◌<◌, List, [], ◌∷◌, length, sym, ap, ◌∙◌, arith}
use Rattle.std.specs.Prelude.{Option, Some, None, IsSome, IfSome, MatchOption}
use Rattle.std.specs.declared.cmp.Ordering.TheVariants.{Less}
use Rattle.std.specs.BTreeMap.Range.{IsLtBy}
use Rattle.std.specs.FinMap.{entries, from_entries}
use Rattle.std.specs.List.{All, AllByRecursion}
use Rattle.std.specs.List.Sorted.{IsStrictlySortedBy}
use Rattle.std.specs.Map.{keys_of}
use Rattle.res_path.specs.Paths.{Names, path_cmp}
use Rattle.ws_elem.proofs.Ordered.{entries_is}
use Rattle.builder_api.specs.Files.{Files}

by_recursion : {X : Type 0} (P : X → Type 0) (xs : List X) → All P xs → AllByRecursion P xs
by_recursion P [] h = tt
by_recursion P (x ∷ xs) h = (h 0 x (omega arith), by_recursion P xs (λ k d lt. h (suc k) d (omega (arith, lt))))

before_all : (p : Names) (ps : List Names) → All (IsLtBy path_cmp p) ps → IsStrictlySortedBy path_cmp ps → IsStrictlySortedBy path_cmp (p ∷ ps)
unfolding IsStrictlySortedBy
before_all p ps h g = (by_recursion (λ q. path_cmp p q ≡ Less) ps h, g)

nothing : IsStrictlySortedBy path_cmp []
unfolding IsStrictlySortedBy
nothing = tt

none_left : (es : List (Names × List ℕ)) → (IsSome {T = Names × List ℕ} None ↔ (0 < length es)) → entries (from_entries {R = path_cmp} es) ≡ []
none_left [] h = entries_is [] nothing
none_left (e ∷ es) h = let some : IsSome {T = Names × List ℕ} None = h.1 (omega arith) in cc

pub popped : (es fs : List (Names × List ℕ)) (m : Files) (r : Option (Names × List ℕ)) → from_entries es ≡ m → (IsSome r ↔ (0 < length es)) → IfSome r (λ e. es ≡ e ∷ fs)
    → IfSome r (λ e. All (IsLtBy path_cmp e.0) (keys_of fs)) → IsStrictlySortedBy path_cmp (keys_of fs) → MatchOption r (entries m ≡ []) (λ e. entries m ≡ e ∷ entries (from_entries {R = path_cmp} fs))
popped es fs m None view is first above sorted = ap entries (sym view) ∙ none_left es is
popped es fs m (Some e) view is first above sorted =
    ap entries (sym view) ∙ ap (λ es. entries (from_entries {R = path_cmp} es)) first ∙ entries_is (e ∷ fs) (before_all e.0 (keys_of fs) above sorted)
    ∙ ap (λ es. e ∷ es) (sym (entries_is fs sorted))
