-- How many entries a map of distinct ids has.
use Rattle.std.proofs.Common.{◌≡◌, ℕ, ◌+◌, ◌||◌, false, cond, List, [], ◌∷◌, length, nat_eq, nat_cmp, refl, ap, ◌∙◌, arith}
use Rattle.std.specs.Prelude.{is_some}
use Rattle.std.specs.List.{AllByRecursion, IsDistinct, list_any}
use Rattle.std.specs.Cmp.{nat_cmp_total}
use Rattle.std.specs.Map.{keys_of}
use Rattle.std.specs.FinMap.{FinMap, get, insert, len, from_entries, len-empty, len-insert}
use Rattle.mark_set.proofs.Builds.{is_some_lookup}
use Rattle.mark_set.proofs.Ids.{get_is}

no_other : (ids : List ℕ) (k : ℕ) → AllByRecursion (λ y. nat_eq k y ≡ false) ids → list_any (nat_eq k) ids ≡ false
no_other [] k a = refl
no_other (id ∷ ids) k a = ap (λ b. b || list_any (nat_eq k) ids) a.0 ∙ no_other ids k a.1

pub len_is : {X : Type 0} (es : List (ℕ × X)) → IsDistinct nat_eq (keys_of es) → len (from_entries {R = nat_cmp} es) ≡ length es
unfolding IsDistinct
len_is {X = X} [] d = len-empty nat_cmp X
len_is {X = X} (e ∷ es) d =
    let rest = len_is es d.1 in
    let m : FinMap nat_cmp X = from_entries es in
    let new : is_some (get m e.0) ≡ false = ap is_some (get_is es e.0) ∙ is_some_lookup es e.0 ∙ no_other (keys_of es) e.0 d.0 in
    let more : len (insert m e.0 e.1) ≡ len m + 1 = len-insert nat_cmp_total m e.0 e.1 ∙ ap (λ b. cond b (len m) (len m + 1)) new in
    omega (arith, more, rest)
