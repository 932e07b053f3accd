-- Tests of a map's paths.
use Rattle.std.proofs.Common.{◌≡◌, ℕ, Bool, true, false, cond, ◌||◌, List, [], ◌∷◌, map, refl, sym, ap, ◌∙◌, subst}
use Rattle.std.specs.Prelude.{Option, Some, None, IsSome}
use Rattle.std.specs.FinMap.{get, entries, keys, find, get-entries}
use Rattle.std.specs.List.{list_any}
use Rattle.std.specs.Ordering.{eq_by_cmp}
use Rattle.res_path.specs.Paths.{Names, path_cmp}
use Rattle.builder_api.specs.Files.{Files}
use Rattle.builder_api.proofs.Maps.{same_path, path_is}
use Rattle.builder_api.proofs.Places.{or_true}

-- tests that hold together are one
pub alike : (a b : Bool) → (a ≡ true → b ≡ true) → (b ≡ true → a ≡ true) → a ≡ b
alike true b h g = sym (h refl)
alike false true h g = g refl
alike false false h g = refl

-- a path of the map that passes the test
pub record Passes (m : Files) (test : Names → Bool) : Type 0 where
  pub path : Names
  pub there : IsSome (get m path)
  pub passes : test path ≡ true

record PassesIn (es : List (Names × List ℕ)) (test : Names → Bool) : Type 0 where
  path : Names
  there : IsSome (find path_cmp path es)
  passes : test path ≡ true

still : (b : Bool) (v : List ℕ) (x : Option (List ℕ)) → IsSome x → IsSome (cond b (Some v) x)
still true v x h = refl
still false v x h = h

later : (e : Names × List ℕ) (es : List (Names × List ℕ)) (test : Names → Bool) → PassesIn es test → PassesIn (e ∷ es) test
later e es test p = record { path = p.path; there = still (eq_by_cmp path_cmp p.path e.0) e.1 (find path_cmp p.path es) p.there; passes = p.passes }

passing : (es : List (Names × List ℕ)) (test : Names → Bool) → list_any test (map (λ e. e.0) es) ≡ true → PassesIn es test
passing [] test h = cc
passing (e ∷ es) test h = by (test e.0) refl h (λ h. later e es test (passing es test h))
  where
    by : (b : Bool) → test e.0 ≡ b → (b || list_any test (map (λ e. e.0) es)) ≡ true → (list_any test (map (λ e. e.0) es) ≡ true → PassesIn (e ∷ es) test) → PassesIn (e ∷ es) test
    by true is h next = record { path = e.0; there = subst (λ b. IsSome (cond b (Some e.1) (find path_cmp e.0 es))) (sym (path_is e.0)) refl; passes = is }
    by false is h next = next h

pub one_passes : (m : Files) (test : Names → Bool) → list_any test (keys m) ≡ true → Passes m test
one_passes m test h = let p = passing (entries m) test h in record { path = p.path; there = subst IsSome (sym (get-entries m p.path)) p.there; passes = p.passes }

passed : (es : List (Names × List ℕ)) (test : Names → Bool) (q : Names) → IsSome (find path_cmp q es) → test q ≡ true → list_any test (map (λ e. e.0) es) ≡ true
passed [] test q h g = cc
passed (e ∷ es) test q h g = by (eq_by_cmp path_cmp q e.0) refl h (λ h. passed es test q h g)
  where
    by : (b : Bool) → eq_by_cmp path_cmp q e.0 ≡ b → IsSome (cond b (Some e.1) (find path_cmp q es)) → (IsSome (find path_cmp q es) → list_any test (map (λ e. e.0) es) ≡ true)
        → (test e.0 || list_any test (map (λ e. e.0) es)) ≡ true
    by true is h next = ap (λ b. b || list_any test (map (λ e. e.0) es)) (ap test (sym (same_path q e.0 is)) ∙ g)
    by false is h next = ap (λ b. test e.0 || b) (next h) ∙ or_true (test e.0)

pub passes_one : (m : Files) (test : Names → Bool) (q : Names) → IsSome (get m q) → test q ≡ true → list_any test (keys m) ≡ true
passes_one m test q h g = passed (entries m) test q (subst IsSome (get-entries m q) h) g

-- none passes where no path of the map does
pub none_passes : (m : Files) (test : Names → Bool) → ((q : Names) → test q ≡ true → get m q ≡ None) → false ≡ list_any test (keys m)
none_passes m test h = alike false (list_any test (keys m)) (λ no. cc) (λ any. let p = one_passes m test any in let no : false ≡ true = subst IsSome (h p.path p.passes) p.there in cc)

pub any_either : (f g : Names → Bool) (ps : List Names) → list_any (λ q. f q || g q) ps ≡ (list_any f ps || list_any g ps)
any_either f g [] = refl
any_either f g (p ∷ ps) = ap (λ b. (f p || g p) || b) (any_either f g ps) ∙ by (f p) (g p) (list_any f ps) (list_any g ps)
  where
    by : (a b c d : Bool) → ((a || b) || (c || d)) ≡ ((a || c) || (b || d))
    by true b c d = refl
    by false true true d = refl
    by false true false d = refl
    by false false c d = refl
