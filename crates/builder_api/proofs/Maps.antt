-- Files after a change.
use Rattle.std.proofs.Common.{◌≡◌, ℕ, Bool, true, false, cond, List, ◌++◌, refl, sym, ap, ◌∙◌, Some, None}
use Rattle.std.specs.declared.cmp.Ordering.{Ordering}
use Rattle.std.specs.declared.cmp.Ordering.TheVariants.{Less, Equal, Greater}
use Rattle.std.specs.Ordering.{is_eq, eq_by_cmp}
use Rattle.std.specs.FinMap.{get, insert, remove, retain_keys, get-insert, get-remove, get-retain_keys, same_map}
use Rattle.res_path.specs.Paths.{Names, path_cmp, is_prefix, overlap}
use Rattle.res_path.specs.PathLaws.{path_cmp_total}
use Rattle.res_path.proofs.Prefixes.{path_cmp_exact, path_itself}
use Rattle.builder_api.specs.Places.{is_within}
use Rattle.builder_api.specs.Files.{Files, files_in}
use Rattle.builder_api.proofs.Places.{prefix_append, neither}

equal : (r : Ordering) → is_eq r ≡ true → r ≡ Equal
equal Less h = cc
equal Equal h = refl
equal Greater h = cc

pub same_path : (p q : Names) → eq_by_cmp path_cmp p q ≡ true → p ≡ q
same_path p q h = path_cmp_exact p q (equal (path_cmp p q) h)

pub path_is : (p : Names) → eq_by_cmp path_cmp p p ≡ true
path_is p = ap is_eq (path_itself p)

pub other_path : (p q : Names) → (p ≡ q → ⊥) → eq_by_cmp path_cmp p q ≡ false
other_path p q apart = by (eq_by_cmp path_cmp p q) refl
  where
    by : (b : Bool) → eq_by_cmp path_cmp p q ≡ b → b ≡ false
    by true e = absurd (apart (same_path p q e))
    by false e = refl

pub get_kept : (f : Files) (test : Names → Bool) (q : Names) → get (retain_keys f test) q ≡ cond (test q) (get f q) None
get_kept f test q = get-retain_keys f test q (λ x t. ap test (sym (path_cmp_exact q x t)))

-- files that are the same at each path are the same
pub same_files : (f g : Files) → ((q : Names) → get f q ≡ get g q) → f ≡ g
same_files f g is = same_map path_cmp_total path_cmp_exact f g is

-- files that are the same at each path within the roots
pub same_inputs : (roots : List Names) (f g : Files) → ((q : Names) → is_within roots q ≡ true → get f q ≡ get g q) → files_in roots f ≡ files_in roots g
same_inputs roots f g is = same_files _ _ (λ q. get_kept f (is_within roots) q ∙ by q (is_within roots q) refl ∙ sym (get_kept g (is_within roots) q))
  where
    by : (q : Names) (b : Bool) → is_within roots q ≡ b → cond b (get f q) None ≡ cond b (get g q) None
    by q true e = is q e
    by q false e = refl

pub put_here : (f : Files) (k : Names) (v : List ℕ) → get (insert f k v) k ≡ Some v
put_here f k v = get-insert path_cmp_total f k v k ∙ ap (λ b. cond b (Some v) (get f k)) (path_is k)

pub put_elsewhere : (f : Files) (k : Names) (v : List ℕ) (q : Names) → (q ≡ k → ⊥) → get (insert f k v) q ≡ get f q
put_elsewhere f k v q apart = get-insert path_cmp_total f k v q ∙ ap (λ b. cond b (Some v) (get f q)) (other_path q k apart)

pub gone_here : (f : Files) (k : Names) → get (remove f k) k ≡ None
gone_here f k = get-remove path_cmp_total f k k ∙ ap (λ b. cond b None (get f k)) (path_is k)

pub gone_elsewhere : (f : Files) (k q : Names) → (q ≡ k → ⊥) → get (remove f k) q ≡ get f q
gone_elsewhere f k q apart = get-remove path_cmp_total f k q ∙ ap (λ b. cond b None (get f q)) (other_path q k apart)

pub not_placed : (q o r : Names) → overlap q o ≡ false → q ≡ o ++ r → ⊥
not_placed q o r h e =
    let no : is_prefix o q ≡ false = (neither (is_prefix q o) (is_prefix o q) h).1 in
    let yes : is_prefix o q ≡ true = ap (is_prefix o) e ∙ prefix_append o r in
    cc
