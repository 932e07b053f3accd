-- The map that a hash table of ids makes.
use Rattle.std.proofs.Common.{◌≡◌, ◌≢◌, ℕ, Bool, true, false, cond, List, [], ◌∷◌, nat_eq, nat_cmp, refl, sym, ap, ◌∙◌, arith}
use Rattle.std.specs.Prelude.{Option, Some, None, Result, Ok, Err, OnOk, OnErr, IsSomeAnd, IfSome}
use Rattle.std.specs.Bool.{Decides}
use Rattle.std.specs.Ordering.{eq_by_cmp}
use Rattle.std.specs.Cmp.{nat_cmp_total}
use Rattle.std.specs.Map.{lookup}
use Rattle.std.specs.FinMap.{FinMap, get, insert, remove, empty, from_entries, find, get-from_entries, get-insert, get-remove, same_map, nat_cmp-IsAntisymmetric}
use Rattle.std.proofs.lemmas.Bool.Decides.{nat_tests}
use Rattle.std.proofs.lemmas.Bool.{eqb-true}
use Rattle.mark_set.proofs.Maps.{put_not_empty}

-- ids tie where they are equal
pub ties : (q k : ℕ) → eq_by_cmp nat_cmp q k ≡ nat_eq q k
ties q k = grind (arith, nat_tests)

pub turned : (q k : ℕ) → nat_eq q k ≡ nat_eq k q
turned q k = grind (arith, nat_tests)

module _ {X : Type 0} where
  find_is : (es : List (ℕ × X)) (q : ℕ) → find nat_cmp q es ≡ lookup (nat_eq q) es
  find_is [] q = refl
  find_is (e ∷ es) q = ap (λ b. cond b (Some e.1) (find nat_cmp q es)) (ties q e.0) ∙ ap (cond (nat_eq q e.0) (Some e.1)) (find_is es q)

  pub get_is : (es : List (ℕ × X)) (q : ℕ) → get (from_entries {R = nat_cmp} es) q ≡ lookup (nat_eq q) es
  get_is es q = get-from_entries nat_cmp_total es q ∙ find_is es q

  -- maps with the same answers are one
  pub same_gets : (m n : FinMap nat_cmp X) → ((q : ℕ) → get m q ≡ get n q) → m ≡ n
  same_gets = same_map nat_cmp_total nat_cmp-IsAntisymmetric

  pub get_insert : (m : FinMap nat_cmp X) (k : ℕ) (x : X) (q : ℕ) → get (insert m k x) q ≡ cond (nat_eq q k) (Some x) (get m q)
  get_insert m k x q = get-insert nat_cmp_total m k x q ∙ ap (λ b. cond b (Some x) (get m q)) (ties q k)

  pub get_remove : (m : FinMap nat_cmp X) (k q : ℕ) → get (remove m k) q ≡ cond (nat_eq q k) None (get m q)
  get_remove m k q = get-remove nat_cmp_total m k q ∙ ap (λ b. cond b None (get m q)) (ties q k)

  pub one_put : (es fs : List (ℕ × X)) (k : ℕ) (x : X) → ((q : ℕ) → lookup (nat_eq q) fs ≡ cond (nat_eq k q) (Some x) (lookup (nat_eq q) es)) → from_entries {R = nat_cmp} fs ≡ insert (from_entries es) k x
  one_put es fs k x h = same_gets _ _ (λ q.
      get_is fs q ∙ h q ∙ ap (λ b. cond b (Some x) (lookup (nat_eq q) es)) (turned k q) ∙ ap (cond (nat_eq q k) (Some x)) (sym (get_is es q)) ∙ sym (get_insert (from_entries es) k x q))

  pub one_taken : (es fs : List (ℕ × X)) (k : ℕ) → ((q : ℕ) → lookup (nat_eq q) fs ≡ cond (nat_eq k q) None (lookup (nat_eq q) es)) → from_entries {R = nat_cmp} fs ≡ remove (from_entries es) k
  one_taken es fs k h = same_gets _ _ (λ q.
      get_is fs q ∙ h q ∙ ap (λ b. cond b None (lookup (nat_eq q) es)) (turned k q) ∙ ap (cond (nat_eq q k) None) (sym (get_is es q)) ∙ sym (get_remove (from_entries es) k q))

  pub same_tables : (es fs : List (ℕ × X)) (b : Bool) → Decides b ((q : ℕ) → lookup (nat_eq q) es ≡ lookup (nat_eq q) fs) → Decides b (from_entries {R = nat_cmp} es ≡ from_entries fs)
  same_tables es fs b d = (
    λ t. same_gets _ _ (λ q. get_is es q ∙ d.0 t q ∙ sym (get_is fs q)),
    λ e. d.1 (λ q. sym (get_is es q) ∙ ap (λ m. get m q) e ∙ get_is fs q),
  )

  -- what is there already changes nothing
  pub insert_same : (m : FinMap nat_cmp X) (k : ℕ) (x : X) → get m k ≡ Some x → insert m k x ≡ m
  insert_same m k x is = same_gets _ _ (λ q. get_insert m k x q ∙ go (nat_eq q k) (get m q) (λ t. ap (λ (y : ℕ). get m y) (eqb-true q k t) ∙ is)) where
    go : (b : Bool) (o : Option X) → (b ≡ true → o ≡ Some x) → cond b (Some x) o ≡ o
    go true o h = sym (h refl)
    go false o h = refl

  pub there : (m : FinMap nat_cmp X) (k : ℕ) (x : X) → get m k ≡ Some x → (P : ℕ → X → Type 0) → ((q : ℕ) → IfSome (get m q) (P q)) → P k x
  there m k x is P all = rw is at (all k)

  -- a set that wasn't empty isn't, whatever a put or a change answers
  pub still_put : {E : Type 0} (r : Result (Unit {0}) E) (m n : FinMap nat_cmp X) (k : ℕ) (x : X) → OnOk r (n ≡ insert m k x) → OnErr r (n ≡ m) → m ≢ empty → n ≢ empty
  still_put (Ok _) m n k x ok err full e = put_not_empty nat_cmp_total nat_cmp-IsAntisymmetric m k x (sym ok ∙ e)
  still_put (Err _) m n k x ok err full e = full (sym err ∙ e)

  some_put : (o : Option X) (m n : FinMap nat_cmp X) (k : ℕ) (f : X → X) → IsSomeAnd o (λ x. n ≡ insert m k (f x)) → n ≢ empty
  some_put None m n k f h e = h
  some_put (Some x) m n k f h e = put_not_empty nat_cmp_total nat_cmp-IsAntisymmetric m k (f x) (sym h ∙ e)

  pub still_changed : {E : Type 0} (r : Result (Unit {0}) E) (m n : FinMap nat_cmp X) (k : ℕ) (f : X → X) → OnOk r (IsSomeAnd (get m k) (λ x. n ≡ insert m k (f x))) → OnErr r (n ≡ m) → m ≢ empty → n ≢ empty
  still_changed (Ok _) m n k f ok err full e = some_put (get m k) m n k f ok e
  still_changed (Err _) m n k f ok err full e = full (sym err ∙ e)

pub onto_ok : {E A B : Type 0} (r : Result (Unit {0}) E) → OnOk r A → (A → B) → OnOk r B
onto_ok (Ok _) a f = f a
onto_ok (Err _) a f = tt

pub onto_err : {E A B : Type 0} (r : Result (Unit {0}) E) → OnErr r A → (A → B) → OnErr r B
onto_err (Ok _) a f = tt
onto_err (Err _) a f = f a
