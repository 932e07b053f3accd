-- Entries of which each keeps a promise.
use Rattle.std.proofs.Common.{◌≡◌, ℕ, List, [], ◌∷◌, Option, Some, None, Bool, true, false, cond, Bor, refl, sym, ap, ◌∙◌, subst}
use Rattle.std.specs.Prelude.{IfSome}
use Rattle.std.specs.declared.cmp.Ordering.{Ordering}
use Rattle.std.specs.declared.cmp.Ordering.TheVariants.{Less, Equal, Greater}
use Rattle.std.specs.BTreeMap.{is_at, insert_entry}
use Rattle.std.specs.Cmp.Lexicographic.{slice_cmp, bytes_decides, texts_ties}
use Rattle.std.specs.List.{AllByRecursion}
use Rattle.std.specs.Map.{lookup}
use Rattle.std.specs.Option.{option_copied}
use Rattle.std.specs.Ordering.{nat_cmp, is_eq, match_ordering}

-- names that compare as equal are the same
same : (p q : List ℕ) → is_eq (slice_cmp nat_cmp p q) ≡ true → p ≡ q
same p q h = (bytes_decides p q).0 (texts_ties p q ∙ h)

module _ {X : Type 0} (P : List ℕ → X → Type 0) where
  pub one_found : (es : List (List ℕ × X)) (k : List ℕ) → AllByRecursion (λ e. P e.0 e.1) es → IfSome (lookup (is_at (slice_cmp nat_cmp k)) es) (P k)
  one_found [] k h = tt
  one_found (e ∷ es) k h = by (is_at (slice_cmp nat_cmp k) e.0) refl (one_found es k h.1)
    where
      by : (b : Bool) → is_at (slice_cmp nat_cmp k) e.0 ≡ b → IfSome (lookup (is_at (slice_cmp nat_cmp k)) es) (P k) → IfSome (cond b (Some e.1) (lookup (is_at (slice_cmp nat_cmp k)) es)) (P k)
      by true is rest = subst (λ n. P n e.1) (sym (same k e.0 is)) h.0
      by false is rest = rest

  pub one_kept : (es : List (List ℕ × X)) (k : List ℕ) (v : X) → AllByRecursion (λ e. P e.0 e.1) es → P k v → AllByRecursion (λ e. P e.0 e.1) (insert_entry (slice_cmp nat_cmp) es k v)
  one_kept [] k v h p = (p, tt)
  one_kept (e ∷ es) k v h p = by (slice_cmp nat_cmp k e.0) refl (one_kept es k v h.1 p)
    where
      by : (o : Ordering) → slice_cmp nat_cmp k e.0 ≡ o → AllByRecursion (λ x. P x.0 x.1) (insert_entry (slice_cmp nat_cmp) es k v)
          → AllByRecursion (λ x. P x.0 x.1) (match_ordering o ((k, v) ∷ e ∷ es) ((e.0, v) ∷ es) (e ∷ insert_entry (slice_cmp nat_cmp) es k v))
      by Less is rest = (p, h)
      by Equal is rest = (subst (λ n. P n v) (same k e.0 (ap is_eq is)) p, h.1)
      by Greater is rest = (h.0, rest)

-- what holds of what is found holds of a loan of it
pub of_loan : {X : Type 0} (P : X → Type 0) (r : Option (Bor X)) (o : Option X) → option_copied r ≡ o → IfSome o P → IfSome r (λ b. P b.now)
of_loan P None o e h = tt
of_loan P (Some b) o e h = subst (λ x. IfSome x P) (sym e) h
