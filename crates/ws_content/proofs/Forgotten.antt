-- What was built last, of the commands that stay.
use Rattle.std.proofs.Common.{◌≡◌, ◌<◌, ◌-◌, ℕ, zero, suc, Bool, true, false, cond, not, List, [], ◌∷◌, refl, sym, ap, ◌∙◌, arith}
use Rattle.std.specs.Prelude.{Option, Some, None, is_some, IfSome, find as first_that}
use Rattle.std.specs.Option.{option_map}
use Rattle.std.specs.Ordering.{eq_by_cmp, is_eq}
use Rattle.std.specs.FinMap.{contains_key, empty_of_len, entries, find, get, get-empty, get-entries, get-remove, get-retain_keys, len, len-remove, remove, retain_keys, same_map}
use Rattle.ws_marks.specs.declared.record.Record.{Record}
use Rattle.ws_marks.specs.Marked.{first_from, is_from}
use Rattle.ws_marks.specs.Places.{Place, Records, place_cmp}
use Rattle.ws_marks.proofs.Places.{place_cmp_exact, place_cmp_total}
use Rattle.ws_content.proofs.Resolved.{tied}

module _ {N : Type 0} where
  pub get_retained : (rs : Records N) (p : Place → Bool) (q : Place) → get (retain_keys rs p) q ≡ cond (p q) (get rs q) None
  get_retained rs p q = get-retain_keys rs p q (λ x e. ap p (sym (place_cmp_exact q x e)))

  -- where all pass, all stay
  pub all_stay : (rs : Records N) (p : Place → Bool) → ((q : Place) → IfSome (get rs q) (λ _. p q ≡ true)) → retain_keys rs p ≡ rs
  all_stay rs p pass = same_map place_cmp_total place_cmp_exact _ _ (λ q. get_retained rs p q ∙ by (get rs q) (p q) (pass q))
    where
      by : (o : Option (Record N)) (b : Bool) → IfSome o (λ _. b ≡ true) → cond b o None ≡ o
      by None true h = refl
      by None false h = refl
      by (Some r) true h = refl
      by (Some r) false h = cc

  -- to take one that doesn't pass changes nothing of those that do
  pub less_stays : (rs : Records N) (k : Place) (p : Place → Bool) → p k ≡ false → retain_keys (remove rs k) p ≡ retain_keys rs p
  less_stays rs k p out = same_map place_cmp_total place_cmp_exact _ _ (λ q.
      get_retained (remove rs k) p q ∙ ap (λ o. cond (p q) o None) (get-remove place_cmp_total rs k q) ∙ by q (eq_by_cmp place_cmp q k) refl ∙ sym (get_retained rs p q))
    where
      by : (q : Place) (b : Bool) → eq_by_cmp place_cmp q k ≡ b → cond (p q) (cond b None (get rs q)) None ≡ cond (p q) (get rs q) None
      by q true e =
          let none = ap p (tied q k e) ∙ out in
          ap (λ c. cond c None None) none ∙ sym (ap (λ c. cond c (get rs q) None) none)
      by q false e = refl

module _ {M : Type 0} where
  none_at : (P : Place → Bool) (es : List (Place × Record M)) → option_map (λ e. e.1) (first_that (λ e. P e.0) es) ≡ None → (q : Place) (x : Record M) → find place_cmp q es ≡ Some x → P q ≡ false
  none_at P [] none q x e = cc
  none_at P (e ∷ es) none q x found = by (P e.0) refl none (is_eq (place_cmp q e.0)) refl found (none_at P es)
    where
      by : (b : Bool) → P e.0 ≡ b → option_map (λ e. e.1) (cond b (Some e) (first_that (λ e. P e.0) es)) ≡ None → (c : Bool) → eq_by_cmp place_cmp q e.0 ≡ c
          → cond c (Some e.1) (find place_cmp q es) ≡ Some x
          → (option_map (λ e. e.1) (first_that (λ e. P e.0) es) ≡ None → (q : Place) (x : Record M) → find place_cmp q es ≡ Some x → P q ≡ false) → P q ≡ false
      by true is n c t f rest = cc
      by false is n true t f rest = ap P (tied q e.0 t) ∙ is
      by false is n false t f rest = rest n q x f

  -- where none is the first of these, none is one of these
  pub none_from : (rs : Records M) (p : List ℕ) (i : ℕ) → first_from rs p i ≡ None → (q : Place) → IfSome (get rs q) (λ _. not (is_from p i q) ≡ true)
  none_from rs p i none q = by (get rs q) refl
    where
      by : (o : Option (Record M)) → get rs q ≡ o → IfSome o (λ _. not (is_from p i q) ≡ true)
      by None e = tt
      by (Some x) e = ap not (none_at (is_from p i) (entries rs) none q x (sym (get-entries rs q) ∙ e))

  some_len : (rs : Records M) (k : Place) (r : Record M) → get rs k ≡ Some r → 0 < len rs
  some_len rs k r there = by (len rs) refl
    where
      none : None ≡ Some r → ⊥
      none h = cc

      by : (n : ℕ) → len rs ≡ n → 0 < n
      by zero e = absurd (none (sym (ap (λ (m : Records M). get m k) (empty_of_len rs e) ∙ get-empty place_cmp k) ∙ there))
      by (suc n) e = omega arith

  pub fewer_left : (rs : Records M) (k : Place) (r : Record M) → get rs k ≡ Some r → len (remove rs k) < len rs
  fewer_left rs k r there = by (contains_key rs k) (ap is_some there) (len-remove place_cmp_total rs k) (some_len rs k r there)
    where
      by : (b : Bool) → b ≡ true → len (remove rs k) ≡ cond b (len rs - 1) (len rs) → 0 < len rs → len (remove rs k) < len rs
      by true e is some = omega (arith, is, some)
      by false e is some = cc
