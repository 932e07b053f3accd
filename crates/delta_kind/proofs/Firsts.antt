-- The first path whose entry passes a test.
use Rattle.std.proofs.Common.{◌≡◌, Bool, true, false, cond, List, [], ◌∷◌, map, refl, sym, ap, ◌∙◌}
use Rattle.std.specs.Prelude.{Option, Some, None}
use Rattle.std.specs.declared.cmp.Ordering.{Ordering}
use Rattle.std.specs.declared.cmp.Ordering.TheVariants.{Less, Equal, Greater}
use Rattle.std.specs.FinMap.{find}
use Rattle.std.specs.Ordering.{eq_by_cmp, is_eq, ordering_reverse}
use Rattle.res_path.specs.Paths.{Names, path_cmp}
use Rattle.res_path.specs.PathLaws.{path_cmp_total}
use Rattle.res_path.proofs.Prefixes.{path_cmp_exact, path_itself}
use Rattle.ws_elem.proofs.Cuts.{same_at}
use Rattle.delta_kind.specs.Rows.{first_path}
use Rattle.delta_kind.proofs.Rising.{Rises, find_missing}

some_path : {p q : Names} → Some p ≡ Some q → p ≡ q
some_path h = cc

pub never : true ≡ false → ⊥
never h = cc

module _ {X : Type 0} where
  -- what was found at p is there and passes
  abbrev pub passes : (Names × X → Bool) → Names → Option X → Bool
  passes test p None = false
  passes test p (Some x) = test (p, x)

  abbrev paths : List (Names × X) → List Names
  paths = map (λ e. e.0)

module _ {X : Type 0} (test : Names × X → Bool) where
  -- what passes among the later entries is found there among all
  found_later : (e : Names × X) (es : List (Names × X)) (q : Names) → Rises (Some e.0) (paths es) → passes test q (find path_cmp q es) ≡ true → passes test q (find path_cmp q (e ∷ es)) ≡ true
  found_later e es q h g = by (eq_by_cmp path_cmp q e.0) refl
    where
      by : (b : Bool) → eq_by_cmp path_cmp q e.0 ≡ b → passes test q (cond b (Some e.1) (find path_cmp q es)) ≡ true
      by false i = g
      by true i = absurd (never (sym g ∙ ap (passes test q) (ap (λ p. find path_cmp p es) (same_at q e.0 i) ∙ find_missing e.0 es h)))

  found_first : (e : Names × X) (es : List (Names × X)) → test e ≡ true → passes test e.0 (find path_cmp e.0 (e ∷ es)) ≡ true
  found_first e es h = ap (λ b. passes test e.0 (cond b (Some e.1) (find path_cmp e.0 es))) (ap is_eq (path_itself e.0)) ∙ h

  -- the first path passes
  pub first_passes : (l : Option Names) (es : List (Names × X)) (q : Names) → Rises l (paths es) → first_path test es ≡ Some q → passes test q (find path_cmp q es) ≡ true
  first_passes l [] q h is = cc
  first_passes l (e ∷ es) q h is = by (first_passes (Some e.0) es q h.1) (test e) refl is
    where
      by : (first_path test es ≡ Some q → passes test q (find path_cmp q es) ≡ true) → (b : Bool) → test e ≡ b → cond b (Some e.0) (first_path test es) ≡ Some q → passes test q (find path_cmp q (e ∷ es)) ≡ true
      by more true t i = ap (λ p. passes test p (find path_cmp p (e ∷ es))) (sym (some_path i)) ∙ found_first e es t
      by more false t i = found_later e es q h.1 (more i)

  -- no path passes where there is no first one
  pub none_passes : (es : List (Names × X)) (p : Names) → first_path test es ≡ None → passes test p (find path_cmp p es) ≡ false
  none_passes [] p is = refl
  none_passes (e ∷ es) p is = by (none_passes es p) (test e) refl is (eq_by_cmp path_cmp p e.0) refl
    where
      by : (first_path test es ≡ None → passes test p (find path_cmp p es) ≡ false) → (b : Bool) → test e ≡ b → cond b (Some e.0) (first_path test es) ≡ None → (c : Bool) → eq_by_cmp path_cmp p e.0 ≡ c → passes test p (cond c (Some e.1) (find path_cmp p es)) ≡ false
      by more true t i c j = cc
      by more false t i true j = ap (λ q. test (q, e.1)) (same_at p e.0 j) ∙ t
      by more false t i false j = more i

  -- none below the first path passes
  pub first_least : (l : Option Names) (es : List (Names × X)) (p q : Names) → Rises l (paths es) → first_path test es ≡ Some q → passes test p (find path_cmp p es) ≡ true → path_cmp p q ≡ Less → ⊥
  first_least l [] p q h is g less = never (sym g)
  first_least l (e ∷ es) p q h is g less = by (λ i k. first_least (Some e.0) es p q h.1 i k less) (test e) refl is (eq_by_cmp path_cmp p e.0) refl g
    where
      by : (first_path test es ≡ Some q → passes test p (find path_cmp p es) ≡ true → ⊥) → (b : Bool) → test e ≡ b → cond b (Some e.0) (first_path test es) ≡ Some q → (c : Bool) → eq_by_cmp path_cmp p e.0 ≡ c → passes test p (cond c (Some e.1) (find path_cmp p es)) ≡ true → ⊥
      by more true t i c j k = never (sym g ∙ ap (passes test p) (find_missing p (e ∷ es) (ap (path_cmp p) (some_path i) ∙ less, h.1)))
      by more false t i true j k = never (sym k ∙ ap (λ q. test (q, e.1)) (same_at p e.0 j) ∙ t)
      by more false t i false j k = more i k

-- two lists in path order have the same first path, where the same paths pass
pub same_first : {X Y : Type 0} (test : Names × X → Bool) (tested : Names × Y → Bool) (es : List (Names × X)) (fs : List (Names × Y))
    → Rises None (paths es) → Rises None (paths fs) → ((p : Names) → passes test p (find path_cmp p es) ≡ passes tested p (find path_cmp p fs))
    → first_path test es ≡ first_path tested fs
same_first test tested es fs h g same = by (first_path test es) (first_path tested fs) refl refl
  where
    by : (x y : Option Names) → first_path test es ≡ x → first_path tested fs ≡ y → x ≡ y
    by None None i j = refl
    by None (Some q) i j = absurd (never (sym (first_passes tested None fs q g j) ∙ sym (same q) ∙ none_passes test es q i))
    by (Some q) None i j = absurd (never (sym (first_passes test None es q h i) ∙ same q ∙ none_passes tested fs q j))
    by (Some q) (Some r) i j = order (path_cmp q r) refl
      where
        order : (o : Ordering) → path_cmp q r ≡ o → Some q ≡ Some r
        order Less k = absurd (first_least tested None fs q r g j (sym (same q) ∙ first_passes test None es q h i) k)
        order Equal k = ap (λ p. Some p) (path_cmp_exact q r k)
        order Greater k = absurd (first_least test None es r q h i (same r ∙ first_passes tested None fs r g j) (path_cmp_total.antisymm r q ∙ ap ordering_reverse k))
