-- Paths above others and below them.
use Rattle.std.proofs.Common.{◌≡◌, ◌≢◌, ◌<◌, ◌≤◌, Bool, true, false, not, ◌&&◌, [], ◌∷◌, length, T, refl, sym, ap, ◌∙◌, subst, arith}
use Rattle.std.specs.Prelude.{None}
use Rattle.std.specs.Ordering.{is_gt, is_lt}
use Rattle.std.specs.Str.{bytes_eq}
use Rattle.std.specs.Cmp.Lexicographic.{bytes_decides}
use Rattle.std.specs.declared.cmp.Ordering.{Ordering}
use Rattle.std.specs.declared.cmp.Ordering.TheVariants.{Less, Equal, Greater}
use Rattle.std.specs.FinMap.Entries.{below_all}
use Rattle.res_path.specs.Paths.{Names, path_cmp, parent, is_prefix}
use Rattle.res_path.specs.PathLaws.{path_cmp_total}
use Rattle.res_path.proofs.Prefixes.{path_cmp_exact, prefix_le}
use Rattle.ws_elem.specs.declared.element.Element.{Element}
use Rattle.op_kind.specs.Entries.{Entries}
use Rattle.op_kind.specs.Members.{is_below}
use Rattle.op_kind.proofs.Looks.{find_at, sorted, none_above}
use Rattle.op_kind.proofs.PathsBelow.{never, both, prefix_itself, prefix_length, prefix_parent, prefix_turned, parent_below, parent_shorter, root_above}
use Rattle.op_sound.proofs.SoundOpen.{below_prefix, is_below_of}
use Rattle.builder_api.specs.Places.{is_below as lies_below}
use Rattle.builder_api.proofs.Places.{same_name}

-- ---- prefixes

pub prefix_trans : (p q r : Names) → is_prefix p q ≡ true → is_prefix q r ≡ true → is_prefix p r ≡ true
prefix_trans [] q r h g = refl
prefix_trans (n ∷ p) [] r h g = absurd (never (sym h))
prefix_trans (n ∷ p) (m ∷ q) [] h g = absurd (never (sym g))
prefix_trans (n ∷ p) (m ∷ q) (k ∷ r) h g =
    let one = both (bytes_eq n m) (is_prefix p q) h in
    let two = both (bytes_eq m k) (is_prefix q r) g in
    ap (λ x. bytes_eq x k && is_prefix p r) (same_name n m one.0) ∙ ap (λ b. b && is_prefix p r) two.0 ∙ prefix_trans p q r one.1 two.1

-- what is below a path at or below o is below o
pub below_more : (o p q : Names) → is_prefix o p ≡ true → is_below p q ≡ true → is_below o q ≡ true
below_more o p q h under =
    let parts = below_prefix p q under in
    is_below_of o q (prefix_trans o p q h parts.0) (λ same. parts.1 (sym (prefix_turned p q parts.0 (subst (λ z. is_prefix z p ≡ true) (sym same) h))))

-- what is below a path is below all that is above that
pub below_then : (p q r : Names) → is_below p q ≡ true → is_prefix q r ≡ true → is_below p r ≡ true
below_then p q r under h =
    let parts = below_prefix p q under in
    is_below_of p r (prefix_trans p q r parts.0 h) (λ same. parts.1 (sym (prefix_turned p q parts.0 (subst (λ z. is_prefix q z ≡ true) same h))))

-- what stands before a path, and isn't it, is shorter
pub prefix_shorter : (p q : Names) → is_prefix p q ≡ true → q ≢ p → length p < length q
prefix_shorter p q h other =
    let more : length p ≤ length (parent q) = prefix_length p (parent q) (parent_below p q h other) in
    let less : length (parent q) < length q = parent_shorter q some in
    omega arith
  where
    some : q ≢ []
    some e = other (e ∙ sym (root_above p (subst (λ z. is_prefix p z ≡ true) e h)))

pub parent_over : (p : Names) → p ≢ [] → is_below (parent p) p ≡ true
parent_over p some = is_below_of (parent p) p (prefix_parent (parent p) p (prefix_itself (parent p))) (λ same.
    let less : length (parent p) < length p = parent_shorter p some in
    let equal : length p ≡ length (parent p) = ap length same in
    absurd (omega arith))

-- the builders' word for it
pub below_alike : (p q : Names) → lies_below p q ≡ is_below p q
below_alike [] [] = refl
below_alike [] (n ∷ q) = refl
below_alike (n ∷ p) [] = refl
below_alike (n ∷ p) (m ∷ q) = by (bytes_eq n m) refl (below_alike p q)
  where
    by : (b : Bool) → bytes_eq n m ≡ b → lies_below p q ≡ is_below p q → (b && lies_below p q) ≡ ((b && is_prefix p q) && not (bytes_eq m n && is_prefix q p))
    by true e h = h ∙ ap (λ b. is_prefix p q && not (b && is_prefix q p)) (sym ((bytes_decides m n).1 (sym ((bytes_decides n m).0 e))))
    by false e h = refl

-- ---- their order

first : (a b : Bool) → T (a && b) → T a
first true b h = tt
first false b h = h

second : (a b : Bool) → T (a && b) → T b
second true b h = h
second false b h = absurd h

both_true : (a b : Bool) → T a → T b → T (a && b)
both_true true b x y = y
both_true false b x y = x

is_less : (o : Ordering) → T (is_lt o) → o ≡ Less
is_less Less h = refl
is_less Equal h = absurd h
is_less Greater h = absurd h

-- what is above p isn't among what is after it
above_less : (p : Names) → p ≢ [] → path_cmp (parent p) p ≡ Less
above_less p some = by (path_cmp (parent p) p) refl
  where
    by : (o : Ordering) → path_cmp (parent p) p ≡ o → o ≡ Less
    by Less e = refl
    by Equal e =
        let same : length (parent p) ≡ length p = ap length (path_cmp_exact (parent p) p e) in
        let less : length (parent p) < length p = parent_shorter p some in
        absurd (omega arith)
    by Greater e = absurd (never (sym (ap is_gt e) ∙ prefix_le (parent p) p (prefix_parent (parent p) p (prefix_itself (parent p)))))

less_all : (p q : Names) (es : Entries) → path_cmp p q ≡ Less → T (below_all path_cmp q es) → T (below_all path_cmp p es)
less_all p q [] less h = tt
less_all p q (e ∷ es) less h = both_true _ _ (subst (λ o. T (is_lt o)) (sym (path_cmp_total.trans p q e.0 less (is_less _ (first _ _ h)))) tt) (less_all p q es less (second _ _ h))

pub parent_passed : (e : Names × Element) (es : Entries) → e.0 ≢ [] → T (sorted (e ∷ es)) → find_at (parent e.0) (e ∷ es) ≡ None
parent_passed e es some h =
    let less : path_cmp (parent e.0) e.0 ≡ Less = above_less e.0 some in
    none_above (parent e.0) (e ∷ es) (both_true _ _ (subst (λ o. T (is_lt o)) (sym less) tt) (less_all (parent e.0) e.0 es less (first _ _ h)))
