-- The first root above a path.
use Rattle.std.proofs.Common.{◌≡◌, ℕ, ◌+◌, ◌<◌, Bool, true, false, cond, ◌&&◌, ◌||◌, List, [], ◌∷◌, ◌++◌, length, get_or, take, refl, sym, ap, ◌∙◌, subst}
use Rattle.std.specs.Prelude.{Option, Some, None}
use Rattle.std.specs.declared.cmp.Ordering.{Ordering}
use Rattle.std.specs.declared.cmp.Ordering.TheVariants.{Less, Equal, Greater}
use Rattle.std.specs.List.{list_any}
use Rattle.std.specs.Ordering.{is_gt, is_lt, ordering_reverse}
use Rattle.std.proofs.lemmas.List.{take_more}
use Rattle.res_path.specs.Paths.{Names, path_cmp, is_prefix}
use Rattle.res_path.specs.PathLaws.{path_cmp_total}
use Rattle.res_path.proofs.Prefixes.{path_cmp_exact, path_itself, prefix_le, prefix_between}
use Rattle.builder_api.specs.Places.{is_within, is_below}
use Rattle.builder_api.proofs.Places.{both, neither, prefix_of_below}
use Rattle.build_due.specs.Sights.{is_seen}
use Rattle.build_due.specs.Inside.Walks.{roots, is_before, is_between, nearer, IsNextRoot}

pub never : {A : Type 0} → true ≡ false → A
never h = cc

pub less : (o : Ordering) → is_lt o ≡ true → o ≡ Less
less Less h = refl
less Equal h = cc
less Greater h = cc

pub not_above : (o : Ordering) → is_lt o ≡ true → is_gt o ≡ false
not_above Less h = refl
not_above Equal h = cc
not_above Greater h = cc

turned : (o : Ordering) → is_lt o ≡ false → is_gt (ordering_reverse o) ≡ false
turned Less h = never h
turned Equal h = refl
turned Greater h = refl

-- what isn't above p isn't after it
pub at_most : (p q : Names) → is_lt (path_cmp p q) ≡ false → is_gt (path_cmp q p) ≡ false
at_most p q h = ap is_gt (path_cmp_total.antisymm q p) ∙ turned (path_cmp p q) h

pub at_most_lower : (p q r : Names) → is_gt (path_cmp p q) ≡ false → is_lt (path_cmp q r) ≡ true → is_lt (path_cmp p r) ≡ true
at_most_lower p q r g l = by (path_cmp p q) refl g
  where
    by : (o : Ordering) → path_cmp p q ≡ o → is_gt o ≡ false → is_lt (path_cmp p r) ≡ true
    by Less e h = ap is_lt (path_cmp_total.trans p q r e (less _ l))
    by Equal e h = ap (λ x. is_lt (path_cmp x r)) (path_cmp_exact p q e) ∙ l
    by Greater e h = never h

-- what isn't after a path before the place is before it
before_lower : (place : Option Names) (p q : Names) → is_gt (path_cmp p q) ≡ false → is_before place q ≡ true → is_before place p ≡ true
before_lower None p q g h = refl
before_lower (Some r) p q g h = at_most_lower p q r g h

-- ---- the first of some roots above p

some_more : (test : Names → Bool) (rs : List Names) (r : Names) → list_any test rs ≡ false → test r ≡ false → list_any test (rs ++ r ∷ []) ≡ false
some_more test [] r h g = ap (λ b. b || false) g
some_more test (x ∷ rs) r h g =
    let parts = neither (test x) (list_any test rs) h in
    ap (λ b. b || list_any test (rs ++ r ∷ [])) parts.0 ∙ some_more test rs r parts.1 g

-- between p and a nearer place stands no more than between p and the place
none_nearer : (p : Names) (place : Option Names) (r : Names) (rs : List Names) → is_before place r ≡ true → list_any (is_between p place) rs ≡ false → list_any (is_between p (Some r)) rs ≡ false
none_nearer p place r [] h none = refl
none_nearer p place r (x ∷ rs) h none =
    let parts = neither (is_between p place x) (list_any (is_between p place) rs) none in
    ap (λ b. b || list_any (is_between p (Some r)) rs) (by (is_between p (Some r) x) refl parts.0) ∙ none_nearer p place r rs h parts.1
  where
    by : (b : Bool) → is_between p (Some r) x ≡ b → is_between p place x ≡ false → is_between p (Some r) x ≡ false
    by false e out = e
    by true e out =
        let two = both (is_lt (path_cmp p x)) (is_lt (path_cmp x r)) e in
        let before : is_before place x ≡ true = before_lower place x r (not_above (path_cmp x r) two.1) h in
        never (sym (ap (λ b. b && is_before place x) two.0 ∙ before) ∙ out)

pub next_more : (rs : List Names) (p : Names) (place : Option Names) (r : Names) → IsNextRoot rs p place → IsNextRoot (rs ++ r ∷ []) p (nearer p place r)
next_more rs p place r h = by (is_between p place r) refl
  where
    by : (b : Bool) → is_between p place r ≡ b → IsNextRoot (rs ++ r ∷ []) p (cond b (Some r) place)
    by true e =
        let two = both (is_lt (path_cmp p r)) (is_before place r) e in
        let itself : is_between p (Some r) r ≡ false = ap (λ b. b && is_lt (path_cmp r r)) two.0 ∙ ap is_lt (path_itself r) in
        record { above = two.0; first = some_more (is_between p (Some r)) rs r (none_nearer p place r rs two.1 h.first) itself }
    by false e = record { above = h.above; first = some_more (is_between p place) rs r h.first e }

pub next_first : (p r : Names) → IsNextRoot (r ∷ []) p (nearer p None r)
next_first p r = next_more [] p None r (record { above = tt; first = refl })

-- of one more input
pub next_step : (inputs : List Names) (output p : Names) (place next : Option Names) (i : ℕ) (r : Names) → i < length inputs → r ≡ get_or inputs i r
    → IsNextRoot (roots (take i inputs) output) p place → next ≡ nearer p place r → IsNextRoot (roots (take (i + 1) inputs) output) p next
next_step inputs output p place next i r l at h is =
    let more : take (i + 1) inputs ≡ take i inputs ++ r ∷ [] = take_more inputs i r l ∙ ap (λ x. take i inputs ++ x ∷ []) (sym at) in
    subst (λ x. IsNextRoot (roots (take (i + 1) inputs) output) p x) (sym is)
    (subst (λ rs. IsNextRoot (output ∷ rs) p (nearer p place r)) (sym more) (next_more (roots (take i inputs) output) p place r h))

-- ---- what stands before it

-- above a path that is in no root, and before the next root, all is in none
pub in_none : (rs : List Names) (p : Names) (place : Option Names) → is_within rs p ≡ false → list_any (is_between p place) rs ≡ false
    → (q : Names) → is_between p place q ≡ true → is_within rs q ≡ false
in_none [] p place out none q h = refl
in_none (r ∷ rs) p place out none q h =
    let outs = neither (is_prefix r p) (is_within rs p) out in
    let nones = neither (is_between p place r) (list_any (is_between p place) rs) none in
    let parts = both (is_lt (path_cmp p q)) (is_before place q) h in
    ap (λ b. b || is_within rs q) (by parts.0 parts.1 outs.0 nones.0 (is_prefix r q) refl) ∙ in_none rs p place outs.1 nones.1 q h
  where
    apart : is_lt (path_cmp p q) ≡ true → is_before place q ≡ true → is_prefix r p ≡ false → is_between p place r ≡ false → is_prefix r q ≡ true
        → (b : Bool) → is_lt (path_cmp p r) ≡ b → is_prefix r q ≡ false
    apart l before out clear e true a =
        never (sym (ap (λ b. b && is_before place r) a ∙ before_lower place r q (prefix_le r q e) before) ∙ clear)
    apart l before out clear e false a =
        never (sym (prefix_between r p q (at_most p r a) (not_above (path_cmp p q) l) e) ∙ out)

    by : is_lt (path_cmp p q) ≡ true → is_before place q ≡ true → is_prefix r p ≡ false → is_between p place r ≡ false
        → (b : Bool) → is_prefix r q ≡ b → is_prefix r q ≡ false
    by l before out clear false e = e
    by l before out clear true e = apart l before out clear e (is_lt (path_cmp p r)) refl

-- ---- what is in no root is not seen

pub unseen : (inputs : List Names) (output q : Names) → is_within (roots inputs output) q ≡ false → is_seen inputs output q ≡ false
unseen inputs output q h =
    let parts = neither (is_prefix output q) (is_within inputs q) h in
    ap (λ b. b || is_below output q) parts.1 ∙ by (is_below output q) refl parts.0
  where
    by : (b : Bool) → is_below output q ≡ b → is_prefix output q ≡ false → is_below output q ≡ false
    by false e out = e
    by true e out = never (sym (prefix_of_below output q e) ∙ out)
