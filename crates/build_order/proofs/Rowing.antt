-- The graph of the places, project after project and name after name.
use Rattle.std.proofs.Common.{◌≡◌, inl, inr, ℕ, ◌<◌, List, [], ◌∷◌, ◌++◌, length, get_or, set, map, replicate, refl, sym, ap, ◌∙◌, subst, arith}
use Rattle.std.specs.List.{AllPairs, Contains}
use Rattle.std.proofs.lemmas.Bool.{cases_eq}
use Rattle.std.proofs.lemmas.List.{length-set, length-replicate, length-map, get_or-map, get_or_default}
use Rattle.std.proofs.lemmas.List.Elements.{Contains-append_left, Contains-push, Contains-push_cases}
use Rattle.res_path.specs.Paths.{Names}
use Rattle.build_order.specs.Orders.{Projects, IsBefore, IsProject}
use Rattle.build_order.specs.Inside.Graphs.{Graph, Refers}
use Rattle.build_order.specs.Inside.Rows.{name_at, RefersIn, AreNames, AreRows, IsAdded}
use Rattle.build_order.proofs.Members.{none}
use Rattle.build_order.proofs.Grouping.{set_same, set_other, nothing_at}
use Rattle.build_order.proofs.Sorted.{same_place}

pub added_none : (names : Names) (from : ℕ) (g : Graph) → IsAdded names from [] g g
added_none names from g = record {
  as_long = refl;
  others = λ a ne. refl;
  kept = λ b r. r;
  all = λ b lt i. absurd (none (name_at names b) i);
  only = λ b r. inl r;
}

pub added_more : (names : Names) (from to : ℕ) (references : Names) (name : List ℕ) (old g new : Graph) → AllPairs IsBefore names → from < length old → to < length names → name_at names to ≡ name
    → new ≡ set g from (get_or g from [] ++ to ∷ []) → IsAdded names from references old g → IsAdded names from (references ++ name ∷ []) old new
added_more names from to references name old g new rising lf lt is e h = record {
  as_long = ap length e ∙ length-set g from (get_or g from [] ++ to ∷ []) ∙ h.as_long;
  others = λ a ne. ap (λ x. get_or x a []) e ∙ set_other g from a (get_or g from [] ++ to ∷ []) ne ∙ h.others a ne;
  kept = λ b r. still b (h.kept b r);
  all = λ b lb i. elim (Contains-push_cases references name (name_at names b) i) [
    | inl j ↦ still b (h.all b lb j)
    | inr same ↦ subst (λ x. Refers new from x) (same_place names to b rising lt lb (is ∙ same)) (subst (λ xs. Contains xs to) (sym here) (Contains-push (get_or g from []) to))
  ];
  only = λ b r. elim (Contains-push_cases (get_or g from []) to b (subst (λ xs. Contains xs b) here r)) [
    | inl j ↦ elim (h.only b j) [ inl o ↦ inl o | inr n ↦ inr (n.0, Contains-append_left references (name ∷ []) (name_at names b) n.1) ]
    | inr same ↦ inr (omega (arith, lt, same), subst (λ x. Contains (references ++ name ∷ []) (name_at names x)) same (subst (Contains (references ++ name ∷ [])) (sym is) (Contains-push references name)))
  ];
}
  where
    here : get_or new from [] ≡ get_or g from [] ++ to ∷ []
    here = ap (λ x. get_or x from []) e ∙ set_same g from (get_or g from [] ++ to ∷ []) (omega (arith, lf, h.as_long))

    still : (b : ℕ) → Refers g from b → Refers new from b
    still b r = subst (λ xs. Contains xs b) (sym here) (Contains-append_left (get_or g from []) (to ∷ []) b r)

pub added_same : (names : Names) (from : ℕ) (references : Names) (name : List ℕ) (old g : Graph) → (Contains names name → ⊥)
    → IsAdded names from references old g → IsAdded names from (references ++ name ∷ []) old g
added_same names from references name old g out h = record {
  as_long = h.as_long;
  others = h.others;
  kept = h.kept;
  all = λ b lb i. elim (Contains-push_cases references name (name_at names b) i) [
    | inl j ↦ h.all b lb j
    | inr same ↦ absurd (out (b, lb, get_or_default names b name [] lb ∙ sym same))
  ];
  only = λ b r. elim (h.only b r) [ inl o ↦ inl o | inr n ↦ inr (n.0, Contains-append_left references (name ∷ []) (name_at names b) n.1) ];
}

pub rows_none : (names : Names) (g : Graph) → g ≡ replicate (length names) [] → AreRows [] names g
rows_none names g e = record {
  as_long = ap length e ∙ length-replicate {A = List ℕ} (length names) [];
  all = λ a b la lb r. absurd (none (name_at names a, r.0) r.1);
  only = λ a b r. absurd (none b (subst (λ xs. Contains xs b) (ap (λ x. get_or x a []) e ∙ nothing_at (length names) a) r));
}

pub rows_more : (ps : Projects) (names : Names) (g new : Graph) (name : List ℕ) (references : Names) (from : ℕ) → AllPairs IsBefore names → from < length names → name_at names from ≡ name
    → IsAdded names from references g new → AreRows ps names g → AreRows (ps ++ (name, references) ∷ []) names new
rows_more ps names g new name references from rising lf is added h = record {
  as_long = added.as_long ∙ h.as_long;
  all = λ a b la lb r. elim (Contains-push_cases ps (name, references) (name_at names a, r.0) r.1) [
    | inl i ↦ kept a b (h.all a b la lb (r.0, i, r.2))
    | inr same ↦ subst (λ x. Refers new x b) (same_place names from a rising lf la (is ∙ ap (λ (p : List ℕ × Names). p.0) same))
        (added.all b lb (subst (λ xs. Contains xs (name_at names b)) (sym (ap (λ (p : List ℕ × Names). p.1) same)) r.2))
  ];
  only = λ a b r. elim (cases_eq a from) [
    | inl same ↦ elim (added.only b (subst (λ x. Refers new x b) same r)) [
      | inl o ↦ let old = h.only from b o in (old.0, subst (λ x. RefersIn (ps ++ (name, references) ∷ []) (name_at names x) (name_at names b)) (sym same) (widen from b old.1))
      | inr n ↦ (n.0, (references, subst (λ x. Contains (ps ++ (name, references) ∷ []) (x, references)) (sym (ap (name_at names) same ∙ is)) (Contains-push ps (name, references)), n.1))
    ]
    | inr ne ↦ let old = h.only a b (subst (λ xs. Contains xs b) (added.others a ne) r) in (old.0, widen a b old.1)
  ];
}
  where
    widen : (a b : ℕ) → RefersIn ps (name_at names a) (name_at names b) → RefersIn (ps ++ (name, references) ∷ []) (name_at names a) (name_at names b)
    widen a b r = (r.0, Contains-append_left ps ((name, references) ∷ []) (name_at names a, r.0) r.1, r.2)

    kept : (a b : ℕ) → Refers g a b → Refers new a b
    kept a b r = elim (cases_eq a from) [
      | inl same ↦ subst (λ x. Refers new x b) (sym same) (added.kept b (subst (λ x. Refers g x b) same r))
      | inr ne ↦ subst (λ xs. Contains xs b) (sym (added.others a ne)) r
    ]

names_shown : {X : Type 0} (f : X → List ℕ × Names) (xs : List X) → map (λ (p : List ℕ × Names). p.0) (map f xs) ≡ map (λ (x : X). (f x).0) xs
names_shown f [] = refl
names_shown f (x ∷ xs) = ap (λ ys. (f x).0 ∷ ys) (names_shown f xs)

pub names_are : {X : Type 0} (f : X → List ℕ × Names) (xs : List X) (old new : Names) → old ≡ map (λ (x : X). (f x).0) xs → AllPairs IsBefore new
    → ((n : List ℕ) → Contains old n → Contains new n) → ((n : List ℕ) → Contains new n → Contains old n) → AreNames (map f xs) new
names_are f xs old new e rising kept only = record {
  rising = rising;
  all = λ n i. kept n (subst (λ ys. Contains ys n) (names_shown f xs ∙ sym e) i);
  only = λ n i. subst (λ ys. Contains ys n) (e ∙ sym (names_shown f xs)) (only n i);
}

pub project_is : {X : Type 0} (f : X → List ℕ × Names) (xs : List X) (i : ℕ) (x : X) → i < length xs → x ≡ get_or xs i x → IsProject (map f xs) (f x).0
project_is f xs i x lt e = (
  i,
  omega (arith, lt, length-map (map f xs) (λ (p : List ℕ × Names). p.0), length-map xs f),
  ap (λ ys. get_or ys i (f x).0) (names_shown f xs) ∙ get_or-map (λ y. (f y).0) xs i x (f x).0 lt ∙ ap (λ y. (f y).0) (sym e),
)
