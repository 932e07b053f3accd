-- The commands of projects by their names.
use Rattle.std.proofs.Common.{◌≡◌, ◌≢◌, inl, inr, ℕ, ◌+◌, ◌<◌, ◌≤◌, Bool, true, false, List, [], ◌∷◌, ◌++◌, map, take, length, get_or, Some, None, refl, sym, ap, ◌∙◌, subst, arith}
use Rattle.std.specs.Prelude.{if◌then◌else◌, unwrap_or, option_map, option_and_then, OnOk, Result, Ok, Err}
use Rattle.std.specs.List.{AllPairs, Contains, filter, flat_map}
use Rattle.std.specs.declared.cmp.Ordering.{Ordering}
use Rattle.std.specs.declared.cmp.Ordering.TheVariants.{Less, Equal, Greater}
use Rattle.std.specs.Ordering.{nat_cmp, is_eq}
use Rattle.std.specs.Cmp.Lexicographic.{slice_cmp, nat_list_cmp_total}
use Rattle.std.specs.FinMap.{get}
use Rattle.std.proofs.lemmas.Bool.{false_from_ne_true}
use Rattle.std.proofs.lemmas.Cmp.{tied_itself}
use Rattle.std.proofs.lemmas.List.{map_more, map-append, get_or_read}
use Rattle.std.proofs.lemmas.List.Elements.{Contains-push_cases}
use Rattle.res_path.specs.Paths.{Names}
use Rattle.proj_desc.specs.declared.desc.Desc.{Desc}
use Rattle.ws_elem.specs.declared.element.Element.{Element}
use Rattle.ws_elem.specs.Trees.{Tree}
use Rattle.build_laws.specs.Builds.{Project}
use Rattle.build_order.specs.Orders.{Projects, IsOrder, is_knot}
use Rattle.build_order.proofs.Sorted.{same_text}
use Rattle.build_order.proofs.Members.{at_front, behind}
use Rattle.build_plan.specs.Descriptions.{described_by, desc_at}
use Rattle.build_plan.specs.Ordered.{names_of, ordered}
use Rattle.build_plan.specs.Plans.{projects_of, with_commands}
use Rattle.build_plan.specs.Inside.Walks.{CommandMap, commands_in, HasCommands, only_name}
use Rattle.build_plan.proofs.Grouping.{ordered_right}
use Rattle.build_plan.proofs.Opened.{projects_rise}
use Rattle.build_plan.proofs.Planned.{in_projects, each_once, all_in_order}

tied : (o : Ordering) → is_eq o ≡ true → o ≡ Equal
tied Less h = cc
tied Equal h = refl
tied Greater h = cc

other_name : (a b : List ℕ) → a ≢ b → is_eq (slice_cmp nat_cmp a b) ≡ false
other_name a b apart = false_from_ne_true (is_eq (slice_cmp nat_cmp a b)) (λ h. apart (same_text a b (tied (slice_cmp nat_cmp a b) h)))

pub on_both : {X E : Type 0} (r : Result X E) (P Q R : Type 0) → (P → Q → R) → OnOk r P → OnOk r Q → OnOk r R
on_both (Ok x) P Q R f p q = f p q
on_both (Err e) P Q R f p q = p

-- ---- found

path_is : (p : Names) (name : List ℕ) → only_name p ≡ Some name → p ≡ name ∷ []
path_is [] name h = absurd (let no : None ≡ Some name = h in cc)
path_is (n ∷ []) name h = let same : n ≡ name = cc in ap (λ m. m ∷ []) same
path_is (n ∷ m ∷ p) name h = absurd (let no : None ≡ Some name = h in cc)

-- one more project was found
pub commands_more : (t : Tree) (p : Names) (e : Element) (name : List ℕ) (d : Desc) (old new : Projects) (before after : CommandMap) → only_name p ≡ Some name → described_by name e ≡ Some d → get t p ≡ Some e
    → new ≡ old ++ (name, d.references) ∷ [] → ((n : List ℕ) → commands_in after n ≡ (if is_eq (slice_cmp nat_cmp name n) then Some d.commands else commands_in before n)) → HasCommands t old before → HasCommands t new after
commands_more t p e name d old new before after is described got grown taken has n i = taken n ∙ by (is_eq (slice_cmp nat_cmp name n)) refl
  where
    there : desc_at t name ≡ Some d
    there = ap (option_and_then (described_by name)) (ap (get t) (sym (path_is p name is)) ∙ got) ∙ described

    listed : Contains (names_of old ++ name ∷ []) n
    listed = subst (λ ns. Contains ns n) (ap names_of grown ∙ map-append (λ (p : List ℕ × Names). p.0) old ((name, d.references) ∷ [])) i

    by : (b : Bool) → is_eq (slice_cmp nat_cmp name n) ≡ b → (if b then Some d.commands else commands_in before n) ≡ option_map (λ d. d.commands) (desc_at t n)
    by true same =
        let at : name ≡ n = same_text name n (tied (slice_cmp nat_cmp name n) same) in
        ap (option_map (λ (d : Desc). d.commands)) (sym there ∙ ap (desc_at t) at)
    by false other = elim (Contains-push_cases (names_of old) name n listed) [
      | inl here ↦ has n here
      | inr at ↦ absurd (let no : true ≡ false = ap is_eq (sym (tied_itself nat_list_cmp_total name)) ∙ ap (λ m. is_eq (slice_cmp nat_cmp name m)) at ∙ other in cc)
    ]

-- ---- placed

-- one more project was placed
pub placed_more : (f : List ℕ → Project) (names : Names) (i : ℕ) (x : List ℕ) (old new : List Project) (p : Project) → i < length names → x ≡ get_or names i x
    → old ≡ map f (take i names) → new ≡ old ++ p ∷ [] → p ≡ f x → new ≡ map f (take (i + 1) names)
placed_more f names i x old new p lt is e n same =
    n ∙ (λ k. e k ++ same k ∷ []) ∙ ap (λ y. map f (take i names) ++ f y ∷ []) is ∙ sym (map_more f names i x lt)

pub left_more : (names : Names) (i : ℕ) (x : List ℕ) (start old new : CommandMap) → AllPairs (λ a b. a ≢ b) names → i < length names → x ≡ get_or names i x
    → ((k : ℕ) (d : List ℕ) → i ≤ k → k < length names → commands_in old (get_or names k d) ≡ commands_in start (get_or names k d))
    → ((n : List ℕ) → is_eq (slice_cmp nat_cmp x n) ≡ false → commands_in new n ≡ commands_in old n)
    → (k : ℕ) (d : List ℕ) → i + 1 ≤ k → k < length names → commands_in new (get_or names k d) ≡ commands_in start (get_or names k d)
left_more names i x start old new once lt is left others k d le more =
    let at : x ≡ get_or names i d = get_or_read names i x lt is d in
    others (get_or names k d) (other_name x (get_or names k d) (λ same. once i k d (omega arith) more (sym at ∙ same))) ∙ left k d (omega arith) more

-- ---- the whole plan

-- what is told as the only order is the computed one
pub is_ordered : (t : Tree) (ps : Projects) (order : Names) (knots : List Names)
    → ((other : Names) (more : List Names) → IsOrder ps other more → (order ≡ other) × (knots ≡ more)) → ps ≡ projects_of t
    → (order ≡ flat_map (λ g. g) (ordered (projects_of t))) × (knots ≡ filter is_knot (ordered (projects_of t)))
is_ordered t ps order knots only same = only (flat_map (λ g. g) (ordered (projects_of t))) (filter is_knot (ordered (projects_of t)))
    (subst (λ ps. IsOrder ps (flat_map (λ g. g) (ordered (projects_of t))) (filter is_knot (ordered (projects_of t)))) (sym same) (ordered_right (projects_of t) (projects_rise t)))

pub order_once : (t : Tree) (order : Names) → order ≡ flat_map (λ g. g) (ordered (projects_of t)) → AllPairs (λ a b. a ≢ b) order
order_once t order is = subst (AllPairs (λ a b. a ≢ b)) (sym is) (each_once (projects_of t) (ordered (projects_of t)) (all_in_order t))

same_commands : (t : Tree) (m : CommandMap) (names : Names) → ((n : List ℕ) → Contains names n → commands_in m n ≡ option_map (λ d. d.commands) (desc_at t n))
    → map (λ n. (n, unwrap_or (commands_in m n) [])) names ≡ map (with_commands (desc_at t)) names
same_commands t m [] h = refl
same_commands t m (n ∷ names) h = λ i. (n, unwrap_or (h n (at_front n names) i) []) ∷ same_commands t m names (λ k j. h k (behind n names k j)) i

pub order_commanded : (t : Tree) (m : CommandMap) (names : Names) (order : List Project) → HasCommands t (projects_of t) m → names ≡ flat_map (λ g. g) (ordered (projects_of t))
    → order ≡ map (λ n. (n, unwrap_or (commands_in m n) [])) names → order ≡ map (with_commands (desc_at t)) (flat_map (λ g. g) (ordered (projects_of t)))
order_commanded t m names order has is e =
    e ∙ ap (map (λ n. (n, unwrap_or (commands_in m n) []))) is
    ∙ same_commands t m (flat_map (λ g. g) (ordered (projects_of t))) (λ n i. has n (in_projects (projects_of t) [] (ordered (projects_of t)) (all_in_order t) n i))

pub left_here : (names : Names) (i : ℕ) (x : List ℕ) (start old : CommandMap) → i < length names → x ≡ get_or names i x
    → ((k : ℕ) (d : List ℕ) → i ≤ k → k < length names → commands_in old (get_or names k d) ≡ commands_in start (get_or names k d)) → commands_in old x ≡ commands_in start x
left_here names i x start old lt is left = ap (commands_in old) is ∙ left i x (omega arith) lt ∙ ap (commands_in start) (sym is)
