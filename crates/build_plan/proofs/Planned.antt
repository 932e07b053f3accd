-- The plan of a tree is one of valid projects.
use Rattle.std.proofs.Common.{◌≡◌, ◌≢◌, inl, inr, ℕ, suc, false, cond, List, [], ◌∷◌, ◌++◌, map, length, Option, Some, None, refl, sym, ap, ◌∙◌, subst, arith}
use Rattle.std.specs.Prelude.{unwrap_or, option_map, option_and_then, IsSome, IfSome}
use Rattle.std.specs.FinMap.{get}
use Rattle.std.specs.List.{AllByRecursion, AllPairs, Contains, filter, flat_map, list_any}
use Rattle.std.specs.Str.{bytes_eq}
use Rattle.std.proofs.lemmas.Bool.{false_from_ne_true, lt-ltb}
use Rattle.std.proofs.lemmas.List.{map-append}
use Rattle.std.proofs.lemmas.List.Elements.{All-from_recursion, Contains-append_left, Contains-append_right, Contains-append_cases}
use Rattle.std.proofs.lemmas.List.Kept.{AllPairs-cons}
use Rattle.res_path.specs.Paths.{Names}
use Rattle.proj_desc.specs.declared.desc.Desc.{Desc}
use Rattle.ws_elem.specs.declared.element.Element.{Element}
use Rattle.ws_elem.specs.Trees.{Tree}
use Rattle.build_order.specs.Orders.{Projects, IsBefore, IsProject, Refers, InOrder, is_knot}
use Rattle.build_order.proofs.Members.{none, at_front, behind, leads_here}
use Rattle.build_order.proofs.Sorted.{not_before}
use Rattle.build_laws.specs.States.{Descs, refers, unmarked, IsAlikeAt}
use Rattle.build_laws.specs.Builds.{Project, knots_of}
use Rattle.build_laws.specs.Planned.{IsDescribed, ArePlaced, IsPlanned}
use Rattle.build_plan.specs.Descriptions.{described_by, desc_at}
use Rattle.build_plan.specs.Ordered.{ordered}
use Rattle.build_plan.specs.Plans.{projects_of, with_commands, plan}
use Rattle.build_plan.proofs.Listed.{each, is_one}
use Rattle.build_plan.proofs.Grouping.{ordered_groups}
use Rattle.build_plan.proofs.Valid.{at_valid}
use Rattle.build_plan.proofs.Opened.{name_open, projects_rise}

abbrev flat : List Names → Names
flat gs = flat_map (λ (g : Names). g) gs

-- ---- groups in order

module _ (ps : Projects) where
  pub in_projects : (placed : Names) (gs : List Names) → InOrder ps placed gs → (n : List ℕ) → Contains (flat gs) n → IsProject ps n
  in_projects placed [] h n i = absurd (none n i)
  in_projects placed (g ∷ gs) h n i = elim (Contains-append_cases g (flat gs) n i) [
    | inl here ↦ (h.0.ready n here).project
    | inr later ↦ in_projects (placed ++ g) gs h.1 n later
  ]

  -- what is placed isn't placed again
  later_waits : (placed : Names) (gs : List Names) → InOrder ps placed gs → (n : List ℕ) → Contains (flat gs) n → Contains placed n → ⊥
  later_waits placed [] h n i at = none n i
  later_waits placed (g ∷ gs) h n i at = elim (Contains-append_cases g (flat gs) n i) [
    | inl here ↦ (h.0.ready n here).waits at
    | inr later ↦ later_waits (placed ++ g) gs h.1 n later (Contains-append_left placed g n at)
  ]

  -- no project refers to one of a later group
  unreferred : (placed g : Names) (gs : List Names) → InOrder ps placed (g ∷ gs) → (n m : List ℕ) → Contains g n → Contains (flat gs) m → Refers ps n m → ⊥
  unreferred placed g gs h n m i later r = elim ((h.0.ready n i).free n m (leads_here (Refers ps) n, leads_here (Refers ps) n) r) [
    | inl is_placed ↦ later_waits (placed ++ g) gs h.1 m later (Contains-append_left placed g m is_placed)
    | inr together ↦ later_waits (placed ++ g) gs h.1 m later (Contains-append_right placed g m ((h.0.whole n m i).1 together))
  ]

  -- names that differ, by recursion
  abbrev pub IsOnce : Names → Type 0
  IsOnce [] = Unit {0}
  IsOnce (n ∷ ns) = AllByRecursion (λ m. n ≢ m) ns × IsOnce ns

  once_rising : (ns : Names) → AllPairs IsBefore ns → IsOnce ns
  once_rising [] h = tt
  once_rising (n ∷ ns) h = (
    each (λ m. n ≢ m) ns (λ m i same. not_before n m same (subst (IsBefore n) i.2 (h 0 (suc i.0) m (omega arith) (omega (arith, i.1))))),
    once_rising ns (λ i j d l m. h (suc i) (suc j) d (omega (arith, l)) (omega (arith, m))),
  )

  all_append : (P : List ℕ → Type 0) (ns ms : Names) → AllByRecursion P ns → AllByRecursion P ms → AllByRecursion P (ns ++ ms)
  all_append P [] ms h k = k
  all_append P (n ∷ ns) ms h k = (h.0, all_append P ns ms h.1 k)

  once_append : (ns ms : Names) → IsOnce ns → IsOnce ms → ((n : List ℕ) → Contains ns n → Contains ms n → ⊥) → IsOnce (ns ++ ms)
  once_append [] ms h k apart = k
  once_append (n ∷ ns) ms h k apart = (
    all_append (λ m. n ≢ m) ns ms h.0 (each (λ m. n ≢ m) ms (λ m i same. apart m (subst (Contains (n ∷ ns)) same (at_front n ns)) i)),
    once_append ns ms h.1 k (λ m i j. apart m (behind n ns m i) j),
  )

  once_flat : (placed : Names) (gs : List Names) → InOrder ps placed gs → IsOnce (flat gs)
  once_flat placed [] h = tt
  once_flat placed (g ∷ gs) h =
      once_append g (flat gs) (once_rising g h.0.by_name) (once_flat (placed ++ g) gs h.1) (λ n i later. later_waits (placed ++ g) gs h.1 n later (Contains-append_right placed g n i))

  once_pairs : (ns : Names) → IsOnce ns → AllPairs (λ n m. n ≢ m) ns
  once_pairs [] h = λ i j d l m. absurd (omega (arith, m))
  once_pairs (n ∷ ns) h = AllPairs-cons (λ a b. a ≢ b) n ns (All-from_recursion (λ m. n ≢ m) ns h.0) (once_pairs ns h.1)

  pub each_once : (gs : List Names) → InOrder ps [] gs → AllPairs (λ n m. n ≢ m) (flat gs)
  each_once gs h = once_pairs (flat gs) (once_flat [] gs h)

-- ---- with their commands

module _ (descs : Descs) where
  abbrev listed : Names → List Project
  listed ns = map (with_commands descs) ns

  all_listed : (P : Project → Type 0) (ns : Names) → AllByRecursion (λ n. P (with_commands descs n)) ns → AllByRecursion P (listed ns)
  all_listed P [] h = tt
  all_listed P (n ∷ ns) h = (h.0, all_listed P ns h.1)

  once_listed : (ps : Projects) (ns : Names) → IsOnce ps ns → AllPairs (λ p q. p.0 ≢ q.0) (listed ns)
  once_listed ps [] h = λ i j d l m. absurd (omega (arith, m))
  once_listed ps (n ∷ ns) h =
      AllPairs-cons (λ p q. p.0 ≢ q.0) (with_commands descs n) (listed ns)
      (All-from_recursion (λ q. n ≢ q.0) (listed ns) (all_listed (λ q. n ≢ q.0) ns h.0)) (once_listed ps ns h.1)

  flat_listed : (gs : List Names) → listed (flat gs) ≡ flat_map (λ g. g) (map listed gs)
  flat_listed [] = refl
  flat_listed (g ∷ gs) = map-append (with_commands descs) g (flat gs) ∙ ap (λ ps. listed g ++ ps) (flat_listed gs)

  names_back : (ns : Names) → map (λ p. p.0) (listed ns) ≡ ns
  names_back [] = refl
  names_back (n ∷ ns) = ap (λ ms. n ∷ ms) (names_back ns)

  knots_listed : (gs : List Names) → filter is_knot gs ≡ knots_of (map listed gs)
  knots_listed [] = refl
  knots_listed ([] ∷ gs) = knots_listed gs
  knots_listed ((n ∷ []) ∷ gs) = knots_listed gs
  knots_listed ((n ∷ m ∷ g) ∷ gs) =
      ap (λ b. cond b ((n ∷ m ∷ g) ∷ filter is_knot gs) (filter is_knot gs)) (lt-ltb 1 (length (n ∷ m ∷ g)) (omega arith))
      ∙ (λ i. sym (names_back (n ∷ m ∷ g)) i ∷ knots_listed gs i)

  full_listed : (ps : Projects) (placed : Names) (gs : List Names) → InOrder ps placed gs → AllByRecursion (λ g. g ≢ []) (map listed gs)
  full_listed ps placed [] h = tt
  full_listed ps placed (g ∷ gs) h = (λ none. let no : with_commands descs h.0.first ∷ listed h.0.others ≡ [] = sym (ap listed h.0.is) ∙ none in cc, full_listed ps (placed ++ g) gs h.1)

  placed_listed : (ps : Projects) (placed : Names) (gs : List Names) → ((n m : List ℕ) → IsProject ps n → IsProject ps m → Contains (refers descs n) m → Refers ps n m) → InOrder ps placed gs → ArePlaced descs (map listed gs)
  placed_listed ps placed [] on h = tt
  placed_listed ps placed (g ∷ gs) on h = (
    all_listed (λ p. AllByRecursion (λ q. list_any (bytes_eq q.0) (refers descs p.0) ≡ false) (flat_map (λ h. h) (map listed gs))) g
        (each (λ n. AllByRecursion (λ q. list_any (bytes_eq q.0) (refers descs n) ≡ false) (flat_map (λ h. h) (map listed gs))) g (λ n i.
        subst (AllByRecursion (λ q. list_any (bytes_eq q.0) (refers descs n) ≡ false)) (flat_listed gs)
        (all_listed (λ q. list_any (bytes_eq q.0) (refers descs n) ≡ false) (flat gs)
        (each (λ m. list_any (bytes_eq m) (refers descs n) ≡ false) (flat gs) (λ m j.
        false_from_ne_true (list_any (bytes_eq m) (refers descs n)) (λ yes_there.
        unreferred ps placed g gs h n m i j (on n m (h.0.ready n i).project (in_projects ps (placed ++ g) gs h.1 m j) (is_one (refers descs n) m yes_there)))))))),
    placed_listed ps (placed ++ g) gs on h.1,
  )

-- ---- plans

pub all_in_order : (t : Tree) → InOrder (projects_of t) [] (ordered (projects_of t))
all_in_order t = ordered_groups (projects_of t) (projects_rise t)

described_one : (t : Tree) (n : List ℕ) (d : Desc) → desc_at t n ≡ Some d → IsDescribed (desc_at t) (with_commands (desc_at t) n)
described_one t n d is = record {
  desc = d;
  described = is;
  valid = at_valid t n d is;
  commands = sym (ap (λ (o : Option Desc). unwrap_or (option_map (λ e. e.commands) o) []) is);
}

refers_listed : (t : Tree) (n m : List ℕ) → IsProject (projects_of t) n → IsProject (projects_of t) m → Contains (refers (desc_at t) n) m → Refers (projects_of t) n m
refers_listed t n m here there i =
    let of = name_open t n here in record {
      references = of.desc.references;
      here = of.listed;
      there = subst (λ (o : Option Desc). Contains (unwrap_or (option_map (λ d. d.references) o) []) m) of.described i;
      project = there;
    }

-- the groups of a plan of all open projects
abbrev pub groups : Tree → List (List Project)
groups t = map (map (with_commands (desc_at t))) (ordered (projects_of t))

-- the plan of all open projects is one of valid projects
pub planned_all : (t : Tree) → IsPlanned (desc_at t) (plan t None).order (plan t None).knots (groups t)
planned_all t = record {
  ordered = flat_listed (desc_at t) gs;
  tied = knots_listed (desc_at t) gs;
  full = full_listed (desc_at t) ps [] gs turn;
  once = once_listed (desc_at t) ps (flat gs) (once_flat ps [] gs turn);
  described = all_listed (desc_at t) (IsDescribed (desc_at t)) (flat gs)
      (each (λ n. IsDescribed (desc_at t) (with_commands (desc_at t) n)) (flat gs) (λ n i. let of = name_open t n (in_projects ps [] gs turn n i) in described_one t n of.desc of.described));
  placed = placed_listed (desc_at t) ps [] gs (refers_listed t) turn;
}
  where
    ps : Projects
    ps = projects_of t

    gs : List Names
    gs = ordered (projects_of t)

    turn : InOrder ps [] gs
    turn = all_in_order t

-- so is the plan of one open project
pub planned_one : (t : Tree) (project : List ℕ) → IsSome (desc_at t project)
    → IsPlanned (desc_at t) (plan t (Some project)).order (plan t (Some project)).knots ((with_commands (desc_at t) project ∷ []) ∷ [])
planned_one t project open_there = by (desc_at t project) refl open_there
  where
    by : (o : Option Desc) → desc_at t project ≡ o → IsSome o → IsPlanned (desc_at t) (plan t (Some project)).order (plan t (Some project)).knots ((with_commands (desc_at t) project ∷ []) ∷ [])
    by None is h = absurd (let no = h in cc)
    by (Some d) is h = record {
      ordered = refl;
      tied = refl;
      full = ((λ none. let no : with_commands (desc_at t) project ∷ [] ≡ [] = none in cc), tt);
      once = λ i j e l m. absurd (omega (arith, m));
      described = (described_one t project d is, tt);
      placed = ((tt, tt), tt);
    }

-- ---- what a build's host owes

-- the plan is one of valid projects, and that of one project has that project alone
pub planned : (t : Tree) (project : Option (List ℕ)) → IfSome project (λ name. IsSome (desc_at t name))
    → (gs : List (List Project)) × IsPlanned (desc_at t) (plan t project).order (plan t project).knots gs × IfSome project (λ name. map (λ p. p.0) (plan t project).order ≡ name ∷ [])
planned t None there = (groups t, planned_all t, tt)
planned t (Some project) there = ((with_commands (desc_at t) project ∷ []) ∷ [], planned_one t project there, refl)

-- where trees differ by markers alone, their projects are described alike
pub alike_descs : (s t : Tree) → ((q : Names) → IsAlikeAt s t q) → desc_at t ≡ desc_at s
alike_descs s t alike i project = (sym (unmarked_alike project (get t (project ∷ []))) ∙ ap (option_and_then (described_by project)) (alike (project ∷ [])) ∙ unmarked_alike project (get s (project ∷ []))) i
  where
    unmarked_alike : (project : List ℕ) (o : Option Element) → option_and_then (described_by project) (option_map unmarked o) ≡ option_and_then (described_by project) o
    unmarked_alike project None = refl
    unmarked_alike project (Some e) = refl
