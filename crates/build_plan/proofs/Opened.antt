-- The projects that are in order are those that are open, with what they describe.
use Rattle.std.proofs.Common.{◌≡◌, ℕ, Bool, true, false, ◌&&◌, List, [], ◌∷◌, ◌++◌, Option, Some, None, T, refl, sym, ap, ◌∙◌, subst, arith}
use Rattle.std.specs.Prelude.{option_and_then}
use Rattle.std.specs.List.{AllByRecursion, AllPairs, Contains, flat_map}
use Rattle.std.specs.Option.{option_map_or}
use Rattle.std.specs.FinMap.{get, entries, entries_sorted, is_sorted}
use Rattle.std.specs.declared.cmp.Ordering.{Ordering}
use Rattle.std.specs.declared.cmp.Ordering.TheVariants.{Less, Equal, Greater}
use Rattle.std.specs.Ordering.{nat_cmp, ordering_then}
use Rattle.std.specs.Cmp.Lexicographic.{slice_cmp}
use Rattle.std.proofs.lemmas.List.Elements.{All-from_recursion}
use Rattle.std.proofs.lemmas.List.Kept.{AllPairs-cons}
use Rattle.res_path.specs.Paths.{Names, path_cmp}
use Rattle.proj_desc.specs.declared.desc.Desc.{Desc}
use Rattle.ws_elem.specs.declared.element.Element.{Element}
use Rattle.ws_elem.specs.Trees.{Tree}
use Rattle.build_order.specs.Orders.{Projects, IsBefore, IsProject}
use Rattle.build_order.proofs.Members.{none, only_one}
use Rattle.build_plan.specs.Descriptions.{described_by, desc_at}
use Rattle.build_plan.specs.Ordered.{names_of}
use Rattle.build_plan.specs.Plans.{project_of, projects_of}
use Rattle.build_plan.proofs.Listed.{map_has, flat_has}
use Rattle.build_plan.proofs.Walked.{Entries, below_less, entry_got}

-- ---- each is described

-- the project that an entry is
pub record IsOf (p : Names) (e : Element) (row : List ℕ × Names) : Type 0 where
  pub desc : Desc
  pub at : p ≡ row.0 ∷ []
  pub described : described_by row.0 e ≡ Some desc
  pub refers : row.1 ≡ desc.references

of_entry : (p : Names) (e : Element) (row : List ℕ × Names) → Contains (project_of p e) row → IsOf p e row
of_entry [] e row i = absurd (none row i)
of_entry (n ∷ []) e row i = by (described_by n e) refl i
  where
    by : (o : Option Desc) → described_by n e ≡ o → Contains (option_map_or (λ (d : Desc). (n, d.references) ∷ []) o []) row → IsOf (n ∷ []) e row
    by None is j = absurd (none row j)
    by (Some d) is j =
        let same : (n, d.references) ≡ row = only_one (n, d.references) row j in
        record { desc = d; at = ap (λ r. r.0 ∷ []) same; described = sym (ap (λ r. described_by r.0 e) same) ∙ is; refers = sym (ap (λ r. r.1) same) }
of_entry (n ∷ m ∷ p) e row i = absurd (none row i)

-- an open project, and to what its description refers
pub record IsOpen (t : Tree) (row : List ℕ × Names) : Type 0 where
  pub desc : Desc
  pub described : desc_at t row.0 ≡ Some desc
  pub refers : row.1 ≡ desc.references

pub row_open : (t : Tree) (row : List ℕ × Names) → Contains (projects_of t) row → IsOpen t row
row_open t row i =
    let x = flat_has (λ x. project_of x.0 x.1) (entries t) row i in
    let of = of_entry x.0.0 x.0.1 row x.2 in
    let got : get t (row.0 ∷ []) ≡ Some x.0.1 = ap (get t) (sym of.at) ∙ entry_got t x.0 x.1 in
    record { desc = of.desc; described = ap (option_and_then (described_by row.0)) got ∙ of.described; refers = of.refers }

pub record IsListed (t : Tree) (n : List ℕ) : Type 0 where
  pub desc : Desc
  pub described : desc_at t n ≡ Some desc
  pub listed : Contains (projects_of t) (n, desc.references)

pub name_open : (t : Tree) (n : List ℕ) → IsProject (projects_of t) n → IsListed t n
name_open t n i =
    let row = map_has (λ (p : List ℕ × Names). p.0) (projects_of t) n i in
    let is = row_open t row.0 row.1 in
    record {
      desc = is.desc;
      described = ap (desc_at t) (sym row.2) ∙ is.described;
      listed = subst (Contains (projects_of t)) (λ k. (row.2 k, is.refers k)) row.1;
    }

-- ---- in the order of their names

abbrev projects_in : Entries → Projects
projects_in es = flat_map (λ x. project_of x.0 x.1) es

first_less : (o : Ordering) → ordering_then o Equal ≡ Less → o ≡ Less
first_less Less h = refl
first_less Equal h = cc
first_less Greater h = cc

names_after : (n : List ℕ) (es : Entries) → AllByRecursion (λ e. path_cmp (n ∷ []) e.0 ≡ Less) es → AllByRecursion (IsBefore n) (names_of (projects_in es))
names_after n [] h = tt
names_after n (x ∷ es) h = by x.0 x.1 h.0 (names_after n es h.1)
  where
    or_none : (m : List ℕ) (o : Option Desc) → path_cmp (n ∷ []) (m ∷ []) ≡ Less → AllByRecursion (IsBefore n) (names_of (projects_in es))
        → AllByRecursion (IsBefore n) (names_of (option_map_or (λ (d : Desc). (m, d.references) ∷ []) o [] ++ projects_in es))
    or_none m None l rest = rest
    or_none m (Some d) l rest = (first_less (slice_cmp nat_cmp n m) l, rest)

    by : (p : Names) (e : Element) → path_cmp (n ∷ []) p ≡ Less → AllByRecursion (IsBefore n) (names_of (projects_in es)) → AllByRecursion (IsBefore n) (names_of (project_of p e ++ projects_in es))
    by [] e l rest = rest
    by (m ∷ []) e l rest = or_none m (described_by m e) l rest
    by (m ∷ k ∷ p) e l rest = rest

first : (a b : Bool) → T (a && b) → T a
first true b h = tt
first false b h = h

second : (a b : Bool) → T (a && b) → T b
second true b h = h
second false b h = absurd h

names_rise : (es : Entries) → T (is_sorted path_cmp es) → AllPairs IsBefore (names_of (projects_in es))
names_rise [] s = λ i j d l m. absurd (omega (arith, m))
names_rise (x ∷ es) s = by x.0 x.1 (below_less x.0 es (first _ _ s)) (names_rise es (second _ _ s))
  where
    or_none : (m : List ℕ) (o : Option Desc) → AllByRecursion (λ e. path_cmp (m ∷ []) e.0 ≡ Less) es → AllPairs IsBefore (names_of (projects_in es))
        → AllPairs IsBefore (names_of (option_map_or (λ (d : Desc). (m, d.references) ∷ []) o [] ++ projects_in es))
    or_none m None l rest = rest
    or_none m (Some d) l rest = AllPairs-cons IsBefore m (names_of (projects_in es)) (All-from_recursion (IsBefore m) (names_of (projects_in es)) (names_after m es l)) rest

    by : (p : Names) (e : Element) → AllByRecursion (λ e. path_cmp p e.0 ≡ Less) es → AllPairs IsBefore (names_of (projects_in es)) → AllPairs IsBefore (names_of (project_of p e ++ projects_in es))
    by [] e l rest = rest
    by (m ∷ []) e l rest = or_none m (described_by m e) l rest
    by (m ∷ k ∷ p) e l rest = rest

pub projects_rise : (t : Tree) → AllPairs IsBefore (names_of (projects_of t))
projects_rise t = names_rise (entries t) (entries_sorted t)
