-- Fresh files are those of a build from scratch.
use Rattle.std.proofs.Common.{◌≡◌, ℕ, Bool, true, false, cond, not, ◌||◌, List, [], ◌∷◌, ◌++◌, refl, sym, ap, ◌∙◌, Option, Some, None}
use Rattle.std.specs.Prelude.{IfSome, filter}
use Rattle.std.specs.Ordering.{eq_by_cmp}
use Rattle.std.specs.Option.{option_or}
use Rattle.std.specs.List.{AllByRecursion, list_any}
use Rattle.std.specs.FinMap.{get, entries, find, get-empty, get-from_entries, get-entries}
use Rattle.res_path.specs.Paths.{Names, path_cmp, overlap}
use Rattle.res_path.specs.PathLaws.{path_cmp_total}
use Rattle.ws_elem.specs.Trees.{Tree}
use Rattle.builder_api.specs.Places.{is_within, is_below}
use Rattle.builder_api.specs.Files.{Files, files_of}
use Rattle.builder_api.specs.Tasks.{Task, inputs_of}
use Rattle.builder_api.specs.Meanings.{Meaning, Meanings, IsMeaning, made_by, full, IsBuilt}
use Rattle.builder_api.proofs.Places.{clear_within, clear_output, not_below, below_append, cancel}
use Rattle.builder_api.proofs.Maps.{get_kept, same_files, same_path, path_is, other_path}
use Rattle.builder_api.proofs.Commits.{same_made}
use Rattle.build_laws.specs.Plans.{Unread, Before, IsPlan, placed_at, with_files, cleared, made_in_turn, scratch}
use Rattle.build_laws.specs.Builds.{Project, items_of, tasks_of, all_tasks, IsOrdered, AllFresh, AllLawful, present, knots_of}
use Rattle.build_laws.proofs.Differing.{find_first}
use Rattle.builder_api.proofs.Places.{split, Split}

at_placed : (o r k : Names) → eq_by_cmp path_cmp (o ++ r) (o ++ k) ≡ eq_by_cmp path_cmp r k
at_placed o r k = by (eq_by_cmp path_cmp r k) refl
  where
    by : (b : Bool) → eq_by_cmp path_cmp r k ≡ b → eq_by_cmp path_cmp (o ++ r) (o ++ k) ≡ b
    by true e = ap (λ x. eq_by_cmp path_cmp (o ++ r) (o ++ x)) (sym (same_path r k e)) ∙ path_is (o ++ r)
    by false e = other_path (o ++ r) (o ++ k) (λ h. let p : r ≡ k = cancel o r k h in let yes : eq_by_cmp path_cmp r k ≡ true = ap (eq_by_cmp path_cmp r) (sym p) ∙ path_is r in cc)

find_placed : (o r : Names) (es : List (Names × List ℕ)) → find path_cmp (o ++ r) (placed_at o es) ≡ find path_cmp r es
find_placed o r [] = refl
find_placed o r (e ∷ es) = λ i. cond (at_placed o r e.0 i) (Some e.1) (find_placed o r es i)

find_elsewhere : (o q : Names) (es : List (Names × List ℕ)) → is_below o q ≡ false → find path_cmp [] es ≡ None → find path_cmp q (placed_at o es) ≡ None
find_elsewhere o q [] h none = refl
find_elsewhere o q (e ∷ es) h none = by e.0 e.1 none (find_elsewhere o q es h)
  where
    by : (k : Names) (v : List ℕ) → cond (eq_by_cmp path_cmp [] k) (Some v) (find path_cmp [] es) ≡ None → (find path_cmp [] es ≡ None → find path_cmp q (placed_at o es) ≡ None)
        → cond (eq_by_cmp path_cmp q (o ++ k)) (Some v) (find path_cmp q (placed_at o es)) ≡ None
    by [] v none next = cc
    by (n ∷ r) v none next =
        ap (λ b. cond b (Some v) (find path_cmp q (placed_at o es))) (other_path q (o ++ n ∷ r) (λ e. let yes : is_below o q ≡ true = ap (is_below o) e ∙ below_append o n r in cc)) ∙ next none

get_with : (o r : Names) (m f : Files) → get (with_files o m f) (o ++ r) ≡ option_or (get m r) (get f (o ++ r))
get_with o r m f = get-from_entries path_cmp_total (placed_at o (entries m) ++ entries f) (o ++ r) ∙ find_first (o ++ r) (placed_at o (entries m)) (entries f)
    ∙ (λ i. option_or ((find_placed o r (entries m) ∙ sym (get-entries m r)) i) (sym (get-entries f (o ++ r)) i))

get_without : (o q : Names) (m f : Files) → is_below o q ≡ false → get m [] ≡ None → get (with_files o m f) q ≡ get f q
get_without o q m f h none = get-from_entries path_cmp_total (placed_at o (entries m) ++ entries f) q ∙ find_first q (placed_at o (entries m)) (entries f)
    ∙ (λ i. option_or (find_elsewhere o q (entries m) h (sym (get-entries m []) ∙ none) i) (sym (get-entries f q) i))

or_none : (x : Option (List ℕ)) → option_or x None ≡ x
or_none None = refl
or_none (Some x) = refl

abbrev below_any : List Task → Names → Bool
below_any cs q = list_any (λ c. is_below c.output q) cs

-- what is clear of all later outputs lies below none
clear_of_later : (cs : List Task) (q : Names) → AllByRecursion (λ d. overlap q d.output ≡ false) cs → below_any cs q ≡ false
clear_of_later [] q h = refl
clear_of_later (d ∷ cs) q h = ap (λ b. b || below_any cs q) (not_below q d.output h.0) ∙ clear_of_later cs q h.1

-- what c writes and reads is clear of what later tasks write
below_clear : (c : Task) (cs : List Task) (q : Names) → AllByRecursion (Before c) cs → is_below c.output q ≡ true → AllByRecursion (λ d. overlap q d.output ≡ false) cs
below_clear c [] q h f = tt
below_clear c (d ∷ cs) q h f = (clear_output c.output q d.output h.0.apart f, below_clear c cs q h.1 f)

within_clear : (c : Task) (cs : List Task) (q : Names) → AllByRecursion (Before c) cs → is_within c.inputs q ≡ true → AllByRecursion (λ d. overlap q d.output ≡ false) cs
within_clear c [] q h f = tt
within_clear c (d ∷ cs) q h f = (clear_within c.inputs q d.output h.0.unread f, within_clear c cs q h.1 f)

get_cleared : (cs : List Task) (g : Files) (q : Names) → get (cleared cs g) q ≡ cond (not (below_any cs q)) (get g q) None
get_cleared cs g q = get_kept g (λ p. not (below_any cs p)) q

-- no file that a meaning makes lacks a name
named : (ms : Meanings) → ((name : List ℕ) → IfSome (ms name) IsMeaning) → (c : Task) (f : Files) → get (full ms c f).files [] ≡ None
named ms meant c f = by (ms c.builder) (meant c.builder)
  where
    by : (o : Option Meaning) → IfSome o IsMeaning → get (made_by o c (inputs_of c f)).files [] ≡ None
    by None h = get-empty path_cmp []
    by (Some m) h = h.named c (inputs_of c f)

-- one task makes its files of what was cleared for it and the later ones
one_made : (ms : Meanings) (c : Task) (cs : List Task) (g : Files) → ((name : List ℕ) → IfSome (ms name) IsMeaning) → Unread c c.output → AllByRecursion (Before c) cs → IsBuilt ms c g
    → with_files c.output (full ms c (cleared (c ∷ cs) g)).files (cleared (c ∷ cs) g) ≡ cleared cs g
one_made ms c cs g meant unread later fresh = same_files _ _ (λ q. by q (is_below c.output q) refl)
  where
    same_in : (q : Names) → is_within c.inputs q ≡ true → get (cleared (c ∷ cs) g) q ≡ get g q
    same_in q h = get_cleared (c ∷ cs) g q ∙ (λ i. cond (not (not_below q c.output (clear_within c.inputs q c.output unread h) i || clear_of_later cs q (within_clear c cs q later h) i)) (get g q) None)

    made_same : (full ms c (cleared (c ∷ cs) g)).files ≡ (full ms c g).files
    made_same = same_made ms c (cleared (c ∷ cs) g) g same_in

    at_split : (q : Names) → Split c.output q → is_below c.output q ≡ true → get (with_files c.output (full ms c (cleared (c ∷ cs) g)).files (cleared (c ∷ cs) g)) q ≡ get g q
    at_split q s e =
        let gone : get (cleared (c ∷ cs) g) q ≡ None = get_cleared (c ∷ cs) g q ∙ ap (λ b. cond (not (b || below_any cs q)) (get g q) None) e in
        ap (get (with_files c.output (full ms c (cleared (c ∷ cs) g)).files (cleared (c ∷ cs) g))) s.is
        ∙ get_with c.output (s.name ∷ s.rest) (full ms c (cleared (c ∷ cs) g)).files (cleared (c ∷ cs) g)
        ∙ ap (option_or (get (full ms c (cleared (c ∷ cs) g)).files (s.name ∷ s.rest))) (ap (get (cleared (c ∷ cs) g)) (sym s.is) ∙ gone)
        ∙ or_none (get (full ms c (cleared (c ∷ cs) g)).files (s.name ∷ s.rest))
        ∙ ap (λ m. get m (s.name ∷ s.rest)) made_same
        ∙ sym (fresh.at s.name s.rest)
        ∙ ap (get g) (sym s.is)

    by : (q : Names) (b : Bool) → is_below c.output q ≡ b → get (with_files c.output (full ms c (cleared (c ∷ cs) g)).files (cleared (c ∷ cs) g)) q ≡ get (cleared cs g) q
    by q true e = at_split q (split c.output q e) e ∙ sym (get_cleared cs g q ∙ ap (λ b. cond (not b) (get g q) None) (clear_of_later cs q (below_clear c cs q later e)))
    by q false e = get_without c.output q (full ms c (cleared (c ∷ cs) g)).files (cleared (c ∷ cs) g) e (named ms meant c (cleared (c ∷ cs) g))
        ∙ get_cleared (c ∷ cs) g q ∙ ap (λ b. cond (not (b || below_any cs q)) (get g q) None) e ∙ sym (get_cleared cs g q)

-- where each task is built, the files are those of a build from scratch
pub built_is_scratch : (ms : Meanings) (cs : List Task) (g : Files) → ((name : List ℕ) → IfSome (ms name) IsMeaning) → IsPlan cs → AllByRecursion (λ c. IsBuilt ms c g) cs → scratch ms cs g ≡ g
built_is_scratch ms [] g meant plan fresh = same_files _ _ (λ q. get_cleared [] g q)
built_is_scratch ms (c ∷ cs) g meant plan fresh =
    ap (made_in_turn ms cs) (one_made ms c cs g meant plan.0 plan.1 fresh.0) ∙ built_is_scratch ms cs g meant plan.2 fresh.1

-- ---- without knots all commands are a plan

plan_append : (cs ds : List Task) → IsPlan cs → AllByRecursion (λ c. AllByRecursion (Before c) ds) cs → IsPlan ds → IsPlan (cs ++ ds)
plan_append [] ds h b g = g
plan_append (c ∷ cs) ds h b g = (h.0, also cs ds c h.1 b.0, plan_append cs ds h.2 b.1 g)
  where
    also : (cs ds : List Task) (c : Task) → AllByRecursion (Before c) cs → AllByRecursion (Before c) ds → AllByRecursion (Before c) (cs ++ ds)
    also [] ds c h g = g
    also (d ∷ cs) ds c h g = (h.0, also cs ds c h.1 g)

ordered_plan : (gs : List (List Project)) → knots_of gs ≡ [] → IsOrdered gs → IsPlan (all_tasks gs)
ordered_plan [] none h = tt
ordered_plan ([] ∷ gs) none h = absurd h.0
ordered_plan ((p ∷ []) ∷ gs) none h = plan_append (tasks_of (items_of (p ∷ []))) (all_tasks gs) h.0 h.1 (ordered_plan gs none h.2)
ordered_plan ((p ∷ q ∷ ps) ∷ gs) none h = cc

all_filter : (P : Task → Type 0) (test : Task → Bool) (cs : List Task) → AllByRecursion P cs → AllByRecursion P (filter test cs)
all_filter P test [] h = tt
all_filter P test (c ∷ cs) h = by (test c) (all_filter P test cs h.1)
  where
    by : (b : Bool) → AllByRecursion P (filter test cs) → AllByRecursion P (cond b (c ∷ filter test cs) (filter test cs))
    by true rest = (h.0, rest)
    by false rest = rest

plan_filter : (test : Task → Bool) (cs : List Task) → IsPlan cs → IsPlan (filter test cs)
plan_filter test [] h = tt
plan_filter test (c ∷ cs) h = by (test c) (all_filter (Before c) test cs h.1) (plan_filter test cs h.2)
  where
    by : (b : Bool) → AllByRecursion (Before c) (filter test cs) → IsPlan (filter test cs) → IsPlan (cond b (c ∷ filter test cs) (filter test cs))
    by true all rest = (h.0, all, rest)
    by false all rest = rest

present_built : (ms : Meanings) (has : List ℕ → Bool) (cs : List Task) (t : Tree) → AllLawful ms has → AllFresh ms has cs t → AllByRecursion (λ c. IsBuilt ms c (files_of t)) (present has cs)
present_built ms has [] t lawful h = tt
present_built ms has (c ∷ cs) t lawful h = by (has c.builder) refl (present_built ms has cs t lawful h.1)
  where
    by : (b : Bool) → has c.builder ≡ b → AllByRecursion (λ c. IsBuilt ms c (files_of t)) (present has cs) → AllByRecursion (λ c. IsBuilt ms c (files_of t)) (cond b (c ∷ present has cs) (present has cs))
    by true there rest = ((h.0 (there, lawful c.builder there)).files, rest)
    by false there rest = rest

-- where all commands are fresh and there is no knot, the files are those of a build from scratch
pub fresh_is_scratch : (ms : Meanings) (has : List ℕ → Bool) (gs : List (List Project)) (t : Tree) → ((name : List ℕ) → IfSome (ms name) IsMeaning) → AllLawful ms has → knots_of gs ≡ [] → IsOrdered gs
    → AllFresh ms has (all_tasks gs) t → files_of t ≡ scratch ms (present has (all_tasks gs)) (files_of t)
fresh_is_scratch ms has gs t meant lawful none ordered fresh = sym (built_is_scratch ms (present has (all_tasks gs)) (files_of t) meant
    (plan_filter (λ c. has c.builder) (all_tasks gs) (ordered_plan gs none ordered)) (present_built ms has (all_tasks gs) t lawful fresh))
