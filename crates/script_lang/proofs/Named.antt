-- The names of jobs that stand one after another.
use Rattle.std.proofs.Common.{◌≡◌, ◌≢◌, ℕ, Bool, true, false, ◌||◌, List, [], ◌∷◌, ◌++◌, refl, sym, ◌∙◌, ap}
use Rattle.std.specs.Prelude.{cond, not}
use Rattle.std.specs.BTreeMap.{is_at}
use Rattle.std.specs.Cmp.Lexicographic.{slice_cmp, texts_ties}
use Rattle.std.specs.List.{list_any, AllByRecursion}
use Rattle.std.specs.Ordering.{nat_cmp}
use Rattle.std.specs.Str.{bytes_eq}
use Rattle.std.proofs.lemmas.Bool.Decides.{not_from_Decides}
use Rattle.std.proofs.lemmas.List.Folds.{list_any-append}
use Rattle.std.proofs.lemmas.Slice.Eq.{bytes_eq-Decides}
use Rattle.script_lang.specs.declared.script.Job.{Job}
use Rattle.script_lang.specs.Names.{HaveOwnNames}
use Rattle.script_lang.specs.Inside.Ordered.{has_job, AreTheirNames}

other_name : (a b : List ℕ) → a ≢ b → bytes_eq a b ≡ false
other_name a b n = by (bytes_eq a b) refl
  where
    by : (t : Bool) → bytes_eq a b ≡ t → bytes_eq a b ≡ false
    by true e = absurd (n ((bytes_eq-Decides a b).0 e))
    by false e = e

-- a job behind these has a name of its own
pub name_is_free : (jobs more : List Job) (job : Job) → HaveOwnNames (jobs ++ job ∷ more) → has_job jobs job.name ≡ false
name_is_free [] more job h = refl
name_is_free (first ∷ jobs) more job h =
    ap (λ (b : Bool). b || has_job jobs job.name) (other_name first.name job.name (apart jobs h.0)) ∙ name_is_free jobs more job h.1
  where
    apart : (jobs : List Job) → AllByRecursion (λ (other : Job). first.name ≢ other.name) (jobs ++ job ∷ more) → first.name ≢ job.name
    apart [] h = h.0
    apart (other ∷ jobs) h = apart jobs h.1

none_before : (b c : Bool) → (b || c) ≡ false → (b ≡ false) × (c ≡ false)
none_before true c h = absurd (let no : true ≡ false = h in cc)
none_before false c h = (refl, h)

-- one more job, whose name none of them has
pub names_more : (jobs : List Job) (job : Job) → HaveOwnNames jobs → has_job jobs job.name ≡ false → HaveOwnNames (jobs ++ job ∷ [])
names_more [] job h n = (tt, tt)
names_more (first ∷ jobs) job h n =
    let parts = none_before (bytes_eq first.name job.name) (has_job jobs job.name) n in
    (apart jobs h.0 (not_from_Decides (bytes_eq first.name job.name) (bytes_eq-Decides first.name job.name) parts.0), names_more jobs job h.1 parts.1)
  where
    apart : (jobs : List Job) → AllByRecursion (λ (other : Job). first.name ≢ other.name) jobs → first.name ≢ job.name
        → AllByRecursion (λ (other : Job). first.name ≢ other.name) (jobs ++ job ∷ [])
    apart [] h e = (e, tt)
    apart (other ∷ jobs) h e = (h.0, apart jobs h.1 e)

-- ---- the names in order

pub no_names : (names : List (List ℕ)) → names ≡ [] → AreTheirNames names []
no_names names e name = ap (list_any (is_at (slice_cmp nat_cmp name))) e

-- a name that was put among them is that of none of the jobs
pub was_new : (names : List (List ℕ)) (jobs : List Job) (name : List ℕ) (job : Job) (put : Bool) → AreTheirNames names jobs → name ≡ job.name
    → put ≡ not (list_any (is_at (slice_cmp nat_cmp name)) names) → put ≡ true → has_job jobs job.name ≡ false
was_new names jobs name job put h e p t = ap (has_job jobs) (sym e) ∙ sym (h name) ∙ by (list_any (is_at (slice_cmp nat_cmp name)) names) (sym p ∙ t)
  where
    by : (there : Bool) → not there ≡ true → there ≡ false
    by true q = absurd (let no : false ≡ true = q in cc)
    by false q = refl

-- one name more, where a job of that name is put behind the others
pub names_with : (old new : List (List ℕ)) (jobs : List Job) (name : List ℕ) (job : Job) → AreTheirNames old jobs → name ≡ job.name
    → ((other : List ℕ) → list_any (is_at (slice_cmp nat_cmp other)) new ≡ cond (is_at (slice_cmp nat_cmp name) other) true (list_any (is_at (slice_cmp nat_cmp other)) old))
    → AreTheirNames new (jobs ++ job ∷ [])
names_with old new jobs name job h e u other =
    u other ∙ (λ i. cond (sym (texts_ties (e i) other) i) true (h other i)) ∙ either (bytes_eq job.name other) (has_job jobs other)
    ∙ sym (list_any-append (λ (job : Job). bytes_eq job.name other) jobs (job ∷ []))
  where
    either : (b c : Bool) → cond b true c ≡ (c || (b || false))
    either true true = refl
    either true false = refl
    either false true = refl
    either false false = refl
