-- Jobs by name, one more before the others.
use Rattle.std.proofs.Common.{◌≡◌, ◌<◌, ◌≤◌, ◌+◌, ℕ, zero, suc, Bool, true, false, cond, if◌then◌else◌, List, [], ◌∷◌, length, drop, get_or, refl, ap, sym, ◌∙◌, arith}
use Rattle.std.specs.Prelude.{Some}
use Rattle.std.specs.FinMap.{empty, insert, get, get-insert, get-empty}
use Rattle.std.proofs.lemmas.List.{drop_all}
use Rattle.std.proofs.lemmas.Option.{slice_get-get_or}
use Rattle.job_queue.specs.Queues.{name_cmp}
use Rattle.job_queue.proofs.Named.{name_cmp_total}
use Rattle.script_lang.specs.declared.script.Job.{Job}
use Rattle.run_order.specs.Plans.{commands_of, is_name}
use Rattle.script_plan.specs.Plans.{jobs_plan}
use Rattle.script_plan.specs.Inside.Books.{Places, commands_in, commands_at, FindsFrom}

pub finds_none : (jobs : List Job) (from : ℕ) (places : Places) → length jobs ≤ from → places ≡ empty → FindsFrom from places jobs
finds_none jobs from places le none name = ap (λ l. commands_of (jobs_plan l) name) (drop_all from jobs le) ∙ sym (ap (λ (m : Places). commands_at jobs (get m name)) none ∙ ap (commands_at jobs) (get-empty name_cmp name))

first_left : (jobs : List Job) (i : ℕ) (d : Job) → i < length jobs → drop i jobs ≡ get_or jobs i d ∷ drop (suc i) jobs
first_left [] i d lt = absurd (omega (arith, lt))
first_left (job ∷ jobs) zero d lt = refl
first_left (job ∷ jobs) (suc i) d lt = first_left jobs i d (omega (arith, lt))

one_before : (jobs : List Job) (i : ℕ) (d : Job) → i < length jobs → drop i jobs ≡ get_or jobs i d ∷ drop (i + 1) jobs
one_before jobs i d lt = let on : suc i ≡ i + 1 = omega arith in first_left jobs i d lt ∙ ap (λ k. get_or jobs i d ∷ drop k jobs) on

pub finds_next : (jobs : List Job) (i : ℕ) (d : Job) (places now : Places) → i < length jobs → FindsFrom (i + 1) places jobs → now ≡ insert places (get_or jobs i d).name i → FindsFrom i now jobs
finds_next jobs i d places now lt before put name =
    ap (λ l. commands_of (jobs_plan l) name) (one_before jobs i d lt) ∙ (by (is_name name (get_or jobs i d).name)
    ∙ sym (ap (λ (m : Places). commands_at jobs (get m name)) put ∙ ap (commands_at jobs) (get-insert name_cmp_total places (get_or jobs i d).name i name)))
  where
    by : (b : Bool) → (if b then (get_or jobs i d).commands else commands_of (jobs_plan (drop (i + 1) jobs)) name) ≡ commands_at jobs (cond b (Some i) (get places name))
    by true = sym (ap commands_in (slice_get-get_or jobs i d lt))
    by false = before name
