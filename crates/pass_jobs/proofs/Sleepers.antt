-- The jobs that sleep, by their names.
use Rattle.std.proofs.Common.{◌≡◌, ◌∙◌, ℕ, Bool, true, false, List, [], ◌∷◌, map, filter, if◌then◌else◌, refl, sym, ap, subst}
use Rattle.std.specs.Prelude.{Result, Ok, Err, OnErr, OnOk}
use Rattle.std.specs.declared.alloc.AllocError.{AllocError}
use Rattle.core_event.specs.declared.entry.Entry.{Entry}
use Rattle.core_event.specs.declared.event.Event.{Event}
use Rattle.script_lang.specs.declared.script.Job.{Job}
use Rattle.ws_core.specs.States.{Moment}
use Rattle.ws_core.specs.Histories.{replay}
use Rattle.run_order.specs.Lists.{acts, Cut}
use Rattle.run_order.specs.Orders.{cancelled, scheduled, sleepers, sleeps}
use Rattle.run_order.proofs.Lists.{cut_none, some_acts}
use Rattle.script_plan.specs.Plans.{job_plan, jobs_plan}
use Rattle.phase_pool.specs.Passes.{Finds, Known, LooksOn, Makes}
use Rattle.phase_pool.specs.Inside.Laws.{makes_none}
use Rattle.phase_pool.proofs.Passes.{looks_same}
use Rattle.pass_jobs.specs.Inside.Floors.{Does, cancelling}

-- those of the names that are of jobs that sleep are those of the jobs that sleep
pub sleepers_named : (s : Moment) (jobs : List Job) → map cancelling (filter (λ name. sleeps s name) (map (λ (job : Job). job.name) jobs)) ≡ map cancelled (sleepers s (jobs_plan jobs))
sleepers_named s [] = refl
sleepers_named s (job ∷ jobs) = elim (sleeps s job.name) as (λ (b : Bool). map cancelling (if b then job.name ∷ filter (λ name. sleeps s name) (map (λ (job : Job). job.name) jobs) else filter (λ name. sleeps s name) (map (λ (job : Job). job.name) jobs))
    ≡ map cancelled (if b then job_plan job ∷ sleepers s (jobs_plan jobs) else sleepers s (jobs_plan jobs))) [
      | true ↦ ap (λ l. cancelling job.name ∷ l) (sleepers_named s jobs)
      | false ↦ sleepers_named s jobs
    ]

pub schedules_planned : (jobs : List Job) → map (λ job. scheduled (job_plan job)) jobs ≡ map scheduled (jobs_plan jobs)
schedules_planned [] = refl
schedules_planned (job ∷ jobs) = ap (λ l. scheduled (job_plan job) ∷ l) (schedules_planned jobs)

-- ---- pass 0 looks, and cancels them

module _ (s : Moment) (jobs : List Job) (k i : Known) (looked : LooksOn k i) where
  abbrev Cancels : Moment → List Entry → Type 0
  Cancels t h = acts h ≡ map cancelled (sleepers t (jobs_plan jobs))

  module _ (names asleep : List (List ℕ)) (are : names ≡ map (λ (job : Job). job.name) jobs) (sleep : asleep ≡ filter (λ name. sleeps (replay s i.seen) name) names) (j : Known) where
    same : map cancelling asleep ≡ map cancelled (sleepers (replay s i.seen) (jobs_plan jobs))
    same = ap (map cancelling) (sleep ∙ ap (filter (λ name. sleeps (replay s i.seen) name)) are) ∙ sleepers_named (replay s i.seen) jobs

    pub cancels_found : {A : Type 0} (r : Result A AllocError) → Does r (λ h. acts h ≡ map cancelling asleep) i j → OnOk r (Finds s Cancels k j)
    cancels_found (Ok x) m = record { found = i; looked = looked; made = subst (λ z. Makes (λ h. acts h ≡ z) i j) same m }
    cancels_found (Err e) m = tt

    pub cancels_cut : {A : Type 0} (r : Result A AllocError) → Does r (λ h. acts h ≡ map cancelling asleep) i j → OnErr r (Finds s (λ t. Cut (Cancels t)) k j)
    cancels_cut (Ok x) m = tt
    cancels_cut (Err e) m = record { found = i; looked = looked; made = subst (λ z. Makes (Cut (λ h. acts h ≡ z)) i j) same m }

-- none are cancelled yet
pub cancels_none : (s : Moment) (jobs : List Job) (k : Known) → Finds s (λ t. Cut (λ h. acts h ≡ map cancelled (sleepers t (jobs_plan jobs)))) k k
cancels_none s jobs k =
    let P : List Entry → Type 0 = λ h. acts h ≡ map cancelled (sleepers (replay s k.seen) (jobs_plan jobs)) in
    record { found = k; looked = looks_same k; made = makes_none (Cut P) k (cut_none P (some_acts (map cancelled (sleepers (replay s k.seen) (jobs_plan jobs))))) }
