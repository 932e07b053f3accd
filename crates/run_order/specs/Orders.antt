-- The history of a run of phases by n workers, whole or stopped early.
use Rattle.std.specs.Prelude.{◌≡◌, ◌<◌, ◌≤◌, ◌⊎◌, ℕ, zero, suc, Bool, false, List, [], ◌∷◌, ◌++◌, map, filter, Option, Some, None}
use Rattle.std.proofs.Math.ListN.{replicate}
use Rattle.job_queue.specs.Queues.{live, state_of}
use Rattle.job_queue.specs.States.{is_sleeping}
use Rattle.job_queue.specs.declared.state.JobState.{JobState}
use Rattle.core_event.specs.declared.entry.Entry.{Entry}
use Rattle.core_event.specs.declared.event.Event.{Event}
use Rattle.core_event.specs.declared.event.Event.TheVariants.{Enter, Leave, Schedule, Cancel}
use Rattle.ws_core.specs.States.{Moment}
use Rattle.ws_core.specs.Histories.{replay}
use Rattle.run_order.specs.Lists.{acts, Cut}
use Rattle.run_order.specs.Plans.{JobPlan, Phase}
use Rattle.run_order.specs.Parts.{Making, Middle, Parts}

-- ---- a phase

-- pass 0 schedules the job
abbrev pub scheduled : {C : Type 0} → JobPlan C → ℕ × Event
scheduled job = (0, Schedule job.name job.priority job.rule job.asleep)

-- pass 0 cancels the job
abbrev pub cancelled : {C : Type 0} → JobPlan C → ℕ × Event
cancelled job = (0, Cancel job.name)

abbrev pub is_asleep : Option JobState → Bool
is_asleep None = false
is_asleep (Some state) = is_sleeping state

-- the job of this name sleeps
abbrev pub sleeps : Moment → List ℕ → Bool
sleeps s name = is_asleep (state_of s.manager.jobs name)

-- the jobs that sleep, in text order
abbrev pub sleepers : {C : Type 0} → Moment → Phase C → Phase C
sleepers s jobs = filter (λ (job : JobPlan _). sleeps s job.name) jobs

-- from the state on, a phase: each job is scheduled, the workers make their parts until no job waits or is run, and the
-- jobs that sleep are cancelled
pub record IsPhase {C : Type 0} (Made : Making C) (n : ℕ) (jobs : Phase C) (s : Moment) (h : List Entry) : Type 0 where
  pub schedules : List Entry
  pub middle : List Entry
  pub cancels : List Entry
  pub are : h ≡ (schedules ++ middle) ++ cancels
  pub schedule : acts schedules ≡ map scheduled jobs
  pub run : Middle n (Parts Made jobs) middle
  pub over : live (replay s (schedules ++ middle)).manager.jobs ≡ 0
  pub cancel : acts cancels ≡ map cancelled (sleepers (replay s (schedules ++ middle)) jobs)

-- the same, where each part may be cut, and jobs may wait or be run
pub record IsCutPhase {C : Type 0} (Made : Making C) (n : ℕ) (jobs : Phase C) (s : Moment) (h : List Entry) : Type 0 where
  pub schedules : List Entry
  pub middle : List Entry
  pub cancels : List Entry
  pub are : h ≡ (schedules ++ middle) ++ cancels
  pub schedule : Cut (λ l. acts l ≡ map scheduled jobs) schedules
  pub run : Middle n (λ k. Cut (Parts Made jobs k)) middle
  pub cancel : Cut (λ l. acts l ≡ map cancelled (sleepers (replay s (schedules ++ middle)) jobs)) cancels

-- from one front of the history that began at s to another by the phases, one after another
abbrev pub Phases : {C : Type 0} → Making C → ℕ → Moment → List (Phase C) → List Entry → List Entry → Type 0
Phases Made n s [] g h = h ≡ g
Phases Made n s (p ∷ ps) g h = (m : List Entry) × IsPhase Made n p (replay s g) m × Phases Made n s ps (g ++ m) h

-- of the phases that are left, the first one is cut
abbrev pub IsCutNext : {C : Type 0} → Making C → ℕ → List (Phase C) → Moment → List Entry → Type 0
IsCutNext Made n [] s h = ⊥
IsCutNext Made n (p ∷ ps) s h = IsCutPhase Made n p s h

-- ---- the whole history

-- 1 up to n
abbrev pub numbers : ℕ → List ℕ
numbers zero = []
numbers (suc n) = numbers n ++ suc n ∷ []

-- pass 0 lets n passes in
abbrev pub Enters : ℕ → List Entry → Type 0
Enters n h = acts h ≡ replicate n (0, Enter)

-- the passes from 1 to n leave
abbrev pub Leaves : ℕ → List Entry → Type 0
Leaves n h = acts h ≡ map (λ k. (k, Leave)) (numbers n)

-- the history of a run of some phases: n passes are let in, the phases come one after another, and the passes leave
pub record IsRun {C : Type 0} (Made : Making C) (s : Moment) (phases : List (Phase C)) (n : ℕ) (h : List Entry) : Type 0 where
  pub enters : List Entry
  pub front : List Entry
  pub leaves : List Entry
  pub are : h ≡ front ++ leaves
  pub enter : Enters n enters
  pub run : Phases Made n s phases enters front
  pub leave : Leaves n leaves

-- the same, stopped early: fewer passes may have been let in, and then there is no phase; the phases that are done are
-- whole, the one after them is cut, and no other was begun
pub record IsCutRun {C : Type 0} (Made : Making C) (s : Moment) (phases : List (Phase C)) (n : ℕ) (h : List Entry) : Type 0 where
  pub entered : ℕ
  pub done : List (Phase C)
  pub later : List (Phase C)
  pub enters : List Entry
  pub front : List Entry
  pub middle : List Entry
  pub leaves : List Entry
  pub are : h ≡ (front ++ middle) ++ leaves
  pub script : phases ≡ done ++ later
  pub few : entered ≤ n
  pub none : entered < n → done ≡ []
  pub enter : Enters entered enters
  pub run : Phases Made n s done enters front
  pub stop : (middle ≡ []) ⊎ ((entered ≡ n) × IsCutNext Made n later (replay s front) middle)
  pub leave : Cut (Leaves n) leaves

-- the history of a run; without a phase nothing is done
abbrev pub Shuffle : {C : Type 0} → Making C → Moment → List (Phase C) → ℕ → List Entry → Type 0
Shuffle Made s [] n h = h ≡ []
Shuffle Made s (p ∷ ps) n h = IsRun Made s (p ∷ ps) n h

-- the same, stopped early
abbrev pub CutShuffle : {C : Type 0} → Making C → Moment → List (Phase C) → ℕ → List Entry → Type 0
CutShuffle Made s [] n h = h ≡ []
CutShuffle Made s (p ∷ ps) n h = IsCutRun Made s (p ∷ ps) n h
