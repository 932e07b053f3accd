-- A phase takes its own jobs, each at most as often as it names it, and leaves none that may still be taken.
use Rattle.std.proofs.Common.{◌≡◌, ◌<◌, ◌≤◌, ◌⊎◌, inl, inr, ◌+◌, ℕ, zero, suc, Bool, true, false, if◌then◌else◌, List, [], ◌∷◌, ◌++◌, length, map, refl, ap, sym, ◌∙◌, arith, nat_eq}
use Rattle.std.specs.Prelude.{Option, Some, None}
use Rattle.std.specs.Option.{option_map}
use Rattle.std.specs.FinMap.{get, get-empty}
use Rattle.std.proofs.Math.ListN.{replicate}
use Rattle.sched_rules.specs.declared.ws_atom.WsAtom.{WsAtom}
use Rattle.job_queue.specs.declared.state.JobState.{JobState}
use Rattle.job_queue.specs.declared.state.JobState.TheVariants as states
use Rattle.job_queue.specs.declared.job.Job.{Job}
use Rattle.job_queue.specs.States.{is_live, is_sleeping, may_be_cancelled}
use Rattle.job_queue.specs.Queues.{Queue, live, name_cmp, over, state_of, refusal as queue_refusal}
use Rattle.job_queue.proofs.Named.{name_cmp_total, name_cmp_exact}
use Rattle.job_queue.proofs.Found.{differ, itself, same_key}
use Rattle.job_queue.proofs.Counted.{bit, bit_at, count_insert}
use Rattle.core_event.specs.declared.entry.Entry.{Entry}
use Rattle.core_event.specs.declared.event.Event.{Event}
use Rattle.core_event.specs.declared.event.Event.TheVariants.{Enter, Finish, Cancel}
use Rattle.core_event.specs.declared.reply.Refusal.{Refusal}
use Rattle.job_manager.specs.declared.manager.JobManager.{JobManager}
use Rattle.job_manager.specs.Refusals.{refusal, by_job}
use Rattle.job_manager.specs.Effects.{decided}
use Rattle.ws_core.specs.States.{Moment}
use Rattle.ws_core.specs.Steps.{step}
use Rattle.ws_core.specs.Histories.{after, fresh, replay, replies}
use Rattle.ws_core.proofs.Grown.{replay_append}
use Rattle.run_order.specs.Lists.{entry, own, acts, InTurn}
use Rattle.run_order.specs.Plans.{Phase, commands_of, is_name}
use Rattle.run_order.specs.Parts.{Making, IsPart, Parts, Middle, OneEvent}
use Rattle.run_order.specs.Orders.{scheduled, cancelled, is_asleep, sleeps, sleepers, Enters, IsPhase, Phases}
use Rattle.run_order.specs.Counts.{one_if, schedules_in, schedules_of, takes_of, still, pending, named}
use Rattle.run_order.proofs.Lists.{own_yes}
use Rattle.run_order.proofs.Taken.{put_same, step_pending, taken_at_most}
use Rattle.ws_core.proofs.Roomy.{step_manager}

schedules_append : (name : List ℕ) (a b : List Entry) → schedules_of name (a ++ b) ≡ schedules_of name a + schedules_of name b
schedules_append name [] b = omega arith
schedules_append name (x ∷ a) b = let e = schedules_append name a b in omega (arith, e)

schedules_turn : {A : Type 0} (name : List ℕ) (P : A → List Entry → Type 0) → ((x : A) (a : List Entry) → P x a → schedules_of name a ≡ 0) → (xs : List A) (h : List Entry) → InTurn P xs h → schedules_of name h ≡ 0
schedules_turn name P f [] h p = ap (schedules_of name) p
schedules_turn name P f (x ∷ xs) h p =
    let a = f x p.0 p.3 in let b = schedules_turn name P f xs p.1 p.4 in
    let c = ap (schedules_of name) p.2 ∙ schedules_append name p.0 p.1 in
    omega (arith, a, b, c)

-- no command schedules a job
abbrev pub SchedulesNothing : {C : Type 0} → Making C → Type 0
SchedulesNothing Made = (name : List ℕ) (k : ℕ) (c : _) (h : List Entry) → Made k c h → schedules_of name h ≡ 0

pub event_schedules_nothing : {C : Type 0} (event : C → Event) → ((name : List ℕ) (c : C) → schedules_in name (event c) ≡ 0) → SchedulesNothing (OneEvent event)
event_schedules_nothing event none name k c h p = let z = none name c in ap (schedules_of name) p.1 ∙ omega (arith, z)

-- ---- what all passes schedule, by what each does

less : (name : List ℕ) (k : ℕ) (x : Entry) (h : List Entry) → schedules_of name (own k h) ≤ schedules_of name (own k (x ∷ h))
less name k x h = elim (nat_eq x.pass k) as (λ (b : Bool). schedules_of name (own k h) ≤ schedules_of name (if b then x ∷ own k h else own k h)) [ true ↦ omega arith | false ↦ omega arith ]

zero_all : (name : List ℕ) (m : List Entry) → ((k : ℕ) → schedules_of name (own k m) ≡ 0) → schedules_of name m ≡ 0
zero_all name [] f = refl
zero_all name (x ∷ m) f =
    let a = f x.pass in
    let b = ap (schedules_of name) (own_yes x.pass x m refl) in
    let c = zero_all name m (λ k. let l = less name k x m in let z = f k in omega (arith, l, z)) in
    omega (arith, a, b, c)

-- ---- what pass 0 schedules

abbrev scheduled_by : List ℕ → List (ℕ × Event) → ℕ
scheduled_by name [] = 0
scheduled_by name (x ∷ h) = schedules_in name x.1 + scheduled_by name h

of_acts : (name : List ℕ) (l : List Entry) → schedules_of name l ≡ scheduled_by name (acts l)
of_acts name [] = refl
of_acts name (x ∷ l) = ap (λ z. schedules_in name x.event + z) (of_acts name l)

module _ {C : Type 0} where
  of_scheduled : (name : List ℕ) (jobs : Phase C) → scheduled_by name (map scheduled jobs) ≡ named name jobs
  of_scheduled name [] = refl
  of_scheduled name (j ∷ js) = let e = of_scheduled name js in omega (arith, e)

  of_cancelled : (name : List ℕ) (jobs : Phase C) → scheduled_by name (map cancelled jobs) ≡ 0
  of_cancelled name [] = refl
  of_cancelled name (j ∷ js) = let e = of_cancelled name js in omega (arith, e)

-- ---- a phase

module _ {C : Type 0} (Made : Making C) (none : SchedulesNothing Made) where
  part_schedules : (name : List ℕ) (k : ℕ) (commands : List C) (of : List ℕ) (h : List Entry) → IsPart Made k commands of h → schedules_of name h ≡ 0
  part_schedules name k commands of h p =
      let b = schedules_turn name (Made k) (none name k) commands p.body p.made in
      let c = schedules_append name p.body (entry k Finish p.finished ∷ []) in
      ap (schedules_of name) p.are ∙ omega (arith, b, c)

  parts_schedule : (name : List ℕ) (jobs : Phase C) (k : ℕ) (h : List Entry) → Parts Made jobs k h → schedules_of name h ≡ 0
  parts_schedule name jobs k h p = schedules_turn name (λ of. IsPart Made k (commands_of jobs of) of) (λ of a q. part_schedules name k (commands_of jobs of) of a q) p.0 h p.1

  middle_schedules : (name : List ℕ) (n : ℕ) (jobs : Phase C) (m : List Entry) → Middle n (Parts Made jobs) m → schedules_of name m ≡ 0
  middle_schedules name n jobs m d = zero_all name m each
    where
      split : (k : ℕ) → (k ≤ n) ⊎ (n < k)
      split k = grind arith

      each : (k : ℕ) → schedules_of name (own k m) ≡ 0
      each zero = ap (schedules_of name) (d.others 0 (inl refl))
      each (suc i) = elim (split (suc i)) [
        | inl le ↦ parts_schedule name jobs (suc i) (own (suc i) m) (d.workers (suc i) (omega arith) le)
        | inr gt ↦ ap (schedules_of name) (d.others (suc i) (inr gt))
      ]

  phase_schedules : (n : ℕ) (jobs : Phase C) (s : Moment) (m : List Entry) (name : List ℕ) → IsPhase Made n jobs s m → schedules_of name m ≡ named name jobs
  phase_schedules n jobs s m name f =
      let late = sleepers (replay s (f.schedules ++ f.middle)) jobs in
      let a = ap (schedules_of name) f.are ∙ schedules_append name (f.schedules ++ f.middle) f.cancels in
      let b = schedules_append name f.schedules f.middle in
      let c = of_acts name f.schedules ∙ (ap (scheduled_by name) f.schedule ∙ of_scheduled name jobs) in
      let d = middle_schedules name n jobs f.middle f.run in
      let e = of_acts name f.cancels ∙ (ap (scheduled_by name) f.cancel ∙ of_cancelled name late) in
      omega (arith, a, b, c, d, e)

  -- where no job may be taken before it, a phase takes no other job than its own, and each at most as often as it names it
  pub phase_takes : (n : ℕ) (jobs : Phase C) (s : Moment) (m : List Entry) (name : List ℕ) → map (λ (x : Entry). x.reply) m ≡ replies s m → pending name s ≡ 0 → IsPhase Made n jobs s m → takes_of name m ≤ named name jobs
  phase_takes n jobs s m name legal before f =
      let a = taken_at_most name s m legal in
      let b = phase_schedules n jobs s m name f in
      omega (arith, a, b, before)

-- ---- what a phase leaves

-- no job that waits, sleeps or is run is among those of a queue that has none that waits or is run, but those that sleep
none_live : {A : Type 0} (q : Queue A) (name : List ℕ) (job : Job A) → live q ≡ 0 → get q.jobs name ≡ Some job → is_live job.state ≡ false
none_live q name job over_all is =
    let count = count_insert (λ (j : Job _). is_live j.state) name_cmp_total name (over job) q.jobs in
    let here = ap (bit_at (λ (j : Job _). is_live j.state)) is in
    none (is_live job.state) (omega (arith, count, here, over_all))
  where
    none : (b : Bool) → bit b ≡ 0 → b ≡ false
    none true h = absurd (omega (arith, h))
    none false h = refl

sleeps_or_over : (state : JobState) → is_live state ≡ false → (is_sleeping state ≡ true) ⊎ (still (Some state) ≡ 0)
sleeps_or_over states.None h = inr refl
sleeps_or_over states.Sleeping h = inl refl
sleeps_or_over states.Waiting h = cc
sleeps_or_over states.Running h = cc

-- where no job waits or is run, one that may be taken sleeps
asleep_or_none : (s : Moment) (name : List ℕ) → live s.manager.jobs ≡ 0 → (sleeps s name ≡ true) ⊎ (pending name s ≡ 0)
asleep_or_none s name over_all = by (get s.manager.jobs.jobs name) refl
  where
    by : (o : Option (Job WsAtom)) → get s.manager.jobs.jobs name ≡ o → (sleeps s name ≡ true) ⊎ (pending name s ≡ 0)
    by None is = inr (ap (λ o. still (option_map (λ (job : Job WsAtom). job.state) o)) is)
    by (Some job) is = elim (sleeps_or_over job.state (none_live s.manager.jobs name job over_all is)) [
      | inl asleep ↦ inl (ap (λ o. is_asleep (option_map (λ (j : Job WsAtom). j.state) o)) is ∙ asleep)
      | inr none ↦ inr (ap (λ o. still (option_map (λ (j : Job WsAtom). j.state) o)) is ∙ none)
    ]

-- a job that is cancelled may not be taken any more
cancel_clears : (s : Moment) (k : ℕ) (name : List ℕ) → pending name (step s k (Cancel name)).0 ≡ 0
cancel_clears s k name = ap (λ (m : JobManager). still (state_of m.jobs name)) (step_manager s k (Cancel name) refl) ∙ by (refusal s.manager k (Cancel name)) refl
  where
    cleared : (o : Option (Job WsAtom)) → still (option_map (λ (job : Job WsAtom). job.state) (option_map over o)) ≡ 0
    cleared None = refl
    cleared (Some job) = refl

    refused : (o : Option JobState) (r : Refusal) → by_job (queue_refusal may_be_cancelled o) ≡ Some r → still o ≡ 0
    refused None r h = refl
    refused (Some states.None) r h = refl
    refused (Some states.Sleeping) r h = cc
    refused (Some states.Waiting) r h = cc
    refused (Some states.Running) r h = refl

    by : (r : Option Refusal) → refusal s.manager k (Cancel name) ≡ r → still (state_of (decided r s.manager k (Cancel name)).0.jobs name) ≡ 0
    by None h =
        let jobs = s.manager.jobs.jobs in
        ap (λ o. still (option_map (λ (job : Job WsAtom). job.state) o)) (put_same jobs name name over (get jobs name) refl (itself name_cmp_total name)) ∙ cleared (get jobs name)
    by (Some r) h = refused (state_of s.manager.jobs name) r h

pending_at_most : (name : List ℕ) (s : Moment) (h : List Entry) → pending name (replay s h) ≤ pending name s + schedules_of name h
pending_at_most name s [] = omega arith
pending_at_most name s (x ∷ h) =
    let a = pending_at_most name (after s x) h in
    let b = step_pending name s x.pass x.event in
    omega (arith, a, b)

-- ---- jobs that are cancelled

abbrev head_of : ℕ × Event → List (ℕ × Event) → ℕ × Event
head_of d [] = d
head_of d (x ∷ xs) = x

abbrev tail_of : List (ℕ × Event) → List (ℕ × Event)
tail_of [] = []
tail_of (x ∷ xs) = xs

module _ {C : Type 0} where
  named_sleepers : (s : Moment) (name : List ℕ) (js : Phase C) → sleeps s name ≡ true → named name (sleepers s js) ≡ named name js
  named_sleepers s name [] asleep = refl
  named_sleepers s name (j ∷ js) asleep = one (is_name name j.name) refl (sleeps s j.name) refl (named_sleepers s name js asleep)
    where
      one : (b : Bool) → is_name name j.name ≡ b → (c : Bool) → sleeps s j.name ≡ c → named name (sleepers s js) ≡ named name js
          → named name (if c then j ∷ sleepers s js else sleepers s js) ≡ one_if b + named name js
      one b is true at rest = let e = ap one_if is in omega (arith, rest, e)
      one false is false at rest = omega (arith, rest)
      one true is false at rest = absurd (differ (sym asleep ∙ (ap (sleeps s) (same_key name_cmp_exact name j.name is) ∙ at)))

  cancels_clear : (js : Phase C) (name : List ℕ) (s : Moment) (l : List Entry) → acts l ≡ map cancelled js → 0 < named name js → pending name (replay s l) ≡ 0
  cancels_clear [] name s l e some = absurd (omega (arith, some))
  cancels_clear (j ∷ js) name s [] e some = let z = ap length e in absurd (omega (arith, z))
  cancels_clear (j ∷ js) name s (x ∷ l) e some = by (is_name name j.name) refl (cancels_clear js name (after s x) l (ap tail_of e))
    where
      is : x.event ≡ Cancel j.name
      is = ap (λ xs. (head_of (x.pass, x.event) xs).1) e

      by : (b : Bool) → is_name name j.name ≡ b → (0 < named name js → pending name (replay (after s x) l) ≡ 0) → pending name (replay (after s x) l) ≡ 0
      by true same rest =
          let at : x.event ≡ Cancel name = is ∙ ap Cancel (sym (same_key name_cmp_exact name j.name same)) in
          let gone = ap (λ v. pending name (step s x.pass v).0) at ∙ cancel_clears s x.pass name in
          let quiet = of_acts name l ∙ (ap (scheduled_by name) (ap tail_of e) ∙ of_cancelled name js) in
          let le = pending_at_most name (after s x) l in
          omega (arith, gone, quiet, le)
      by false other rest = let z = ap one_if other in rest (omega (arith, some, z))

module _ {C : Type 0} (Made : Making C) (none : SchedulesNothing Made) where
  -- and it leaves no job that may be taken
  pub phase_clears : (n : ℕ) (jobs : Phase C) (s : Moment) (m : List Entry) (name : List ℕ) → pending name s ≡ 0 → IsPhase Made n jobs s m → pending name (replay s m) ≡ 0
  phase_clears n jobs s m name before f =
      let t = replay s (f.schedules ++ f.middle) in
      let at : replay s m ≡ replay t f.cancels = ap (replay s) f.are ∙ replay_append s (f.schedules ++ f.middle) f.cancels in
      let le = pending_at_most name s (f.schedules ++ f.middle) in
      let a = schedules_append name f.schedules f.middle in
      let b = of_acts name f.schedules ∙ (ap (scheduled_by name) f.schedule ∙ of_scheduled name jobs) in
      let c = middle_schedules Made none name n jobs f.middle f.run in
      let late = pending_at_most name t f.cancels in
      let d = of_acts name f.cancels ∙ (ap (scheduled_by name) f.cancel ∙ of_cancelled name (sleepers t jobs)) in
      ap (pending name) at ∙ by t f.cancels (omega (arith, le, a, b, c, before)) (omega (arith, late, d)) f.cancel (asleep_or_none t name f.over)
    where
      by : (t : Moment) (cancels : List Entry) → pending name t ≤ named name jobs → pending name (replay t cancels) ≤ pending name t → acts cancels ≡ map cancelled (sleepers t jobs)
          → (sleeps t name ≡ true) ⊎ (pending name t ≡ 0) → pending name (replay t cancels) ≡ 0
      by t cancels le late e w = elim w [
        | inl asleep ↦ some (named name jobs) refl asleep
        | inr gone ↦ omega (arith, gone, late)
      ]
        where
          some : (i : ℕ) → named name jobs ≡ i → sleeps t name ≡ true → pending name (replay t cancels) ≡ 0
          some zero is asleep = omega (arith, is, le, late)
          some (suc i) is asleep = let same = named_sleepers t name jobs asleep in cancels_clear (sleepers t jobs) name t cancels e (omega (arith, is, same))

  -- so after any phases no job may be taken that might not be before them
  pub phases_clear : (n : ℕ) (s : Moment) (ps : List (Phase C)) (g h : List Entry) (name : List ℕ) → pending name (replay s g) ≡ 0 → Phases Made n s ps g h → pending name (replay s h) ≡ 0
  phases_clear n s [] g h name before run = ap (λ l. pending name (replay s l)) run ∙ before
  phases_clear n s (p ∷ ps) g h name before run =
      phases_clear n s ps (g ++ run.0) h name (ap (pending name) (replay_append s g run.0) ∙ phase_clears n p (replay s g) run.0 name before run.1) run.2

entering : (name : List ℕ) (n : ℕ) → scheduled_by name (replicate n (0, Enter)) ≡ 0
entering name zero = refl
entering name (suc n) = let e = entering name n in omega (arith, e)

-- nor after the passes were let in
pub enters_clear : (n : ℕ) (s : Moment) (l : List Entry) (name : List ℕ) → pending name s ≡ 0 → Enters n l → pending name (replay s l) ≡ 0
enters_clear n s l name before e =
    let quiet = of_acts name l ∙ (ap (scheduled_by name) e ∙ entering name n) in
    let le = pending_at_most name s l in
    omega (arith, quiet, le, before)

-- in the fresh workspace no job may be taken
pub fresh_clear : (name : List ℕ) → pending name fresh ≡ 0
fresh_clear name = ap (λ o. still (option_map (λ (job : Job WsAtom). job.state) o)) (get-empty name_cmp name)
