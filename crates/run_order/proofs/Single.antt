-- One worker alone: what holds of the jobs and passes while pass 1 makes its parts, and pass 0 schedules and cancels.
use Rattle.std.proofs.Common.{◌≡◌, ◌≢◌, ◌⊎◌, inl, inr, ℕ, ◌+◌, ◌-◌, Bool, true, false, cond, not, ◌&&◌, ◌||◌, ◌==◌, if◌then◌else◌, List, [], ◌∷◌, ◌++◌, refl, ap, sym, ◌∙◌, subst, arith}
use Rattle.std.specs.Prelude.{Option, Some, None, is_some, is_none}
use Rattle.std.specs.Option.{option_map}
use Rattle.std.specs.FinMap.{get, insert, get-insert}
use Rattle.std.proofs.lemmas.Cmp.{nat_cmp_total}
use Rattle.std.specs.List.{list_any}
use Rattle.sched_rules.specs.declared.ws_atom.WsAtom.{WsAtom}
use Rattle.rule_table.specs.declared.held.Held.{Held}
use Rattle.rule_table.specs.Tables.{is_of, without, without_last, last_rule}
use Rattle.job_queue.specs.declared.state.JobState.{JobState}
use Rattle.job_queue.specs.declared.state.JobState.TheVariants as states
use Rattle.job_queue.specs.declared.job.Job.{Job}
use Rattle.job_queue.specs.Changed.{put_if, changed}
use Rattle.job_queue.specs.Queues.{Jobs, name_cmp, state_of}
use Rattle.job_queue.specs.Queues as queue
use Rattle.job_queue.proofs.Named.{name_cmp_total, name_cmp_exact}
use Rattle.job_queue.proofs.Found.{differ, itself, same_key, same_Some, not_Some}
use Rattle.pass_table.specs.declared.pass.Pass.{Pass}
use Rattle.pass_table.specs.Passes.{Passes, Table, has_pass, job_of, job_in, batches_of, is_busy, serves}
use Rattle.pass_table.specs.Rows as rows
use Rattle.pass_table.proofs.Kept.{neither}
use Rattle.proj_desc.specs.FirstCause.{when}
use Rattle.core_event.specs.declared.event.Event.{Event}
use Rattle.core_event.specs.declared.event.Event.TheVariants.{Enter, Leave, Schedule, Sleep, Wake, Cancel, Take, Finish, Begin, TryBegin, End, Transfer, Batch, EndBatch, Checkpoint, Operation, Service}
use Rattle.core_event.specs.declared.reply.Refusal.{Refusal}
use Rattle.core_event.specs.declared.reply.Refusal.TheVariants as refusals
use Rattle.job_manager.specs.declared.manager.JobManager.{JobManager}
use Rattle.job_manager.specs.Refusals.{refusal}
use Rattle.job_manager.specs.Effects.{effect, taken, job_done, next_job, decided, outcome, rule_of}
use Rattle.ws_core.specs.States.{Moment}
use Rattle.ws_core.specs.Steps.{step}
use Rattle.ws_core.specs.Histories.{has_entered}
use Rattle.run_order.specs.Plans.{is_name}
use Rattle.run_order.specs.Alone.{AllOfOne, IsSingle, IsPlain}
use Rattle.ws_core.proofs.Roomy.{serving}
use Rattle.run_order.proofs.Managed.{step_serving}
use Rattle.run_order.proofs.Taken.{put_other, put_same}

-- ---- rules of one pass

all_more : (all : List (Held WsAtom)) (held : Held WsAtom) → held.holder ≡ 1 → AllOfOne all → AllOfOne (all ++ held ∷ [])
all_more [] held is p = (is, tt)
all_more (x ∷ all) held is p = (p.0, all_more all held is p.1)

all_fewer : (all : List (Held WsAtom)) → AllOfOne all → AllOfOne (without_last 1 all)
all_fewer [] p = tt
all_fewer (x ∷ all) p = elim (is_of 1 x && not (list_any (is_of 1) all)) as (λ (b : Bool). AllOfOne (if b then all else x ∷ without_last 1 all)) [ true ↦ p.1 | false ↦ (p.0, all_fewer all p.1) ]

pub none_without : (all : List (Held WsAtom)) → AllOfOne all → without 1 all ≡ []
none_without [] p = refl
none_without (x ∷ all) p =
    let yes : (x.holder == 1) ≡ true = grind (arith, p.0) in
    ap (λ (b : Bool). if not b then x ∷ without 1 all else without 1 all) yes ∙ none_without all p.1

-- ---- jobs that are run

module _ {A : Type 0} where
  abbrev state_at : Jobs A → List ℕ → Option JobState
  state_at m name = option_map (λ (job : Job A). job.state) (get m name)

  -- where a job's state is changed to another one, those that are run were so
  pub changed_runs : (m : Jobs A) (n name : List ℕ) (change : Job A → Job A) → ((job : Job A) → (change job).state ≢ states.Running)
      → state_at (changed change n m) name ≡ Some states.Running → (state_at m name ≡ Some states.Running) × (is_name name n ≡ false)
  changed_runs m n name change other is = by (is_name name n) refl
    where
      none : (o : Option (Job A)) → option_map (λ (job : Job A). job.state) (option_map change o) ≡ Some states.Running → ⊥
      none None h = cc
      none (Some job) h = other job (same_Some (change job).state states.Running h)

      by : (b : Bool) → is_name name n ≡ b → (state_at m name ≡ Some states.Running) × (is_name name n ≡ false)
      by false e = (sym (ap (option_map (λ (job : Job A). job.state)) (put_other m n name (option_map change (get m n)) e)) ∙ is, e)
      by true e = absurd (none (get m n) (sym (ap (option_map (λ (job : Job A). job.state)) (put_same m n name change (get m n) refl e)) ∙ is))

  -- and where one is put in another state
  pub put_runs : (m : Jobs A) (n name : List ℕ) (job : Job A) → job.state ≢ states.Running → state_at (insert m n job) name ≡ Some states.Running → state_at m name ≡ Some states.Running
  put_runs m n name job other is = by (is_name name n) (sym (ap (option_map (λ (j : Job A). j.state)) (get-insert name_cmp_total m n job name)) ∙ is)
    where
      by : (b : Bool) → option_map (λ (j : Job A). j.state) (cond b (Some job) (get m name)) ≡ Some states.Running → state_at m name ≡ Some states.Running
      by true h = absurd (other (same_Some job.state states.Running h))
      by false h = h

  -- where one is begun, it is the one that is run, or another was
  begun_runs : (m : Jobs A) (n name : List ℕ) → state_at (changed (queue.in_state states.Running) n m) name ≡ Some states.Running → (name ≡ n) ⊎ (state_at m name ≡ Some states.Running)
  begun_runs m n name is = by (is_name name n) refl
    where
      by : (b : Bool) → is_name name n ≡ b → (name ≡ n) ⊎ (state_at m name ≡ Some states.Running)
      by true e = inl (same_key name_cmp_exact name n e)
      by false e = inr (sym (ap (option_map (λ (job : Job A). job.state)) (put_other m n name (option_map (queue.in_state states.Running) (get m n)) e)) ∙ is)

-- ---- the passes

pub table_put : (t : Table) (change : Pass → Pass) (o : Option Pass) → get t 1 ≡ o → get (put_if t 1 (option_map change o)) 1 ≡ option_map change o
table_put t change None is = is
table_put t change (Some pass) is = get-insert nat_cmp_total t 1 (change pass) 1 ∙ ap (λ b. cond b (Some (change pass)) (get t 1)) (itself nat_cmp_total 1)

same_job : (o : Option Pass) (change : Pass → Pass) → ((pass : Pass) → (change pass).job ≡ pass.job) → job_in (option_map change o) ≡ job_in o
same_job None change same = refl
same_job (Some pass) change same = same pass

pub batches_job : (p : Passes WsAtom) (change : Pass → Pass) → ((pass : Pass) → (change pass).job ≡ pass.job) → job_in (get (changed change 1 p.there) 1) ≡ job_of p 1
batches_job p change same = ap job_in (table_put p.there change (get p.there 1) refl) ∙ same_job (get p.there 1) change same

pub job_given : (t : Table) (name : List ℕ) → is_some (get t 1) ≡ true → job_in (get (changed (rows.with_job (Some name)) 1 t) 1) ≡ Some name
job_given t name there = ap job_in (table_put t (rows.with_job (Some name)) (get t 1) refl) ∙ given (get t 1) there
  where
    given : (o : Option Pass) → is_some o ≡ true → job_in (option_map (rows.with_job (Some name)) o) ≡ Some name
    given None h = cc
    given (Some pass) h = refl

-- ---- events

unless : (b : Bool) (r : Refusal) → when b r ≡ None → b ≡ false
unless true r h = cc
unless false r h = refl

either : (a b c : Bool) → ((a || b) || c) ≡ false → b ≡ false
either true b c h = cc
either false true c h = cc
either false false c h = refl

no_job : (o : Option (List ℕ)) → is_some o ≡ false → o ≡ None
no_job None h = refl
no_job (Some name) h = cc

-- a pass that may take a job has none
free_of_jobs : (m : JobManager) (k : ℕ) → refusal m k Take ≡ None → job_of m.passes k ≡ None
free_of_jobs m k r =
    no_job (job_of m.passes k) (either (is_some (last_rule k m.passes.rules)) (is_some (job_of m.passes k)) (not (batches_of m.passes k == 0))
    (neither (is_some (last_rule k m.passes.rules) || is_some (job_of m.passes k) || not (batches_of m.passes k == 0)) (serves m.passes k) (unless (is_busy m.passes k) refusals.PassBusy r)))

pub first_other : (asleep : Bool) → queue.first_state asleep ≢ states.Running
first_other true h = cc
first_other false h = cc

sleeping_other : states.Sleeping ≢ states.Running
sleeping_other h = cc

waiting_other : states.Waiting ≢ states.Running
waiting_other h = cc

pub over_other : states.None ≢ states.Running
over_other h = cc

taken_single : (m : JobManager) → has_pass m.passes 1 ≡ true → job_of m.passes 1 ≡ None → IsSingle m → IsSingle (taken m 1 (next_job m)).0
taken_single m there free s = by (next_job m)
  where
    by : (n : Option (List ℕ)) → IsSingle (taken m 1 n).0
    by None = s
    by (Some n) = record {
      held = all_more m.passes.rules (record { holder = 1; rule = rule_of m.jobs n }) refl s.held;
      runs = λ name is. elim (begun_runs m.jobs.jobs n name is) [
        | inl same ↦ job_given m.passes.there n there ∙ ap Some (sym same)
        | inr was ↦ absurd (not_Some name (sym free ∙ s.runs name was))
      ];
    }

pub finished_single : (m : JobManager) (o : Option (List ℕ)) → job_of m.passes 1 ≡ o → is_none o ≡ false → IsSingle m → (name : List ℕ) → state_of (job_done m.jobs o) name ≡ Some states.Running → ⊥
finished_single m None at some s name is = cc
finished_single m (Some n) at some s name is =
    let was = changed_runs m.jobs.jobs n name queue.over (λ _. over_other) is in
    let same : name ≡ n = same_Some name n (sym (s.runs name was.0) ∙ at) in
    differ (sym (itself name_cmp_total name) ∙ ap (is_name name) same ∙ was.1)

effect_single : (m : JobManager) (k : ℕ) (e : Event) → has_pass m.passes k ≡ true → IsPlain k e → refusal m k e ≡ None → IsSingle m → IsSingle (effect m k e).0
effect_single m k Enter there plain r s = absurd plain
effect_single m k Leave there plain r s = absurd plain
effect_single m k (Schedule n p u a) there plain r s = record { held = s.held; runs = λ name is. s.runs name (put_runs m.jobs.jobs n name _ (first_other a) is) }
effect_single m k (Sleep n) there plain r s = record { held = s.held; runs = λ name is. s.runs name (changed_runs m.jobs.jobs n name (queue.in_state states.Sleeping) (λ _. sleeping_other) is).0 }
effect_single m k (Wake n) there plain r s = record { held = s.held; runs = λ name is. s.runs name (changed_runs m.jobs.jobs n name (queue.in_state states.Waiting) (λ _. waiting_other) is).0 }
effect_single m k (Cancel n) there plain r s = record { held = s.held; runs = λ name is. s.runs name (changed_runs m.jobs.jobs n name queue.over (λ _. over_other) is).0 }
effect_single m k Take there plain r s =
    subst (λ j. IsSingle (taken m j (next_job m)).0) (sym plain) (taken_single m (ap (has_pass m.passes) (sym plain) ∙ there) (ap (job_of m.passes) (sym plain) ∙ free_of_jobs m k r) s)
effect_single m k Finish there plain r s = subst (λ j. IsSingle (effect m j Finish).0) (sym plain) (record {
  held = subst AllOfOne (sym (none_without m.passes.rules s.held)) tt;
  runs = λ name is. absurd (finished_single m (job_of m.passes 1) refl (unless (is_none (job_of m.passes 1)) (refusals.WrongState states.None) (ap (λ j. refusal m j Finish) (sym plain) ∙ r)) s name is);
})
effect_single m k (Begin u) there plain r s = record { held = all_more m.passes.rules (record { holder = k; rule = u }) plain s.held; runs = s.runs }
effect_single m k (TryBegin u) there plain r s = record { held = all_more m.passes.rules (record { holder = k; rule = u }) plain s.held; runs = s.runs }
effect_single m k (End u) there plain r s = record { held = subst (λ j. AllOfOne (without_last j m.passes.rules)) (sym plain) (all_fewer m.passes.rules s.held); runs = s.runs }
effect_single m k (Transfer to) there plain r s = absurd plain
effect_single m k Batch there plain r s = subst (λ j. IsSingle (effect m j Batch).0) (sym plain) (record { held = s.held; runs = λ name is. batches_job m.passes (λ pass. rows.with_batches (pass.batches + 1) pass) (λ _. refl) ∙ s.runs name is })
effect_single m k EndBatch there plain r s = subst (λ j. IsSingle (effect m j EndBatch).0) (sym plain) (record { held = s.held; runs = λ name is. batches_job m.passes (λ pass. rows.with_batches (pass.batches - 1) pass) (λ _. refl) ∙ s.runs name is })
effect_single m k Checkpoint there plain r s = s
effect_single m k (Operation op) there plain r s = s
effect_single m k (Service x) there plain r s = s

-- what holds is kept by what pass 0 does between parts, and by what pass 1 does in its own
pub step_single : (s : Moment) (k : ℕ) (e : Event) → has_entered k s ≡ true → IsPlain k e → IsSingle s.manager → IsSingle (step s k e).0.manager
step_single s k e there plain single =
    let now = step_serving s k e in
    subst IsSingle (sym now.1) (served (outcome s.manager k e).0 now.0 (by (refusal s.manager k e) refl))
  where
    served : (m : JobManager) (services : Option ℕ) → IsSingle m → IsSingle (serving m services)
    served m services x = record { held = x.held; runs = x.runs }

    by : (r : Option Refusal) → refusal s.manager k e ≡ r → IsSingle (decided r s.manager k e).0
    by None is = effect_single s.manager k e there plain is single
    by (Some r) is = single
