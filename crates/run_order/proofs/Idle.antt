-- One worker alone, between its parts: it has nothing, so it may take a job, and where it gets none, none is left.
use Rattle.std.proofs.Common.{◌≡◌, ◌⊎◌, inl, inr, ℕ, ◌+◌, ◌-◌, Bool, true, false, cond, not, ◌&&◌, ◌||◌, ◌==◌, if◌then◌else◌, List, [], ◌∷◌, length, refl, ap, sym, ◌∙◌, subst, arith}
use Rattle.std.specs.Prelude.{Option, Some, None, is_some, is_none, filter, find}
use Rattle.std.specs.Option.{option_eq, option_map}
use Rattle.std.specs.FinMap.{get, entries, entries_sorted, get-insert, get-empty, get-entries}
use Rattle.std.proofs.lemmas.Cmp.{nat_cmp_total}
use Rattle.sched_rules.specs.Atoms.{atom_conflicts}
use Rattle.sched_rules.specs.declared.ws_atom.WsAtom.{WsAtom}
use Rattle.rule_table.specs.declared.held.Held.{Held}
use Rattle.rule_table.specs.Tables.{last_rule}
use Rattle.job_queue.specs.declared.state.JobState.{JobState}
use Rattle.job_queue.specs.declared.state.JobState.TheVariants as states
use Rattle.job_queue.specs.declared.job.Job.{Job}
use Rattle.job_queue.specs.States.{is_live, is_waiting}
use Rattle.job_queue.specs.Queues.{Jobs, Queue, name_cmp, live, may_start, earliest, earlier, next_name, over}
use Rattle.job_queue.proofs.Named.{name_cmp_total, name_cmp_exact}
use Rattle.job_queue.proofs.Found.{differ, itself, not_Some, find_some}
use Rattle.job_queue.proofs.Counted.{bit, bit_at, count_insert}
use Rattle.pass_table.specs.declared.pass.Pass.{Pass}
use Rattle.pass_table.specs.Passes.{has_pass, job_of, job_in, batches_in, idle, is_busy}
use Rattle.pass_table.specs.Rows as rows
use Rattle.proj_desc.specs.FirstCause.{when}
use Rattle.core_event.specs.declared.event.Event.{Event}
use Rattle.core_event.specs.declared.event.Event.TheVariants.{Enter, Leave, Schedule, Sleep, Wake, Cancel, Take, Finish, Begin, TryBegin, End, Transfer, Batch, EndBatch, Checkpoint, Operation, Service}
use Rattle.core_event.specs.declared.reply.Answer.TheVariants as answers
use Rattle.core_event.specs.declared.reply.Refusal.{Refusal}
use Rattle.core_event.specs.declared.reply.Refusal.TheVariants as refusals
use Rattle.job_manager.specs.declared.manager.JobManager.{JobManager}
use Rattle.job_manager.specs.Refusals.{refusal}
use Rattle.job_manager.specs.Effects.{effect, taken, next_job, decided, outcome}
use Rattle.ws_core.specs.States.{Moment}
use Rattle.ws_core.specs.Steps.{step}
use Rattle.res_path.specs.Paths.{Names}
use Rattle.ws_core.specs.Histories.{fresh_for}
use Rattle.run_order.specs.Alone.{AllOfOne, IsSingle, IsPlain, IsIdle, IsBusy, IsCommand}
use Rattle.run_order.proofs.Managed.{step_services, step_answer}
use Rattle.run_order.proofs.Waiting.{command_plain}
use Rattle.ws_core.proofs.Roomy.{step_manager}
use Rattle.run_order.proofs.Single.{step_single, none_without, table_put, batches_job, job_given, finished_single, first_other, over_other, put_runs, changed_runs}

-- ---- jobs of a queue

abbrev test_of : {A : Type 0} → (Job A → Bool) → List ℕ × Job A → Bool
test_of p e = p e.1

-- where no job that is found passes, no entry does
none_pass : {A : Type 0} (p : Job A → Bool) (m : Jobs A) → ((name : List ℕ) (job : Job A) → get m name ≡ Some job → p job ≡ false) → length (filter (λ e. p e.1) (entries m)) ≡ 0
none_pass {A} p m none = by (find (test_of p) (entries m)) refl
  where
    none_found : (es : List (List ℕ × Job A)) → find (test_of p) es ≡ None → length (filter (test_of p) es) ≡ 0
    none_found [] h = refl
    none_found (e ∷ es) h = one (test_of p e) h (none_found es)
      where
        one : (b : Bool) → cond b (Some e) (find (test_of p) es) ≡ None → (find (test_of p) es ≡ None → length (filter (test_of p) es) ≡ 0) → length (cond b (e ∷ filter (test_of p) es) (filter (test_of p) es)) ≡ 0
        one true g rest = cc
        one false g rest = rest g

    by : (o : Option (List ℕ × Job A)) → find (test_of p) (entries m) ≡ o → length (filter (test_of p) (entries m)) ≡ 0
    by None h = none_found (entries m) h
    by (Some e) h =
        let found = find_some name_cmp_total name_cmp_exact (test_of p) (entries m) (entries_sorted m) e h in
        absurd (differ (sym found.passes ∙ none e.0 e.1 (get-entries m e.0 ∙ found.there)))

-- where no job comes next, none may start
none_next : (q : Queue WsAtom) (held : List (Held WsAtom)) (name : List ℕ) (job : Job WsAtom) → next_name atom_conflicts held q ≡ None → get q.jobs name ≡ Some job → may_start atom_conflicts held job ≡ false
none_next q held name job none is =
    let count = count_insert (λ (j : Job WsAtom). may_start atom_conflicts held j) name_cmp_total name (over job) q.jobs in
    let here = ap (bit_at (λ (j : Job WsAtom). may_start atom_conflicts held j)) is in
    let all = none_earliest (filter (λ (e : List ℕ × Job WsAtom). may_start atom_conflicts held e.1) (entries q.jobs)) none in
    zero_bit (may_start atom_conflicts held job) (omega (arith, count, here, all))
  where
    none_earliest : (es : List (List ℕ × Job WsAtom)) → option_map (λ e. e.0) (earliest es) ≡ None → length es ≡ 0
    none_earliest [] h = refl
    none_earliest (e ∷ es) h = one (earliest es) h
      where
        one : (o : Option (List ℕ × Job WsAtom)) → option_map (λ (e : List ℕ × Job WsAtom). e.0) (earlier e o) ≡ None → length (e ∷ es) ≡ 0
        one None g = cc
        one (Some other) g = absurd (some_earlier _ g)
          where
            some_earlier : (b : Bool) → option_map (λ (e : List ℕ × Job WsAtom). e.0) (if b then Some other else Some e) ≡ None → ⊥
            some_earlier true g = cc
            some_earlier false g = cc

    zero_bit : (b : Bool) → bit b ≡ 0 → b ≡ false
    zero_bit true h = absurd (omega (arith, h))
    zero_bit false h = refl

-- ---- between parts

pub idle_single : (m : JobManager) → IsIdle m → IsSingle m
idle_single m i = record { held = subst AllOfOne (sym i.rules) tt; runs = λ name is. absurd (i.runs name is) }

-- where no job comes next, none waits or is run
idle_over : (m : JobManager) → IsIdle m → next_job m ≡ None → live m.jobs ≡ 0
idle_over m i none = none_pass (λ job. is_live job.state) m.jobs.jobs each
  where
    waits : (job : Job WsAtom) → may_start atom_conflicts [] job ≡ false → job.state ≡ states.Waiting → ⊥
    waits job h w = differ (sym (ap (λ s. is_waiting s && true) w) ∙ h)

    each : (name : List ℕ) (job : Job WsAtom) → get m.jobs.jobs name ≡ Some job → is_live job.state ≡ false
    each name job is = by job.state refl
      where
        by : (state : JobState) → job.state ≡ state → is_live job.state ≡ false
        by states.None e = ap is_live e
        by states.Sleeping e = ap is_live e
        by states.Waiting e = absurd (waits job (ap (λ held. may_start atom_conflicts held job) (sym i.rules) ∙ none_next m.jobs m.passes.rules name job none is) e)
        by states.Running e = absurd (i.runs name (ap (option_map (λ (j : Job WsAtom). j.state)) is ∙ ap Some e))

-- in the fresh workspace, whoever its builders are, once pass 1 was let in
pub entered_idle : (builders : Names) → IsIdle (step (fresh_for builders) 0 Enter).0.manager
entered_idle builders = subst IsIdle (sym (step_manager (fresh_for builders) 0 Enter refl)) (record {
  rules = refl;
  there = get-insert nat_cmp_total (fresh_for builders).manager.passes.there 1 idle 1 ∙ ap (λ b. cond b (Some idle) (get (fresh_for builders).manager.passes.there 1)) (itself nat_cmp_total 1);
  runs = λ name is. not_Some states.Running (sym (ap (option_map (λ (j : Job WsAtom). j.state)) (get-empty name_cmp name)) ∙ is);
  services = refl;
})

-- ---- Take

may_take : (m : JobManager) → IsIdle m → refusal m 1 Take ≡ None
may_take m i = ap (λ b. when b refusals.PassBusy) (none ∙ free ∙ unserved)
  where
    busy_with : Bool → Option Pass → Option ℕ → Bool
    busy_with b p services = b || is_some (job_in p) || not (batches_in p == 0) || option_eq (λ a b. a == b) services (Some 1)

    none : is_busy m.passes 1 ≡ busy_with false (get m.passes.there 1) m.passes.services
    none = ap (λ (all : List (Held WsAtom)). busy_with (is_some (last_rule 1 all)) (get m.passes.there 1) m.passes.services) i.rules

    free : busy_with false (get m.passes.there 1) m.passes.services ≡ busy_with false (Some idle) m.passes.services
    free = ap (λ p. busy_with false p m.passes.services) i.there

    unserved : busy_with false (Some idle) m.passes.services ≡ false
    unserved = ap (busy_with false (Some idle)) i.services

-- ---- a job is taken, run and finished

there_of : (o : Option Pass) (name : List ℕ) → job_in o ≡ Some name → is_some o ≡ true
there_of None name h = cc
there_of (Some pass) name h = refl

pub is_there : (m : JobManager) (name : List ℕ) → job_of m.passes 1 ≡ Some name → has_pass m.passes 1 ≡ true
is_there m name h = there_of (get m.passes.there 1) name h

-- what is left where no job comes, or the job is taken
pub take_gives : (s : Moment) → IsIdle s.manager
    → ((name : List ℕ) × ((step s 1 Take).1.answer ≡ answers.Job name) × IsBusy name (step s 1 Take).0.manager) ⊎ (((step s 1 Take).1.answer ≡ answers.None) × (live s.manager.jobs ≡ 0) × IsIdle (step s 1 Take).0.manager)
take_gives s i = by (next_job s.manager) refl
  where
    takes : outcome s.manager 1 Take ≡ taken s.manager 1 (next_job s.manager)
    takes = ap (λ r. decided r s.manager 1 Take) (may_take s.manager i)

    there : has_pass s.manager.passes 1 ≡ true
    there = ap is_some i.there

    by : (n : Option (List ℕ)) → next_job s.manager ≡ n
        → ((name : List ℕ) × ((step s 1 Take).1.answer ≡ answers.Job name) × IsBusy name (step s 1 Take).0.manager) ⊎ (((step s 1 Take).1.answer ≡ answers.None) × (live s.manager.jobs ≡ 0) × IsIdle (step s 1 Take).0.manager)
    by None is = inr (step_answer s 1 Take refl refl ∙ (ap (λ d. d.1) takes ∙ ap (λ n. (taken s.manager 1 n).1) is), idle_over s.manager i is, subst IsIdle (sym (step_manager s 1 Take refl ∙ (ap (λ d. d.0) takes ∙ ap (λ n. (taken s.manager 1 n).0) is))) i)
    by (Some name) is = inl (
      name,
      step_answer s 1 Take refl refl ∙ (ap (λ d. d.1) takes ∙ ap (λ n. (taken s.manager 1 n).1) is),
      record {
        single = step_single s 1 Take there refl (idle_single s.manager i);
        job = ap (λ (m : JobManager). job_of m.passes 1) (step_manager s 1 Take refl ∙ (ap (λ d. d.0) takes ∙ ap (λ n. (taken s.manager 1 n).0) is)) ∙ job_given s.manager.passes.there name there;
        services = step_services s 1 Take refl ∙ i.services;
      },
    )

effect_job : (m : JobManager) (e : Event) → IsCommand e → job_of (effect m 1 e).0.passes 1 ≡ job_of m.passes 1
effect_job m Enter c = absurd c
effect_job m Leave c = absurd c
effect_job m (Schedule n p u a) c = refl
effect_job m (Sleep n) c = refl
effect_job m (Wake n) c = refl
effect_job m (Cancel n) c = refl
effect_job m Take c = absurd c
effect_job m Finish c = absurd c
effect_job m (Begin u) c = refl
effect_job m (TryBegin u) c = refl
effect_job m (End u) c = refl
effect_job m (Transfer to) c = absurd c
effect_job m Batch c = batches_job m.passes (λ pass. rows.with_batches (pass.batches + 1) pass) (λ _. refl)
effect_job m EndBatch c = batches_job m.passes (λ pass. rows.with_batches (pass.batches - 1) pass) (λ _. refl)
effect_job m Checkpoint c = refl
effect_job m (Operation op) c = refl
effect_job m (Service x) c = absurd c

plain_command : (e : Event) → IsCommand e → IsPlain 1 e
plain_command Enter c = c
plain_command Leave c = c
plain_command (Schedule n p u a) c = tt
plain_command (Sleep n) c = tt
plain_command (Wake n) c = tt
plain_command (Cancel n) c = tt
plain_command Take c = absurd c
plain_command Finish c = absurd c
plain_command (Begin u) c = refl
plain_command (TryBegin u) c = refl
plain_command (End u) c = refl
plain_command (Transfer to) c = c
plain_command Batch c = refl
plain_command EndBatch c = refl
plain_command Checkpoint c = tt
plain_command (Operation op) c = tt
plain_command (Service x) c = absurd c

-- a command leaves the pass its job
pub command_keeps : (s : Moment) (e : Event) (name : List ℕ) → IsCommand e → IsBusy name s.manager → IsBusy name (step s 1 e).0.manager
command_keeps s e name c b = record {
  single = step_single s 1 e (is_there s.manager name b.job) (plain_command e c) b.single;
  job = ap (λ (m : JobManager). job_of m.passes 1) (step_manager s 1 e (command_plain e c)) ∙ (by (refusal s.manager 1 e) ∙ b.job);
  services = step_services s 1 e (command_plain e c) ∙ b.services;
}
  where
    by : (r : Option Refusal) → job_of (decided r s.manager 1 e).0.passes 1 ≡ job_of s.manager.passes 1
    by None = effect_job s.manager e c
    by (Some r) = refl

-- Finish leaves it nothing
pub finish_idles : (s : Moment) (name : List ℕ) → IsBusy name s.manager → IsIdle (step s 1 Finish).0.manager
finish_idles s name b = subst IsIdle (sym (step_manager s 1 Finish refl ∙ ap (λ r. (decided r s.manager 1 Finish).0) none)) (record {
  rules = none_without s.manager.passes.rules b.single.held;
  there = table_put s.manager.passes.there (λ _. idle) (get s.manager.passes.there 1) refl ∙ made (get s.manager.passes.there 1) (is_there s.manager name b.job);
  runs = λ other is. finished_single s.manager (job_of s.manager.passes 1) refl (ap is_none b.job) b.single other is;
  services = b.services;
})
  where
    none : refusal s.manager 1 Finish ≡ None
    none = ap (λ o. when (is_none o) (refusals.WrongState states.None)) b.job

    made : (o : Option Pass) → is_some o ≡ true → option_map (λ _. idle) o ≡ Some idle
    made None h = cc
    made (Some pass) h = refl

-- ---- pass 0 between parts

pub schedule_keeps : (s : Moment) (k : ℕ) (name : List ℕ) (priority : ℕ) (rule : List WsAtom) (asleep : Bool) → IsIdle s.manager → IsIdle (step s k (Schedule name priority rule asleep)).0.manager
schedule_keeps s k name priority rule asleep i = subst IsIdle (sym (step_manager s k (Schedule name priority rule asleep) refl)) (by (refusal s.manager k (Schedule name priority rule asleep)))
  where
    by : (r : Option Refusal) → IsIdle (decided r s.manager k (Schedule name priority rule asleep)).0
    by None = record { rules = i.rules; there = i.there; runs = λ other is. i.runs other (put_runs s.manager.jobs.jobs name other _ (first_other asleep) is); services = i.services }
    by (Some r) = i

pub cancel_keeps : (s : Moment) (k : ℕ) (name : List ℕ) → IsIdle s.manager → IsIdle (step s k (Cancel name)).0.manager
cancel_keeps s k name i = subst IsIdle (sym (step_manager s k (Cancel name) refl)) (by (refusal s.manager k (Cancel name)))
  where
    by : (r : Option Refusal) → IsIdle (decided r s.manager k (Cancel name)).0
    by None = record { rules = i.rules; there = i.there; runs = λ other is. i.runs other (changed_runs s.manager.jobs.jobs name other over (λ _. over_other) is).0; services = i.services }
    by (Some r) = i
