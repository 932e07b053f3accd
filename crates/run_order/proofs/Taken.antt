-- A job is taken at most as often as it was scheduled.
use Rattle.std.proofs.Common.{◌≡◌, ◌≤◌, ◌+◌, inl, inr, ℕ, Bool, true, false, cond, if◌then◌else◌, ◌&&◌, List, [], ◌∷◌, length, map, refl, ap, sym, ◌∙◌, subst, arith}
use Rattle.std.specs.Prelude.{Option, Some, None as nothing, filter}
use Rattle.std.specs.Option.{option_map}
use Rattle.std.specs.FinMap.{entries, get, insert, get-insert}
use Rattle.sched_rules.specs.Atoms.{atom_conflicts}
use Rattle.sched_rules.specs.declared.ws_atom.WsAtom.{WsAtom}
use Rattle.job_queue.specs.declared.state.JobState.{JobState}
use Rattle.job_queue.specs.declared.state.JobState.TheVariants as states
use Rattle.job_queue.specs.declared.job.Job.{Job}
use Rattle.job_queue.specs.declared.error.JobError.TheVariants.{WrongState}
use Rattle.job_queue.specs.Changed.{put_if, changed}
use Rattle.job_queue.specs.States.{is_waiting, is_sleeping, may_be_cancelled}
use Rattle.job_queue.specs.Queues.{Jobs, Queue, name_cmp, state_of, may_start}
use Rattle.job_queue.specs.Queues as queue
use Rattle.job_queue.proofs.Counted.{bit, bit_at, count_insert}
use Rattle.job_queue.proofs.Named.{name_cmp_total, name_cmp_exact}
use Rattle.job_queue.proofs.Found.{same_key, not_Some}
use Rattle.job_queue.proofs.Nexts.{may_next}
use Rattle.pass_table.specs.Passes.{job_of}
use Rattle.op_kind.specs.declared.answer.OpAnswer.{OpAnswer}
use Rattle.op_kind.specs.declared.answer.OpAnswer.TheVariants as op_answers
use Rattle.op_kind.specs.declared.op.Op.{Op}
use Rattle.op_kind.specs.Effects as ops
use Rattle.core_event.specs.declared.entry.Entry.{Entry}
use Rattle.core_event.specs.declared.event.Event.{Event}
use Rattle.core_event.specs.declared.event.Event.TheVariants.{Enter, Leave, Schedule, Sleep, Wake, Cancel, Take, Finish, Begin, TryBegin, End, Transfer, Batch, EndBatch, Checkpoint, Operation, Service}
use Rattle.core_event.specs.declared.reply.Refusal.{Refusal}
use Rattle.core_event.specs.declared.reply.Reply.{Reply}
use Rattle.core_event.specs.declared.service.Purpose.TheVariants.{Build, Save}
use Rattle.core_event.specs.declared.service.ServiceEvent.{ServiceEvent}
use Rattle.core_event.specs.declared.service.ServiceEvent.TheVariants.{Checkout, CheckIn, Handed, Commit, Clean, Saving}
use Rattle.core_event.specs.Replies.{answered}
use Rattle.job_manager.specs.declared.manager.JobManager.{JobManager}
use Rattle.job_manager.specs.Refusals.{refusal, by_job}
use Rattle.job_manager.specs.Effects.{effect, taken, job_done, next_job, decided, outcome}
use Rattle.ws_core.specs.States.{Moment}
use Rattle.build_due.specs.declared.site.Site.{Site}
use Rattle.service_desk.specs.Sites.{site_in}
use Rattle.ws_core.specs.Refusals as core
use Rattle.ws_core.specs.Effects.{clean_for, commit_for, hand, serve}
use Rattle.ws_core.specs.Steps.{acted, act, tells, step}
use Rattle.ws_core.specs.Histories.{after, replay, replies}
use Rattle.run_order.specs.Plans.{is_name}
use Rattle.run_order.specs.Counts.{one_if, scheduling, schedules_in, schedules_of, giving, taken_in, takes_of, still, pending, left}
use Rattle.run_order.proofs.Managed.{step_serving, step_answer, told_answer, operation_answer}
use Rattle.ws_core.proofs.Stepped.{Concern, OfOperation, OfService, OfManager, concern_of}

-- ---- one job whose state changes

bit_le : (b : Bool) → one_if b ≤ 1
bit_le true = omega arith
bit_le false = omega arith

still_le : (o : Option JobState) → still o ≤ 1
still_le nothing = omega arith
still_le (Some state) = bit_le (may_be_cancelled state)

abbrev given : Bool → ℕ → ℕ
given b c = if b then c else 0

no_more : (b : Bool) → given b 0 ≡ 0
no_more true = refl
no_more false = refl

bit_one : (b : Bool) → bit b ≡ one_if b
bit_one true = refl
bit_one false = refl

-- what becomes of the job of one name, where that of another changes
module _ {A : Type 0} where
  pub put_other : (m : Jobs A) (n name : List ℕ) (o : Option (Job A)) → is_name name n ≡ false → get (put_if m n o) name ≡ get m name
  put_other m n name nothing e = refl
  put_other m n name (Some job) e = get-insert name_cmp_total m n job name ∙ ap (λ b. cond b (Some job) (get m name)) e

  pub put_same : (m : Jobs A) (n name : List ℕ) (change : Job A → Job A) (o : Option (Job A)) → get m n ≡ o → is_name name n ≡ true → get (put_if m n (option_map change o)) name ≡ option_map change o
  put_same m n name change nothing is e = subst (λ k. get m k ≡ nothing) (sym (same_key name_cmp_exact name n e)) is
  put_same m n name change (Some job) is e = get-insert name_cmp_total m n (change job) name ∙ ap (λ b. cond b (Some (change job)) (get m name)) e

  abbrev left_in : Jobs A → ℕ
  left_in m = length (filter (λ e. may_be_cancelled e.1.state) (entries m))

  abbrev state_in : Option (Job A) → Option JobState
  state_in o = option_map (λ (job : Job A). job.state) o

  changed_still : (m : Jobs A) (n name : List ℕ) (change : Job A → Job A) (c : Bool)
      → ((job : Job A) → get m n ≡ Some job → still (Some (change job).state) + one_if c ≤ still (Some job.state)) → (get m n ≡ nothing → c ≡ false)
      → still (state_in (get (changed change n m) name)) + given c (one_if (is_name name n)) ≤ still (state_in (get m name))
  changed_still m n name change c less none = by (is_name name n) refl
    where
      each : (o : Option (Job A)) → get m n ≡ o → still (state_in (option_map change o)) + one_if c ≤ still (state_in o)
      each nothing is = let z = ap one_if (none is) in omega (arith, z)
      each (Some job) is = less job is

      by : (b : Bool) → is_name name n ≡ b → still (state_in (get (changed change n m) name)) + given c (one_if b) ≤ still (state_in (get m name))
      by false e = let same = ap (λ o. still (state_in o)) (put_other m n name (option_map change (get m n)) e) in let z = no_more c in omega (arith, same, z)
      by true e =
          let now = ap (λ o. still (state_in o)) (put_same m n name change (get m n) refl e) in
          let was = ap (λ k. still (state_in (get m k))) (same_key name_cmp_exact name n e) in
          let le = each (get m n) refl in
          omega (arith, now, was, le)

  -- the same of all jobs together
  changed_left : (m : Jobs A) (n : List ℕ) (change : Job A → Job A) (c : Bool)
      → ((job : Job A) → get m n ≡ Some job → still (Some (change job).state) + one_if c ≤ still (Some job.state)) → (get m n ≡ nothing → c ≡ false)
      → left_in (changed change n m) + given c 1 ≤ left_in m
  changed_left m n change c less none = by (get m n) refl
    where
      by : (o : Option (Job A)) → get m n ≡ o → left_in (put_if m n (option_map change o)) + given c 1 ≤ left_in m
      by nothing is = let z = ap (λ b. given b 1) (none is) in omega (arith, z)
      by (Some job) is =
          let count = count_insert (λ (job : Job A). may_be_cancelled job.state) name_cmp_total n (change job) m in
          let was = ap (bit_at (λ (job : Job A). may_be_cancelled job.state)) is ∙ bit_one (may_be_cancelled job.state) in
          let now = bit_one (may_be_cancelled (change job).state) in
          let le = less job is in
          omega (arith, count, was, now, le)

  put_left : (m : Jobs A) (n : List ℕ) (job : Job A) → left_in (insert m n job) ≤ left_in m + 1
  put_left m n job =
      let count = count_insert (λ (job : Job A). may_be_cancelled job.state) name_cmp_total n job m in
      let now = bit_one (may_be_cancelled job.state) in
      let le = bit_le (may_be_cancelled job.state) in
      omega (arith, count, now, le)

  put_still : (m : Jobs A) (n name : List ℕ) (job : Job A) → still (state_in (get (insert m n job) name)) ≤ still (state_in (get m name)) + one_if (is_name name n)
  put_still m n name job = by (is_name name n) refl
    where
      by : (b : Bool) → is_name name n ≡ b → still (state_in (get (insert m n job) name)) ≤ still (state_in (get m name)) + one_if b
      by true e = let le = still_le (state_in (get (insert m n job) name)) in omega (arith, le)
      by false e = let same = ap (λ o. still (state_in o)) (get-insert name_cmp_total m n job name ∙ ap (λ b. cond b (Some job) (get m name)) e) in omega (arith, same)

-- ---- which job a call is for

one_of : (state : JobState) → is_waiting state ≡ true → still (Some state) ≡ 1
one_of states.None h = cc
one_of states.Sleeping h = cc
one_of states.Waiting h = refl
one_of states.Running h = cc

sleeps_still : (state : JobState) → is_sleeping state ≡ true → still (Some state) ≡ 1
sleeps_still states.None h = cc
sleeps_still states.Sleeping h = refl
sleeps_still states.Waiting h = cc
sleeps_still states.Running h = cc

-- a call that isn't refused is for a job in one of its states
may_be : (may : JobState → Bool) (state : JobState) → by_job (queue.refusal may (Some state)) ≡ nothing → may state ≡ true
may_be may state h = by (may state) h
  where
    by : (b : Bool) → by_job (if b then nothing else Some (WrongState state)) ≡ nothing → b ≡ true
    by true h = refl
    by false h = cc

both : (a b : Bool) → (a && b) ≡ true → a ≡ true
both true b e = refl
both false b e = cc

-- ---- an event

answered_none : (count : List ℕ → ℕ) (a : OpAnswer) → giving count (answered a) ≡ 0
answered_none count op_answers.Done = refl
answered_none count (op_answers.Id id) = refl
answered_none count (op_answers.Count many) = refl
answered_none count (op_answers.Seen entries partners) = refl

operation_none : (count : List ℕ → ℕ) (s : Moment) (k : ℕ) (op : Op) → giving count (step s k (Operation op)).1.answer ≡ 0
operation_none count s k op = elim (operation_answer s k op) [
  | inl refused ↦ ap (giving count) refused.2
  | inr done ↦ ap (giving count) done ∙ answered_none count (ops.effect s.resources op).1
]

-- nothing that concerns the services gives a job
service_none : (count : List ℕ → ℕ) (s : Moment) (k : ℕ) (x : ServiceEvent) → giving count (step s k (Service x)).1.answer ≡ 0
service_none count s k x =
    ap (giving count) (told_answer (tells (Service x) (act s k (Service x)).0) (act s k (Service x)).0 (act s k (Service x)).1) ∙ by (core.refusal s k (Service x))
  where
    served : (v : ServiceEvent) → giving count (serve s k v).1 ≡ 0
    served (Checkout (Build kind scope)) = refl
    served (Checkout (Save kind)) = refl
    served (CheckIn outcome) = refl
    served (Saving states) = refl
    served (Handed project index kind) = of (site_in s.resources.tree project index)
      where
        of : (o : Option Site) → giving count (hand s o kind).1 ≡ 0
        of nothing = refl
        of (Some site) = refl
    served (Commit edits) = of (core.current s)
      where
        of : (o : Option Site) → giving count (commit_for s o edits).1 ≡ 0
        of nothing = refl
        of (Some site) = refl
    served (Clean project index) = of (site_in s.resources.tree project index)
      where
        of : (o : Option Site) → giving count (clean_for s o).1 ≡ 0
        of nothing = refl
        of (Some site) = refl

    by : (r : Option Refusal) → giving count (acted r s k (Service x)).1 ≡ 0
    by nothing = served x
    by (Some r) = refl

-- a number told of jobs, in which one that may still be taken counts what its name counts, and no other does
record IsCount (many : Jobs WsAtom → ℕ) (count : List ℕ → ℕ) : Type 0 where
  change : (m : Jobs WsAtom) (n : List ℕ) (f : Job WsAtom → Job WsAtom) (c : Bool) → ((job : Job WsAtom) → get m n ≡ Some job → still (Some (f job).state) + one_if c ≤ still (Some job.state))
      → (get m n ≡ nothing → c ≡ false) → many (changed f n m) + given c (count n) ≤ many m
  put : (m : Jobs WsAtom) (n : List ℕ) (job : Job WsAtom) → many (insert m n job) ≤ many m + count n

module _ (many : Jobs WsAtom → ℕ) (count : List ℕ → ℕ) (is : IsCount many count) where
  -- a change after which the job may not be taken any sooner
  less : (m : Jobs WsAtom) (n : List ℕ) (f : Job WsAtom → Job WsAtom) → ((job : Job WsAtom) → get m n ≡ Some job → still (Some (f job).state) ≤ still (Some job.state)) → many (changed f n m) ≤ many m
  less m n f le = let all = is.change m n f false (λ job at. let l = le job at in omega (arith, l)) (λ _. refl) in omega (arith, all)

  effect_many : (m : JobManager) (k : ℕ) (e : Event) → refusal m k e ≡ nothing → many (effect m k e).0.jobs.jobs + giving count (effect m k e).1 ≤ many m.jobs.jobs + scheduling count e
  effect_many m k Enter r = omega arith
  effect_many m k Leave r = omega arith
  effect_many m k (Schedule n p u a) r = let le = is.put m.jobs.jobs n (record { state = queue.first_state a; turn = record { priority = p; number = m.jobs.next_number }; rule = u }) in omega (arith, le)
  effect_many m k (Sleep n) r =
      let le = less m.jobs.jobs n (queue.in_state states.Sleeping) (λ job at.
      let w = one_of job.state (may_be is_waiting job.state (sym (ap (λ o. by_job (queue.refusal is_waiting (option_map (λ (j : Job WsAtom). j.state) o))) at) ∙ r)) in omega (arith, w)) in
      omega (arith, le)
  effect_many m k (Wake n) r =
      let le = less m.jobs.jobs n (queue.in_state states.Waiting) (λ job at.
      let w = sleeps_still job.state (may_be is_sleeping job.state (sym (ap (λ o. by_job (queue.refusal is_sleeping (option_map (λ (j : Job WsAtom). j.state) o))) at) ∙ r)) in omega (arith, w)) in
      omega (arith, le)
  effect_many m k (Cancel n) r = let le = less m.jobs.jobs n queue.over (λ job at. omega arith) in omega (arith, le)
  effect_many m k Take r = by (next_job m) refl
    where
      by : (o : Option (List ℕ)) → next_job m ≡ o → many (taken m k o).0.jobs.jobs + giving count (taken m k o).1 ≤ many m.jobs.jobs + 0
      by nothing e = omega arith
      by (Some n) e =
          let next = may_next atom_conflicts m.passes.rules m.jobs n e in
          let le = is.change m.jobs.jobs n (queue.in_state states.Running) true
          (λ job at. let w = one_of job.state (subst (λ (o : Option (Job WsAtom)). waits_in o) at (subst (λ (o : Option (Job WsAtom)). waits_in o) (sym next.1) (both (is_waiting next.0.state) _ next.2))) in omega (arith, w))
          (λ none. absurd (not_Some next.0 (sym none ∙ next.1))) in
          omega (arith, le)
        where
          waits_in : Option (Job WsAtom) → Type 0
          waits_in nothing = ⊥
          waits_in (Some job) = is_waiting job.state ≡ true
  effect_many m k Finish r = by (job_of m.passes k)
    where
      by : (o : Option (List ℕ)) → many (job_done m.jobs o).jobs + 0 ≤ many m.jobs.jobs + 0
      by nothing = omega arith
      by (Some n) = let le = less m.jobs.jobs n queue.over (λ job at. omega arith) in omega (arith, le)
  effect_many m k (Begin u) r = omega arith
  effect_many m k (TryBegin u) r = omega arith
  effect_many m k (End u) r = omega arith
  effect_many m k (Transfer to) r = omega arith
  effect_many m k Batch r = omega arith
  effect_many m k EndBatch r = omega arith
  effect_many m k Checkpoint r = omega arith
  effect_many m k (Operation op) r = omega arith
  effect_many m k (Service x) r = omega arith

  outcome_many : (m : JobManager) (k : ℕ) (e : Event) → many (outcome m k e).0.jobs.jobs + giving count (outcome m k e).1 ≤ many m.jobs.jobs + scheduling count e
  outcome_many m k e = by (refusal m k e) refl
    where
      by : (r : Option Refusal) → refusal m k e ≡ r → many (decided r m k e).0.jobs.jobs + giving count (decided r m k e).1 ≤ many m.jobs.jobs + scheduling count e
      by nothing h = effect_many m k e h
      by (Some r) h = omega arith

  step_many : (s : Moment) (k : ℕ) (e : Event) → many (step s k e).0.manager.jobs.jobs + giving count (step s k e).1.answer ≤ many s.manager.jobs.jobs + scheduling count e
  step_many s k e = by (concern_of e)
    where
      out : many (outcome s.manager k e).0.jobs.jobs + giving count (outcome s.manager k e).1 ≤ many s.manager.jobs.jobs + scheduling count e
      out = outcome_many s.manager k e

      same : many (step s k e).0.manager.jobs.jobs ≡ many (outcome s.manager k e).0.jobs.jobs
      same = ap (λ (m : JobManager). many m.jobs.jobs) (step_serving s k e).1

      by : Concern e → many (step s k e).0.manager.jobs.jobs + giving count (step s k e).1.answer ≤ many s.manager.jobs.jobs + scheduling count e
      by (OfManager none plain) = let answer = ap (giving count) (step_answer s k e none plain) in omega (arith, out, same, answer)
      by (OfOperation op at) = let none = subst (λ x. giving count (step s k x).1.answer ≡ 0) (sym at) (operation_none count s k op) in omega (arith, out, same, none)
      by (OfService x at) = let none = subst (λ x. giving count (step s k x).1.answer ≡ 0) (sym at) (service_none count s k x) in omega (arith, out, same, none)

-- what one event takes and leaves was there before, or is scheduled
pub step_pending : (name : List ℕ) (s : Moment) (k : ℕ) (e : Event) → pending name (step s k e).0 + taken_in name (step s k e).1.answer ≤ pending name s + schedules_in name e
step_pending name s k e = step_many (λ m. still (state_in (get m name))) (λ n. one_if (is_name name n)) (record {
  change = λ m n f c. changed_still m n name f c;
  put = λ m n job. put_still m n name job;
}) s k e

-- and so of all jobs together
pub step_left : (s : Moment) (k : ℕ) (e : Event) → left (step s k e).0 + giving (λ _. 1) (step s k e).1.answer ≤ left s + scheduling (λ _. 1) e
step_left s k e = step_many left_in (λ _. 1) (record { change = changed_left; put = put_left }) s k e

-- ---- a history

abbrev head_or : Reply → List Reply → Reply
head_or d [] = d
head_or d (r ∷ rs) = r

abbrev tail_of : List Reply → List Reply
tail_of [] = []
tail_of (r ∷ rs) = rs

-- of a legal history: a job is taken at most as often as it was scheduled or was there to be taken
pub taken_at_most : (name : List ℕ) (s : Moment) (h : List Entry) → map (λ (x : Entry). x.reply) h ≡ replies s h → pending name (replay s h) + takes_of name h ≤ pending name s + schedules_of name h
taken_at_most name s [] e = omega arith
taken_at_most name s (x ∷ h) e =
    let a = taken_at_most name (after s x) h (ap tail_of e) in
    let b = step_pending name s x.pass x.event in
    let c = ap (λ r. taken_in name (head_or x.reply r).answer) e in
    omega (arith, a, b, c)
