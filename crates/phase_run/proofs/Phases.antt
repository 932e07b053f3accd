-- A phase: what is scheduled, what is done and what is cancelled.
use Rattle.std.proofs.Common.{◌≡◌, ◌≢◌, ◌≤◌, ◌<◌, ◌+◌, ℕ, Bool, true, false, if◌then◌else◌, List, [], ◌∷◌, ◌++◌, length, map, take, get_or, refl, ap, sym, ◌∙◌, subst, append_assoc, append-nil}
use Rattle.std.specs.List.{AllByRecursion}
use Rattle.std.proofs.lemmas.List.{take_all, length-map, get_or-map}
use Rattle.job_queue.specs.Queues.{live}
use Rattle.core_event.specs.declared.entry.Entry.{Entry}
use Rattle.core_event.specs.declared.event.Event.{Event}
use Rattle.core_event.specs.declared.event.Event.TheVariants.{Leave, Schedule, Cancel}
use Rattle.script_lang.specs.declared.script.Command.{Command}
use Rattle.script_lang.specs.declared.script.Job.{Job}
use Rattle.script_lang.specs.Commands.{priority_number}
use Rattle.script_lang.specs.Names as script
use Rattle.ws_core.specs.States.{Moment}
use Rattle.ws_core.specs.Steps.{step}
use Rattle.ws_core.specs.Histories.{entry_of, replay, written}
use Rattle.ws_core.specs.Sessions.{Session}
use Rattle.ws_core.proofs.Grown.{replay_append}
use Rattle.run_order.specs.Lists.{acts, Cut, Grew}
use Rattle.run_order.specs.Plans.{JobPlan, HaveOwnNames}
use Rattle.run_order.specs.Parts.{Making, Parts}
use Rattle.run_order.specs.Orders.{scheduled, cancelled, sleeps, sleepers, IsPhase, IsCutPhase}
use Rattle.run_order.proofs.Lists.{some_acts, cut_whole, cut_none, grew_on}
use Rattle.run_order.proofs.Counted.{acts_next, acts_begun}
use Rattle.run_order.proofs.Cancelling.{cancels_one, cancels_begun}
use Rattle.run_order.proofs.Alone.{MadeByOne, phase_alone, cut_phase_alone}
use Rattle.run_order.proofs.Parts.{parts_none, parts_whole}
use Rattle.run_order.proofs.Staying.{step_stays}
use Rattle.run_order.proofs.Idle.{schedule_keeps, cancel_keeps}
use Rattle.run_order.proofs.Written.{schedule_tried, cancel_tried, act_made}
use Rattle.script_plan.specs.Plans.{job_plan, jobs_plan}
use Rattle.phase_run.specs.Inside.Doing.{IsReady, Makes, Stops, IsOver}
use Rattle.phase_run.proofs.Calm.{calm_written}
use Rattle.phase_run.proofs.Commanded.{ready_there}

-- ---- jobs are scheduled

pub did_schedule : (job : Job) (a b : Session) (e : Event) → e ≡ Schedule job.name (priority_number job.priority) job.rule job.asleep → b.opened ≡ a.opened → b.state ≡ (step a.state 0 e).0
    → b.history ≡ written a.history (entry_of a.state 0 e) → IsReady a.state → Makes (λ h. acts h ≡ scheduled (job_plan job) ∷ []) a b
did_schedule job a b e is o s h r =
    let event : Event = Schedule job.name (priority_number job.priority) job.rule job.asleep in
    record {
      opened = o;
      grew = subst (Grew (λ h. acts h ≡ scheduled (job_plan job) ∷ []) a.history) (sym (h ∙ ap (λ v. written a.history (entry_of a.state 0 v)) is))
          (act_made a.state 0 event a.history (schedule_tried a.state 0 job.name (priority_number job.priority) job.rule job.asleep));
      calm = calm_written a.history b.history (entry_of a.state 0 event) (h ∙ ap (λ v. written a.history (entry_of a.state 0 v)) is) refl;
      ready = subst IsReady (sym (s ∙ ap (λ v. (step a.state 0 v).0) is)) (record {
        zeroth = step_stays a.state 0 event 0 (λ leaves. absurd (not_leave leaves)) r.zeroth;
        idle = schedule_keeps a.state 0 job.name (priority_number job.priority) job.rule job.asleep r.idle;
      });
    }
  where
    not_leave : Schedule job.name (priority_number job.priority) job.rule job.asleep ≡ Leave → ⊥
    not_leave h = cc

abbrev pub Scheduled : List (JobPlan Command) → List Entry → Type 0
Scheduled plans h = acts h ≡ map scheduled plans

pub schedule_none : (jobs : List Job) (a : Session) → IsReady a.state → Makes (Scheduled (take 0 (jobs_plan jobs))) a a
schedule_none jobs a r = record { opened = refl; grew = ([], sym (append-nil a.history), refl); calm = λ h. h; ready = r }

pub schedule_next : (jobs : List Job) (i : ℕ) (d : Job) (a b c : Session) → i < length jobs → Makes (Scheduled (take i (jobs_plan jobs))) a b
    → Makes (λ h. acts h ≡ scheduled (job_plan (get_or jobs i d)) ∷ []) b c → Makes (Scheduled (take (i + 1) (jobs_plan jobs))) a c
schedule_next jobs i d a b c lt m n =
    let js : List (JobPlan Command) = jobs_plan jobs in
    let at : get_or js i (job_plan d) ≡ job_plan (get_or jobs i d) = get_or-map job_plan jobs i d (job_plan d) lt in
    let few : i < length js = subst (λ k. i < k) (sym (length-map jobs job_plan)) lt in
    record {
      opened = n.opened ∙ m.opened;
      grew = grew_on (Scheduled (take i js)) (λ h. acts h ≡ scheduled (job_plan (get_or jobs i d)) ∷ []) (Scheduled (take (i + 1) js)) a.history b.history c.history
          (λ x y p q. acts_next scheduled js i (job_plan d) x y few p (q ∙ ap (λ p. scheduled p ∷ []) (sym at))) m.grew n.grew;
      calm = λ h. n.calm (m.calm h);
      ready = n.ready;
    }

pub schedule_stop : (jobs : List Job) (i : ℕ) (a b c : Session) → Makes (Scheduled (take i (jobs_plan jobs))) a b → c ≡ b → Stops (Cut (Scheduled (jobs_plan jobs))) a c
schedule_stop jobs i a b c m same = subst (λ x. Stops (Cut (Scheduled (jobs_plan jobs))) a x) (sym same) (record {
  opened = m.opened;
  grew = (m.grew.0, m.grew.1, acts_begun scheduled (jobs_plan jobs) i m.grew.0 m.grew.2);
  there = ready_there b.state m.ready;
})

pub schedule_all : (jobs : List Job) (i : ℕ) (a b : Session) → length jobs ≤ i → Makes (Scheduled (take i (jobs_plan jobs))) a b → Makes (Scheduled (jobs_plan jobs)) a b
schedule_all jobs i a b le m = subst (λ l. Makes (Scheduled l) a b) (take_all i (jobs_plan jobs) (subst (λ k. k ≤ i) (sym (length-map jobs job_plan)) le)) m

-- ---- jobs that sleep are cancelled

abbrev pub Cancelled : Moment → List (JobPlan Command) → List Entry → Type 0
Cancelled s plans h = acts h ≡ map cancelled (sleepers s plans)

pub did_cancel : (job : Job) (t : Moment) (a b : Session) → sleeps t job.name ≡ true → b.opened ≡ a.opened → b.state ≡ (step a.state 0 (Cancel job.name)).0
    → b.history ≡ written a.history (entry_of a.state 0 (Cancel job.name)) → IsReady a.state → Makes (Cancelled t (job_plan job ∷ [])) a b
did_cancel job t a b asleep o s h r =
    let one : map cancelled (sleepers t (job_plan job ∷ [])) ≡ cancelled (job_plan job) ∷ [] = ap (λ (b : Bool). map cancelled (if b then job_plan job ∷ [] else [])) asleep in
    let made = act_made a.state 0 (Cancel job.name) a.history (cancel_tried a.state 0 job.name) in
    record {
      opened = o;
      grew = (made.0, h ∙ made.1, made.2 ∙ sym one);
      calm = calm_written a.history b.history (entry_of a.state 0 (Cancel job.name)) h refl;
      ready = subst IsReady (sym s) (record { zeroth = step_stays a.state 0 (Cancel job.name) 0 (λ leaves. absurd (not_leave leaves)) r.zeroth; idle = cancel_keeps a.state 0 job.name r.idle });
    }
  where
    not_leave : Cancel job.name ≡ Leave → ⊥
    not_leave h = cc

pub did_not_cancel : (job : Job) (t : Moment) (a : Session) → sleeps t job.name ≡ false → IsReady a.state → Makes (Cancelled t (job_plan job ∷ [])) a a
did_not_cancel job t a awake r = record {
  opened = refl;
  grew = ([], sym (append-nil a.history), sym (ap (λ (b : Bool). map cancelled (if b then job_plan job ∷ [] else [])) awake));
  calm = λ h. h;
  ready = r;
}

all_other : (job : Job) (jobs : List Job) → AllByRecursion (λ (other : Job). job.name ≢ other.name) jobs → AllByRecursion (λ (other : JobPlan Command). job.name ≢ other.name) (jobs_plan jobs)
all_other job [] all = tt
all_other job (other ∷ jobs) all = (all.0, all_other job jobs all.1)

-- the plans of jobs have names of their own, as the jobs do
own_names : (jobs : List Job) → script.HaveOwnNames jobs → HaveOwnNames (jobs_plan jobs)
own_names [] own = tt
own_names (job ∷ jobs) own = (all_other job jobs own.0, own_names jobs own.1)

pub cancel_none : (jobs : List Job) (a : Session) → IsReady a.state → Makes (Cancelled (replay a.opened a.history) (take 0 (jobs_plan jobs))) a a
cancel_none jobs a r = record { opened = refl; grew = ([], sym (append-nil a.history), refl); calm = λ h. h; ready = r }

-- where the history has gone on, so has what it leads to
led : (a b : Session) (l : List Entry) → b.opened ≡ a.opened → b.history ≡ a.history ++ l → replay b.opened b.history ≡ replay (replay a.opened a.history) l
led a b l o h = ap (λ s. replay s b.history) o ∙ (ap (replay a.opened) h ∙ replay_append a.opened a.history l)

pub cancel_next : (jobs : List Job) (i : ℕ) (d : Job) (a b c : Session) → i < length jobs → script.HaveOwnNames jobs → Makes (Cancelled (replay a.opened a.history) (take i (jobs_plan jobs))) a b
    → Makes (Cancelled (replay b.opened b.history) (job_plan (get_or jobs i d) ∷ [])) b c → Makes (Cancelled (replay a.opened a.history) (take (i + 1) (jobs_plan jobs))) a c
cancel_next jobs i d a b c lt own m n =
    let js : List (JobPlan Command) = jobs_plan jobs in
    let s : Moment = replay a.opened a.history in
    let at : get_or js i (job_plan d) ≡ job_plan (get_or jobs i d) = get_or-map job_plan jobs i d (job_plan d) lt in
    let few : i < length js = subst (λ k. i < k) (sym (length-map jobs job_plan)) lt in
    let here : replay b.opened b.history ≡ replay s m.grew.0 = led a b m.grew.0 m.opened m.grew.1 in
    let same : map cancelled (sleepers (replay b.opened b.history) (job_plan (get_or jobs i d) ∷ [])) ≡ map cancelled (sleepers (replay s m.grew.0) (get_or js i (job_plan d) ∷ []))
    = ap (λ t. map cancelled (sleepers t (job_plan (get_or jobs i d) ∷ []))) here ∙ ap (λ p. map cancelled (sleepers (replay s m.grew.0) (p ∷ []))) (sym at) in
    record {
      opened = n.opened ∙ m.opened;
      grew = (
        m.grew.0 ++ n.grew.0,
        n.grew.1 ∙ (ap (λ l. l ++ n.grew.0) m.grew.1 ∙ append_assoc a.history m.grew.0 n.grew.0),
        cancels_one js i (job_plan d) s m.grew.0 n.grew.0 few (own_names jobs own) m.grew.2 (n.grew.2 ∙ same),
      );
      calm = λ h. n.calm (m.calm h);
      ready = n.ready;
    }

pub cancel_stop : (jobs : List Job) (i : ℕ) (a b c : Session) → Makes (Cancelled (replay a.opened a.history) (take i (jobs_plan jobs))) a b → c ≡ b
    → Stops (Cut (Cancelled (replay a.opened a.history) (jobs_plan jobs))) a c
cancel_stop jobs i a b c m same = subst (λ x. Stops (Cut (Cancelled (replay a.opened a.history) (jobs_plan jobs))) a x) (sym same) (record {
  opened = m.opened;
  grew = (m.grew.0, m.grew.1, cancels_begun (jobs_plan jobs) i (replay a.opened a.history) m.grew.0 m.grew.2);
  there = ready_there b.state m.ready;
})

pub cancel_all : (jobs : List Job) (i : ℕ) (a b : Session) → length jobs ≤ i → Makes (Cancelled (replay a.opened a.history) (take i (jobs_plan jobs))) a b
    → Makes (Cancelled (replay a.opened a.history) (jobs_plan jobs)) a b
cancel_all jobs i a b le m = subst (λ l. Makes (Cancelled (replay a.opened a.history) l) a b) (take_all i (jobs_plan jobs) (subst (λ k. k ≤ i) (sym (length-map jobs job_plan)) le)) m

-- ---- the phase

none_of : (t : Moment) (plans : List (JobPlan Command)) → Cut (Cancelled t plans) []
none_of t plans = cut_none (Cancelled t plans) (some_acts (map cancelled (sleepers t plans)))

two_ends : (h x : List Entry) → h ++ x ≡ h ++ ((x ++ []) ++ [])
two_ends h x = ap (λ l. h ++ l) (sym (append-nil (x ++ []) ∙ append-nil x))

one_end : (h x y : List Entry) → (h ++ x) ++ y ≡ h ++ ((x ++ y) ++ [])
one_end h x y = append_assoc h x y ∙ ap (λ l. h ++ l) (sym (append-nil (x ++ y)))

all_ends : (h x y z : List Entry) → ((h ++ x) ++ y) ++ z ≡ h ++ ((x ++ y) ++ z)
all_ends h x y z = ap (λ l. l ++ z) (append_assoc h x y) ∙ append_assoc h (x ++ y) z

module _ (Make : Making Command) (one : MadeByOne Make) where
  -- cut while jobs were scheduled
  pub phase_unscheduled : (jobs : List Job) (a b : Session) → Stops (Cut (Scheduled (jobs_plan jobs))) a b → Stops (IsCutPhase Make 1 (jobs_plan jobs) (replay a.opened a.history)) a b
  phase_unscheduled jobs a b m = record {
    opened = m.opened;
    grew = (
      (m.grew.0 ++ []) ++ [],
      m.grew.1 ∙ two_ends a.history m.grew.0,
      cut_phase_alone Make one (jobs_plan jobs) (replay a.opened a.history) m.grew.0 [] [] m.grew.2
          (parts_whole Make (jobs_plan jobs) 1 [] (parts_none Make (jobs_plan jobs) 1)) (none_of (replay (replay a.opened a.history) (m.grew.0 ++ [])) (jobs_plan jobs)),
    );
    there = m.there;
  }

  -- cut while they were done
  pub phase_undone : (jobs : List Job) (a b c : Session) → Makes (Scheduled (jobs_plan jobs)) a b → Stops (Cut (Parts Make (jobs_plan jobs) 1)) b c
      → Stops (IsCutPhase Make 1 (jobs_plan jobs) (replay a.opened a.history)) a c
  phase_undone jobs a b c m n = record {
    opened = n.opened ∙ m.opened;
    grew = (
      (m.grew.0 ++ n.grew.0) ++ [],
      n.grew.1 ∙ (ap (λ l. l ++ n.grew.0) m.grew.1 ∙ one_end a.history m.grew.0 n.grew.0),
      cut_phase_alone Make one (jobs_plan jobs) (replay a.opened a.history) m.grew.0 n.grew.0 [] (cut_whole (Scheduled (jobs_plan jobs)) m.grew.0 m.grew.2)
          n.grew.2 (none_of (replay (replay a.opened a.history) (m.grew.0 ++ n.grew.0)) (jobs_plan jobs)),
    );
    there = n.there;
  }

  module _ (jobs : List Job) (a b c d : Session) (m : Makes (Scheduled (jobs_plan jobs)) a b) (n : Makes (Parts Make (jobs_plan jobs) 1) b c) where
    done_at : replay c.opened c.history ≡ replay (replay a.opened a.history) (m.grew.0 ++ n.grew.0)
    done_at = led a c (m.grew.0 ++ n.grew.0) (n.opened ∙ m.opened) (n.grew.1 ∙ (ap (λ l. l ++ n.grew.0) m.grew.1 ∙ append_assoc a.history m.grew.0 n.grew.0))

    ends_at : (z : List Entry) → d.history ≡ c.history ++ z → d.history ≡ a.history ++ ((m.grew.0 ++ n.grew.0) ++ z)
    ends_at z e = e ∙ (ap (λ l. l ++ z) (n.grew.1 ∙ ap (λ l. l ++ n.grew.0) m.grew.1) ∙ all_ends a.history m.grew.0 n.grew.0 z)

    -- cut while those that sleep were cancelled
    pub phase_uncancelled : Stops (Cut (Cancelled (replay c.opened c.history) (jobs_plan jobs))) c d → Stops (IsCutPhase Make 1 (jobs_plan jobs) (replay a.opened a.history)) a d
    phase_uncancelled o = record {
      opened = o.opened ∙ (n.opened ∙ m.opened);
      grew = (
        (m.grew.0 ++ n.grew.0) ++ o.grew.0,
        ends_at o.grew.0 o.grew.1,
        cut_phase_alone Make one (jobs_plan jobs) (replay a.opened a.history) m.grew.0 n.grew.0 o.grew.0 (cut_whole (Scheduled (jobs_plan jobs)) m.grew.0 m.grew.2)
            (parts_whole Make (jobs_plan jobs) 1 n.grew.0 n.grew.2) (subst (λ t. Cut (Cancelled t (jobs_plan jobs)) o.grew.0) done_at o.grew.2),
      );
      there = o.there;
    }

    -- whole
    pub phase_done : IsOver c → Makes (Cancelled (replay c.opened c.history) (jobs_plan jobs)) c d → Makes (IsPhase Make 1 (jobs_plan jobs) (replay a.opened a.history)) a d
    phase_done over o = record {
      opened = o.opened ∙ (n.opened ∙ m.opened);
      grew = (
        (m.grew.0 ++ n.grew.0) ++ o.grew.0,
        ends_at o.grew.0 o.grew.1,
        phase_alone Make one (jobs_plan jobs) (replay a.opened a.history) m.grew.0 n.grew.0 o.grew.0 m.grew.2 n.grew.2
            (subst (λ (t : Moment). live t.manager.jobs ≡ 0) done_at over) (subst (λ t. Cancelled t (jobs_plan jobs) o.grew.0) done_at o.grew.2),
      );
      calm = λ h. o.calm (n.calm (m.calm h));
      ready = o.ready;
    }
