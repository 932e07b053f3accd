-- Jobs that are taken and done.
use Rattle.std.proofs.Common.{◌≡◌, inl, inr, ℕ, List, [], ◌∷◌, ◌++◌, refl, ap, sym, ◌∙◌, subst, arith, append_assoc, append-nil}
use Rattle.std.specs.Prelude.{Option}
use Rattle.job_queue.specs.Queues.{live}
use Rattle.core_event.specs.declared.entry.Entry.{Entry}
use Rattle.core_event.specs.declared.event.Event.TheVariants.{Take}
use Rattle.core_event.specs.declared.reply.Reply.{Reply}
use Rattle.script_lang.specs.declared.script.Command.{Command}
use Rattle.script_lang.specs.declared.script.Job.{Job}
use Rattle.ws_core.specs.States.{Moment}
use Rattle.ws_core.specs.Steps.{step}
use Rattle.ws_core.specs.Histories.{entry_of, replay, written}
use Rattle.ws_core.specs.Sessions.{Session}
use Rattle.run_order.specs.Lists.{entry, Cut, InTurn}
use Rattle.run_order.specs.Plans.{commands_of}
use Rattle.run_order.specs.Parts.{IsPart, Making, Parts}
use Rattle.run_order.specs.Counts.{giving, left}
use Rattle.run_order.proofs.Parts.{part_cut, parts_none, parts_more, parts_cut, parts_whole}
use Rattle.run_order.proofs.Idle.{take_gives}
use Rattle.run_order.proofs.Taken.{step_left}
use Rattle.run_order.proofs.Written.{written_more, written_none, taken_tried, untaken_tried}
use Rattle.phase_run.specs.Calm.{IsCalm}
use Rattle.script_plan.specs.Plans.{jobs_plan}
use Rattle.phase_run.specs.Inside.Doing.{IsReady, IsAtWork, Makes, Stops, Ends, IsOver, Takes, TakesOne, TakesNone, job_given}
use Rattle.phase_run.proofs.Calm.{calm_entry}
use Rattle.phase_run.proofs.Commanded.{ready_there, zeroth_stays}

-- ---- Take

pub took : (a b : Session) (r : Reply) (o : Option (List ℕ)) → IsReady a.state → a.state ≡ replay a.opened a.history → r ≡ (step a.state 1 Take).1 → o ≡ job_given r.answer
    → b.opened ≡ a.opened → b.state ≡ (step a.state 1 Take).0 → b.history ≡ written a.history (entry_of a.state 1 Take) → Takes o a b
took a b r o ready at replied given opened s h = elim (take_gives a.state ready.idle) [
  | inl taken ↦ subst (λ g. Takes g a b) (sym (is ∙ ap job_given taken.1)) (
      let le = step_left a.state 1 Take in
      let one : giving (λ _. 1) (step a.state 1 Take).1.answer ≡ 1 = ap (giving (λ _. 1)) taken.1 in
      let now : left b.state ≡ left (step a.state 1 Take).0 = ap (λ (m : Moment). left m) s in
      record {
        opened = opened;
        taken = (step a.state 1 Take).1;
        gives = taken.1;
        history = h ∙ written_more a.history (entry_of a.state 1 Take) (taken_tried a.state 1 taken.0 taken.1);
        at_work = subst IsAtWork (sym s) (record { zeroth = zeroth_stays a.state Take ready.zeroth; name = taken.0; busy = taken.2 });
        fewer = omega (arith, le, one, now);
      })
  | inr none ↦ subst (λ g. Takes g a b) (sym (is ∙ ap job_given none.0)) (
      let same : b.history ≡ a.history = h ∙ written_none a.history (entry_of a.state 1 Take) (untaken_tried a.state 1 none.0) in
      record {
        opened = opened;
        history = same;
        ready = subst IsReady (sym s) (record { zeroth = zeroth_stays a.state Take ready.zeroth; idle = none.2 });
        over = ap (λ l. live (replay b.opened l).manager.jobs) same ∙ (ap (λ t. live (replay t a.history).manager.jobs) opened ∙ (ap (λ (m : Moment). live m.manager.jobs) (sym at) ∙ none.1));
      })
]
  where
    is : o ≡ job_given (step a.state 1 Take).1.answer
    is = given ∙ ap (λ (v : Reply). job_given v.answer) replied

-- where a job was taken, its history goes on
taken_on : (a b c d : Session) (name : List ℕ) (p e : List Entry) (t : TakesOne name b c) → b.history ≡ a.history ++ p → d.history ≡ c.history ++ e
    → d.history ≡ a.history ++ (p ++ entry 1 Take t.taken ∷ e)
taken_on a b c d name p e t before after =
    after ∙ (ap (λ l. l ++ e) (t.history ∙ ap (λ l. l ++ entry 1 Take t.taken ∷ []) before)
    ∙ (append_assoc (a.history ++ p) (entry 1 Take t.taken ∷ []) e ∙ append_assoc a.history p (entry 1 Take t.taken ∷ e)))

module _ (Make : Making Command) where
  -- ---- parts

  pub made_none : (jobs : List Job) (a : Session) → IsReady a.state → Makes (Parts Make (jobs_plan jobs) 1) a a
  made_none jobs a r = record { opened = refl; grew = ([], sym (append-nil a.history), parts_none Make (jobs_plan jobs) 1); calm = λ h. h; ready = r }

  -- one more job is done
  pub made_more : (jobs : List Job) (a b c d : Session) (name : List ℕ) (commands : List Command) → Makes (Parts Make (jobs_plan jobs) 1) a b → TakesOne name b c
      → commands ≡ commands_of (jobs_plan jobs) name → Ends Make commands c d → Makes (Parts Make (jobs_plan jobs) 1) a d
  made_more jobs a b c d name commands m t are e = record {
    opened = e.made.opened ∙ (t.opened ∙ m.opened);
    grew = (
      m.grew.0 ++ entry 1 Take t.taken ∷ e.made.grew.0,
      taken_on a b c d name m.grew.0 e.made.grew.0 t m.grew.1 e.made.grew.1,
      parts_more Make (jobs_plan jobs) 1 name m.grew.0 (entry 1 Take t.taken ∷ e.made.grew.0) m.grew.2 part,
    );
    calm = λ h. e.made.calm (calm_entry b.history c.history (entry 1 Take t.taken) t.history refl (m.calm h));
    ready = e.made.ready;
  }
    where
      part : IsPart Make 1 (commands_of (jobs_plan jobs) name) name (entry 1 Take t.taken ∷ e.made.grew.0)
      part = record {
        taken = t.taken;
        body = e.made.grew.2.body;
        finished = e.made.grew.2.finished;
        are = ap (λ l. entry 1 Take t.taken ∷ l) e.made.grew.2.are;
        gives = t.gives;
        made = subst (λ l. InTurn (Make 1) l e.made.grew.2.body) are e.made.grew.2.made;
      }

  -- it is cut
  pub made_cut : (jobs : List Job) (a b c d : Session) (name : List ℕ) (commands : List Command) → Makes (Parts Make (jobs_plan jobs) 1) a b → TakesOne name b c
      → commands ≡ commands_of (jobs_plan jobs) name → Stops (Cut (InTurn (Make 1) commands)) c d → Stops (Cut (Parts Make (jobs_plan jobs) 1)) a d
  made_cut jobs a b c d name commands m t are e = record {
    opened = e.opened ∙ (t.opened ∙ m.opened);
    grew = (
      m.grew.0 ++ entry 1 Take t.taken ∷ e.grew.0,
      taken_on a b c d name m.grew.0 e.grew.0 t m.grew.1 e.grew.1,
      parts_cut Make (jobs_plan jobs) 1 name m.grew.0 (entry 1 Take t.taken ∷ e.grew.0) m.grew.2
          (part_cut Make 1 (commands_of (jobs_plan jobs) name) name t.taken e.grew.0 t.gives (subst (λ l. Cut (InTurn (Make 1) l) e.grew.0) are e.grew.2)),
    );
    there = e.there;
  }

  -- no other is begun
  pub made_stop : (jobs : List Job) (a b c : Session) → Makes (Parts Make (jobs_plan jobs) 1) a b → c ≡ b → Stops (Cut (Parts Make (jobs_plan jobs) 1)) a c
  made_stop jobs a b c m same = subst (λ x. Stops (Cut (Parts Make (jobs_plan jobs) 1)) a x) (sym same) (record {
    opened = m.opened;
    grew = (m.grew.0, m.grew.1, parts_whole Make (jobs_plan jobs) 1 m.grew.0 m.grew.2);
    there = ready_there b.state m.ready;
  })

  -- no other is there
  pub made_all : (jobs : List Job) (a b c : Session) → Makes (Parts Make (jobs_plan jobs) 1) a b → TakesNone b c → Makes (Parts Make (jobs_plan jobs) 1) a c × IsOver c
  made_all jobs a b c m t = (
    record { opened = t.opened ∙ m.opened; grew = (m.grew.0, t.history ∙ m.grew.1, m.grew.2); calm = λ h. subst IsCalm (sym t.history) (m.calm h); ready = t.ready },
    t.over,
  )
