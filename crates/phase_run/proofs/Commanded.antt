-- The worker's commands, and the end of its job.
use Rattle.std.proofs.Common.{◌≡◌, ◌≤◌, ◌<◌, ◌+◌, ℕ, true, List, [], ◌∷◌, ◌++◌, length, take, get_or, is_some, None, refl, ap, sym, ◌∙◌, subst, arith, append_assoc, append-nil}
use Rattle.std.specs.Prelude.{Result, Ok, Err, MatchResult, OnOk}
use Rattle.std.proofs.lemmas.List.{take_all}
use Rattle.core_event.specs.declared.entry.Entry.{Entry}
use Rattle.core_event.specs.declared.event.Event.{Event}
use Rattle.core_event.specs.declared.event.Event.TheVariants.{Finish}
use Rattle.builder_api.specs.Meanings.{Meanings}
use Rattle.builder_api.specs.Told.{Told}
use Rattle.script_lang.specs.declared.script.Command.{Command}
use Rattle.ws_core.specs.States.{Moment}
use Rattle.ws_core.specs.Steps.{step}
use Rattle.ws_core.specs.Histories.{entry_of, has_entered, replay, written}
use Rattle.ws_core.specs.Sessions.{Session}
use Rattle.run_order.specs.Lists.{Cut, Grew, InTurn}
use Rattle.run_order.specs.Parts.{CommandEntries, Making}
use Rattle.run_order.specs.Counts.{left}
use Rattle.run_order.proofs.Lists.{cut_none, grew_on}
use Rattle.run_order.proofs.Counted.{turn_next, turn_cut_at}
use Rattle.run_order.proofs.Staying.{step_stays}
use Rattle.run_order.proofs.Idle.{is_there, command_keeps, finish_idles}
use Rattle.run_order.proofs.Taken.{step_left}
use Rattle.run_order.proofs.Written.{written_more, command_made, finish_tried}
use Rattle.build_host.specs.Hosts.{Goes, IsServed}
use Rattle.build_host.specs.Hosts as host
use Rattle.build_host.proofs.Keeping.{served_ready}
use Rattle.phase_run.specs.Calm.{IsCalm}
use Rattle.script_plan.specs.Plans.{IsAsked}
use Rattle.phase_run.specs.Inside.Doing.{IsReady, IsAtWork, Stops, Works, Ends}
use Rattle.phase_run.proofs.Calm.{calm_written, command_calm}

pub ready_there : (s : Moment) → IsReady s → has_entered 1 s ≡ true
ready_there s r = ap is_some r.idle.there

pub work_there : (s : Moment) → IsAtWork s → has_entered 1 s ≡ true
work_there s w = is_there s.manager w.name w.busy.job

-- pass 0 stays, whatever the worker does
pub zeroth_stays : (s : Moment) (e : Event) → has_entered 0 s ≡ true → has_entered 0 (step s 1 e).0 ≡ true
zeroth_stays s e there = step_stays s 1 e 0 (λ _ z. omega (arith, z)) there

-- an event that a command asks was done
pub did_event : (e : Event) (a b : Session) → IsAsked e → b.opened ≡ a.opened → b.state ≡ (step a.state 1 e).0 → b.history ≡ written a.history (entry_of a.state 1 e)
    → IsAtWork a.state → Works (CommandEntries 1 e) a b
did_event e a b asked o s h w =
    let le = step_left a.state 1 e in
    let none = asked.schedules_none in
    let now : left b.state ≡ left (step a.state 1 e).0 = ap (λ (m : Moment). left m) s in
    record {
      opened = o;
      grew = subst (Grew (CommandEntries 1 e) a.history) (sym h) (command_made (λ x. x) a.state e a.history asked.command w.busy.single);
      calm = calm_written a.history b.history (entry_of a.state 1 e) h (command_calm e asked.command);
      at_work = subst IsAtWork (sym s) (record { zeroth = zeroth_stays a.state e w.zeroth; name = w.name; busy = command_keeps a.state e w.name asked.command w.busy });
      left = omega (arith, le, none, now);
    }

-- nothing was done, where something can be made
pub not_begun : (P : List Entry → Type 0) (a b : Session) → (l : List Entry) × P l → b ≡ a → IsAtWork a.state → Stops (Cut P) a b
not_begun P a b some same w = subst (Stops (Cut P) a) (sym same) (record {
  opened = refl;
  grew = ([], sym (append-nil a.history), cut_none P some);
  there = work_there a.state w;
})

-- a build was made
pub did_build : (P : List Entry → Type 0) (a b : Session) → Grew P a.history b.history → (a.state.manager.passes.services ≡ None → b.state.manager.passes.services ≡ None)
    → Goes a b → (IsCalm a.history → IsCalm b.history) → IsAtWork a.state → Works P a b
did_build P a b grew home goes calm w = record {
  opened = goes.opened;
  grew = grew;
  calm = calm;
  at_work = record {
    zeroth = goes.keeps.zeroth w.zeroth;
    name = w.name;
    busy = record { single = goes.keeps.single w.busy.single; job = goes.keeps.job ∙ w.busy.job; services = home w.busy.services };
  };
  left = goes.keeps.left;
}

-- it was cut
pub stopped_build : (P : List Entry → Type 0) (a b : Session) → Grew P a.history b.history → Goes a b → IsAtWork a.state → Stops P a b
stopped_build P a b grew goes w = record { opened = goes.opened; grew = grew; there = goes.keeps.worker (work_there a.state w) }

-- it was made, and the run goes on or is to stop after it
pub ended_build : {X E : Type 0} (P : List Entry → Type 0) (r : Result X E) (a b : Session) → Grew P a.history b.history
    → (a.state.manager.passes.services ≡ None → b.state.manager.passes.services ≡ None) → Goes a b → OnOk r (IsCalm a.history → IsCalm b.history) → IsAtWork a.state
    → MatchResult r (λ _. Works P a b) (λ _. Stops (Cut P) a b)
ended_build P (Ok x) a b grew home goes calm w = did_build P a b grew home goes calm w
ended_build P (Err e) a b grew home goes calm w = stopped_build (Cut P) a b (grew.0, grew.1, ([], subst P (sym (append-nil grew.0)) grew.2)) goes w

-- the worker that runs a job and is served is ready to build
pub ready_to_build : (ms : Meanings) (a : Session) (told : List Told) → IsServed ms a.opened told → a.state ≡ replay a.opened a.history → IsAtWork a.state → host.IsReady ms a told
ready_to_build ms a told served placed w = served_ready ms a told served placed (record { worker = work_there a.state w; single = w.busy.single })

module _ (Make : Making Command) (some : (c : Command) → (l : List Entry) × Make 1 c l) where
  -- ---- commands in order

  pub works_none : (commands : List Command) (a : Session) → IsAtWork a.state → Works (InTurn (Make 1) (take 0 commands)) a a
  works_none commands a w = record { opened = refl; grew = ([], sym (append-nil a.history), refl); calm = λ h. h; at_work = w; left = omega arith }

  pub works_next : (commands : List Command) (i : ℕ) (d : Command) (a b c : Session) → i < length commands → Works (InTurn (Make 1) (take i commands)) a b → Works (Make 1 (get_or commands i d)) b c
      → Works (InTurn (Make 1) (take (i + 1) commands)) a c
  works_next commands i d a b c lt w v =
      let le = w.left in
      let more = v.left in
      record {
        opened = v.opened ∙ w.opened;
        grew = grew_on (InTurn (Make 1) (take i commands)) (Make 1 (get_or commands i d)) (InTurn (Make 1) (take (i + 1) commands)) a.history b.history c.history
            (λ x y p q. turn_next (Make 1) commands i d x y lt p q) w.grew v.grew;
        calm = λ h. v.calm (w.calm h);
        at_work = v.at_work;
        left = omega (arith, le, more);
      }

  pub works_stop : (commands : List Command) (i : ℕ) (d : Command) (a b c : Session) → i < length commands → Works (InTurn (Make 1) (take i commands)) a b
      → Stops (Cut (Make 1 (get_or commands i d))) b c → Stops (Cut (InTurn (Make 1) commands)) a c
  works_stop commands i d a b c lt w s = record {
    opened = s.opened ∙ w.opened;
    grew = (
      w.grew.0 ++ s.grew.0,
      s.grew.1 ∙ (ap (λ l. l ++ s.grew.0) w.grew.1 ∙ append_assoc a.history w.grew.0 s.grew.0),
      turn_cut_at (Make 1) some commands i d w.grew.0 s.grew.0 lt w.grew.2 s.grew.2,
    );
    there = s.there;
  }

  pub works_all : (commands : List Command) (i : ℕ) (a b : Session) → length commands ≤ i → Works (InTurn (Make 1) (take i commands)) a b → Works (InTurn (Make 1) commands) a b
  works_all commands i a b le w = subst (λ l. Works (InTurn (Make 1) l) a b) (take_all i commands le) w

  -- ---- Finish

  pub did_finish : (commands : List Command) (a b c : Session) → Works (InTurn (Make 1) commands) a b → c.opened ≡ b.opened → c.state ≡ (step b.state 1 Finish).0
      → c.history ≡ written b.history (entry_of b.state 1 Finish) → Ends Make commands a c
  did_finish commands a b c w o s h =
      let x : Entry = entry_of b.state 1 Finish in
      let le = step_left b.state 1 Finish in
      let before = w.left in
      let now : left c.state ≡ left (step b.state 1 Finish).0 = ap (λ (m : Moment). left m) s in
      record {
        made = record {
          opened = o ∙ w.opened;
          grew = (
            w.grew.0 ++ x ∷ [],
            (h ∙ written_more b.history x (finish_tried b.state 1)) ∙ (ap (λ l. l ++ x ∷ []) w.grew.1 ∙ append_assoc a.history w.grew.0 (x ∷ [])),
            record { body = w.grew.0; finished = x.reply; are = refl; made = w.grew.2 },
          );
          calm = λ calm. calm_written b.history c.history x h refl (w.calm calm);
          ready = subst IsReady (sym s) (record { zeroth = zeroth_stays b.state Finish w.at_work.zeroth; idle = finish_idles b.state w.at_work.name w.at_work.busy });
        };
        left = omega (arith, le, before, now);
      }

  pub finish_stop : (commands : List Command) (a b c : Session) → Works (InTurn (Make 1) commands) a b → c ≡ b → Stops (Cut (InTurn (Make 1) commands)) a c
  finish_stop commands a b c w same = subst (λ x. Stops (Cut (InTurn (Make 1) commands)) a x) (sym same) (record {
    opened = w.opened;
    grew = (w.grew.0, w.grew.1, ([], subst (InTurn (Make 1) commands) (sym (append-nil w.grew.0)) w.grew.2));
    there = work_there b.state w.at_work;
  })
