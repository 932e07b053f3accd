-- Phases one after another, and a whole run.
use Rattle.std.proofs.Common.{◌≡◌, ◌≤◌, ◌<◌, ◌+◌, ℕ, true, false, ◌==◌, List, [], ◌∷◌, ◌++◌, length, take, get_or, cond, is_some, map, refl, ap, sym, ◌∙◌, subst, arith, append-nil}
use Rattle.std.proofs.lemmas.List.{take_all, length-map, get_or-map}
use Rattle.std.proofs.lemmas.Bool.{false≢true}
use Rattle.std.specs.Prelude.{Some}
use Rattle.std.specs.FinMap.{FinMap, empty, get, get-insert}
use Rattle.std.proofs.lemmas.Cmp.{nat_cmp_total}
use Rattle.job_queue.proofs.Found.{itself}
use Rattle.std.specs.Ordering.{nat_cmp}
use Rattle.pass_table.specs.declared.pass.Pass.{Pass}
use Rattle.pass_table.specs.Passes.{has_pass, idle}
use Rattle.core_event.specs.declared.entry.Entry.{Entry}
use Rattle.core_event.specs.declared.event.Event.TheVariants.{Enter, Leave}
use Rattle.script_lang.specs.declared.script.Command.{Command}
use Rattle.script_lang.specs.declared.script.Phase as script
use Rattle.ws_core.specs.Steps.{step}
use Rattle.ws_core.specs.States.{Moment}
use Rattle.job_manager.specs.declared.manager.JobManager.{JobManager}
use Rattle.job_manager.specs.Effects.{outcome}
use Rattle.job_manager.specs.Managers.{first_manager}
use Rattle.ws_core.specs.Histories.{entry_of, fresh, has_entered, replay, written}
use Rattle.ws_core.proofs.Roomy.{step_manager}
use Rattle.ws_core.specs.Sessions.{Session}
use Rattle.run_order.specs.Lists.{acts, Cut, Grew}
use Rattle.run_order.specs.Plans.{Phase}
use Rattle.run_order.specs.Parts.{Making}
use Rattle.run_order.specs.Orders.{IsPhase, IsCutPhase, Phases, Leaves, numbers, Shuffle, CutShuffle}
use Rattle.run_order.specs.Alone.{IsIdle}
use Rattle.run_order.proofs.Staying.{step_stays}
use Rattle.run_order.proofs.Idle.{entered_idle}
use Rattle.run_order.proofs.Written.{enter_tried, leave_tried, act_made}
use Rattle.run_order.proofs.Lists.{some_acts, cut_none}
use Rattle.run_order.proofs.Counted.{phases_next, cut_in_phase_at, cut_between_at}
use Rattle.run_order.proofs.Whole.{run_whole, shuffle_of, cut_entering, cut_shuffle_of}
use Rattle.save_parts.specs.Heard.{Heard}
use Rattle.script_plan.specs.Plans.{phase_plan, phases_plan}
use Rattle.phase_run.specs.Inside.Doing.{IsReady, Makes}
use Rattle.phase_run.specs.Inside.Running.{RunsPhase, CutsPhase, RunsPhases, CutsPhases}
use Rattle.phase_run.proofs.Calm.{calm_written}
use Rattle.phase_run.proofs.Heard.{tells_none, tells_on, tells_stop}

-- ---- the worker enters and leaves

pub zeroth_there : (s : Moment) → s.manager ≡ first_manager → has_entered 0 s ≡ true
zeroth_there s first = ap (λ (m : JobManager). has_pass m.passes 0) first ∙ ap is_some (get-insert nat_cmp_total none 0 idle 0 ∙ ap (λ b. cond b (Some idle) (get none 0)) (itself nat_cmp_total 0))
  where
    none : FinMap nat_cmp Pass
    none = empty

-- once the worker was let in, it has nothing
worker_idle : (s : Moment) → s.manager ≡ first_manager → IsIdle (step s 0 Enter).0.manager
worker_idle s first = subst IsIdle (sym (step_manager s 0 Enter refl ∙ ap (λ (m : JobManager). (outcome m 0 Enter).0) first ∙ sym (step_manager fresh 0 Enter refl))) (entered_idle [])

pub did_enter : (a b : Session) → a.state ≡ a.opened → a.opened.manager ≡ first_manager → b.opened ≡ a.opened → b.state ≡ (step a.state 0 Enter).0 → b.history ≡ written a.history (entry_of a.state 0 Enter) → Makes (λ h. acts h ≡ (0, Enter) ∷ []) a b
did_enter a b at f o s h =
    let made = act_made a.state 0 Enter a.history (enter_tried a.state 0) in
    record {
      opened = o;
      grew = (made.0, h ∙ made.1, made.2);
      calm = calm_written a.history b.history (entry_of a.state 0 Enter) h refl;
      ready = subst IsReady (sym s) (record {
        zeroth = step_stays a.state 0 Enter 0 (λ leaves. absurd (not_leave leaves)) (ap (has_entered 0) at ∙ zeroth_there a.opened f);
        idle = worker_idle a.state (ap (λ (m : Moment). m.manager) at ∙ f);
      });
    }
  where
    not_leave : Enter ≡ Leave → ⊥
    not_leave h = cc

pub did_leave : (a b : Session) → b.history ≡ written a.history (entry_of a.state 1 Leave) → Grew (λ h. acts h ≡ (1, Leave) ∷ []) a.history b.history
did_leave a b h = let made = act_made a.state 1 Leave a.history (leave_tried a.state 1) in (made.0, h ∙ made.1, made.2)

module _ (Make : Making Command) where
  -- ---- phases

  pub runs_none : (plans : List (Phase Command)) (a : Session) (u : List Heard) → IsReady a.state → RunsPhases Make (take 0 plans) a a u u
  runs_none plans a u r = record { opened = refl; run = refl; calm = λ h. h; ready = r; told = tells_none a.history u }

  plan_at : (phases : List script.Phase) (i : ℕ) (d : script.Phase) → i < length phases → get_or (phases_plan phases) i (phase_plan d) ≡ phase_plan (get_or phases i d)
  plan_at phases i d lt = get_or-map phase_plan phases i d (phase_plan d) lt

  plans_few : (phases : List script.Phase) (i : ℕ) → i < length phases → i < length (phases_plan phases)
  plans_few phases i lt = subst (λ k. i < k) (sym (length-map phases phase_plan)) lt

  pub runs_next : (phases : List script.Phase) (i : ℕ) (d : script.Phase) (a b c : Session) (u v w : List Heard) → i < length phases → RunsPhases Make (take i (phases_plan phases)) a b u v
      → RunsPhase Make (get_or phases i d) b c v w → RunsPhases Make (take (i + 1) (phases_plan phases)) a c u w
  runs_next phases i d a b c u v w lt r p = record {
    opened = p.made.opened ∙ r.opened;
    run = subst (Phases Make 1 a.opened (take (i + 1) (phases_plan phases)) a.history) (sym p.made.grew.1)
        (phases_next Make 1 a.opened (phases_plan phases) i (phase_plan d) a.history b.history p.made.grew.0 (plans_few phases i lt) r.run made);
    calm = λ h. p.made.calm (r.calm h);
    ready = p.made.ready;
    told = tells_on a.history b.history c.history u v w r.told p.told;
  }
    where
      made : IsPhase Make 1 (get_or (phases_plan phases) i (phase_plan d)) (replay a.opened b.history) p.made.grew.0
      made = subst (λ q. IsPhase Make 1 q (replay a.opened b.history) p.made.grew.0) (sym (plan_at phases i d lt))
          (subst (λ s. IsPhase Make 1 (phase_plan (get_or phases i d)) (replay s b.history) p.made.grew.0) r.opened p.made.grew.2)

  pub runs_cut : (phases : List script.Phase) (i : ℕ) (d : script.Phase) (a b c : Session) (u v w : List Heard) → i < length phases → RunsPhases Make (take i (phases_plan phases)) a b u v
      → CutsPhase Make (get_or phases i d) b c v w → CutsPhases Make (phases_plan phases) a c u w
  runs_cut phases i d a b c u v w lt r p = record {
    opened = p.stopped.opened ∙ r.opened;
    at = i;
    few = plans_few phases i lt;
    next = phase_plan d;
    front = b.history;
    middle = p.stopped.grew.0;
    are = p.stopped.grew.1;
    run = r.run;
    cut = subst (λ q. IsCutPhase Make 1 q (replay a.opened b.history) p.stopped.grew.0) (sym (plan_at phases i d lt))
        (subst (λ s. IsCutPhase Make 1 (phase_plan (get_or phases i d)) (replay s b.history) p.stopped.grew.0) r.opened p.stopped.grew.2);
    there = p.stopped.there;
    told = tells_stop a.history b.history c.history p.stopped.grew.0 u v w r.told p.stopped.grew.1 p.quiet;
  }

  pub runs_all : (phases : List script.Phase) (i : ℕ) (a b : Session) (u v : List Heard) → length phases ≤ i → RunsPhases Make (take i (phases_plan phases)) a b u v → RunsPhases Make (phases_plan phases) a b u v
  runs_all phases i a b u v le r = subst (λ l. RunsPhases Make l a b u v) (take_all i (phases_plan phases) (subst (λ k. k ≤ i) (sym (length-map phases phase_plan)) le)) r

  -- ---- the whole run

  pub some_phases : (phases : List script.Phase) → false ≡ (length phases == 0) → 0 < length (phases_plan phases)
  some_phases [] e = absurd (false≢true e)
  some_phases (p ∷ ps) e = omega arith

  no_leave : Cut (Leaves 1) []
  no_leave = cut_none (Leaves 1) (some_acts (map (λ k. (k, Leave)) (numbers 1)))

  -- stopped before anything was done
  pub cut_at_first : (s : Moment) (plans : List (Phase Command)) (h : List Entry) → 0 < length plans → h ≡ [] → CutShuffle Make s plans 1 h
  cut_at_first s plans h some none = subst (CutShuffle Make s plans 1) (sym none) (cut_shuffle_of Make s plans 1 [] some (cut_entering Make s plans 1 0 [] [] (omega arith) refl no_leave))

  module _ (plans : List (Phase Command)) (some : 0 < length plans) (a b c : Session) (first : a.history ≡ [])
      (enter : Makes (λ h. acts h ≡ (0, Enter) ∷ []) a b) where
    entered : acts b.history ≡ (0, Enter) ∷ []
    entered = ap acts (enter.grew.1 ∙ ap (λ l. l ++ enter.grew.0) first) ∙ enter.grew.2

    from_it : b.opened ≡ a.opened
    from_it = enter.opened

    -- to its end
    pub run_all : (d : Session) (u v : List Heard) → RunsPhases Make plans b c u v → Grew (λ h. acts h ≡ (1, Leave) ∷ []) c.history d.history → Shuffle Make a.opened plans 1 d.history
    run_all d u v r leave = subst (Shuffle Make a.opened plans 1) (sym leave.1) (shuffle_of Make a.opened plans 1 (c.history ++ leave.0) some
        (run_whole Make a.opened plans 1 b.history c.history leave.0 entered (subst (λ s. Phases Make 1 s plans b.history c.history) from_it r.run) leave.2))

    -- stopped in a phase
    pub run_cut : (u v : List Heard) → CutsPhases Make plans b c u v → CutShuffle Make a.opened plans 1 c.history
    run_cut u v r = subst (CutShuffle Make a.opened plans 1) (append-nil (r.front ++ r.middle) ∙ sym r.are) (cut_shuffle_of Make a.opened plans 1 ((r.front ++ r.middle) ++ []) some
        (cut_in_phase_at Make a.opened plans r.at r.next 1 b.history r.front r.middle [] r.few entered (subst (λ s. Phases Make 1 s (take r.at plans) b.history r.front) from_it r.run)
        (subst (λ s. IsCutPhase Make 1 (get_or plans r.at r.next) (replay s r.front) r.middle) from_it r.cut) no_leave))

    -- stopped before the worker left
    pub run_left : (u v : List Heard) → RunsPhases Make plans b c u v → CutShuffle Make a.opened plans 1 c.history
    run_left u v r = subst (CutShuffle Make a.opened plans 1) (append-nil c.history) (cut_shuffle_of Make a.opened plans 1 (c.history ++ []) some
        (cut_between_at Make a.opened plans (length plans) 1 b.history c.history [] entered
        (subst (λ s. Phases Make 1 s (take (length plans) plans) b.history c.history) from_it (subst (λ l. Phases Make 1 b.opened l b.history c.history) (sym (take_all (length plans) plans (omega arith))) r.run)) no_leave))
