-- What the worker's events of builds keep.
use Rattle.std.proofs.Common.{◌≡◌, ◌+◌, ◌-◌, true, List, [], ◌∷◌, Option, Some, None, refl, sym, ap, ◌∙◌, subst, arith}
use Rattle.pass_table.specs.declared.pass.Pass.{Pass}
use Rattle.pass_table.specs.Passes.{job_of}
use Rattle.pass_table.specs.Rows.{with_batches}
use Rattle.core_event.specs.declared.event.Event.{Event}
use Rattle.core_event.specs.declared.event.Event.TheVariants.{Leave}
use Rattle.core_event.specs.declared.reply.Refusal.{Refusal}
use Rattle.job_manager.specs.declared.manager.JobManager.{JobManager}
use Rattle.job_manager.specs.Effects.{decided, outcome}
use Rattle.job_manager.specs.Refusals.{refusal}
use Rattle.ws_core.specs.States.{Moment}
use Rattle.ws_core.specs.Histories.{after, has_entered, replay}
use Rattle.ws_core.specs.Steps.{step}
use Rattle.run_order.specs.Alone.{IsPlain}
use Rattle.run_order.specs.Counts.{scheduling}
use Rattle.run_order.proofs.Managed.{step_serving}
use Rattle.run_order.proofs.Single.{batches_job, step_single}
use Rattle.run_order.proofs.Staying.{step_stays}
use Rattle.run_order.proofs.Taken.{step_left}
use Rattle.ws_core.specs.Histories as core
use Rattle.ws_core.specs.Sessions.{Session}
use Rattle.build_core.specs.Histories.{Steps}
use Rattle.build_core.proofs.Leaves.{served}
use Rattle.builder_api.specs.Meanings.{Meanings}
use Rattle.builder_api.specs.Told.{Told}
use Rattle.build_history.specs.Events.{IsBuilding}
use Rattle.build_host.specs.Hosts.{IsAlone, IsReady, IsServed, Keeps, Goes, StayBuilders}
use Rattle.build_host.specs.Laws.{goes_itself}
use Rattle.build_history.proofs.Names.{replay_names, step_names}
use Rattle.build_host.proofs.Each.{each}
use Rattle.build_host.proofs.Tried.{building_tried}
use Rattle.run_order.proofs.Written.{written_more}
use Rattle.ws_core.specs.Sessions.{IsConsistent}
use Rattle.std.specs.Prelude.{Result, Ok, Err, OnOk, OnErr}

plain : (e : Event) → IsBuilding e → IsPlain 1 e
plain e b = each (IsPlain 1) (λ rule. refl) refl (λ x of. tt) refl (λ rule. refl) e b

no_leave : (e : Event) → IsBuilding e → e ≡ Leave → ⊥
no_leave e b is = subst IsBuilding is b

none_scheduled : (e : Event) → IsBuilding e → scheduling (λ _. 1) e ≡ 0
none_scheduled e b = each (λ v. scheduling (λ _. 1) v ≡ 0) (λ rule. refl) refl (λ x of. refl) refl (λ rule. refl) e b

-- the job that the worker runs
kept_job : (m : JobManager) (e : Event) → IsBuilding e → job_of (outcome m 1 e).0.passes 1 ≡ job_of m.passes 1
kept_job m e b = by (refusal m 1 e)
  where
    by : (r : Option Refusal) → job_of (decided r m 1 e).0.passes 1 ≡ job_of m.passes 1
    by (Some r) = refl
    by None = each (λ v. job_of (decided None m 1 v).0.passes 1 ≡ job_of m.passes 1)
        (λ rule. refl)
        (batches_job m.passes (λ (pass : Pass). with_batches (pass.batches + 1) pass) (λ pass. refl))
        (λ x of. refl)
        (batches_job m.passes (λ (pass : Pass). with_batches (pass.batches - 1) pass) (λ pass. refl))
        (λ rule. refl) e b

pub step_keeps : (s : Moment) (e : Event) → has_entered 1 s ≡ true → IsBuilding e → Keeps s (step s 1 e).0
step_keeps s e there b =
    let le = step_left s 1 e in
    let none : scheduling (λ _. 1) e ≡ 0 = none_scheduled e b in record {
      zeroth = step_stays s 1 e 0 (λ is. absurd (no_leave e b is));
      worker = step_stays s 1 e 1 (λ is. absurd (no_leave e b is));
      single = step_single s 1 e there (plain e b);
      job = ap (λ (m : JobManager). job_of m.passes 1) (step_serving s 1 e).1 ∙ kept_job s.manager e b;
      left = omega (arith, le, none);
    }

-- ---- sessions

pub step_goes : (e : Event) (x y : Session) → Steps 1 e x y → IsBuilding e → has_entered 1 x.state ≡ true → Goes x y
step_goes e x y steps b there = record {
  opened = steps.opened;
  entries = core.entry_of x.state 1 e ∷ [];
  history = steps.history;
  own = (record { pass = refl; building = b }, tt);
  keeps = subst (Keeps x.state) (sym steps.state) (step_keeps x.state e there b);
  names = ap (λ (s : Moment). s.desk.builders) steps.state ∙ step_names x.state 1 e;
}

-- the worker did an event, as the core tells it
pub stepped : (e : Event) (x y : Session) → IsConsistent x.state → x.state ≡ replay x.opened x.history → y.opened ≡ x.opened → y.state ≡ (step x.state 1 e).0
    → y.history ≡ core.written x.history (core.entry_of x.state 1 e) → IsBuilding e → IsAlone x.state → Steps 1 e x y
stepped e x y sound placed o s h b alone = record {
  sound = sound;
  placed = placed;
  opened = o;
  state = s;
  history = h ∙ written_more x.history (core.entry_of x.state 1 e) (building_tried x.state e b alone.single);
}

module _ {A E : Type 0} (r : Result A E) (e : Event) (x y : Session) (sound : IsConsistent x.state) (placed : x.state ≡ replay x.opened x.history) (o : y.opened ≡ x.opened) (b : IsBuilding e) (alone : IsAlone x.state) where
  pub stepped_ok : OnOk r (y.state ≡ (step x.state 1 e).0) → OnOk r (y.history ≡ core.written x.history (core.entry_of x.state 1 e)) → OnOk r (Steps 1 e x y)
  stepped_ok = by r
    where
      by : (r : Result A E) → OnOk r (y.state ≡ (step x.state 1 e).0) → OnOk r (y.history ≡ core.written x.history (core.entry_of x.state 1 e)) → OnOk r (Steps 1 e x y)
      by (Ok a) s h = stepped e x y sound placed o s h b alone
      by (Err z) s h = tt

  pub goes_either : OnOk r (y.state ≡ (step x.state 1 e).0) → OnOk r (y.history ≡ core.written x.history (core.entry_of x.state 1 e)) → OnErr r (y ≡ x) → Goes x y
  goes_either = by r
    where
      by : (r : Result A E) → OnOk r (y.state ≡ (step x.state 1 e).0) → OnOk r (y.history ≡ core.written x.history (core.entry_of x.state 1 e)) → OnErr r (y ≡ x) → Goes x y
      by (Ok a) s h same = step_goes e x y (stepped e x y sound placed o s h b alone) b alone.worker
      by (Err z) s h same = subst (Goes x) (sym same) (goes_itself x)

-- where nothing was done
pub goes_same : (x y : Session) → y ≡ x → Goes x y
goes_same x y same = subst (Goes x) (sym same) (goes_itself x)

-- the worker stays alone
pub alone_on : (x y : Session) → Goes x y → IsAlone x.state → IsAlone y.state
alone_on x y goes h = record { worker = goes.keeps.worker h.worker; single = goes.keeps.single h.single }

-- ---- served

-- the worker that is alone and served is ready to build
pub served_ready : (ms : Meanings) (x : Session) (b : List Told) → IsServed ms x.opened b → x.state ≡ replay x.opened x.history → IsAlone x.state → IsReady ms x b
served_ready ms x b served placed alone = record {
  alone = alone;
  named = ap (λ (s : Moment). s.desk.builders) placed ∙ replay_names x.opened x.history ∙ served.named;
  means = served.means;
}

-- it stays served
pub still_served : (ms : Meanings) (s t : Moment) (a b : List Told) → t ≡ s → StayBuilders ms a b → IsServed ms s a → IsServed ms t b
still_served ms s t a b same stay h = record {
  named = ap (λ (m : Moment). m.desk.builders) same ∙ h.named ∙ sym stay.names;
  means = stay.means h.means;
}
