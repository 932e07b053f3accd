-- A workspace that was just opened.
use Rattle.std.proofs.Common.{◌≡◌, ℕ, List, [], refl, sym, ap, ◌∙◌, subst}
use Rattle.std.specs.Prelude.{Some, is_some, map}
use Rattle.ws_outside.specs.declared.contents.Contents.{Contents}
use Rattle.builder_api.specs.Told.{Told as BuilderTold}
use Rattle.save_round.specs.Told.{Told as PartTold}
use Rattle.job_manager.specs.declared.manager.JobManager.{JobManager}
use Rattle.job_manager.specs.Managers.{first_manager}
use Rattle.ws_core.specs.States.{Moment}
use Rattle.ws_core.specs.Histories.{replay}
use Rattle.ws_core.specs.Sessions.{Session}
use Rattle.save_history.specs.Kept.{IsKept}
use Rattle.save_history.specs.Rounds.{rounds_of}
use Rattle.pass_history.specs.Served.{Served, services_of}
use Rattle.ws_locked.specs.Fits.{Fits, HadEach, Told, session}
use Rattle.ws_locked.specs.Halls.{IsHall, Trio, opened_by, told_by}
use Rattle.ws_locked.specs.Opened.{Opened}
use Rattle.ws_locked.specs.declared.services.Opening.{Opening}

module _ {D B P : Type 0} (moment : D → ℕ) (left_since : D → ℕ → Contents → Type 0) (may_leave : D → Contents → Type 0) (faults : D → ℕ) (b : B → BuilderTold) (p : P → PartTold)
    (vow : Opened → List BuilderTold → List Served → Type 0) where
  -- the session that a history that is empty belongs to is the one that the state was opened with
  same_session : (x : Session) → x.state ≡ replay x.opened x.history → session x.opened x.history ≡ x
  same_session x at = let back = sym at in λ i. record { opened = x.opened; history = x.history; state = back i }

  pub fits_first : (x : Session) (o : Opened) (t : Told D) → x.history ≡ [] → x.state ≡ replay x.opened x.history → o.state ≡ x.opened → o.participants ≡ t.participants → o.builders ≡ t.builders
      → IsKept moment left_since may_leave faults x t.keeper → vow o t.builders [] → Fits moment left_since may_leave faults vow o t.keeper x.history t
  fits_first x o t none at state parts builders kept vowed = record {
    same_store = refl;
    kept = subst (λ s. IsKept moment left_since may_leave faults (session s x.history) t.keeper) (sym state) (subst (λ z. IsKept moment left_since may_leave faults z t.keeper) (sym (same_session x at)) kept);
    had = subst (λ h. HadEach (rounds_of h).ended o.participants t.participants) (sym none) (sym parts);
    vowed = subst (λ h. vow o t.builders (services_of o.state h)) (sym none) vowed;
  }

  -- what was opened, by its parts
  opened_is : (x : Session) (t : Trio D B P) (op : Opening D B P) → op.core.value ≡ x → op.builders.value ≡ t.builders → op.participants.value ≡ t.participants
      → ◌≡◌ {A = Opened} (record { state = x.opened; builders = map b t.builders; participants = map p t.participants }) (opened_by b p op)
  opened_is x t op core builders parts =
      let c = sym (ap (λ (z : Session). z.opened) core) in
      let bs = sym (ap (map b) builders) in
      let ps = sym (ap (map p) parts) in
      λ i. record { state = c i; builders = bs i; participants = ps i }

  pub hall_first : (x : Session) (t : Trio D B P) (op : Opening D B P) → op.core.value ≡ x → op.keeper.value ≡ t.keeper → op.builders.value ≡ t.builders → op.participants.value ≡ t.participants
      → x.history ≡ [] → x.state ≡ replay x.opened x.history → x.opened.manager ≡ first_manager → IsKept moment left_since may_leave faults x t.keeper
      → vow (record { state = x.opened; builders = map b t.builders; participants = map p t.participants }) (map b t.builders) []
      → IsHall b p (Fits moment left_since may_leave faults vow) (record { core = x; services = Some t; opening = op })
  hall_first x t op core keeper builders parts none at first kept vowed =
      let manager : x.state.manager ≡ first_manager = ap (λ (s : Moment). s.manager) (at ∙ ap (replay x.opened) none) ∙ first in
      let fit : Fits moment left_since may_leave faults vow (record { state = x.opened; builders = map b t.builders; participants = map p t.participants }) t.keeper x.history (told_by b p t) =
      fits_first x (record { state = x.opened; builders = map b t.builders; participants = map p t.participants }) (told_by b p t) none at refl refl refl kept vowed in
      record {
        opened = sym (ap (λ (z : Session). z.opened) core);
        first = first;
        home = ap (λ (m : JobManager). is_some m.passes.services) manager;
        rests = λ s is. ap (λ h. (rounds_of h).under) none;
        fit = λ s is. subst (λ z. Fits moment left_since may_leave faults vow (opened_by b p op) op.keeper.value x.history (told_by b p z)) (same_some is)
            (subst (λ k. Fits moment left_since may_leave faults vow (opened_by b p op) k x.history (told_by b p t)) (sym keeper)
            (subst (λ o. Fits moment left_since may_leave faults vow o t.keeper x.history (told_by b p t)) (opened_is x t op core builders parts) fit));
      }
    where
      same_some : {T : Type 0} {u v : T} → Some u ≡ Some v → u ≡ v
      same_some {u = u} {v = v} e = let e : Some u ≡ Some v = e in cc
