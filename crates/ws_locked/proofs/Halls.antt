-- What the lock keeps goes on.
use Rattle.std.proofs.Common.{◌≡◌, ℕ, Bool, true, false, List, [], ◌∷◌, ◌++◌, refl, sym, ap, ◌∙◌, subst, append-nil, if◌then◌else◌}
use Rattle.std.specs.Prelude.{Option, Some, None, Result, Ok, Err, OnOk, OnErr, is_none, is_some}
use Rattle.std.specs.List.{AllByRecursion}
use Rattle.std.specs.declared.alloc.AllocError.{AllocError}
use Rattle.ws_outside.specs.declared.contents.Contents.{Contents}
use Rattle.builder_api.specs.Told.{Told as BuilderTold}
use Rattle.save_round.specs.Told.{Told as PartTold}
use Rattle.core_event.specs.declared.entry.Entry.{Entry}
use Rattle.core_event.specs.declared.event.Event.{Event}
use Rattle.core_event.specs.declared.reply.Reply.{Reply}
use Rattle.ws_core.specs.States.{Moment}
use Rattle.ws_core.specs.Steps.{step}
use Rattle.ws_core.specs.Histories.{entry_of, only_tried, written}
use Rattle.ws_core.specs.Sessions.{Session}
use Rattle.save_history.specs.Rounds.{no_rounds, rounds_after, rounds_of}
use Rattle.pass_history.specs.Served.{Served, keeps_services}
use Rattle.pass_history.proofs.Serving.{IsQuiet, moved_nothing, nobody_serves}
use Rattle.ws_locked.specs.Fits.{Fits}
use Rattle.ws_locked.specs.Halls.{Hall, IsHall, told_by, opened_by}
use Rattle.ws_locked.specs.Opened.{Opened}
use Rattle.ws_locked.proofs.Fitting.{fits_on, steps_stay}

-- a session that went on by entries of which all are quiet where the services are home
pub record WentOn (x y : Session) : Type 0 where
  pub opened : y.opened ≡ x.opened
  pub services : y.state.manager.passes.services ≡ x.state.manager.passes.services
  pub entries : List Entry
  pub history : y.history ≡ x.history ++ entries
  pub quiet : x.state.manager.passes.services ≡ None → AllByRecursion IsQuiet entries

pub written_on : (b : Bool) (h : List Entry) (x : Entry) → (l : List Entry) × ((if b then h else h ++ x ∷ []) ≡ h ++ l) × (l ≡ (if b then [] else x ∷ []))
written_on true h x = ([], sym (append-nil h), refl)
written_on false h x = (x ∷ [], refl, refl)

pub quiet_noted : (b : Bool) (x : Entry) → IsQuiet x → AllByRecursion IsQuiet (if b then [] else x ∷ [])
quiet_noted true x q = tt
quiet_noted false x q = (q, tt)

-- so it does by an event by which the services stay where they are
pub went_on : (x y : Session) (k : ℕ) (e : Event) (r : Result Reply AllocError) → keeps_services e ≡ true → y.opened ≡ x.opened → OnOk r (y.state ≡ (step x.state k e).0)
    → OnOk r (y.history ≡ written x.history (entry_of x.state k e)) → OnErr r (y ≡ x) → WentOn x y
went_on x y k e (Ok reply) keeps opened state history err =
    let w = written_on (only_tried (entry_of x.state k e)) x.history (entry_of x.state k e) in
    record {
      opened = opened;
      services = ap (λ (s : Moment). s.manager.passes.services) state ∙ moved_nothing x.state k e keeps;
      entries = w.0;
      history = history ∙ w.1;
      quiet = λ nobody. subst (AllByRecursion IsQuiet) (sym w.2) (quiet_noted (only_tried (entry_of x.state k e)) (entry_of x.state k e) (nobody_serves x.state k e keeps nobody));
    }
went_on x y k e (Err error) keeps opened state history err = record {
  opened = opened;
  services = ap (λ (z : Session). z.state.manager.passes.services) err;
  entries = [];
  history = ap (λ (z : Session). z.history) err ∙ sym (append-nil x.history);
  quiet = λ nobody. tt;
}

some_home : {T : Type 0} (o : Option ℕ) (s : Option T) (t : T) → is_some o ≡ is_none s → s ≡ Some t → o ≡ None
some_home None s t home is = refl
some_home (Some k) s t home is = let no : true ≡ false = home ∙ ap is_none is in cc

module _ {D B P : Type 0} (moment : D → ℕ) (left_since : D → ℕ → Contents → Type 0) (may_leave : D → Contents → Type 0) (faults : D → ℕ) (b : B → BuilderTold) (p : P → PartTold)
    (vow : Opened → List BuilderTold → List Served → Type 0) where
  abbrev pub Keeps : Hall D B P → Type 0
  Keeps l = IsHall b p (Fits moment left_since may_leave faults vow) l

  pub hall_on : (l : Hall D B P) (y : Session) → WentOn l.core y → Keeps l → Keeps (record l { core = y })
  hall_on l y w k = record {
    opened = w.opened ∙ k.opened;
    first = ap (λ (s : Moment). s.manager) w.opened ∙ k.first;
    home = ap is_some w.services ∙ k.home;
    rests = λ t is. ap (λ h. (rounds_of h).under) w.history ∙ (ap (λ s. (rounds_after no_rounds s).under) (steps_stay l.core.history w.entries (w.quiet (some_home _ l.services t k.home is))) ∙ k.rests t is);
    fit = λ t is. subst (λ h. Fits moment left_since may_leave faults vow (opened_by b p l.opening) l.opening.keeper.value h (told_by b p t)) (sym w.history)
        (fits_on moment left_since may_leave faults vow (opened_by b p l.opening) l.opening.keeper.value l.core.history w.entries (told_by b p t) (w.quiet (some_home _ l.services t k.home is)) (k.fit t is));
  }
