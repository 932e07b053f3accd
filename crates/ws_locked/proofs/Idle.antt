-- A pass that leaves the services alone may give them back.
use Rattle.std.proofs.Common.{◌≡◌, ◌⊎◌, inr, ℕ, List, [], ◌∷◌, ◌++◌, refl, sym, ap, ◌∙◌, subst}
use Rattle.std.specs.Prelude.{Some, None}
use Rattle.std.specs.Option.{option_map, option_to_list}
use Rattle.ws_outside.specs.declared.contents.Contents.{Contents}
use Rattle.builder_api.specs.Told.{Told as BuilderTold}
use Rattle.save_kind.specs.declared.answer.SaveAnswer.{SaveAnswer}
use Rattle.save_kind.specs.declared.answer.SaveAnswer.TheVariants as answer
use Rattle.save_kind.specs.declared.kind.SaveKind.{SaveKind}
use Rattle.save_round.specs.Told.{Told as PartTold}
use Rattle.core_event.specs.declared.entry.Entry.{Entry}
use Rattle.core_event.specs.declared.service.Outcomes.TheVariants as outcomes
use Rattle.core_event.specs.declared.service.ServiceEvent.TheVariants.{CheckIn}
use Rattle.ws_core.proofs.Grown.{replay_append}
use Rattle.ws_core.specs.Durables.{durable_of}
use Rattle.ws_core.specs.Histories.{replay}
use Rattle.ws_durable.specs.Saved.{Saved}
use Rattle.save_history.specs.Kept.{Keeper, points_at}
use Rattle.save_history.specs.Points.{Points, with_ended, with_step}
use Rattle.save_history.specs.Rounds.{Begun, HadSave, Rounds, Save, ended_as, rounds_after, rounds_of}
use Rattle.save_history.specs.Steps.{Ends, failure, step_of}
use Rattle.save_history.proofs.Rounds.{rounds_on}
use Rattle.save_history.proofs.Safe.{kept_idle}
use Rattle.pass_history.specs.Served.{Served, services_of, was_done}
use Rattle.ws_locked.specs.Fits.{EndsIdle, Fits, HadEach, Told, WasIdle, session}
use Rattle.ws_locked.specs.Moved.{ComesHome, checkin}
use Rattle.ws_locked.specs.Opened.{Opened, Vows}
use Rattle.ws_locked.proofs.Fitting.{served_one, steps_one}

-- what participants had, and one save more
pub had_each_more : (saves : List Save) (save : Save) (a b c : List PartTold) → HadEach saves a b → HadSave save b c ⊎ (WasIdle save × (c ≡ b)) → HadEach (saves ++ save ∷ []) a c
had_each_more [] save a b c had one = (c, subst (λ x. HadSave save x c ⊎ (WasIdle save × (c ≡ x))) had one, refl)
had_each_more (s ∷ saves) save a b c had one = (had.0, had.1, had_each_more saves save had.0 b c had.2 one)

-- such an end acknowledges nothing
ends_idle : (d : Saved) (a : SaveAnswer) (p : Points) → EndsIdle a → (with_step d (Some (Ends a)) p ≡ with_ended p) × (failure a ≡ 0)
ends_idle d answer.Saved p idle = absurd idle
ends_idle d answer.SaveFailed p idle = absurd idle
ends_idle d (answer.ParticipantFailed name) p idle = absurd idle
ends_idle d answer.SaveTooLarge p idle = (refl, refl)
ends_idle d answer.SaveNumbers p idle = (refl, refl)
ends_idle d answer.NoMemory p idle = (refl, refl)

module _ {D : Type 0} (moment : D → ℕ) (left_since : D → ℕ → Contents → Type 0) (may_leave : D → Contents → Type 0) (faults : D → ℕ)
    (vow : Opened → List BuilderTold → List Served → Type 0) (vows : Vows vow) (o : Opened) (began : Keeper D) where
  -- services that were taken for a save and left alone may be given back
  pub idle_home : (n : ℕ) (a : SaveAnswer) (kind : SaveKind) (h : List Entry) (t : Told D) → EndsIdle a → (rounds_of h).under ≡ Some (record { kind = kind; kept = None }) → Fits moment left_since may_leave faults vow o began h t
      → ComesHome (λ l. Fits moment left_since may_leave faults vow o began l t) n (outcomes.Save a) h
  idle_home n a kind h t idle under fit r done =
      let x : Entry = record { pass = n; event = checkin (outcomes.Save a); reply = r } in
      let quiet = ends_idle (durable_of (replay o.state (h ++ x ∷ []))) a (points_at (session o.state h) t.keeper) idle in
      let made : step_of x.event x.reply.answer ≡ Some (Ends a) = ap (λ z. step_of (checkin (outcomes.Save a)) z) done in
      let rounds : rounds_of (h ++ x ∷ []) ≡ rounds_after (rounds_of h) (Ends a ∷ []) = rounds_on h (h ++ x ∷ []) (x ∷ []) (Ends a ∷ []) refl (steps_one x (Some (Ends a)) made) in
      let begun : Begun = record { kind = kind; kept = None } in
      let ended : (rounds_of (h ++ x ∷ [])).ended ≡ (rounds_of h).ended ++ record { begun = begun; answer = a } ∷ [] =
      ap (λ (z : Rounds). z.ended) rounds ∙ ap (λ u. (rounds_of h).ended ++ option_to_list (option_map (ended_as a) u)) under in (
        record {
          same_store = fit.same_store;
          kept = kept_idle moment left_since may_leave faults t.keeper (session o.state h) (session o.state (h ++ x ∷ [])) refl refl x refl (replay_append o.state h (x ∷ [])) a quiet.0 quiet.1 made fit.kept;
          had = subst (λ l. HadEach l o.participants t.participants) (sym ended)
              (had_each_more (rounds_of h).ended (record { begun = begun; answer = a }) o.participants t.participants t.participants fit.had (inr ((refl, idle), refl)));
          vowed = subst (vow o t.builders) (sym (served_one o.state h x (CheckIn (outcomes.Save a)) refl (ap was_done done)))
              (vows o t.builders (services_of o.state h) (record { entry = x; command = None }) refl fit.vowed);
        },
        ap (λ (z : Rounds). z.under) rounds,
      )
