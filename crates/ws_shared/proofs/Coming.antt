-- Services that fit what a pass has seen and its CheckIn fit what was done since then and the CheckIn.
use Rattle.std.proofs.Common.{◌≡◌, ℕ, List, [], ◌∷◌, ◌++◌, map, refl, sym, ap, ◌∙◌, subst}
use Rattle.std.specs.Prelude.{Some, None}
use Rattle.std.specs.List.{AllByRecursion}
use Rattle.ws_outside.specs.declared.contents.Contents.{Contents}
use Rattle.builder_api.specs.Told.{Told as BuilderTold}
use Rattle.save_kind.specs.declared.answer.SaveAnswer.{SaveAnswer}
use Rattle.save_kind.specs.declared.answer.SaveAnswer.TheVariants as saves
use Rattle.core_event.specs.declared.entry.Entry.{Entry}
use Rattle.core_event.specs.declared.reply.Answer.TheVariants.{Done}
use Rattle.core_event.specs.declared.reply.Reply.{Reply}
use Rattle.core_event.specs.declared.service.Outcomes.{Outcomes}
use Rattle.core_event.specs.declared.service.Outcomes.TheVariants as outcomes
use Rattle.core_event.specs.declared.service.ServiceEvent.TheVariants.{CheckIn}
use Rattle.ws_durable.specs.Saved.{Saved}
use Rattle.ws_core.specs.States.{Moment}
use Rattle.ws_core.specs.Durables.{durable_of}
use Rattle.ws_core.specs.Histories.{Legal, after, replay, replies}
use Rattle.ws_core.proofs.Grown.{replay_append}
use Rattle.save_history.specs.Kept.{Keeper}
use Rattle.save_history.specs.Points.{Points, points_from, with_step}
use Rattle.save_history.specs.Rounds.{no_rounds, rounds_after}
use Rattle.save_history.specs.Steps.{Ends, step_of, steps_of}
use Rattle.save_history.proofs.Walks.{points_append, steps_append}
use Rattle.ws_turn.specs.Lists.{StartsWith, of}
use Rattle.pass_turns.proofs.There.{none_between}
use Rattle.pass_history.specs.Served.{Served, services_of, was_done, who_serves}
use Rattle.pass_history.proofs.Given.{heads}
use Rattle.pass_history.proofs.Serving.{IsQuiet, others_quiet}
use Rattle.ws_locked.specs.Fits.{Fits, Told}
use Rattle.ws_locked.specs.Moved.{ComesHome, checkin}
use Rattle.ws_locked.specs.Opened.{Opened}
use Rattle.ws_locked.proofs.Fitting.{fits_same, points_stay, served_one, services_stay, steps_stay}
use Rattle.ws_locked.proofs.Lent.{by_pass}

pub replies_rest : (s : Moment) (h k : List Entry) → map (λ (x : Entry). x.reply) (h ++ k) ≡ replies s (h ++ k) → map (λ (x : Entry). x.reply) k ≡ replies (replay s h) k
replies_rest s [] k t = t
replies_rest s (x ∷ h) k t = replies_rest (after s x) h k (heads _ _ _ _ t).1

-- the points at which a save ends rest on those before alone
ends_same : (d e : Saved) (a : SaveAnswer) (p : Points) → with_step d (Some (Ends a)) p ≡ with_step e (Some (Ends a)) p
ends_same d e saves.Saved p = refl
ends_same d e saves.SaveFailed p = refl
ends_same d e (saves.ParticipantFailed name) p = refl
ends_same d e saves.SaveTooLarge p = refl
ends_same d e saves.SaveNumbers p = refl
ends_same d e saves.NoMemory p = refl

end_same : (d e : Saved) (n : ℕ) (outcome : Outcomes) (r : Reply) (p : Points) → r.answer ≡ Done → with_step d (step_of (checkin outcome) r.answer) p ≡ with_step e (step_of (checkin outcome) r.answer) p
end_same d e n (outcomes.Build b) r p done = ap (λ a. with_step d (step_of (checkin (outcomes.Build b)) a) p) done ∙ sym (ap (λ a. with_step e (step_of (checkin (outcomes.Build b)) a) p) done)
end_same d e n (outcomes.Save a) r p done = ap (λ z. with_step d (step_of (checkin (outcomes.Save a)) z) p) done ∙ (ends_same d e a p ∙ sym (ap (λ z. with_step e (step_of (checkin (outcomes.Save a)) z) p) done))

module _ {D : Type 0} (moment : D → ℕ) (left_since : D → ℕ → Contents → Type 0) (may_leave : D → Contents → Type 0) (faults : D → ℕ)
    (vow : Opened → List BuilderTold → List Served → Type 0) (o : Opened) (began : Keeper D) where
  -- where the entries between are quiet
  comes_quiet : (n : ℕ) (outcome : Outcomes) (t : Told D) (seen rest : List Entry) → AllByRecursion IsQuiet rest
      → ComesHome (λ h. Fits moment left_since may_leave faults vow o began h t) n outcome seen → ComesHome (λ h. Fits moment left_since may_leave faults vow o began h t) n outcome (seen ++ rest)
  comes_quiet n outcome t seen rest quiet comes r done =
      let x : Entry = record { pass = n; event = checkin outcome; reply = r } in
      let made : steps_of ((seen ++ rest) ++ x ∷ []) ≡ steps_of (seen ++ x ∷ []) = steps_append (seen ++ rest) (x ∷ []) ∙ (ap (λ l. l ++ steps_of (x ∷ [])) (steps_stay seen rest quiet) ∙ sym (steps_append seen (x ∷ []))) in (
        fits_same moment left_since may_leave faults vow o began (seen ++ x ∷ []) ((seen ++ rest) ++ x ∷ []) t points made asked (comes r done).0,
        ap (λ l. (rounds_after no_rounds l).under) made ∙ (comes r done).1,
      )
    where
      x : Entry
      x = record { pass = n; event = checkin outcome; reply = r }

      points : (p : Points) → points_from p o.state ((seen ++ rest) ++ x ∷ []) ≡ points_from p o.state (seen ++ x ∷ [])
      points p =
          points_append p o.state (seen ++ rest) (x ∷ [])
          ∙ (ap (λ q. with_step (durable_of (after (replay o.state (seen ++ rest)) x)) (step_of (checkin outcome) r.answer) q) (points_stay p o.state seen rest quiet)
          ∙ (end_same (durable_of (after (replay o.state (seen ++ rest)) x)) (durable_of (after (replay o.state seen) x)) n outcome r (points_from p o.state seen) done
          ∙ sym (points_append p o.state seen (x ∷ []))))

      asked : services_of o.state ((seen ++ rest) ++ x ∷ []) ≡ services_of o.state (seen ++ x ∷ [])
      asked =
          served_one o.state (seen ++ rest) x (CheckIn outcome) refl (ap was_done done)
          ∙ (ap (λ l. l ++ record { entry = x; command = None } ∷ []) (services_stay o.state seen rest quiet)
          ∙ sym (served_one o.state seen x (CheckIn outcome) refl (ap was_done done)))

  -- while a pass has the services the entries of others are
  pub comes_on : (n : ℕ) (outcome : Outcomes) (t : Told D) (seen mine h : List Entry) → of by_pass n seen ≡ mine → StartsWith h seen → of by_pass n h ≡ mine → Legal o.state h → who_serves o.state h ≡ Some n
      → ComesHome (λ l. Fits moment left_since may_leave faults vow o began l t) n outcome seen → ComesHome (λ l. Fits moment left_since may_leave faults vow o began l t) n outcome h
  comes_on n outcome t seen mine h own w whole legal serves comes =
      let rest = w.0 in
      let quiet = others_quiet (replay o.state seen) n rest (replies_rest o.state seen rest (subst (λ l. map (λ (x : Entry). x.reply) l ≡ replies o.state l) w.1 legal.replies))
      (none_between by_pass n seen rest mine own (ap (of by_pass n) (sym w.1) ∙ whole))
      (ap (λ (s : Moment). s.manager.passes.services) (sym (replay_append o.state seen rest) ∙ ap (replay o.state) (sym w.1)) ∙ serves) in
      subst (ComesHome (λ l. Fits moment left_since may_leave faults vow o began l t) n outcome) (sym w.1) (comes_quiet n outcome t seen rest quiet.1 comes)
