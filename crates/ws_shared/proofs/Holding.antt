-- The services fit what their pass has seen, while it asks what makes no save.
use Rattle.std.proofs.Common.{◌≡◌, ℕ, Bool, true, false, List, [], ◌∷◌, ◌++◌, refl, sym, ap, ◌∙◌, subst, append-nil, true≢false, if◌then◌else◌}
use Rattle.std.specs.Prelude.{Option, Some, None, Result, Ok, Err}
use Rattle.std.specs.declared.alloc.AllocError.{AllocError}
use Rattle.ws_outside.specs.declared.contents.Contents.{Contents}
use Rattle.builder_api.specs.Told.{Told as BuilderTold}
use Rattle.builder_api.specs.declared.outcome.BuildOutcome.{BuildOutcome}
use Rattle.core_event.specs.declared.entry.Entry.{Entry}
use Rattle.core_event.specs.declared.event.Event.{Event}
use Rattle.core_event.specs.declared.reply.Answer.TheVariants.{Done}
use Rattle.core_event.specs.declared.reply.Reply.{Reply}
use Rattle.core_event.specs.declared.service.Outcomes.TheVariants as outcomes
use Rattle.core_event.specs.declared.service.Purpose.{Purpose}
use Rattle.core_event.specs.declared.service.ServiceEvent.TheVariants.{Checkout}
use Rattle.ws_core.specs.States.{Moment}
use Rattle.ws_core.specs.Histories.{Legal, entry_of, only_tried, replay}
use Rattle.ws_core.specs.Steps.{step}
use Rattle.ws_core.proofs.Grown.{replay_append}
use Rattle.save_history.specs.Kept.{Keeper}
use Rattle.save_history.specs.Rounds.{Rounds, no_rounds, rounds_after, rounds_of}
use Rattle.save_history.specs.Steps.{step_in, step_of}
use Rattle.save_history.proofs.Rounds.{rounds_on}
use Rattle.save_history.proofs.Safe.{kept_none}
use Rattle.save_history.proofs.Walks.{no_step}
use Rattle.ws_turn.specs.Lists.{of}
use Rattle.pass_turns.specs.Turns.{Knows, TookTurn}
use Rattle.pass_history.specs.Served.{Served, keeps_services, services_of, was_done, who_serves}
use Rattle.pass_history.proofs.Serving.{moved_nothing, serving_of}
use Rattle.pass_history.proofs.Standing.{OthersQuiet}
use Rattle.ws_locked.specs.Asked.{WasAsked}
use Rattle.ws_locked.specs.Fits.{Fits, HadEach, Told, session}
use Rattle.ws_locked.specs.Moved.{ComesHome, WasLent, checkin, checkout, round_for}
use Rattle.ws_locked.specs.Opened.{Opened}
use Rattle.ws_locked.proofs.Fitting.{fits_on, steps_one, steps_stay}
use Rattle.ws_locked.proofs.Going.{Moves, WasDone, WasRefused, moves_out, out_stands}
use Rattle.ws_shared.specs.Builds.{Builds}
use Rattle.ws_shared.specs.Calls.{pass_of}
use Rattle.ws_shared.proofs.Stages.{others_since}

-- a pass that gets the services has them
lent_out : (s : Moment) (n : ℕ) (purpose : Purpose) → was_done (step s n (checkout purpose)).1.answer ≡ true → serving_of (step s n (checkout purpose)).0 ≡ Some n
lent_out s n purpose good = by (moves_out s n purpose)
  where
    by : Moves s n (Checkout purpose) None (Some n) → serving_of (step s n (checkout purpose)).0 ≡ Some n
    by (WasRefused r told same) = absurd (true≢false (sym good ∙ ap was_done told))
    by (WasDone good_now was now) = now

module _ {D : Type 0} (moment : D → ℕ) (left_since : D → ℕ → Contents → Type 0) (may_leave : D → Contents → Type 0) (faults : D → ℕ)
    (vow : Opened → List BuilderTold → List Served → Type 0) (o : Opened) (began : Keeper D) where
  abbrev Building : Knows Entry → Told D → Type 0
  Building k t = Builds moment left_since may_leave faults vow o began k t

  record At (n : ℕ) (h : List Entry) (t : Told D) : Type 0 where
    pub serving : serving_of (replay o.state h) ≡ Some n
    pub none : (rounds_of h).under ≡ None
    pub fits : Fits moment left_since may_leave faults vow o began h t

  module _ (n : ℕ) (h : List Entry) (e : Event) (t : Told D) (at : At n h t) (keeps : keeps_services e ≡ true) (asks : step_in e ≡ None) where
    abbrev x : Entry
    x = entry_of (replay o.state h) n e

    made : step_of x.event x.reply.answer ≡ None
    made = no_step e x.reply.answer asks

    rounds : rounds_of (h ++ x ∷ []) ≡ rounds_of h
    rounds = rounds_on h (h ++ x ∷ []) (x ∷ []) [] refl (steps_one x None made)

    at_one : vow o t.builders (services_of o.state (h ++ x ∷ [])) → At n (h ++ x ∷ []) t
    at_one vowed = record {
      serving = ap serving_of (replay_append o.state h (x ∷ [])) ∙ (moved_nothing (replay o.state h) n e keeps ∙ at.serving);
      none = ap (λ (r : Rounds). r.under) rounds ∙ at.none;
      fits = record {
        same_store = at.fits.same_store;
        kept = kept_none moment left_since may_leave faults t.keeper (session o.state h) (session o.state (h ++ x ∷ [])) refl refl x refl (replay_append o.state h (x ∷ [])) made at.fits.kept;
        had = subst (λ (r : Rounds). HadEach r.ended o.participants t.participants) (sym rounds) at.fits.had;
        vowed = vowed;
      };
    }

    at_noted : (b : Bool) → vow o t.builders (services_of o.state (h ++ (if b then [] else x ∷ []))) → At n (h ++ (if b then [] else x ∷ [])) t
    at_noted true vowed = subst (λ l. At n l t) (sym (append-nil h)) at
    at_noted false vowed = at_one vowed

  -- it got them for it
  pub builds_first : {B T : Type 0} (base : B) (lawful : B → List Entry → Type 0) (did : B → ℕ → List Entry → List Entry → Result (Reply × Option T) AllocError → Type 0) (told : T → Told D)
      (purpose : Purpose) (reply : Reply) (services : T) (k j : Knows Entry) → round_for purpose ≡ None
      → ((found added : List Entry) → did base k.number found added (Ok (reply, Some services)) → WasLent (λ h s. Fits moment left_since may_leave faults vow o began h (told s)) o.state k.number purpose found added (Ok (reply, Some services)))
      → TookTurn pass_of lawful did base (Ok (reply, Some services)) k j → Building j (told services)
  builds_first base lawful did told purpose reply services k j none lent turn =
      let w = lent turn.found turn.added turn.did_it in
      let s = replay o.state turn.found in
      let good = ap (λ (r : Reply). was_done r.answer) (sym w.reply) ∙ sym w.lent in
      let x = entry_of s k.number (checkout purpose) in
      let one : turn.added ≡ x ∷ [] = w.entry ∙ ap (λ b. if b then [] else x ∷ []) (out_stands s k.number purpose good) in
      record {
        serves = ap (who_serves o.state) (turn.seen ∙ ap (λ l. turn.found ++ l) one)
            ∙ (ap serving_of (replay_append o.state turn.found (x ∷ [])) ∙ (lent_out s k.number purpose good ∙ ap Some (sym turn.number)));
        own = turn.faithful.own;
        none = ap (λ l. (rounds_of l).under) turn.seen ∙ (w.round ∙ none);
        fits = subst (λ l. Fits moment left_since may_leave faults vow o began l (told services)) (sym turn.seen) w.fits;
      }

  -- it asked something else in a turn
  pub builds_on : {B : Type 0} (base : B) (lawful : B → List Entry → Type 0) (legally : (h : List Entry) → lawful base h → Legal o.state h)
      (did : B → ℕ → List Entry → List Entry → Result Reply AllocError → Type 0) (e : Event) (r : Result Reply AllocError) (k j : Knows Entry) (t : Told D)
      → ((found added : List Entry) → did base k.number found added r → WasAsked e o.state k.number found added r)
      → keeps_services e ≡ true → step_in e ≡ None → Building k t → TookTurn pass_of lawful did base r k j → vow o t.builders (services_of o.state j.seen) → Building j t
  builds_on base lawful legally did e r k j t asked keeps asks holds turn vowed =
      record { serves = then.serving ∙ ap Some (sym turn.number); own = turn.faithful.own; none = then.none; fits = then.fits }
    where
      quiet : OthersQuiet k.number (replay o.state k.seen) turn.begins.0
      quiet = others_since o.state k.number k.seen k.mine turn.found turn.begins holds.own turn.own_found (legally turn.found turn.legal_found) holds.serves

      found : At k.number turn.found t
      found = subst (λ l. At k.number l t) (sym turn.begins.1) (record {
        serving = ap serving_of (replay_append o.state k.seen turn.begins.0) ∙ quiet.serving;
        none = ap (λ l. (rounds_after no_rounds l).under) (steps_stay k.seen turn.begins.0 quiet.quiet) ∙ holds.none;
        fits = fits_on moment left_since may_leave faults vow o began k.seen turn.begins.0 t quiet.quiet holds.fits;
      })

      by : (r : Result Reply AllocError) → WasAsked e o.state k.number turn.found turn.added r → At k.number (turn.found ++ turn.added) t
      by (Ok reply) was = subst (λ l. At k.number (turn.found ++ l) t) (sym was.entry)
          (at_noted k.number turn.found e t found keeps asks (only_tried (entry_of (replay o.state turn.found) k.number e))
          (subst (λ l. vow o t.builders (services_of o.state (turn.found ++ l))) was.entry (subst (λ l. vow o t.builders (services_of o.state l)) turn.seen vowed)))
      by (Err error) was = subst (λ l. At k.number (turn.found ++ l) t) (sym was.nothing) (subst (λ l. At k.number l t) (sym (append-nil turn.found)) found)

      then : At k.number j.seen t
      then = subst (λ l. At k.number l t) (sym turn.seen) (by r (asked turn.found turn.added turn.did_it))

  -- and gives the services back
  pub builds_home : (k : Knows Entry) (t : Told D) (outcome : BuildOutcome) → Building k t
      → ((r : Reply) → vow o t.builders (services_of o.state (k.seen ++ record { pass = k.number; event = checkin (outcomes.Build outcome); reply = r } ∷ [])))
      → ComesHome (λ l. Fits moment left_since may_leave faults vow o began l t) k.number (outcomes.Build outcome) k.seen
  builds_home k t outcome holds vowed r done =
      let x : Entry = record { pass = k.number; event = checkin (outcomes.Build outcome); reply = r } in
      let made : step_of x.event x.reply.answer ≡ None = no_step (checkin (outcomes.Build outcome)) r.answer refl in
      let rounds : rounds_of (k.seen ++ x ∷ []) ≡ rounds_of k.seen = rounds_on k.seen (k.seen ++ x ∷ []) (x ∷ []) [] refl (steps_one x None made) in (
        record {
          same_store = holds.fits.same_store;
          kept = kept_none moment left_since may_leave faults t.keeper (session o.state k.seen) (session o.state (k.seen ++ x ∷ [])) refl refl x refl (replay_append o.state k.seen (x ∷ [])) made holds.fits.kept;
          had = subst (λ (z : Rounds). HadEach z.ended o.participants t.participants) (sym rounds) holds.fits.had;
          vowed = vowed r;
        },
        ap (λ (z : Rounds). z.under) rounds ∙ holds.none,
      )
