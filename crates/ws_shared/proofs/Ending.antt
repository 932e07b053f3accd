-- A save ends, and the services come home from it.
use Rattle.std.proofs.Common.{◌≡◌, ℕ, true, false, true≢false, List, [], ◌∷◌, ◌++◌, inl, inr, map, refl, sym, ap, ◌∙◌, subst, append-nil, append_assoc}
use Rattle.std.specs.Prelude.{Option, Some, None, Result, Ok, Err, IsOk, is_some}
use Rattle.std.specs.Option.{option_map, option_to_list}
use Rattle.ws_outside.specs.declared.contents.Contents.{Contents}
use Rattle.ws_durable.specs.declared.durable.Durable.{Durable}
use Rattle.builder_api.specs.Told.{Told as BuilderTold}
use Rattle.save_kind.specs.declared.answer.SaveAnswer.{SaveAnswer}
use Rattle.save_kind.specs.declared.answer.SaveAnswer.TheVariants as answer
use Rattle.save_kind.specs.declared.kind.SaveKind.{SaveKind}
use Rattle.save_round.specs.Told.{Told as PartTold}
use Rattle.save_run.specs.Books.{EndsUnkept, outcome_of}
use Rattle.core_event.specs.declared.entry.Entry.{Entry}
use Rattle.core_event.specs.declared.event.Event.TheVariants.{Service}
use Rattle.core_event.specs.declared.reply.Answer.TheVariants.{Done}
use Rattle.core_event.specs.declared.reply.Reply.{Reply}
use Rattle.core_event.specs.declared.service.Outcomes.TheVariants as outcomes
use Rattle.core_event.specs.declared.service.ServiceEvent.TheVariants.{CheckIn}
use Rattle.ws_core.specs.States.{Moment}
use Rattle.ws_core.specs.Ends.{ChecksIn}
use Rattle.ws_core.specs.Histories.{Legal, entry_of, replay}
use Rattle.ws_core.proofs.Grown.{replay_append}
use Rattle.save_history.specs.Kept.{Keeper, IsKept}
use Rattle.save_history.specs.Rounds.{Begun, Rounds, ended_as, rounds_after, rounds_of}
use Rattle.save_history.specs.Saves.{IsDone, ending}
use Rattle.save_history.specs.Steps.{Ends, step_of}
use Rattle.save_history.proofs.Rounds.{rounds_on}
use Rattle.save_history.proofs.Safe.{kept_tried, kept_unkept}
use Rattle.save_history.proofs.Stepped.{save_may_end}
use Rattle.ws_turn.specs.Lists.{StartsWith, of}
use Rattle.pass_turns.specs.Turns.{IsFaithful, Knows}
use Rattle.pass_turns.proofs.Waited.{starts_on}
use Rattle.pass_history.specs.Served.{Served, services_of, was_done}
use Rattle.ws_locked.specs.Fits.{Fits, HadEach, Told, session}
use Rattle.ws_locked.specs.Moved.{ComesHome, WasBrought, WasGiven, checkin}
use Rattle.ws_locked.specs.Opened.{Opened, Vows, is_of_save}
use Rattle.ws_locked.proofs.Idle.{had_each_more}
use Rattle.ws_locked.proofs.Fitting.{served_one, steps_one}
use Rattle.ws_shared.specs.Calls.{pass_of}
use Rattle.ws_shared.specs.declared.saving.Try.{Try}
use Rattle.ws_shared.specs.Inside.Hosts.{AreAdded, EndsSo, IsStore, IsThrough, States, plainly}
use Rattle.ws_shared.proofs.Stages.{others_since}

-- it ends as saved only where states were kept
kept_where : (kept : Option States) (written : Option Try) (a : SaveAnswer) → EndsSo kept written a → a ≡ answer.Saved → is_some kept ≡ true
kept_where None None a ends saved = absurd (subst EndsUnkept saved ends)
kept_where None (Some t) a ends saved = absurd ends
kept_where (Some s) written a ends saved = refl

pub unkept_where : (kept : Option States) (written : Option Try) (a : SaveAnswer) → EndsSo kept written a → kept ≡ None → EndsUnkept a
unkept_where None None a ends none = ends
unkept_where None (Some t) a ends none = absurd ends
unkept_where (Some s) written a ends none = let no : Some s ≡ None = none in cc

-- what follows the same beginning
pub append_cancel : {A : Type 0} (xs ys zs : List A) → xs ++ ys ≡ xs ++ zs → ys ≡ zs
append_cancel [] ys zs e = e
append_cancel (x ∷ xs) ys zs e = append_cancel xs ys zs (let all : x ∷ (xs ++ ys) ≡ x ∷ (xs ++ zs) = e in cc)

module _ {D : Type 0} (moment : D → ℕ) (left_since : D → ℕ → Contents → Type 0) (may_leave : D → Contents → Type 0) (faults : D → ℕ)
    (vow : Opened → List BuilderTold → List Served → Type 0) (vows : Vows vow) (o : Opened) where
  -- the store behind the end
  store_home : (keeper : Keeper D) (h : List Entry) (x : Entry) (kept : Option States) (written : Option Try) (a : SaveAnswer) → EndsSo kept written a → step_of x.event x.reply.answer ≡ Some (Ends a)
      → IsStore moment left_since may_leave faults written (session o.state h) keeper → IsKept moment left_since may_leave faults (session o.state (h ++ x ∷ [])) keeper
  store_home keeper h x None None a ends made store =
      kept_unkept moment left_since may_leave faults keeper (session o.state h) (session o.state (h ++ x ∷ [])) refl refl x refl (replay_append o.state h (x ∷ [])) a ends made store
  store_home keeper h x None (Some t) a ends made store = absurd ends
  store_home keeper h x (Some s) None a ends made store = absurd ends
  store_home keeper h x (Some s) (Some t) a ends made store =
      kept_tried moment left_since may_leave faults keeper (session o.state h) (session o.state (h ++ x ∷ [])) refl refl x refl (replay_append o.state h (x ∷ [])) t.result (made ∙ ap (λ z. Some (Ends z)) ends) store

  -- the entry by which states were kept keeps the vow
  vowed_on : (builders : List BuilderTold) (before : List Served) (n : ℕ) (kept : Option States) (entries : List Entry) → AreAdded n kept entries → vow o builders before → vow o builders (before ++ map plainly entries)
  vowed_on builders before n None entries none v = subst (λ l. vow o builders (before ++ map plainly l)) (sym none) (subst (vow o builders) (sym (append-nil before)) v)
  vowed_on builders before n (Some states) entries (x, one, is) v = subst (λ l. vow o builders (before ++ map plainly l)) (sym one) (vows o builders before (plainly x) (ap is_of_save is.event_is) v)

  -- the services come home, whatever the entry replies that ends it
  pub through_home : (began : Keeper D) (k j : Knows Entry) (keeper : Keeper D) (kind : SaveKind) (a : SaveAnswer) (old new : List PartTold) (t : Told D) → IsThrough moment left_since may_leave faults o.state k j keeper kind a old new
      → Fits moment left_since may_leave faults vow o began k.seen t → t.participants ≡ old → keeper.began ≡ t.keeper.began
      → ComesHome (λ h. Fits moment left_since may_leave faults vow o began h (record { keeper = keeper; builders = t.builders; participants = new })) j.number (outcomes.Save a) j.seen
  through_home began k j keeper kind a old new t w fit parts same r done =
      let x : Entry = record { pass = j.number; event = checkin (outcomes.Save a); reply = r } in
      let made : step_of x.event x.reply.answer ≡ Some (Ends a) = ap (λ z. step_of (checkin (outcomes.Save a)) z) done in
      let rounds : rounds_of (j.seen ++ x ∷ []) ≡ rounds_after (rounds_of j.seen) (Ends a ∷ []) = rounds_on j.seen (j.seen ++ x ∷ []) (x ∷ []) (Ends a ∷ []) refl (steps_one x (Some (Ends a)) made) in
      let begun : Begun = record { kind = kind; kept = w.kept } in
      let ended : (rounds_of (j.seen ++ x ∷ [])).ended ≡ (rounds_of k.seen).ended ++ record { begun = begun; answer = a } ∷ [] =
      ap (λ (z : Rounds). z.ended) rounds ∙ (λ i. w.at.ended_before i ++ option_to_list (option_map (ended_as a) (w.at.round i))) in (
        record {
          same_store = same ∙ fit.same_store;
          kept = store_home keeper j.seen x w.kept w.written a w.ends made w.at.store;
          had = subst (λ l. HadEach l o.participants new) (sym ended)
              (had_each_more (rounds_of k.seen).ended (record { begun = begun; answer = a }) o.participants old new (subst (HadEach (rounds_of k.seen).ended o.participants) parts fit.had) (inl (w.deeds, w.keeps, w.came)));
          vowed = subst (vow o t.builders) (sym (served_one o.state j.seen x (CheckIn (outcomes.Save a)) refl (ap was_done done)))
              (vows o t.builders (services_of o.state j.seen) (record { entry = x; command = None }) refl
              (subst (vow o t.builders) (sym w.at.served) (vowed_on t.builders (services_of o.state k.seen) k.number w.kept w.at.added.0 w.at.added.2 fit.vowed)));
        },
        ap (λ (z : Rounds). z.under) rounds,
      )

  -- and it is done
  pub checks_in : (k j : Knows Entry) (keeper : Keeper D) (kind : SaveKind) (a : SaveAnswer) (old new : List PartTold) → IsThrough moment left_since may_leave faults o.state k j keeper kind a old new
      → (found : List Entry) → StartsWith found j.seen → of pass_of j.number found ≡ j.mine → Legal o.state found → ChecksIn (replay o.state found) j.number (checkin (outcomes.Save a))
  checks_in k j keeper kind a old new w found begins own legal =
      let q = others_since o.state k.number j.seen j.mine found begins (subst (λ n. of pass_of n j.seen ≡ j.mine) w.at.number w.at.faithful.own) (subst (λ n. of pass_of n found ≡ j.mine) w.at.number own) legal w.at.under_way.services in
      subst (λ h. ChecksIn (replay o.state h) j.number (checkin (outcomes.Save a))) (sym begins.1)
      (subst (λ s. ChecksIn s j.number (checkin (outcomes.Save a))) (sym (replay_append o.state j.seen begins.0))
      (record {
        outcome = outcomes.Save a;
        gives = refl;
        serving = q.serving ∙ ap Some (sym w.at.number);
        fits = save_may_end _ (is_some w.kept) a (q.taken ∙ w.at.under_way.serving) (kept_where w.kept w.written a w.ends);
      }))

-- ---- what the pass has made

-- the entry by which the services were given back was added
pub given_entry : {T : Type 0} (s : Moment) (n : ℕ) (a : SaveAnswer) (services : T) (found added : List Entry) (r : Result Reply _) → IsOk r → WasBrought s n (outcomes.Save a) services found added r
    → (x : Entry) × (added ≡ x ∷ []) × IsDone n (ending a) x
given_entry s n a services found added (Ok reply) ok w =
    let x = entry_of (replay s found) n (checkin (outcomes.Save a)) in
    (x, append_cancel found added (x ∷ []) w.given.entry, record { pass = refl; event_is = refl; answer_is = ap (λ (z : Reply). z.answer) (sym w.given.reply_is) ∙ w.given.done })
given_entry s n a services found added (Err e) ok w = absurd (true≢false (sym ok))
