-- Why a pass's save ended as it did, beside what other passes did.
use Rattle.std.proofs.Common.{◌≡◌, ℕ, List, [], ◌∷◌, ◌++◌, refl, sym, ap, ◌∙◌, subst}
use Rattle.std.specs.Prelude.{Option, Some, None}
use Rattle.std.specs.List.{AllByRecursion}
use Rattle.ws_outside.specs.declared.contents.Contents.{Contents}
use Rattle.ws_durable.specs.Saved.{saved}
use Rattle.save_kind.specs.declared.answer.SaveAnswer.{SaveAnswer}
use Rattle.save_kind.specs.declared.kind.SaveKind.{SaveKind}
use Rattle.save_round.specs.Told.{Told as PartTold}
use Rattle.save_store.specs.declared.saves.Saves.{Saves}
use Rattle.core_event.specs.declared.entry.Entry.{Entry}
use Rattle.ws_core.specs.States.{Moment}
use Rattle.ws_core.specs.Sessions.{Session}
use Rattle.ws_core.specs.Durables.{durable_of}
use Rattle.ws_core.specs.Histories.{Legal, after, replay}
use Rattle.save_history.specs.Causes.{MayEndSo}
use Rattle.save_history.specs.Kept.{Keeper, points_at}
use Rattle.save_history.specs.Points.{first_points, points_of, with_step}
use Rattle.save_history.specs.Saves.{IsDone, ending}
use Rattle.save_history.specs.Steps.{Ends, step_of}
use Rattle.save_history.proofs.Rounds.{done_step}
use Rattle.save_history.proofs.Safe.{may_on, unkept_may}
use Rattle.save_history.proofs.Walks.{points_append}
use Rattle.pass_history.proofs.Serving.{IsQuiet}
use Rattle.ws_turn.specs.Lists.{StartsWith, of}
use Rattle.pass_turns.specs.Turns.{Knows}
use Rattle.ws_locked.specs.Fits.{session}
use Rattle.ws_locked.proofs.Fitting.{points_stay}
use Rattle.ws_shared.specs.Calls.{pass_of}
use Rattle.ws_shared.specs.declared.saving.Try.{Try}
use Rattle.ws_shared.specs.Inside.Hosts.{EndsSo, IsStore, IsThrough, States}
use Rattle.ws_shared.proofs.Stages.{others_since}

-- as was found when it was written
pub as_written : {D : Type 0} (moment : D → ℕ) (left_since : D → ℕ → Contents → Type 0) (may_leave : D → Contents → Type 0) (faults : D → ℕ) (x : Session) (keeper : Keeper D) (kept : Option States) (written : Option Try) (a : SaveAnswer) → EndsSo kept written a
    → IsStore moment left_since may_leave faults written x keeper → MayEndSo a (points_at x keeper) keeper.began.areas.top
as_written moment left_since may_leave faults x keeper None None a ends store = unkept_may a (points_at x keeper) keeper.began.areas.top ends
as_written moment left_since may_leave faults x keeper None (Some t) a ends store = absurd ends
as_written moment left_since may_leave faults x keeper (Some s) None a ends store = absurd ends
as_written moment left_since may_leave faults x keeper (Some s) (Some t) a ends store = subst (λ b. MayEndSo b (points_at x keeper) keeper.began.areas.top) (sym ends) store.cause

-- it is so behind what others did since then, and the entry that ends it
module _ {D : Type 0} (s : Moment) (keeper began : Keeper D) (same : keeper.began ≡ began.began) (a : SaveAnswer) (seen rest : List Entry) (quiet : AllByRecursion IsQuiet rest) (x : Entry) (made : step_of x.event x.reply.answer ≡ Some (Ends a)) where
  abbrev found : List Entry
  found = seen ++ rest

  points_ended : points_at (session s (found ++ x ∷ [])) keeper ≡ with_step (durable_of (after (replay s found) x)) (Some (Ends a)) (points_at (session s seen) keeper)
  points_ended =
      points_append (first_points (saved keeper.began.last)) s found (x ∷ [])
      ∙ (ap (λ o. with_step (durable_of (after (replay s found) x)) o (points_at (session s found) keeper)) made
      ∙ ap (λ p. with_step (durable_of (after (replay s found) x)) (Some (Ends a)) p) (points_stay (first_points (saved keeper.began.last)) s seen rest quiet))

  pub as_ended : MayEndSo a (points_at (session s seen) keeper) keeper.began.areas.top → MayEndSo a (points_at (session s (found ++ x ∷ [])) began) began.began.areas.top
  as_ended may = subst (λ (b : Saves D). MayEndSo a (points_of (saved b.last) s (found ++ x ∷ [])) b.areas.top) same
      (subst (λ p. MayEndSo a p keeper.began.areas.top) (sym points_ended) (may_on (durable_of (after (replay s found) x)) a (points_at (session s seen) keeper) keeper.began.areas.top may))

-- so it is of the save that came through, and of the turn in which the pass told its end
module _ {D : Type 0} (moment : D → ℕ) (left_since : D → ℕ → Contents → Type 0) (may_leave : D → Contents → Type 0) (faults : D → ℕ) (s : Moment) (k j : Knows Entry) (keeper began : Keeper D) (same : keeper.began ≡ began.began)
    (kind : SaveKind) (a : SaveAnswer) (old new : List PartTold) (w : IsThrough moment left_since may_leave faults s k j keeper kind a old new) where
  pub reason : (found now : List Entry) (begins : StartsWith found j.seen) → of pass_of j.number found ≡ j.mine → Legal s found → (x : Entry) → IsDone j.number (ending a) x → now ≡ found ++ x ∷ []
      → MayEndSo a (points_at (session s now) began) began.began.areas.top
  reason found now begins own legal x is grew =
      let q = others_since s k.number j.seen j.mine found begins (subst (λ n. of pass_of n j.seen ≡ j.mine) w.at.number w.at.faithful.own) (subst (λ n. of pass_of n found ≡ j.mine) w.at.number own) legal w.at.under_way.services in
      subst (λ l. MayEndSo a (points_at (session s l) began) began.began.areas.top) (sym (grew ∙ ap (λ l. l ++ x ∷ []) begins.1))
      (as_ended s keeper began same a j.seen begins.0 q.quiet x (done_step j.number (ending a) x is) (as_written moment left_since may_leave faults (session s j.seen) keeper w.kept w.written a w.ends w.at.store))
