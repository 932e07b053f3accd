-- What participants were told.
use Rattle.std.proofs.Common.{◌≡◌, ◌⊎◌, inl, inr, ℕ, true, false, List, [], ◌∷◌, slice_get, Option, Some, None, Ok, Err, refl, sym, ◌∙◌, ap, subst}
use Rattle.std.specs.Prelude.{IsSome}
use Rattle.save_kind.specs.declared.answer.SaveAnswer.{SaveAnswer}
use Rattle.save_kind.specs.declared.answer.SaveAnswer.TheVariants as answer
use Rattle.save_kind.specs.declared.kind.SaveKind.{SaveKind}
use Rattle.save_kind.specs.declared.state.PartState.{PartState}
use Rattle.save_round.specs.declared.restoring.KeptState.{KeptState}
use Rattle.save_round.specs.declared.round.RoundFault.{RoundFault}
use Rattle.save_round.specs.Told.{Call, Told, Prepared, Saving, RolledBack}
use Rattle.save_round.specs.Firsts.{FirstsHad, by_place}
use Rattle.save_round.specs.Restoring.{HasStoppedRestoring, WereRestored, names, restoring}
use Rattle.save_round.specs.Rounds.{HasStoppedPreparing}
use Rattle.ws_top.proofs.KeptAlike.{same_names}
use Rattle.save_run.specs.Books.{Deed}
use Rattle.save_run.specs.Saves.{CameTo, HadRound, HasStopped, HasStoppedAsking}
use Rattle.save_history.specs.Rounds.{HadSave, HadSaves, Save, rounds_of}
use Rattle.core_event.specs.declared.entry.Entry.{Entry}
use Rattle.ws_durable.specs.declared.durable.Durable.{Durable}
use Rattle.ws_core.specs.Durables.{kept_since}
use Rattle.ws_core.specs.States.{Moment}
use Rattle.ws_top.specs.Outcomes.{HaveTakenPart}

-- ---- names stay

round_names : (kind : SaveKind) (end : Call) (states : List (List ℕ × PartState)) (xs ys : List Told) → HadRound kind end states xs ys → names ys ≡ names xs
round_names kind end states xs ys r = same_names (λ place. Prepared kind (Ok tt) ∷ Saving kind (Ok (r.answers place)) ∷ end ∷ []) xs ys r.calls

stopped_names : (kind : SaveKind) (fault : RoundFault) (xs ys : List Told) → HasStopped kind fault xs ys → names ys ≡ names xs
stopped_names kind fault xs ys (inl s) = same_names (by_place s.at (Prepared kind (Ok tt) ∷ RolledBack ∷ []) (Prepared kind (Err s.answer) ∷ []) []) xs ys s.calls
stopped_names kind fault xs ys (inr s) = same_names (λ place. by_place s.at
    (Prepared kind (Ok tt) ∷ Saving kind (Ok (s.answers place)) ∷ RolledBack ∷ [])
    (Prepared kind (Ok tt) ∷ Saving kind s.last ∷ RolledBack ∷ [])
    (Prepared kind (Ok tt) ∷ RolledBack ∷ []) place) xs ys s.calls

came_names : (kind : SaveKind) (o : SaveAnswer) (deeds : List Deed) (xs ys : List Told) → CameTo kind o deeds xs ys → names ys ≡ names xs
came_names kind answer.Saved deeds xs ys (states, is, r) = round_names kind _ states xs ys r
came_names kind answer.SaveFailed deeds xs ys (states, is, r) = round_names kind _ states xs ys r
came_names kind answer.SaveTooLarge deeds xs ys (states, is, r) = round_names kind _ states xs ys r
came_names kind answer.SaveNumbers deeds xs ys (states, is, r) = round_names kind _ states xs ys r
came_names kind (answer.ParticipantFailed name) deeds xs ys (is, s) = stopped_names kind _ xs ys s
came_names kind answer.NoMemory deeds xs ys (inl (is, s)) = stopped_names kind _ xs ys s
came_names kind answer.NoMemory deeds xs ys (inr (inl (is, (states, r)))) = round_names kind _ states xs ys r
came_names kind answer.NoMemory deeds xs ys (inr (inr (states, is, r))) = round_names kind _ states xs ys r

-- through saves
pub saved_names : (saves : List Save) (xs ys : List Told) → HadSaves saves xs ys → names ys ≡ names xs
saved_names [] xs ys h = ap names h
saved_names (save ∷ saves) xs ys (then, had, h) = saved_names saves then ys h ∙ came_names save.begun.kind save.answer had.0 xs then had.2

-- through what is given back
pub restored_names : (kept : List KeptState) (xs ys : List Told) → WereRestored kept xs ys → names ys ≡ names xs
restored_names kept xs ys h = same_names (λ place. restoring kept (Ok tt) (slice_get (names xs) place)) xs ys h

-- ---- what was told

-- no state was opened, and none was called
pub taken_none : (kept : Option Durable) (opened : Moment) (n : ℕ) (h : List Entry) (old new : List Told) → kept ≡ None → new ≡ old → HaveTakenPart kept opened n h old new
taken_none kept opened n h old new none same = subst (λ k. HaveTakenPart k opened n h old new) (sym none) (inl same)

-- memory wanted while they got back what they kept
pub taken_stopped : (kept : Option Durable) (opened : Moment) (n : ℕ) (h : List Entry) (states : List KeptState) (old new : List Told) → kept ≡ None → n ≡ 8 → HasStoppedRestoring states old new
    → HaveTakenPart kept opened n h old new
taken_stopped kept opened n h states old new none eight stopped = subst (λ k. HaveTakenPart k opened n h old new) (sym none) (inr (eight, (states, stopped)))

-- they got back what they kept, and then had the calls of the saves
pub taken_all : (kept : Option Durable) (opened : Moment) (n : ℕ) (h : List Entry) (states : List KeptState) (old then new : List Told) → IsSome kept → states ≡ kept_since opened
    → WereRestored states old then → HadSaves (rounds_of h).ended then new → HaveTakenPart kept opened n h old new
taken_all None opened n h states old then new some are restored had = let no : false ≡ true = some in cc
taken_all (Some d) opened n h states old then new some are restored had = (then, subst (λ ks. WereRestored ks old then) are restored, had)
