-- Rounds that stop.
use Rattle.std.proofs.Common.{◌≡◌, ℕ, true, List, [], ◌∷◌, map, Option, Some, Result, Ok, Err, slice_get, ap, ◌∙◌, subst, sym}
use Rattle.save_kind.specs.declared.kind.SaveKind.{SaveKind}
use Rattle.save_kind.specs.declared.state.PartState.{PartState}
use Rattle.save_round.specs.declared.participant.PartFault.{PartFault}
use Rattle.save_round.specs.declared.participant.PartFault.TheVariants as answer
use Rattle.save_round.specs.declared.pass.Stop.{Stop}
use Rattle.save_round.specs.declared.round.RoundFault.{RoundFault}
use Rattle.save_round.specs.declared.round.RoundFault.TheVariants.{Failed, Memory}
use Rattle.save_round.specs.Told.{Told, Prepared, Saving, RolledBack, HasRisenAt}
use Rattle.save_round.specs.Firsts.{FirstsHad, firsts, by_place}
use Rattle.save_round.specs.Rounds.{IfFailed, IsNamedAt, HasStoppedPreparing, HasStoppedSaving}
use Rattle.save_round.specs.Passes.{WerePrepared, WereAsked}
use Rattle.save_round.proofs.Called.{none_had, rose_between, named_before, same_firsts}
use Rattle.save_round.proofs.Places.{up_to, rolled, all_rolled, own_up_to}
use Rattle.save_round.proofs.Asked.{AskedSoFar}

-- more holds of the name
pub if_failed : (fault : RoundFault) (P Q : List ℕ → Type 0) → ((name : List ℕ) → P name → Q name) → IfFailed fault P → IfFailed fault Q
if_failed (Failed name) P Q more p = more name p
if_failed Memory P Q more p = tt

-- one answered a fault when it was to be prepared
pub stopped_at : (kind : SaveKind) (stop : Stop) (xs ys zs : List Told) → FirstsHad (by_place stop.place (Prepared kind (Ok tt) ∷ []) [] []) xs ys
    → FirstsHad (by_place stop.place [] (Prepared kind (Err stop.fault) ∷ []) []) ys zs → slice_get (firsts ys) stop.place ≡ Some true
    → (stop.fault ≡ answer.Failed → HasRisenAt stop.place ys zs) → WerePrepared kind stop xs zs
stopped_at kind stop xs ys zs h k first failed = record {
  first = ap (λ bs. slice_get bs stop.place) (sym (same_firsts (by_place stop.place (Prepared kind (Ok tt) ∷ []) [] []) xs ys h)) ∙ first;
  calls = up_to stop.place (Prepared kind (Ok tt)) (Prepared kind (Err stop.fault)) xs ys zs h k;
  failed = λ is. rose_between stop.place (by_place stop.place (Prepared kind (Ok tt) ∷ []) [] []) (λ n. []) xs ys zs zs h (failed is) (none_had zs);
}

-- those that were prepared were rolled back
pub preparing_stopped : (kind : SaveKind) (stop : Stop) (fault : RoundFault) (xs ys zs : List Told) → WerePrepared kind stop xs ys
    → FirstsHad (by_place stop.place (RolledBack ∷ []) [] []) ys zs → IfFailed fault (λ name. (stop.fault ≡ answer.Failed) × IsNamedAt stop.place name zs)
    → HasStoppedPreparing kind fault xs zs
preparing_stopped kind stop fault xs ys zs were h named = record {
  at = stop.place;
  answer = stop.fault;
  first = were.first;
  calls = calls;
  cause = if_failed fault (λ name. (stop.fault ≡ answer.Failed) × IsNamedAt stop.place name zs)
      (λ name. (Err stop.fault ≡ Err answer.Failed) × IsNamedAt stop.place name xs × HasRisenAt stop.place xs zs)
      (λ name p. (
        ap Err p.0,
        named_before stop.place name (by_place stop.place (Prepared kind (Ok tt) ∷ RolledBack ∷ []) (Prepared kind (Err stop.fault) ∷ []) []) xs zs calls p.1,
        rose_between stop.place (λ n. []) (by_place stop.place (RolledBack ∷ []) [] []) xs xs ys zs (none_had xs) (were.failed p.0) h,
      )) named;
}
  where
    calls : FirstsHad (by_place stop.place (Prepared kind (Ok tt) ∷ RolledBack ∷ []) (Prepared kind (Err stop.fault) ∷ []) []) xs zs
    calls = rolled stop.place (Prepared kind (Ok tt)) (Prepared kind (Err stop.fault)) RolledBack xs ys zs were.calls h

-- one answered a fault when it was asked, or its state couldn't be kept
pub asking_stopped_at : (kind : SaveKind) (stop : Stop) (kept : List (List ℕ × PartState)) (last : Result (Option PartState) PartFault) (xs ys zs : List Told) → AskedSoFar kind stop.place kept xs ys
    → FirstsHad (by_place stop.place [] (Saving kind last ∷ []) []) ys zs → slice_get (firsts ys) stop.place ≡ Some true
    → (stop.fault ≡ answer.Failed → (last ≡ Err answer.Failed) × HasRisenAt stop.place ys zs) → WereAsked kind stop xs zs
asking_stopped_at kind stop kept last xs ys zs so_far k first failed = record {
  answers = so_far.answers;
  last = last;
  first = ap (λ bs. slice_get bs stop.place) (sym (same_firsts (λ n. by_place stop.place (Saving kind (Ok (so_far.answers n)) ∷ []) [] [] n) xs ys so_far.calls)) ∙ first;
  calls = own_up_to stop.place (λ n. Saving kind (Ok (so_far.answers n))) (Saving kind last) xs ys zs so_far.calls k;
  failed = λ is. ((failed is).0, rose_between stop.place (λ n. by_place stop.place (Saving kind (Ok (so_far.answers n)) ∷ []) [] [] n) (λ n. []) xs ys zs zs so_far.calls (failed is).1 (none_had zs));
}

-- all were rolled back
pub saving_stopped : (kind : SaveKind) (stop : Stop) (fault : RoundFault) (xs ys zs : List Told) → WereAsked kind stop xs ys
    → FirstsHad (λ place. RolledBack ∷ []) ys zs → IfFailed fault (λ name. (stop.fault ≡ answer.Failed) × IsNamedAt stop.place name zs) → HasStoppedSaving kind fault xs zs
saving_stopped kind stop fault xs ys zs were h named = record {
  at = stop.place;
  answers = were.answers;
  last = were.last;
  first = were.first;
  calls = calls;
  cause = if_failed fault (λ name. (stop.fault ≡ answer.Failed) × IsNamedAt stop.place name zs)
      (λ name. (were.last ≡ Err answer.Failed) × IsNamedAt stop.place name xs × HasRisenAt stop.place xs zs)
      (λ name p. (
        (were.failed p.0).0,
        named_before stop.place name (λ n. by_place stop.place (Saving kind (Ok (were.answers n)) ∷ RolledBack ∷ []) (Saving kind were.last ∷ RolledBack ∷ []) (RolledBack ∷ []) n) xs zs calls p.1,
        rose_between stop.place (λ n. []) (λ n. RolledBack ∷ []) xs xs ys zs (none_had xs) (were.failed p.0).1 h,
      )) named;
}
  where
    calls : FirstsHad (λ n. by_place stop.place (Saving kind (Ok (were.answers n)) ∷ RolledBack ∷ []) (Saving kind were.last ∷ RolledBack ∷ []) (RolledBack ∷ []) n) xs zs
    calls = all_rolled stop.place (λ n. Saving kind (Ok (were.answers n))) (Saving kind were.last) RolledBack xs ys zs were.calls h

-- the name that was found in a slice of the list is the list's
pub named_in : {A : Type 0} (tells : A → Told) (stop : Stop) (fault : RoundFault) (xs ys : List A) → ys ≡ xs
    → IfFailed fault (λ name. (stop.fault ≡ answer.Failed) × IsNamedAt stop.place name (map tells ys)) → IfFailed fault (λ name. (stop.fault ≡ answer.Failed) × IsNamedAt stop.place name (map tells xs))
named_in tells stop fault xs ys same h = subst (λ zs. IfFailed fault (λ name. (stop.fault ≡ answer.Failed) × IsNamedAt stop.place name (map tells zs))) same h
