-- What participants are called for over a save.
use Rattle.std.proofs.Common.{◌≡◌, inl, inr, ℕ, zero, suc, Bool, if◌then◌else◌, List, [], ◌∷◌, ◌++◌, slice_get, Option, None, Ok, Err, refl, sym, ap, ap₂, ◌∙◌}
use Rattle.save_kind.specs.declared.kind.SaveKind.{SaveKind}
use Rattle.save_kind.specs.declared.state.PartState.{PartState}
use Rattle.save_round.specs.declared.participant.PartFault.TheVariants as answer
use Rattle.save_round.specs.declared.round.RoundFault.{RoundFault}
use Rattle.save_round.specs.declared.round.RoundFault.TheVariants.{Memory}
use Rattle.save_round.specs.Told.{Call, Told, Prepared, Saving, RolledBack, HasRisenAt}
use Rattle.save_round.specs.Firsts.{FirstsHad, HadWhere, by_place, firsts}
use Rattle.save_round.specs.Rounds.{HasStoppedSaving, HaveAnswered, IsNamedAt, named_state, states_where}
use Rattle.save_round.proofs.Called.{and_then, as_well, named_before, named_kept, none_had, rose_between, same_firsts}
use Rattle.save_round.proofs.Stops.{if_failed}
use Rattle.save_run.specs.Saves.{HadRound, HasStopped, HasStoppedAsking}
use Rattle.save_run.specs.Inside.Courses.{Gathered}

states_kept : (cs : List Bool) (answers : ℕ → Option PartState) (bs : List Bool) (f : ℕ → List Call) (xs ys : List Told) → HadWhere bs f xs ys → states_where cs answers ys ≡ states_where cs answers xs
states_kept [] answers bs f xs ys h = refl
states_kept (c ∷ cs) answers [] f [] [] h = refl
states_kept (c ∷ cs) answers [] f [] (y ∷ ys) h = absurd h
states_kept (c ∷ cs) answers [] f (x ∷ xs) ys h = absurd h
states_kept (c ∷ cs) answers (b ∷ bs) f [] ys h = absurd h
states_kept (c ∷ cs) answers (b ∷ bs) f (x ∷ xs) [] h = absurd h
states_kept (c ∷ cs) answers (b ∷ bs) f (x ∷ xs) (y ∷ ys) h =
    ap₂ (λ name rest. named_state name (if c then answers 0 else None) ++ rest) (named_kept (if b then f 0 else []) x y h.0)
    (states_kept cs (λ k. answers (suc k)) bs (λ k. f (suc k)) xs ys h.1)

-- the states have the same names before and after calls
same_states : (f : ℕ → List Call) (answers : ℕ → Option PartState) (xs ys : List Told) → FirstsHad f xs ys → states_where (firsts ys) answers ys ≡ states_where (firsts xs) answers xs
same_states f answers xs ys h = ap (λ bs. states_where bs answers ys) (same_firsts f xs ys h) ∙ states_kept (firsts xs) answers (firsts xs) f xs ys h

-- each was prepared and then asked
pub gather : (kind : SaveKind) (states : List (List ℕ × PartState)) (xs ys zs : List Told) → FirstsHad (λ k. Prepared kind (Ok tt) ∷ []) xs ys → HaveAnswered kind states ys zs → Gathered kind states xs zs
gather kind states xs ys zs h asked = record {
  answers = asked.answers;
  calls = and_then (λ k. Prepared kind (Ok tt) ∷ []) (λ k. Saving kind (Ok (asked.answers k)) ∷ []) xs ys zs h asked.calls;
  answered = asked.states ∙ same_states (λ k. Prepared kind (Ok tt) ∷ []) asked.answers xs ys h;
}

-- and then told the end
pub round : (kind : SaveKind) (end : Call) (states : List (List ℕ × PartState)) (xs ys zs : List Told) → Gathered kind states xs ys → FirstsHad (λ k. end ∷ []) ys zs → HadRound kind end states xs zs
round kind end states xs ys zs gathered h = record {
  answers = gathered.answers;
  calls = and_then (λ k. Prepared kind (Ok tt) ∷ Saving kind (Ok (gathered.answers k)) ∷ []) (λ k. end ∷ []) xs ys zs gathered.calls h;
  answered = gathered.answered;
}

each_first : (n : ℕ) (call : Call) (a b c : List Call) (k : ℕ) → call ∷ by_place n a b c k ≡ by_place n (call ∷ a) (call ∷ b) (call ∷ c) k
each_first zero call a b c zero = refl
each_first zero call a b c (suc k) = refl
each_first (suc n) call a b c zero = refl
each_first (suc n) call a b c (suc k) = each_first n call a b c k

-- each was prepared, and then asking stopped
pub asking_stopped : (kind : SaveKind) (fault : RoundFault) (xs ys zs : List Told) → FirstsHad (λ k. Prepared kind (Ok tt) ∷ []) xs ys → HasStoppedSaving kind fault ys zs → HasStoppedAsking kind fault xs zs
asking_stopped kind fault xs ys zs h stop = record {
  at = stop.at;
  answers = stop.answers;
  last = stop.last;
  first = ap (λ bs. slice_get bs stop.at) (sym (same_firsts prepared xs ys h)) ∙ stop.first;
  calls = as_well (λ k. Prepared kind (Ok tt) ∷ by_place stop.at (Saving kind (Ok (stop.answers k)) ∷ RolledBack ∷ []) (Saving kind stop.last ∷ RolledBack ∷ []) (RolledBack ∷ []) k)
      (λ k. by_place stop.at (Prepared kind (Ok tt) ∷ Saving kind (Ok (stop.answers k)) ∷ RolledBack ∷ []) (Prepared kind (Ok tt) ∷ Saving kind stop.last ∷ RolledBack ∷ []) (Prepared kind (Ok tt) ∷ RolledBack ∷ []) k) xs zs
      (λ k lt. each_first stop.at (Prepared kind (Ok tt)) (Saving kind (Ok (stop.answers k)) ∷ RolledBack ∷ []) (Saving kind stop.last ∷ RolledBack ∷ []) (RolledBack ∷ []) k)
      (and_then prepared (λ k. by_place stop.at (Saving kind (Ok (stop.answers k)) ∷ RolledBack ∷ []) (Saving kind stop.last ∷ RolledBack ∷ []) (RolledBack ∷ []) k) xs ys zs h stop.calls);
  cause = if_failed fault (λ name. (stop.last ≡ Err answer.Failed) × IsNamedAt stop.at name ys × HasRisenAt stop.at ys zs)
      (λ name. (stop.last ≡ Err answer.Failed) × IsNamedAt stop.at name xs × HasRisenAt stop.at xs zs)
      (λ name p. (p.0, named_before stop.at name prepared xs ys h p.1, rose_between stop.at prepared (λ k. []) xs ys zs zs h p.2 (none_had zs))) stop.cause;
}
  where
    prepared : ℕ → List Call
    prepared k = Prepared kind (Ok tt) ∷ []

-- a stop whose name couldn't be told
pub nameless : (kind : SaveKind) (fault : RoundFault) (xs ys : List Told) → HasStopped kind fault xs ys → HasStopped kind Memory xs ys
nameless kind fault xs ys (inl stop) = inl (record { at = stop.at; answer = stop.answer; first = stop.first; calls = stop.calls; cause = tt })
nameless kind fault xs ys (inr stop) = inr (record { at = stop.at; answers = stop.answers; last = stop.last; first = stop.first; calls = stop.calls; cause = tt })
