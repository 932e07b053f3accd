-- How a save goes.
use Rattle.std.proofs.Common.{◌≡◌, inl, inr, ℕ, List, [], ◌∷◌, ◌++◌, None, Result, Ok, Err, IfOk, IfErr, refl, sym, ap, ◌∙◌, subst}
use Rattle.save_kind.specs.declared.answer.SaveAnswer.{SaveAnswer}
use Rattle.save_kind.specs.declared.answer.SaveAnswer.TheVariants as answer
use Rattle.save_kind.specs.declared.kind.SaveKind.{SaveKind}
use Rattle.save_kind.specs.declared.state.PartState.{PartState}
use Rattle.save_round.specs.declared.round.RoundFault.{RoundFault}
use Rattle.save_round.specs.declared.round.RoundFault.TheVariants.{Failed, Memory}
use Rattle.save_round.specs.Told.{Told, Prepared, Done, RolledBack}
use Rattle.save_round.specs.Firsts.{FirstsHad}
use Rattle.save_round.specs.Rounds.{HasStoppedSaving, HaveAnswered}
use Rattle.save_run.specs.declared.host.WriteFault.{WriteFault}
use Rattle.save_run.specs.declared.host.WriteFault.TheVariants as write
use Rattle.save_run.specs.Books.{Deed, Start, Keep, Write, Finish, EndsUnkept, HasBegun, noted, outcome_of}
use Rattle.save_run.specs.Saves.{CameTo, HasEnded, HasStopped}
use Rattle.save_run.specs.Inside.Courses.{Gathered, HasStored, IsKeptOr, IsStored, Went, end_of, stop_of}
use Rattle.save_run.proofs.Rounds.{asking_stopped, gather, nameless, round}

unkept : (kind : SaveKind) (o : SaveAnswer) (b : List Deed) (xs ys : List Told) → HasBegun b kind → EndsUnkept o → CameTo kind o [] xs ys → Went kind o b xs ys
unkept kind o b xs ys begun other came = record { deeds = []; came = came; book = begun; may = (kind, inl (begun, other)) }

wrote : (kind : SaveKind) (states : List (List ℕ × PartState)) (result : Result (Unit {0}) WriteFault) (b : List Deed) (xs ys : List Told) → b ≡ Start kind None ∷ Keep states ∷ Write kind result ∷ []
    → CameTo kind (outcome_of result) (Keep states ∷ Write kind result ∷ []) xs ys → Went kind (outcome_of result) b xs ys
wrote kind states result b xs ys is came = record { deeds = Keep states ∷ Write kind result ∷ []; came = came; book = is; may = (kind, inr (result, (states, is), refl)) }

stored_as : (kind : SaveKind) (states : List (List ℕ × PartState)) (result : Result (Unit {0}) WriteFault) (b : List Deed) (xs ys zs : List Told) → Gathered kind states xs ys
    → IsStored kind states result b → FirstsHad (λ k. end_of result ∷ []) ys zs → Went kind (outcome_of result) b xs zs
stored_as kind states (Ok tt) b xs ys zs g (inl is) t = wrote kind states (Ok tt) b xs zs is (states, refl, round kind Done states xs ys zs g t)
stored_as kind states (Ok tt) b xs ys zs g (inr h) t = cc
stored_as kind states (Err write.Disk) b xs ys zs g (inl is) t = wrote kind states (Err write.Disk) b xs zs is (states, refl, round kind RolledBack states xs ys zs g t)
stored_as kind states (Err write.Disk) b xs ys zs g (inr h) t = cc
stored_as kind states (Err write.TooLarge) b xs ys zs g (inl is) t = wrote kind states (Err write.TooLarge) b xs zs is (states, refl, round kind RolledBack states xs ys zs g t)
stored_as kind states (Err write.TooLarge) b xs ys zs g (inr h) t = cc
stored_as kind states (Err write.NumbersUsed) b xs ys zs g (inl is) t = wrote kind states (Err write.NumbersUsed) b xs zs is (states, refl, round kind RolledBack states xs ys zs g t)
stored_as kind states (Err write.NumbersUsed) b xs ys zs g (inr h) t = cc
stored_as kind states (Err write.Memory) b xs ys zs g (inl is) t = wrote kind states (Err write.Memory) b xs zs is (inr (inr (states, refl, round kind RolledBack states xs ys zs g t)))
stored_as kind states (Err write.Memory) b xs ys zs g (inr h) t = unkept kind answer.NoMemory b xs zs h.1 tt (inr (inl (refl, (states, round kind RolledBack states xs ys zs g t))))

-- a save in which all answered
pub went_stored : (kind : SaveKind) (states : List (List ℕ × PartState)) (o : SaveAnswer) (b : List Deed) (xs ys zs : List Told) → Gathered kind states xs ys → HasStored kind states o b ys zs → Went kind o b xs zs
went_stored kind states o b xs ys zs g h = subst (λ a. Went kind a b xs zs) (sym h.1) (stored_as kind states h.0 b xs ys zs g h.2 h.3)

-- a save that a participant stopped
pub went_stopped : (kind : SaveKind) (fault : RoundFault) (o : SaveAnswer) (b : List Deed) (xs ys : List Told) → HasBegun b kind → o ≡ stop_of fault → HasStopped kind fault xs ys → Went kind o b xs ys
went_stopped kind (Failed name) o b xs ys begun is stop = subst (λ a. Went kind a b xs ys) (sym is) (unkept kind (answer.ParticipantFailed name) b xs ys begun tt (refl, stop))
went_stopped kind Memory o b xs ys begun is stop = subst (λ a. Went kind a b xs ys) (sym is) (unkept kind answer.NoMemory b xs ys begun tt (inl (refl, stop)))

unnamed : (kind : SaveKind) (name : List ℕ) (b : List Deed) (xs ys : List Told) → Went kind (answer.ParticipantFailed name) b xs ys → Went kind answer.NoMemory b xs ys
unnamed kind name b xs ys w = unkept kind answer.NoMemory b xs ys (w.book ∙ ap (λ ds. Start kind None ∷ ds) w.came.0) tt (inl (refl, nameless kind (Failed name) xs ys w.came.1))

-- the same answer, or one whose name couldn't be copied
pub went_or : (kind : SaveKind) (o o' : SaveAnswer) (b : List Deed) (xs ys : List Told) → IsKeptOr o o' → Went kind o b xs ys → Went kind o' b xs ys
went_or kind o o' b xs ys (inl same) w = subst (λ a. Went kind a b xs ys) (sym same) w
went_or kind o o' b xs ys (inr k) w = subst (λ a. Went kind a b xs ys) (sym k.0) (unnamed kind k.1.0 b xs ys (subst (λ a. Went kind a b xs ys) k.1.1 w))

ends : (kind : SaveKind) (o : SaveAnswer) (b b' : List Deed) (xs ys : List Told) → Went kind o b xs ys → b' ≡ noted b (Finish o) → HasEnded kind o b' xs ys
ends kind o b b' xs ys w is = record { deeds = w.deeds; came = w.came; book = is ∙ ap (λ ds. ds ++ Finish o ∷ []) w.book }

-- a save that came to an answer and ended so
pub ended : (kind : SaveKind) (o o' : SaveAnswer) (b b' : List Deed) (xs ys : List Told) → o' ≡ o → Went kind o b xs ys → b' ≡ noted b (Finish o) → HasEnded kind o' b' xs ys
ended kind o o' b b' xs ys same w is = subst (λ a. HasEnded kind a b' xs ys) (sym same) (ends kind o b b' xs ys w is)

-- the states that all answered
pub all_gathered : {V : Type 0} (kind : SaveKind) (r : Result V RoundFault) (states : V → List (List ℕ × PartState)) (xs ys zs : List Told) → FirstsHad (λ k. Prepared kind (Ok tt) ∷ []) xs ys
    → IfOk r (λ v. HaveAnswered kind (states v) ys zs) → IfOk r (λ v. Gathered kind (states v) xs zs)
all_gathered kind (Ok v) states xs ys zs h asked = gather kind (states v) xs ys zs h asked
all_gathered kind (Err e) states xs ys zs h asked = tt

-- or where they stopped
pub all_stopped : {V : Type 0} (kind : SaveKind) (r : Result V RoundFault) (xs ys zs : List Told) → FirstsHad (λ k. Prepared kind (Ok tt) ∷ []) xs ys
    → IfErr r (λ fault. HasStoppedSaving kind fault ys zs) → IfErr r (λ fault. HasStopped kind fault xs zs)
all_stopped kind (Ok v) xs ys zs h stop = tt
all_stopped kind (Err fault) xs ys zs h stop = inr (asking_stopped kind fault xs ys zs h stop)
