-- A pass does the commands of a job, and finishes it.
use Rattle.std.proofs.Common.{◌≡◌, ◌∙◌, ℕ, List, [], ◌∷◌, ◌++◌, refl, sym, ap, subst, append_assoc}
use Rattle.std.specs.Prelude.{Option, Some, None, Result, Ok, Err, IfOk, OnErr, OnOk}
use Rattle.std.specs.declared.alloc.AllocError.{AllocError}
use Rattle.core_event.specs.declared.entry.Entry.{Entry}
use Rattle.core_event.specs.declared.event.Event.TheVariants.{Finish}
use Rattle.run_order.specs.Lists.{entry, Cut, InTurn}
use Rattle.run_order.specs.Parts.{CommandEntries, Making}
use Rattle.run_order.proofs.Lists.{some_reply}
use Rattle.phase_pool.specs.Passes.{Known, LooksOn, Makes}
use Rattle.phase_pool.specs.Parts.{HasTaken, IsRest, IsTake}
use Rattle.phase_pool.proofs.Passes.{makes_wider}
use Rattle.pass_jobs.specs.Calls.{TookOne}
use Rattle.pass_jobs.specs.Inside.Floors.{Does}
use Rattle.pass_jobs.proofs.Turns.{does_on}

module _ {C : Type 0} (Made : Making C) (commands : List C) where
  rest_of : (n : ℕ) (a b : List Entry) → InTurn (Made n) commands a → CommandEntries n Finish b → IsRest Made n commands (a ++ b)
  rest_of n a b p q = record { body = a; finished = q.0; are = ap (λ z. a ++ z) q.1; made = p }

  rest_cut : (n : ℕ) (h : List Entry) → Cut (InTurn (Made n) commands) h → Cut (IsRest Made n commands) h
  rest_cut n h c = (
    c.0 ++ entry n Finish some_reply ∷ [],
    record { body = h ++ c.0; finished = some_reply; are = sym (append_assoc h c.0 (entry n Finish some_reply ∷ [])); made = c.1 },
  )

  module _ {A : Type 0} (r : Result A AllocError) (k j h : Known) where
    -- the commands are done, and then Finish
    pub job_done : Makes (InTurn (Made k.number) commands) k j → Does r (CommandEntries j.number Finish) j h → Does r (IsRest Made k.number commands) k h
    job_done before m = does_on (InTurn (Made k.number) commands) (CommandEntries k.number Finish) (IsRest Made k.number commands) (rest_of k.number) k j h before r
        (subst (λ n. Does r (CommandEntries n Finish) j h) before.number m)

  -- the commands are cut
  pub job_cut : (k j : Known) → Makes (Cut (InTurn (Made k.number) commands)) k j → Makes (Cut (IsRest Made k.number commands)) k j
  job_cut k j m = makes_wider (Cut (InTurn (Made k.number) commands)) (Cut (IsRest Made k.number commands)) k j (rest_cut k.number) m

-- ---- as phases know it

-- it took a job, or there was none to take
pub took : (n : ℕ) (k j : Known) → k.number ≡ n → (r : Result (Option (List ℕ)) AllocError) → Makes (TookOne n r) k j → IfOk r (λ o. HasTaken (λ (n : List ℕ). n) o k j)
took n k j is (Ok None) m = m
took n k j is (Ok (Some name)) m = subst (λ z. Makes (IsTake z name) k j) (sym is) m
took n k j is (Err e) m = tt

pub took_none : (n : ℕ) (k j : Known) (r : Result (Option (List ℕ)) AllocError) → Makes (TookOne n r) k j → OnErr r (LooksOn k j)
took_none n k j (Ok o) m = tt
took_none n k j (Err e) m = m

module _ {A : Type 0} (P : List Entry → Type 0) (k j : Known) where
  pub where_ok : (r : Result A AllocError) → Does r P k j → OnOk r (Makes P k j)
  where_ok (Ok x) m = m
  where_ok (Err e) m = tt

  pub where_err : (r : Result A AllocError) → Does r P k j → OnErr r (Makes (Cut P) k j)
  where_err (Ok x) m = tt
  where_err (Err e) m = m
