-- One worker: what pass 0 and pass 1 made, one after another.
use Rattle.std.proofs.Common.{◌≡◌, ◌≢◌, ◌<◌, ◌⊎◌, inl, inr, ℕ, List, [], ◌∷◌, ◌++◌, map, refl, ap, sym, ◌∙◌, subst, arith}
use Rattle.job_queue.specs.Queues.{live}
use Rattle.core_event.specs.declared.entry.Entry.{Entry}
use Rattle.core_event.specs.declared.event.Event.{Event}
use Rattle.core_event.specs.declared.event.Event.TheVariants.{Finish}
use Rattle.ws_core.specs.States.{Moment}
use Rattle.ws_core.specs.Histories.{replay}
use Rattle.run_order.specs.Lists.{entry, own, acts, Cut, InTurn}
use Rattle.run_order.specs.Plans.{Phase, commands_of}
use Rattle.run_order.specs.Parts.{Making, IsPart, Parts, Middle, OneEvent}
use Rattle.run_order.specs.Orders.{scheduled, cancelled, sleepers, IsPhase, IsCutPhase}
use Rattle.run_order.proofs.Lists.{own_yes, own_no}

-- ---- entries of one pass alone

abbrev pub OnlyBy : ℕ → List Entry → Type 0
OnlyBy k [] = Unit {0}
OnlyBy k (x ∷ h) = (x.pass ≡ k) × OnlyBy k h

pub only_append : (k : ℕ) (a b : List Entry) → OnlyBy k a → OnlyBy k b → OnlyBy k (a ++ b)
only_append k [] b p q = q
only_append k (x ∷ a) b p q = (p.0, only_append k a b p.1 q)

pub only_front : (k : ℕ) (a b : List Entry) → OnlyBy k (a ++ b) → OnlyBy k a
only_front k [] b p = tt
only_front k (x ∷ a) b p = (p.0, only_front k a b p.1)

pub all_own : (k : ℕ) (h : List Entry) → OnlyBy k h → own k h ≡ h
all_own k [] p = refl
all_own k (x ∷ h) p = own_yes k x h p.0 ∙ ap (λ l. x ∷ l) (all_own k h p.1)

pub none_own : (k j : ℕ) (h : List Entry) → k ≢ j → OnlyBy k h → own j h ≡ []
none_own k j [] ne p = refl
none_own k j (x ∷ h) ne p = own_no j x h (λ e. ne (sym p.0 ∙ e)) ∙ none_own k j h ne p.1

pub only_turn : {A : Type 0} (P : A → List Entry → Type 0) (k : ℕ) → ((x : A) (a : List Entry) → P x a → OnlyBy k a) → (xs : List A) (h : List Entry) → InTurn P xs h → OnlyBy k h
only_turn P k f [] h p = subst (OnlyBy k) (sym p) tt
only_turn P k f (x ∷ xs) h p = subst (OnlyBy k) (sym p.2) (only_append k p.0 p.1 (f x p.0 p.3) (only_turn P k f xs p.1 p.4))

-- one pass makes all entries of each command
abbrev pub MadeByOne : {C : Type 0} → Making C → Type 0
MadeByOne Made = (k : ℕ) (c : _) (h : List Entry) → Made k c h → OnlyBy k h

pub event_by_one : {C : Type 0} (event : C → Event) → MadeByOne (OneEvent event)
event_by_one event k c h p = subst (OnlyBy k) (sym p.1) (refl, tt)

-- ---- a phase of one worker

-- where pass 1 alone made these entries
pub middle_alone : (Its : ℕ → List Entry → Type 0) (m : List Entry) → Its 1 m → OnlyBy 1 m → Middle 1 Its m
middle_alone Its m p only = record {
  workers = λ k a b. let e : 1 ≡ k = omega (arith, a, b) in subst (λ j. Its j (own j m)) e (subst (Its 1) (sym (all_own 1 m only)) p);
  others = λ k w. none_own 1 k m (other k w) only;
}
  where
    other : (k : ℕ) → (k ≡ 0) ⊎ (1 < k) → 1 ≢ k
    other k w = elim w [ inl z ↦ (λ e. absurd (omega (arith, z, e))) | inr lt ↦ (λ e. absurd (omega (arith, lt, e))) ]

module _ {C : Type 0} (Made : Making C) (one : MadeByOne Made) where
  part_only : (k : ℕ) (commands : List C) (name : List ℕ) (h : List Entry) → IsPart Made k commands name h → OnlyBy k h
  part_only k commands name h p = subst (OnlyBy k) (sym p.are)
      (refl, only_append k p.body (entry k Finish p.finished ∷ []) (only_turn (Made k) k (one k) commands p.body p.made) (refl, tt))

  pub parts_only : (jobs : Phase C) (k : ℕ) (h : List Entry) → Parts Made jobs k h → OnlyBy k h
  parts_only jobs k h p = only_turn (λ name. IsPart Made k (commands_of jobs name) name) k (λ name. part_only k (commands_of jobs name) name) p.0 h p.1

  pub phase_alone : (jobs : Phase C) (s : Moment) (schedules middle cancels : List Entry) → acts schedules ≡ map scheduled jobs → Parts Made jobs 1 middle
      → live (replay s (schedules ++ middle)).manager.jobs ≡ 0 → acts cancels ≡ map cancelled (sleepers (replay s (schedules ++ middle)) jobs)
      → IsPhase Made 1 jobs s ((schedules ++ middle) ++ cancels)
  phase_alone jobs s schedules middle cancels schedule run over cancel = record {
    schedules = schedules;
    middle = middle;
    cancels = cancels;
    are = refl;
    schedule = schedule;
    over = over;
    cancel = cancel;
    run = middle_alone (Parts Made jobs) middle run (parts_only jobs 1 middle run);
  }

  pub cut_phase_alone : (jobs : Phase C) (s : Moment) (schedules middle cancels : List Entry) → Cut (λ l. acts l ≡ map scheduled jobs) schedules → Cut (Parts Made jobs 1) middle
      → Cut (λ l. acts l ≡ map cancelled (sleepers (replay s (schedules ++ middle)) jobs)) cancels
      → IsCutPhase Made 1 jobs s ((schedules ++ middle) ++ cancels)
  cut_phase_alone jobs s schedules middle cancels schedule run cancel = record {
    schedules = schedules;
    middle = middle;
    cancels = cancels;
    are = refl;
    schedule = schedule;
    cancel = cancel;
    run = middle_alone (λ k. Cut (Parts Made jobs k)) middle run (only_front 1 middle run.0 (parts_only jobs 1 (middle ++ run.0) run.1));
  }
