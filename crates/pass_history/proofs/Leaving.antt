-- What a pass that asks to leave is answered, and that one that is refused stays.
use Rattle.std.proofs.Common.{◌≡◌, ◌⊎◌, inl, inr, ℕ, Bool, true, false, [], refl, sym, ap, ◌∙◌, cond}
use Rattle.std.specs.Prelude.{Some, None, is_some}
use Rattle.proj_desc.specs.FirstCause.{when}
use Rattle.core_event.specs.declared.event.Event.TheVariants.{Enter, Leave}
use Rattle.core_event.specs.declared.reply.Answer.TheVariants.{Done, Refused}
use Rattle.core_event.specs.declared.reply.Refusal.TheVariants.{PassBusy}
use Rattle.job_manager.specs.declared.manager.JobManager.{JobManager}
use Rattle.job_manager.specs.Managers.{first_manager}
use Rattle.job_manager.specs.Effects.{decided, outcome}
use Rattle.std.specs.FinMap.{FinMap, empty, get, get-insert}
use Rattle.std.specs.Ordering.{nat_cmp}
use Rattle.std.proofs.lemmas.Cmp.{nat_cmp_total}
use Rattle.job_queue.proofs.Found.{itself}
use Rattle.pass_table.specs.declared.pass.Pass.{Pass}
use Rattle.pass_table.specs.Passes.{has_pass, idle, is_busy}
use Rattle.ws_core.specs.States.{Moment}
use Rattle.ws_core.specs.Steps.{step}
use Rattle.ws_core.specs.Histories.{entry_of, has_entered, only_tried}
use Rattle.ws_core.proofs.Roomy.{step_manager}
use Rattle.run_order.proofs.Managed.{step_answer}
use Rattle.pass_history.specs.There.{is_there}
use Rattle.pass_history.proofs.Given.{enter_answer}

-- a pass that is busy is refused, and any other leaves
pub leave_answer : (s : Moment) (k : ℕ) → ((step s k Leave).1.answer ≡ Done) ⊎ ((step s k Leave).1.answer ≡ Refused PassBusy)
leave_answer s k = by (is_busy s.manager.passes k) refl
  where
    by : (b : Bool) → is_busy s.manager.passes k ≡ b → ((step s k Leave).1.answer ≡ Done) ⊎ ((step s k Leave).1.answer ≡ Refused PassBusy)
    by true is = inr (step_answer s k Leave refl refl ∙ ap (λ c. (decided (when c PassBusy) s.manager k Leave).1) is)
    by false is = inl (step_answer s k Leave refl refl ∙ ap (λ c. (decided (when c PassBusy) s.manager k Leave).1) is)

-- one that is refused stays
pub busy_stays : (s : Moment) (k j : ℕ) → (step s k Leave).1.answer ≡ Refused PassBusy → has_entered j s ≡ true → has_entered j (step s k Leave).0 ≡ true
busy_stays s k j refused there = by (is_busy s.manager.passes k) refl
  where
    manager : (step s k Leave).0.manager ≡ (outcome s.manager k Leave).0
    manager = step_manager s k Leave refl

    by : (b : Bool) → is_busy s.manager.passes k ≡ b → has_entered j (step s k Leave).0 ≡ true
    by true is = ap (λ (m : JobManager). has_pass m.passes j) (manager ∙ ap (λ c. (decided (when c PassBusy) s.manager k Leave).0) is) ∙ there
    by false is = let done : Done ≡ Refused PassBusy = sym (step_answer s k Leave refl refl ∙ ap (λ c. (decided (when c PassBusy) s.manager k Leave).1) is) ∙ refused in absurd (let done : Done ≡ Refused PassBusy = done in cc)

-- neither entering nor leaving is an attempt
pub enter_stands : (s : Moment) (k : ℕ) → only_tried (entry_of s k Enter) ≡ false
enter_stands s k = ap (λ a. only_tried (record { pass = k; event = Enter; reply = record { answer = a; notice = None } })) (enter_answer s k)

pub leave_stands : (s : Moment) (k : ℕ) → only_tried (entry_of s k Leave) ≡ false
leave_stands s k = elim (leave_answer s k) [
  | inl is ↦ ap (λ a. only_tried (record { pass = k; event = Leave; reply = record { answer = a; notice = None } })) is
  | inr is ↦ ap (λ a. only_tried (record { pass = k; event = Leave; reply = record { answer = a; notice = None } })) is
]

-- pass 0 is there where a workspace was opened
pub first_there : (s : Moment) → s.manager ≡ first_manager → is_there s [] 0 ≡ true
first_there s is = ap (λ (m : JobManager). has_pass m.passes 0) is ∙ ap is_some (get-insert nat_cmp_total none 0 idle 0 ∙ ap (λ b. cond b (Some idle) (get none 0)) (itself nat_cmp_total 0))
  where
    none : FinMap nat_cmp Pass
    none = empty

-- the pass that was let in is there
pub enter_there : (s : Moment) (k : ℕ) → has_entered s.manager.passes.next (step s k Enter).0 ≡ true
enter_there s k = ap (λ (m : JobManager). has_pass m.passes s.manager.passes.next) (step_manager s k Enter refl)
    ∙ ap is_some (get-insert nat_cmp_total t n idle n ∙ ap (λ b. cond b (Some idle) (get t n)) (itself nat_cmp_total n))
  where
    t : FinMap nat_cmp Pass
    t = s.manager.passes.there

    n : ℕ
    n = s.manager.passes.next
