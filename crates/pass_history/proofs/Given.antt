-- Each number that a history gave is below the one that is given next.
use Rattle.std.proofs.Common.{◌≡◌, ◌<◌, ◌≤◌, ◌+◌, ◌||◌, ℕ, true, false, List, [], ◌∷◌, map, eqb, refl, sym, ap, ◌∙◌, arith, true≢false}
use Rattle.std.specs.Prelude.{Option, Some, None}
use Rattle.core_event.specs.declared.entry.Entry.{Entry}
use Rattle.core_event.specs.declared.event.Event.{Event}
use Rattle.core_event.specs.declared.event.Event.TheVariants.{Enter, Leave, Schedule, Sleep, Wake, Cancel, Take, Finish, Begin, TryBegin, End, Transfer, Batch, EndBatch, Checkpoint, Operation, Service}
use Rattle.core_event.specs.declared.reply.Answer.TheVariants.{Id}
use Rattle.core_event.specs.declared.reply.Refusal.{Refusal}
use Rattle.core_event.specs.declared.reply.Reply.{Reply}
use Rattle.job_manager.specs.declared.manager.JobManager.{JobManager}
use Rattle.job_manager.specs.Effects.{effect, taken, next_job, decided}
use Rattle.job_manager.specs.Refusals.{refusal}
use Rattle.ws_core.specs.States.{Moment}
use Rattle.ws_core.specs.Steps.{step}
use Rattle.ws_core.specs.Histories.{after, replay, replies, Legal}
use Rattle.run_order.proofs.Managed.{step_serving, step_answer}
use Rattle.ws_core.proofs.Roomy.{step_manager}
use Rattle.ws_turn.specs.Lists.{given, has, numbers, put_before}
use Rattle.ws_turn.proofs.Lists.{by_bool, eqb_same}
use Rattle.pass_history.specs.There.{gives, given_by, number_in}

abbrev next_of : Moment → ℕ
next_of s = s.manager.passes.next

-- ---- the number that is given next never falls

effect_next : (m : JobManager) (k : ℕ) (e : Event) → m.passes.next ≤ (effect m k e).0.passes.next
effect_next m k Enter = omega arith
effect_next m k Leave = omega arith
effect_next m k (Schedule n p u a) = omega arith
effect_next m k (Sleep n) = omega arith
effect_next m k (Wake n) = omega arith
effect_next m k (Cancel n) = omega arith
effect_next m k Take = by (next_job m)
  where
    by : (o : Option (List ℕ)) → m.passes.next ≤ (taken m k o).0.passes.next
    by None = omega arith
    by (Some n) = omega arith
effect_next m k Finish = omega arith
effect_next m k (Begin u) = omega arith
effect_next m k (TryBegin u) = omega arith
effect_next m k (End u) = omega arith
effect_next m k (Transfer to) = omega arith
effect_next m k Batch = omega arith
effect_next m k EndBatch = omega arith
effect_next m k Checkpoint = omega arith
effect_next m k (Operation op) = omega arith
effect_next m k (Service x) = omega arith

decided_next : (m : JobManager) (k : ℕ) (e : Event) (r : Option Refusal) → m.passes.next ≤ (decided r m k e).0.passes.next
decided_next m k e None = effect_next m k e
decided_next m k e (Some r) = omega arith

step_next : (s : Moment) (k : ℕ) (e : Event) → next_of s ≤ next_of (step s k e).0
step_next s k e = let same = ap (λ (m : JobManager). m.passes.next) (step_serving s k e).1 in let one = decided_next s.manager k e (refusal s.manager k e) in omega (arith, same, one)

pub replay_next : (s : Moment) (h : List Entry) → next_of s ≤ next_of (replay s h)
replay_next s [] = omega arith
replay_next s (x ∷ h) = let a = step_next s x.pass x.event in let b = replay_next (after s x) h in omega (arith, a, b)

-- ---- who enters gets it

pub enter_answer : (s : Moment) (k : ℕ) → (step s k Enter).1.answer ≡ Id (next_of s)
enter_answer s k = step_answer s k Enter refl refl

enter_next : (s : Moment) (k : ℕ) → next_of (step s k Enter).0 ≡ next_of s + 1
enter_next s k = ap (λ (m : JobManager). m.passes.next) (step_manager s k Enter refl)

-- the number that an entry gives is the next one at its place, and then that is greater
given_here : (s : Moment) (x : Entry) (m : ℕ) → x.reply ≡ (step s x.pass x.event).1 → gives x ≡ Some m → (m ≡ next_of s) × (next_of (after s x) ≡ next_of s + 1)
given_here s x m told is = by x.event refl told is
  where
    none : (e : Event) → None ≡ Some m → (m ≡ next_of s) × (next_of (after s x) ≡ next_of s + 1)
    none e f = let f : None ≡ Some m = f in cc

    same : (a b : ℕ) → Some a ≡ Some b → a ≡ b
    same a b f = let f : Some a ≡ Some b = f in cc

    by : (e : Event) → x.event ≡ e → x.reply ≡ (step s x.pass x.event).1 → given_by e x.reply.answer ≡ Some m → (m ≡ next_of s) × (next_of (after s x) ≡ next_of s + 1)
    by Enter e t f =
        let a : x.reply.answer ≡ Id (next_of s) = ap (λ (r : Reply). r.answer) t ∙ (ap (λ (z : Event). (step s x.pass z).1.answer) e ∙ enter_answer s x.pass) in
        (same m (next_of s) (sym f ∙ ap number_in a), ap (λ (z : Event). next_of (step s x.pass z).0) e ∙ enter_next s x.pass)
    by Leave e t f = none Leave f
    by (Schedule n p u a) e t f = none Leave f
    by (Sleep n) e t f = none Leave f
    by (Wake n) e t f = none Leave f
    by (Cancel n) e t f = none Leave f
    by Take e t f = none Leave f
    by Finish e t f = none Leave f
    by (Begin u) e t f = none Leave f
    by (TryBegin u) e t f = none Leave f
    by (End u) e t f = none Leave f
    by (Transfer to) e t f = none Leave f
    by Batch e t f = none Leave f
    by EndBatch e t f = none Leave f
    by Checkpoint e t f = none Leave f
    by (Operation op) e t f = none Leave f
    by (Service v) e t f = none Leave f

-- ---- in a history

pub heads : (x y : Reply) (xs ys : List Reply) → x ∷ xs ≡ y ∷ ys → (x ≡ y) × (xs ≡ ys)
heads x y xs ys e = ((let e : x ∷ xs ≡ y ∷ ys = e in cc), (let e : x ∷ xs ≡ y ∷ ys = e in cc))

has_here : (o : Option ℕ) (m : ℕ) (ns : List ℕ) (P : Type 0) → has m (put_before o ns) ≡ true → (o ≡ Some m → P) → (has m ns ≡ true → P) → P
has_here None m ns P e f g = g e
has_here (Some n) m ns P e f g = by_bool (eqb m n) (λ same. f (ap Some (sym (eqb_same m n same)))) (λ other. g (sym (ap (λ b. b || has m ns) other) ∙ e))

-- each number that was given lies between the first and the next one
pub given_between : (s : Moment) (h : List Entry) (m : ℕ) → map (λ (x : Entry). x.reply) h ≡ replies s h → given gives m h ≡ true → (next_of s ≤ m) × (m < next_of (replay s h))
given_between s [] m told is = absurd (true≢false (sym is))
given_between s (x ∷ h) m told is =
    let t = heads _ _ _ _ told in
    has_here (gives x) m (numbers gives h) ((next_of s ≤ m) × (m < next_of (replay (after s x) h))) is
    (λ here. let g = given_here s x m t.0 here in let n = replay_next (after s x) h in let a = g.0 in let b = g.1 in (omega (arith, a), omega (arith, a, b, n)))
    (λ later. let g = given_between (after s x) h m t.1 later in let n = step_next s x.pass x.event in let a = g.0 in (omega (arith, a, n), g.1))

-- so the next one was never given
pub next_new : (s : Moment) (h : List Entry) → Legal s h → given gives (next_of (replay s h)) h ≡ false
next_new s h l = by_bool (given gives (next_of (replay s h)) h)
    (λ is. let g = (given_between s h (next_of (replay s h)) l.replies is).1 in absurd (omega (arith, g)))
    (λ is. is)
