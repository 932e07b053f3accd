-- How many rules are held after an event.
use Rattle.std.proofs.Common.{◌≡◌, ◌≤◌, ◌+◌, ℕ, Bool, true, false, cond, not, ◌&&◌, ◌||◌, List, [], ◌∷◌, ◌++◌, length, refl, sym, ap, ◌∙◌, subst, arith, length-append}
use Rattle.std.specs.Prelude.{Option, Some, None, is_some, filter}
use Rattle.std.specs.Option.{option_map}
use Rattle.std.specs.List.{list_any}
use Rattle.std.proofs.lemmas.List.{length-map}
use Rattle.std.proofs.lemmas.List.Filters.{length-filter_both}
use Rattle.sched_rules.specs.declared.ws_atom.WsAtom.{WsAtom}
use Rattle.rule_table.specs.Tables.{handed, is_of, last_rule, moved, newest, or_before, without, without_last}
use Rattle.rule_table.specs.declared.held.Held.{Held}
use Rattle.core_event.specs.declared.event.Event.{Event}
use Rattle.core_event.specs.declared.event.Event.TheVariants.{Enter, Leave, Schedule, Sleep, Wake, Cancel, Take, Finish, Begin, TryBegin, End, Transfer, Batch, EndBatch, Checkpoint, Operation, Service}
use Rattle.core_event.specs.declared.reply.Refusal.{Refusal}
use Rattle.job_manager.specs.declared.manager.JobManager.{JobManager}
use Rattle.job_manager.specs.Refusals.{refusal}
use Rattle.job_manager.specs.Effects.{decided, effect, next_job, outcome, taken}

fewer : (p : Held WsAtom → Bool) (all : List (Held WsAtom)) → length (filter p all) ≤ length all
fewer p all = let both = length-filter_both p (λ x. not (p x)) (λ x. refl) all in omega (arith, both)

-- where the one that was begun last is taken out, one fewer is held
some_of : (k : ℕ) (all : List (Held WsAtom)) → is_some (newest (is_of k) all) ≡ list_any (is_of k) all
some_of k [] = refl
some_of k (x ∷ all) = by (newest (is_of k) all) (some_of k all)
  where
    test : (b : Bool) → is_some (cond b (Some x) None) ≡ (b || false)
    test true = refl
    test false = refl

    true_any : (b : Bool) → true ≡ (b || true)
    true_any true = refl
    true_any false = refl

    by : (o : Option (Held WsAtom)) → is_some o ≡ list_any (is_of k) all → is_some (or_before (is_of k) x o) ≡ (is_of k x || list_any (is_of k) all)
    by None h = test (is_of k x) ∙ ap (λ b. is_of k x || b) h
    by (Some y) h = true_any (is_of k x) ∙ ap (λ b. is_of k x || b) h

ended_length : (k : ℕ) (all : List (Held WsAtom)) → list_any (is_of k) all ≡ true → length (without_last k all) + 1 ≡ length all
ended_length k [] h = cc
ended_length k (x ∷ all) h = by (is_of k x) (list_any (is_of k) all) refl h (ended_length k all)
  where
    by : (a b : Bool) → list_any (is_of k) all ≡ b → (a || b) ≡ true → (list_any (is_of k) all ≡ true → length (without_last k all) + 1 ≡ length all)
        → length (cond (a && not b) all (x ∷ without_last k all)) + 1 ≡ length (x ∷ all)
    by true true e g more = let rest = more e in omega (arith, rest)
    by true false e g more = omega arith
    by false true e g more = let rest = more e in omega (arith, rest)
    by false false e g more = cc

pub one_fewer : (k : ℕ) (all : List (Held WsAtom)) (rule : List WsAtom) → last_rule k all ≡ Some rule → length (without_last k all) + 1 ≡ length all
one_fewer k all rule h = ended_length k all (sym (some_of k all) ∙ some (newest (is_of k) all) h)
  where
    some : (o : Option (Held WsAtom)) → option_map (λ (x : Held WsAtom). x.rule) o ≡ Some rule → is_some o ≡ true
    some None g = cc
    some (Some x) g = refl

fewer_last : (k : ℕ) (all : List (Held WsAtom)) → length (without_last k all) ≤ length all
fewer_last k [] = omega arith
fewer_last k (x ∷ all) = by (is_of k x && not (list_any (is_of k) all)) (fewer_last k all)
  where
    by : (b : Bool) → length (without_last k all) ≤ length all → length (cond b all (x ∷ without_last k all)) ≤ length (x ∷ all)
    by true h = omega arith
    by false h = omega (arith, h)

one_more : (x : Held WsAtom) (all : List (Held WsAtom)) → length (all ++ x ∷ []) ≤ length all + 1
one_more x all = let more = length-append all (x ∷ []) in omega (arith, more)

effect_length : (m : JobManager) (k : ℕ) (e : Event) → length (effect m k e).0.passes.rules ≤ length m.passes.rules + 1
effect_length m k Enter = omega arith
effect_length m k Leave = omega arith
effect_length m k (Schedule name priority rule asleep) = omega arith
effect_length m k (Sleep name) = omega arith
effect_length m k (Wake name) = omega arith
effect_length m k (Cancel name) = omega arith
effect_length m k Take = by (next_job m)
  where
    by : (o : Option (List ℕ)) → length (taken m k o).0.passes.rules ≤ length m.passes.rules + 1
    by None = omega arith
    by (Some name) = one_more _ m.passes.rules
effect_length m k Finish = let h = fewer (λ held. not (is_of k held)) m.passes.rules in omega (arith, h)
effect_length m k (Begin rule) = one_more _ m.passes.rules
effect_length m k (TryBegin rule) = one_more _ m.passes.rules
effect_length m k (End rule) = let h = fewer_last k m.passes.rules in omega (arith, h)
effect_length m k (Transfer to) = let h = length-map m.passes.rules (handed k to) in omega (arith, h)
effect_length m k Batch = omega arith
effect_length m k EndBatch = omega arith
effect_length m k Checkpoint = omega arith
effect_length m k (Operation op) = omega arith
effect_length m k (Service x) = omega arith

-- at most one more
pub held_more : (m : JobManager) (k : ℕ) (e : Event) → length (outcome m k e).0.passes.rules ≤ length m.passes.rules + 1
held_more m k e = by (refusal m k e)
  where
    by : (r : Option Refusal) → length (decided r m k e).0.passes.rules ≤ length m.passes.rules + 1
    by None = effect_length m k e
    by (Some r) = omega arith
