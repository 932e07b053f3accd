-- Rules stay apart, whatever event comes.
use Rattle.std.proofs.Common.{◌≡◌, ◌==◌, ℕ, Bool, true, false, cond, not, ◌&&◌, ◌||◌, List, [], ◌∷◌, ◌++◌, refl, sym, ap, ◌∙◌, subst}
use Rattle.std.specs.Prelude.{Option, Some, None, is_some, is_none, filter}
use Rattle.std.specs.Option.{option_map}
use Rattle.std.specs.FinMap.{get}
use Rattle.std.specs.List.{list_any, AllByRecursion}
use Rattle.proj_desc.specs.FirstCause.{when, first_cause}
use Rattle.sched_rules.specs.AtomLaws.{atoms_lawful}
use Rattle.sched_rules.specs.Atoms.{atom_contains, atom_conflicts}
use Rattle.sched_rules.specs.declared.ws_atom.WsAtom.{WsAtom}
use Rattle.rule_table.specs.Tables.{IsApart, newest, or_before, is_of, is_outer, is_null, is_free, last_rule, outer_rule, admits, admits_under, without, without_last, fits, moved}
use Rattle.rule_table.specs.declared.held.Held.{Held}
use Rattle.rule_table.proofs.Kept.{apart_moved, begun_apart, none_of, pairs_filter, pairs_without_last}
use Rattle.job_queue.specs.States.{is_waiting}
use Rattle.job_queue.specs.declared.job.Job.{Job}
use Rattle.job_queue.proofs.Nexts.{may_next}
use Rattle.pass_table.specs.Passes.{Passes, has_pass, job_of, batches_of, is_busy, serves}
use Rattle.pass_table.proofs.Kept.{neither}
use Rattle.core_event.specs.declared.event.Event.{Event}
use Rattle.core_event.specs.declared.event.Event.TheVariants.{Enter, Leave, Schedule, Sleep, Wake, Cancel, Take, Finish, Begin, TryBegin, End, Transfer, Batch, EndBatch, Checkpoint, Operation, Service}
use Rattle.core_event.specs.declared.reply.Refusal.{Refusal}
use Rattle.core_event.specs.declared.reply.Refusal.TheVariants as refusals
use Rattle.job_manager.specs.declared.manager.JobManager.{JobManager}
use Rattle.job_manager.specs.Refusals.{busy, transfer_refusal, refusal}
use Rattle.job_manager.specs.Effects.{rule_in, rule_of, next_job, taken, effect, decided, outcome}
use Rattle.job_manager.proofs.Admitted.{may_begin}

abbrev pub Apart : List (Held WsAtom) → Type 0
Apart = IsApart atom_contains atom_conflicts

abbrev Fits : Held WsAtom → Held WsAtom → Type 0
Fits earlier later = fits atom_contains atom_conflicts earlier later ≡ true

-- ---- one event after another

begun : (m : JobManager) (k : ℕ) (rule : List WsAtom) → refusal m k (Begin rule) ≡ None → Apart m.passes.rules → Apart (m.passes.rules ++ record { holder = k; rule = rule } ∷ [])
begun m k rule h apart = begun_apart atoms_lawful k rule m.passes.rules apart (may_begin m.passes.rules k rule h)

nobody_outer : (k : ℕ) (all : List (Held WsAtom)) → AllByRecursion (λ x. is_of k x ≡ false) all → newest (is_outer k) all ≡ None
nobody_outer k [] h = refl
nobody_outer k (x ∷ all) h =
    ap (or_before (is_outer k) x) (nobody_outer k all h.1) ∙ ap (λ b. cond (b && not (is_null x.rule)) (Some x) None) h.0

both : (a b : Bool) → (a && b) ≡ true → b ≡ true
both true b h = h
both false b h = cc

not_busy : (b : Bool) → when b refusals.PassBusy ≡ None → b ≡ false
not_busy false h = refl
not_busy true h = cc

no_rule : (o : Option (List WsAtom)) (a b : Bool) → (is_some o || a || b) ≡ false → o ≡ None
no_rule None a b h = refl
no_rule (Some x) a b h = by a b h
  where
    by : (a b : Bool) → (true || a || b) ≡ false → Some x ≡ None
    by true true g = cc
    by true false g = cc
    by false true g = cc
    by false false g = cc

-- a job is taken whose rule is free, by a pass that has none
run_apart : (m : JobManager) (k : ℕ) (name : List ℕ) → is_busy m.passes k ≡ false → next_job m ≡ Some name → Apart m.passes.rules
    → Apart (m.passes.rules ++ record { holder = k; rule = rule_of m.jobs name } ∷ [])
run_apart m k name idle next apart =
    begun_apart atoms_lawful k (rule_of m.jobs name) m.passes.rules apart
    (ap (admits_under atom_contains atom_conflicts m.passes.rules (rule_of m.jobs name)) outer ∙ free)
  where
    outer : outer_rule k m.passes.rules ≡ None
    outer =
        ap (option_map (λ (held : Held WsAtom). held.rule))
        (nobody_outer k m.passes.rules (none_of k m.passes.rules (no_rule (last_rule k m.passes.rules) (is_some (job_of m.passes k)) (not (batches_of m.passes k == 0))
        (neither (is_some (last_rule k m.passes.rules) || is_some (job_of m.passes k) || not (batches_of m.passes k == 0)) (serves m.passes k) idle))))

    free : is_free atom_conflicts m.passes.rules (rule_of m.jobs name) ≡ true
    free =
        let found = may_next atom_conflicts m.passes.rules m.jobs name next in
        ap (λ o. is_free atom_conflicts m.passes.rules (rule_in o)) found.1 ∙ both (is_waiting found.0.state) (is_free atom_conflicts m.passes.rules found.0.rule) found.2

taken_apart : (m : JobManager) (k : ℕ) → is_busy m.passes k ≡ false → (o : Option (List ℕ)) → next_job m ≡ o → Apart m.passes.rules → Apart (taken m k o).0.passes.rules
taken_apart m k idle None next apart = apart
taken_apart m k idle (Some name) next apart = run_apart m k name idle next apart

transfers : (a b c : Bool) → first_cause (when a refusals.NoPass ∷ when b refusals.HoldsNothing ∷ when c refusals.TargetHolds ∷ []) ≡ None → c ≡ false
transfers true b c h = cc
transfers false true c h = cc
transfers false false true h = cc
transfers false false false h = refl

is_nothing : (o : Option (List WsAtom)) → is_some o ≡ false → o ≡ None
is_nothing None h = refl
is_nothing (Some x) h = cc

effect_apart : (m : JobManager) (k : ℕ) (e : Event) → refusal m k e ≡ None → Apart m.passes.rules → Apart (effect m k e).0.passes.rules
effect_apart m k Enter h apart = apart
effect_apart m k Leave h apart = apart
effect_apart m k (Schedule name priority rule asleep) h apart = apart
effect_apart m k (Sleep name) h apart = apart
effect_apart m k (Wake name) h apart = apart
effect_apart m k (Cancel name) h apart = apart
effect_apart m k Take h apart = taken_apart m k (not_busy (is_busy m.passes k) h) (next_job m) refl apart
effect_apart m k Finish h apart = pairs_filter Fits (λ held. not (is_of k held)) m.passes.rules apart
effect_apart m k (Begin rule) h apart = begun m k rule h apart
effect_apart m k (TryBegin rule) h apart = begun m k rule h apart
effect_apart m k (End rule) h apart = pairs_without_last Fits k m.passes.rules apart
effect_apart m k (Transfer to) h apart =
    apart_moved atom_contains atom_conflicts k to m.passes.rules
    (none_of to m.passes.rules (is_nothing (last_rule to m.passes.rules)
    (transfers (not (has_pass m.passes to)) (is_none (last_rule k m.passes.rules)) (is_some (last_rule to m.passes.rules)) h))) apart
effect_apart m k Batch h apart = apart
effect_apart m k EndBatch h apart = apart
effect_apart m k Checkpoint h apart = apart
effect_apart m k (Operation op) h apart = apart
effect_apart m k (Service x) h apart = apart

-- whatever comes of an event, rules are apart
pub outcome_apart : (m : JobManager) (k : ℕ) (e : Event) → Apart m.passes.rules → Apart (outcome m k e).0.passes.rules
outcome_apart m k e apart = by (refusal m k e) refl
  where
    by : (r : Option Refusal) → refusal m k e ≡ r → Apart (decided r m k e).0.passes.rules
    by None h = effect_apart m k e h apart
    by (Some r) h = apart
