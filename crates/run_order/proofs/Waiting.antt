-- One worker alone never waits: no other pass has a rule that may be in its way.
use Rattle.std.proofs.Common.{◌≡◌, inl, inr, ℕ, Bool, true, false, not, ◌&&◌, ◌==◌, if◌then◌else◌, List, [], ◌∷◌, refl, ap, sym, ◌∙◌, subst, arith}
use Rattle.std.specs.Prelude.{Option, Some, None}
use Rattle.std.specs.Option.{option_map, option_or}
use Rattle.std.specs.List.{AllByRecursion, filter}
use Rattle.sched_rules.specs.Atoms.{atom_contains, atom_conflicts}
use Rattle.sched_rules.specs.Rules.{rule_contains, rule_conflicts}
use Rattle.sched_rules.specs.declared.ws_atom.WsAtom.{WsAtom}
use Rattle.rule_table.specs.declared.held.Held.{Held}
use Rattle.rule_table.specs.Tables.{is_null, is_outer, newest, lowest, last_rule, rules_held}
use Rattle.rule_table.proofs.Kept.{none_passes}
use Rattle.job_queue.specs.declared.error.JobError.{JobError}
use Rattle.job_queue.specs.declared.error.JobError.TheVariants as errors
use Rattle.job_queue.specs.Queues as queue
use Rattle.job_queue.specs.States.{is_waiting, is_sleeping, may_be_cancelled}
use Rattle.pass_table.specs.Passes.{batches_of}
use Rattle.proj_desc.specs.FirstCause.{when}
use Rattle.op_kind.specs.declared.answer.OpAnswer.{OpAnswer}
use Rattle.op_kind.specs.declared.answer.OpAnswer.TheVariants as op_answers
use Rattle.op_kind.specs.declared.op.Op.{Op}
use Rattle.op_kind.specs.Effects as ops
use Rattle.op_kind.specs.Refusals as op_refusals
use Rattle.op_kind.specs.declared.refusal.OpRefusal.{OpRefusal}
use Rattle.op_rule.specs.Rules.{operation_rule}
use Rattle.core_event.specs.declared.event.Event.{Event}
use Rattle.core_event.specs.declared.event.Event.TheVariants.{Enter, Leave, Schedule, Sleep, Wake, Cancel, Take, Finish, Begin, TryBegin, End, Transfer, Batch, EndBatch, Checkpoint, Operation, Service}
use Rattle.core_event.specs.declared.reply.Refusal.{Refusal}
use Rattle.core_event.specs.declared.reply.Refusal.TheVariants as refusals
use Rattle.core_event.specs.Events.{operation_of, service_of, waits}
use Rattle.core_event.specs.Replies.{answered, is_attempt, is_conflict}
use Rattle.job_manager.specs.declared.manager.JobManager.{JobManager}
use Rattle.job_manager.specs.Admission.{admission, refused_under, conflict_with}
use Rattle.job_manager.specs.Refusals.{refusal, by_job, end_refusal}
use Rattle.job_manager.specs.Effects.{effect, decided}
use Rattle.ws_core.specs.States.{Moment}
use Rattle.ws_core.specs.Refusals as core
use Rattle.ws_core.specs.Histories.{entry_of, only_tried}
use Rattle.run_order.proofs.Managed.{step_answer, operation_answer, only_operation}
use Rattle.run_order.specs.Alone.{AllOfOne, IsSingle, IsCommand}
use Rattle.job_queue.proofs.Found.{same_Some}

-- ---- rules

-- the null rule conflicts with none
null_free : (rule : List WsAtom) → rule_conflicts atom_conflicts [] rule ≡ false
null_free [] = refl
null_free (atom ∷ rule) = null_free rule

null_rule : (rule : List WsAtom) → is_null rule ≡ true → rule ≡ []
null_rule [] h = refl
null_rule (atom ∷ rule) h = cc

-- where all rules are one pass's, and none but the null rule is held, nothing conflicts
none_conflicts : (all : List (Held WsAtom)) (rule : List WsAtom) → AllOfOne all → AllByRecursion (λ (held : Held WsAtom). is_outer 1 held ≡ false) all → filter (λ held. rule_conflicts atom_conflicts held.rule rule) all ≡ []
none_conflicts [] rule p q = refl
none_conflicts (held ∷ all) rule p q =
    let yes : (held.holder == 1) ≡ true = grind (arith, p.0) in
    let null = null_rule held.rule (by (is_null held.rule) (sym (ap (λ b. b && not (is_null held.rule)) yes) ∙ q.0)) in
    let free = ap (λ r. rule_conflicts atom_conflicts r rule) null ∙ null_free rule in
    ap (λ (b : Bool). if b then held ∷ filter (λ held. rule_conflicts atom_conflicts held.rule rule) all else filter (λ held. rule_conflicts atom_conflicts held.rule rule) all) free ∙ none_conflicts all rule p.1 q.1
  where
    by : (b : Bool) → (true && not b) ≡ false → b ≡ true
    by true h = refl
    by false h = cc

-- a pass that alone has rules meets no conflict
admits_alone : (all : List (Held WsAtom)) (rule : List WsAtom) (r : Refusal) → AllOfOne all → admission all 1 rule ≡ Some r → is_conflict r ≡ false
admits_alone all rule r p h = by (newest (is_outer 1) all) refl h
  where
    inside : (outer : List WsAtom) (b : Bool) → (if b then None else Some (refusals.NotContained outer)) ≡ Some r → is_conflict r ≡ false
    inside outer true g = cc
    inside outer false g = ap is_conflict (sym (same_Some (refusals.NotContained outer) r g))

    by : (o : Option (Held WsAtom)) → newest (is_outer 1) all ≡ o → refused_under (option_map (λ held. held.rule) o) all rule ≡ Some r → is_conflict r ≡ false
    by (Some outer) is g = inside outer.rule (rule_contains atom_contains outer.rule rule) g
    by None is g = none (sym (ap (λ (xs : List (Held WsAtom)). option_map conflict_with (lowest xs)) (none_conflicts all rule p (none_passes (is_outer 1) all is))) ∙ g)
      where
        none : option_map conflict_with None ≡ Some r → is_conflict r ≡ false
        none g = cc

-- ---- refusals

pub job_refusal : (o : Option JobError) (r : Refusal) → by_job o ≡ Some r → is_conflict r ≡ false
job_refusal None r h = cc
job_refusal (Some errors.UnknownJob) r h = ap is_conflict (sym (same_Some refusals.UnknownJob r h))
job_refusal (Some (errors.WrongState state)) r h = ap is_conflict (sym (same_Some (refusals.WrongState state) r h))
job_refusal (Some errors.NumbersUsed) r h = ap is_conflict (sym (same_Some refusals.NumbersUsed r h))
job_refusal (Some errors.Memory) r h = cc

pub when_refusal : (b : Bool) (cause r : Refusal) → is_conflict cause ≡ false → when b cause ≡ Some r → is_conflict r ≡ false
when_refusal true cause r none h = ap is_conflict (sym (same_Some cause r h)) ∙ none
when_refusal false cause r none h = cc

ended_refusal : (last : Option (List WsAtom)) (held : ℕ) (rule : List WsAtom) (r : Refusal) → end_refusal last held rule ≡ Some r → is_conflict r ≡ false
ended_refusal None held rule r h = ap is_conflict (sym (same_Some refusals.HoldsNothing r h))
ended_refusal (Some last) held rule r h = when_refusal _ (refusals.NotLast held) r refl h

pub both_false : (a b : Bool) → a ≡ false → (a && b) ≡ false
both_false true b h = cc
both_false false b h = refl

and_false : (a : Bool) → (a && false) ≡ false
and_false true = refl
and_false false = refl

refused_alone : (m : JobManager) (e : Event) (r : Refusal) → IsCommand e → operation_of e ≡ None → IsSingle m → refusal m 1 e ≡ Some r → (is_conflict r && waits e) ≡ false
refused_alone m Enter r c o s h = absurd c
refused_alone m Leave r c o s h = absurd c
refused_alone m (Schedule n p u a) r c o s h = both_false (is_conflict r) true (job_refusal (queue.schedule_refusal m.jobs.next_number (queue.state_of m.jobs n)) r h)
refused_alone m (Sleep n) r c o s h = both_false (is_conflict r) true (job_refusal (queue.refusal is_waiting (queue.state_of m.jobs n)) r h)
refused_alone m (Wake n) r c o s h = both_false (is_conflict r) true (job_refusal (queue.refusal is_sleeping (queue.state_of m.jobs n)) r h)
refused_alone m (Cancel n) r c o s h = both_false (is_conflict r) true (job_refusal (queue.refusal may_be_cancelled (queue.state_of m.jobs n)) r h)
refused_alone m Take r c o s h = absurd c
refused_alone m Finish r c o s h = absurd c
refused_alone m (Begin u) r c o s h = both_false (is_conflict r) true (admits_alone m.passes.rules u r s.held h)
refused_alone m (TryBegin u) r c o s h = and_false (is_conflict r)
refused_alone m (End u) r c o s h = both_false (is_conflict r) true (ended_refusal (last_rule 1 m.passes.rules) (rules_held 1 m.passes.rules) u r h)
refused_alone m (Transfer to) r c o s h = absurd c
refused_alone m Batch r c o s h = cc
refused_alone m EndBatch r c o s h = both_false (is_conflict r) true (when_refusal (batches_of m.passes 1 == 0) refusals.NoBatch r refl h)
refused_alone m Checkpoint r c o s h = cc
refused_alone m (Operation op) r c o s h = cc
refused_alone m (Service x) r c o s h = absurd c

done_alone : (m : JobManager) (e : Event) → IsCommand e → is_attempt e (effect m 1 e).1 ≡ false
done_alone m Enter c = absurd c
done_alone m Leave c = absurd c
done_alone m (Schedule n p u a) c = refl
done_alone m (Sleep n) c = refl
done_alone m (Wake n) c = refl
done_alone m (Cancel n) c = refl
done_alone m Take c = absurd c
done_alone m Finish c = absurd c
done_alone m (Begin u) c = refl
done_alone m (TryBegin u) c = refl
done_alone m (End u) c = refl
done_alone m (Transfer to) c = absurd c
done_alone m Batch c = refl
done_alone m EndBatch c = refl
done_alone m Checkpoint c = refl
done_alone m (Operation op) c = refl
done_alone m (Service x) c = absurd c

-- ---- an event

answered_done : (e : Event) (a : OpAnswer) → is_attempt e (answered a) ≡ false
answered_done e op_answers.Done = refl
answered_done e (op_answers.Id id) = refl
answered_done e (op_answers.Count count) = refl
answered_done e (op_answers.Seen entries partners) = refl

operation_alone : (s : Moment) (op : Op) (r : Refusal) → IsSingle s.manager → core.refusal s 1 (Operation op) ≡ Some r → is_conflict r ≡ false
operation_alone s op r single h = by (admission s.manager.passes.rules 1 (operation_rule op)) refl h
  where
    own : (o : Option OpRefusal) → option_map refusals.Operation o ≡ Some r → is_conflict r ≡ false
    own None g = cc
    own (Some cause) g = ap is_conflict (sym (same_Some (refusals.Operation cause) r g))

    by : (o : Option Refusal) → admission s.manager.passes.rules 1 (operation_rule op) ≡ o → option_or o (option_map refusals.Operation (op_refusals.refusal s.resources op)) ≡ Some r → is_conflict r ≡ false
    by None is g = own (op_refusals.refusal s.resources op) g
    by (Some cause) is g = admits_alone s.manager.passes.rules (operation_rule op) r single.held (is ∙ g)

-- a command isn't one of the services
pub command_plain : (e : Event) → IsCommand e → service_of e ≡ None
command_plain Enter c = refl
command_plain Leave c = refl
command_plain (Schedule n p u a) c = refl
command_plain (Sleep n) c = refl
command_plain (Wake n) c = refl
command_plain (Cancel n) c = refl
command_plain Take c = refl
command_plain Finish c = refl
command_plain (Begin u) c = refl
command_plain (TryBegin u) c = refl
command_plain (End u) c = refl
command_plain (Transfer to) c = refl
command_plain Batch c = refl
command_plain EndBatch c = refl
command_plain Checkpoint c = refl
command_plain (Operation op) c = refl
command_plain (Service x) c = absurd c

-- a command of pass 1 alone makes an entry
pub never_tried : (s : Moment) (e : Event) → IsCommand e → IsSingle s.manager → only_tried (entry_of s 1 e) ≡ false
never_tried s e c single = by (operation_of e) refl
  where
    managed : operation_of e ≡ None → (r : Option Refusal) → refusal s.manager 1 e ≡ r → is_attempt e (decided r s.manager 1 e).1 ≡ false
    managed none None is = done_alone s.manager e c
    managed none (Some r) is = refused_alone s.manager e r c none single is

    of : (op : Op) → only_tried (entry_of s 1 (Operation op)) ≡ false
    of op = elim (operation_answer s 1 op) [
      | inl refused ↦ ap (is_attempt (Operation op)) refused.2 ∙ both_false (is_conflict refused.0) true (operation_alone s op refused.0 single refused.1)
      | inr done ↦ ap (is_attempt (Operation op)) done ∙ answered_done (Operation op) (ops.effect s.resources op).1
    ]

    by : (o : Option Op) → operation_of e ≡ o → only_tried (entry_of s 1 e) ≡ false
    by None none = ap (is_attempt e) (step_answer s 1 e none (command_plain e c)) ∙ managed none (refusal s.manager 1 e) refl
    by (Some op) is = subst (λ x. only_tried (entry_of s 1 x) ≡ false) (sym (only_operation e op is)) (of op)
