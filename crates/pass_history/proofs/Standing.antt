-- While a pass has the services they stay with it, and for what it took them, whatever others do.
use Rattle.std.proofs.Common.{◌≡◌, ◌≢◌, ℕ, Bool, true, false, List, [], ◌∷◌, ◌++◌, map, refl, sym, ap, ◌∙◌, subst, inl, inr}
use Rattle.std.specs.Prelude.{Option, Some, None}
use Rattle.std.specs.Option.{option_map}
use Rattle.std.specs.List.{AllByRecursion}
use Rattle.proj_desc.specs.FirstCause.{first_cause}
use Rattle.core_event.specs.declared.entry.Entry.{Entry}
use Rattle.core_event.specs.declared.event.Event.{Event}
use Rattle.core_event.specs.declared.event.Event.TheVariants.{Operation, Service}
use Rattle.core_event.specs.declared.reply.Answer.{Answer}
use Rattle.core_event.specs.declared.reply.Answer.TheVariants as answers
use Rattle.core_event.specs.declared.reply.Refusal.{Refusal}
use Rattle.core_event.specs.declared.reply.Refusal.TheVariants as refusals
use Rattle.core_event.specs.declared.reply.Reply.{Reply}
use Rattle.core_event.specs.declared.service.Purpose.TheVariants.{Build, Save}
use Rattle.core_event.specs.declared.service.ServiceEvent.{ServiceEvent}
use Rattle.core_event.specs.declared.service.ServiceEvent.TheVariants.{Checkout, CheckIn, Handed, Commit, Clean, Saving}
use Rattle.core_event.specs.Events.{service_of}
use Rattle.op_kind.specs.declared.op.Op.{Op}
use Rattle.service_desk.specs.declared.desk.Serving.{Serving}
use Rattle.service_desk.specs.Desks.{is_building, is_saving, may_end}
use Rattle.service_desk.specs.Refusals.{unrooted, project_causes, command_causes, scope_causes}
use Rattle.ws_core.specs.States.{Moment}
use Rattle.ws_core.specs.Refusals.{current, edit_cause, no_build, refusal}
use Rattle.ws_core.specs.Steps.{acted, act, told, tells, step}
use Rattle.ws_core.specs.Histories.{after, replay, replies}
use Rattle.ws_core.proofs.ServingPass.{serving_named}
use Rattle.ws_core.proofs.Stepped.{Concern, OfOperation, OfService, OfManager, act_managed, concern_of}
use Rattle.run_order.proofs.Managed.{step_services, told_answer}
use Rattle.ws_turn.specs.Lists.{of}
use Rattle.pass_turns.proofs.There.{others}
use Rattle.pass_history.specs.Served.{was_done}
use Rattle.pass_history.proofs.Given.{heads}
use Rattle.pass_history.proofs.Serving.{IsQuiet, first_none, serving_of, told_serving}

-- what the services were taken for
abbrev pub taken_for : Moment → Option Serving
taken_for s = s.desk.serving

-- the causes behind one that doesn't apply
pub rest_none : (c : Option Refusal) (cs : List (Option Refusal)) → first_cause (c ∷ cs) ≡ None → first_cause cs ≡ None
rest_none None cs e = e
rest_none (Some r) cs e = let e : Some r ≡ None = e in cc

-- where they aren't out no pass has them
pub home_before : (o : Option ℕ) → option_map refusals.ServicesOut o ≡ None → o ≡ None
home_before None e = refl
home_before (Some k) e = let e : Some (refusals.ServicesOut k) ≡ None = e in cc

never_home : (k : ℕ) (o : Option ℕ) → o ≡ Some k → o ≡ None → ⊥
never_home k o some none = let e : Some k ≡ None = sym some ∙ none in cc

other_pass : (j k : ℕ) (o : Option ℕ) → j ≢ k → o ≡ Some j → o ≡ Some k → ⊥
other_pass j k o other mine is = let e : Some j ≡ Some k = sym mine ∙ is in other cc

-- ---- what another pass asks of the services is refused

pub others_never : (s : Moment) (j k : ℕ) (x : ServiceEvent) → j ≢ k → serving_of s ≡ Some k → refusal s j (Service x) ≡ None → ⊥
others_never s j k (Checkout (Build kind scope)) other is none =
    never_home k (serving_of s) is (home_before (serving_of s) (first_none (option_map refusals.ServicesOut (serving_of s)) (scope_causes s.resources.tree scope)
    (rest_none (unrooted s.manager.passes.rules j) (option_map refusals.ServicesOut (serving_of s) ∷ scope_causes s.resources.tree scope) none)))
others_never s j k (Checkout (Save kind)) other is none = never_home k (serving_of s) is (home_before (serving_of s) (first_none (option_map refusals.ServicesOut (serving_of s)) [] none))
others_never s j k (CheckIn outcome) other is none =
    other_pass j k (serving_of s) other (serving_named s.manager.passes (may_end s.desk.serving outcome) j (first_none _ [] none)) is
others_never s j k (Handed project index kind) other is none =
    other_pass j k (serving_of s) other (serving_named s.manager.passes (is_building s.desk.serving) j (first_none _ (unrooted s.manager.passes.rules j ∷ (project_causes s.resources.tree project ++ command_causes s.resources.tree s.desk.builders project index)) none)) is
others_never s j k (Commit edits) other is none =
    other_pass j k (serving_of s) other (serving_named s.manager.passes (is_building s.desk.serving) j (first_none _ (no_build (current s) ∷ unrooted s.manager.passes.rules j ∷ edit_cause s.resources edits (current s) ∷ []) none)) is
others_never s j k (Clean project index) other is none =
    other_pass j k (serving_of s) other (serving_named s.manager.passes (is_building s.desk.serving) j (first_none _ (unrooted s.manager.passes.rules j ∷ (project_causes s.resources.tree project ++ command_causes s.resources.tree s.desk.builders project index)) none)) is
others_never s j k (Saving states) other is none =
    other_pass j k (serving_of s) other (serving_named s.manager.passes (is_saving s.desk.serving) j (first_none _ [] none)) is

-- ---- one entry of another pass

pub told_taken : (b : Bool) (s : Moment) (a : Answer) → taken_for (told b s a).0 ≡ taken_for s
told_taken true s a = refl
told_taken false s a = refl

-- by an event that doesn't concern them it stays what they were taken for
plain_taken : (s : Moment) (j : ℕ) (e : Event) → service_of e ≡ None → taken_for (step s j e).0 ≡ taken_for s
plain_taken s j e plain = told_taken (tells e (act s j e).0) (act s j e).0 (act s j e).1 ∙ by (concern_of e)
  where
    operated : (op : Op) (r : Option Refusal) → taken_for (acted r s j (Operation op)).0 ≡ taken_for s
    operated op None = refl
    operated op (Some r) = refl

    by : Concern e → taken_for (act s j e).0 ≡ taken_for s
    by (OfOperation op is) = ap (λ z. taken_for (act s j z).0) is ∙ operated op (refusal s j (Operation op))
    by (OfService x is) = let no : Some x ≡ None = sym (ap service_of is) ∙ plain in cc
    by (OfManager none managed) = ap (λ (d : Moment × Answer). taken_for d.0) (act_managed s j e none managed)

-- where a pass has the services it has them then, for the same, and what another asked of them was refused
record Stands (k : ℕ) (s : Moment) (x : Entry) : Type 0 where
  pub serving : serving_of (after s x) ≡ Some k
  pub taken : taken_for (after s x) ≡ taken_for s
  pub quiet : IsQuiet x

entry_stands : (s : Moment) (k : ℕ) (x : Entry) → x.pass ≢ k → x.reply ≡ (step s x.pass x.event).1 → serving_of s ≡ Some k → Stands k s x
entry_stands s k x other is_told is = by (concern_of x.event)
  where
    plainly : service_of x.event ≡ None → Stands k s x
    plainly plain = record { serving = step_services s x.pass x.event plain ∙ is; taken = plain_taken s x.pass x.event plain; quiet = inl plain }

    refused : (v : ServiceEvent) (r : Option Refusal) → refusal s x.pass (Service v) ≡ r → x.event ≡ Service v → Stands k s x
    refused v None none e = absurd (others_never s x.pass k v other is none)
    refused v (Some r) some e =
        let so : act s x.pass (Service v) ≡ (s, answers.Refused r) = ap (λ o. acted o s x.pass (Service v)) some in
        let d = act s x.pass (Service v) in
        record {
          serving = ap (λ z. serving_of (step s x.pass z).0) e ∙ (told_serving (tells (Service v) d.0) d.0 d.1 ∙ (ap (λ (z : Moment × Answer). serving_of z.0) so ∙ is));
          taken = ap (λ z. taken_for (step s x.pass z).0) e ∙ (told_taken (tells (Service v) d.0) d.0 d.1 ∙ ap (λ (z : Moment × Answer). taken_for z.0) so);
          quiet = inr (ap (λ (y : Reply). was_done y.answer) is_told ∙ (ap (λ z. was_done (step s x.pass z).1.answer) e ∙ (ap was_done (told_answer (tells (Service v) d.0) d.0 d.1) ∙ ap (λ (z : Moment × Answer). was_done z.1) so)));
        }

    by : Concern x.event → Stands k s x
    by (OfOperation op e) = plainly (ap service_of e)
    by (OfManager none plain) = plainly plain
    by (OfService v e) = refused v (refusal s x.pass (Service v)) refl e

-- ---- the entries of others

pub record OthersQuiet (k : ℕ) (s : Moment) (m : List Entry) : Type 0 where
  pub serving : serving_of (replay s m) ≡ Some k
  pub taken : taken_for (replay s m) ≡ taken_for s
  pub quiet : AllByRecursion IsQuiet m

pub others_stand : (s : Moment) (k : ℕ) (m : List Entry) → map (λ (x : Entry). x.reply) m ≡ replies s m → of (λ (x : Entry). x.pass) k m ≡ [] → serving_of s ≡ Some k → OthersQuiet k s m
others_stand s k [] is_told none is = record { serving = is; taken = refl; quiet = tt }
others_stand s k (x ∷ m) is_told none is =
    let t = heads _ _ _ _ is_told in
    let o = others (λ (y : Entry). y.pass) k x m none in
    let here = entry_stands s k x o.0 t.0 is in
    let later = others_stand (after s x) k m t.1 o.1 here.serving in
    record { serving = later.serving; taken = later.taken ∙ here.taken; quiet = (here.quiet, later.quiet) }
