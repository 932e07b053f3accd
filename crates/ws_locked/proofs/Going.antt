-- The services go out and come home.
use Rattle.std.proofs.Common.{◌≡◌, ℕ, Bool, true, false, not, ◌&&◌, List, [], ◌∷◌, ◌++◌, refl, sym, ap, ◌∙◌, subst, inr, true≢false, if◌then◌else◌}
use Rattle.std.specs.Prelude.{◌≢◌, IfSome, Option, Some, None, is_some, unwrap_or}
use Rattle.std.specs.Option.{ForSome, option_map}
use Rattle.std.specs.List.{AllByRecursion}
use Rattle.proj_desc.specs.FirstCause.{first_cause, when}
use Rattle.ws_outside.specs.declared.contents.Contents.{Contents}
use Rattle.builder_api.specs.Told.{Told as BuilderTold}
use Rattle.core_event.specs.declared.entry.Entry.{Entry}
use Rattle.core_event.specs.declared.event.Event.TheVariants.{Service}
use Rattle.core_event.specs.declared.reply.Answer.{Answer}
use Rattle.core_event.specs.declared.reply.Answer.TheVariants as answers
use Rattle.core_event.specs.declared.reply.Refusal.{Refusal}
use Rattle.core_event.specs.declared.reply.Reply.{Reply}
use Rattle.core_event.specs.declared.service.Outcomes.{Outcomes}
use Rattle.core_event.specs.declared.service.Purpose.{Purpose}
use Rattle.core_event.specs.declared.service.Purpose.TheVariants.{Build, Save}
use Rattle.core_event.specs.declared.service.ServiceEvent.{ServiceEvent}
use Rattle.core_event.specs.declared.service.ServiceEvent.TheVariants.{Checkout, CheckIn}
use Rattle.core_event.specs.declared.reply.Refusal.TheVariants as refusals
use Rattle.std.specs.FinMap.{contains_key}
use Rattle.sched_rules.specs.Atoms.{atom_contains}
use Rattle.sched_rules.specs.Rules.{rule_contains}
use Rattle.sched_rules.specs.declared.ws_atom.WsAtom.{WsAtom}
use Rattle.rule_table.specs.Tables.{outer_rule}
use Rattle.op_kind.specs.declared.refusal.OpRefusal.{OpRefusal}
use Rattle.op_kind.specs.declared.refusal.OpRefusal.TheVariants.{NotFound, ProjectClosed}
use Rattle.op_kind.specs.Places.{is_shut}
use Rattle.service_desk.specs.Refusals.{root_rule, scope_causes, unrooted}
use Rattle.ws_locked.specs.Inside.Waiting.{has_rule}
use Rattle.service_desk.specs.Desks.{may_end}
use Rattle.ws_core.specs.States.{Moment}
use Rattle.ws_core.specs.Effects.{serve}
use Rattle.ws_core.specs.Refusals.{refusal}
use Rattle.ws_core.specs.Steps.{acted, act, tells, step}
use Rattle.ws_core.specs.Histories.{entry_of, only_tried, written}
use Rattle.ws_core.specs.Sessions.{Session}
use Rattle.save_round.specs.Told.{Told as PartTold}
use Rattle.core_event.specs.Replies.{is_attempt}
use Rattle.pass_table.specs.Passes.{serves}
use Rattle.save_history.specs.Rounds.{Rounds, rounds_of}
use Rattle.save_history.specs.Steps.{Begins, step_asked}
use Rattle.save_history.proofs.Rounds.{rounds_on}
use Rattle.ws_locked.specs.Fits.{Fits}
use Rattle.ws_locked.specs.Moved.{ComesHome, round_for}
use Rattle.ws_locked.specs.Halls.{Hall, Trio, opened_by, told_by, trio_of}
use Rattle.ws_locked.specs.declared.services.Services.{Services}
use Rattle.ws_locked.specs.Opened.{Opened}
use Rattle.ws_locked.proofs.Fitting.{made_is, steps_one}
use Rattle.ws_locked.proofs.Halls.{Keeps, WentOn, hall_on, quiet_noted, written_on}
use Rattle.ws_core.proofs.ServingPass.{serving_named}
use Rattle.run_order.proofs.Managed.{told_answer}
use Rattle.pass_history.specs.Served.{Served, was_done}
use Rattle.pass_history.proofs.Serving.{IsQuiet, first_none, serving_of, told_serving}
use Rattle.pass_history.proofs.Standing.{home_before, rest_none}

-- what a Checkout or a CheckIn comes to: it was refused and nobody else has the services then, or it was done
pub data Moves (s : Moment) (k : ℕ) (x : ServiceEvent) (before now : Option ℕ) : Type 0 where
  WasRefused : (r : Refusal) → (step s k (Service x)).1.answer ≡ answers.Refused r → serving_of (step s k (Service x)).0 ≡ serving_of s → Moves s k x before now
  WasDone : was_done (step s k (Service x)).1.answer ≡ true → serving_of s ≡ before → serving_of (step s k (Service x)).0 ≡ now → Moves s k x before now

same_refusal : (a b : Refusal) → answers.Refused a ≡ answers.Refused b → a ≡ b
same_refusal a b e = let e : answers.Refused a ≡ answers.Refused b = e in cc

module _ (s : Moment) (k : ℕ) where
  serves_then : (x : ServiceEvent) → serving_of (step s k (Service x)).0 ≡ serving_of (act s k (Service x)).0
  serves_then x = told_serving (tells (Service x) (act s k (Service x)).0) (act s k (Service x)).0 (act s k (Service x)).1

  answered : (x : ServiceEvent) → (step s k (Service x)).1.answer ≡ (act s k (Service x)).1
  answered x = told_answer (tells (Service x) (act s k (Service x)).0) (act s k (Service x)).0 (act s k (Service x)).1

  refused : (x : ServiceEvent) (before now : Option ℕ) (r : Refusal) → refusal s k (Service x) ≡ Some r → Moves s k x before now
  refused x before now r is = WasRefused r (answered x ∙ ap (λ o. (acted o s k (Service x)).1) is) (serves_then x ∙ ap (λ o. serving_of (acted o s k (Service x)).0) is)

  done : (x : ServiceEvent) (before now : Option ℕ) → refusal s k (Service x) ≡ None → was_done (serve s k x).1 ≡ true → serving_of s ≡ before → serving_of (serve s k x).0 ≡ now → Moves s k x before now
  done x before now is good was is_then = WasDone (ap was_done (answered x ∙ ap (λ o. (acted o s k (Service x)).1) is) ∙ good) was (serves_then x ∙ (ap (λ o. serving_of (acted o s k (Service x)).0) is ∙ is_then))

  -- the services go out to the pass, where they were home
  pub moves_out : (purpose : Purpose) → Moves s k (Checkout purpose) None (Some k)
  moves_out (Build kind scope) = by (refusal s k (Service (Checkout (Build kind scope)))) refl
    where
      by : (r : Option Refusal) → refusal s k (Service (Checkout (Build kind scope))) ≡ r → Moves s k (Checkout (Build kind scope)) None (Some k)
      by (Some r) is = refused (Checkout (Build kind scope)) None (Some k) r is
      by None is = done (Checkout (Build kind scope)) None (Some k) is refl
          (home_before (serving_of s) (first_none (option_map refusals.ServicesOut (serving_of s)) (scope_causes s.resources.tree scope)
          (rest_none (unrooted s.manager.passes.rules k) (option_map refusals.ServicesOut (serving_of s) ∷ scope_causes s.resources.tree scope) is))) refl
  moves_out (Save kind) = by (refusal s k (Service (Checkout (Save kind)))) refl
    where
      by : (r : Option Refusal) → refusal s k (Service (Checkout (Save kind))) ≡ r → Moves s k (Checkout (Save kind)) None (Some k)
      by (Some r) is = refused (Checkout (Save kind)) None (Some k) r is
      by None is = done (Checkout (Save kind)) None (Some k) is refl (home_before (serving_of s) (first_none (option_map refusals.ServicesOut (serving_of s)) [] is)) refl

  -- where no pass has them, or the pass hasn't the rule that it needs, they aren't refused since one has
  not_out : (x : ServiceEvent) (r : Refusal) → refusal s k (Service x) ≡ Some r → ((holder : ℕ) → r ≢ refusals.ServicesOut holder) → (holder : ℕ) → (step s k (Service x)).1.answer ≢ answers.Refused (refusals.ServicesOut holder)
  not_out x r is other holder out =
      let same : answers.Refused r ≡ answers.Refused (refusals.ServicesOut holder) = sym (answered x ∙ ap (λ o. (acted o s k (Service x)).1) is) ∙ out in
      other holder (same_refusal r (refusals.ServicesOut holder) same)

  pub free_unless : (purpose : Purpose) → has_rule s.manager.passes.rules k purpose ≡ false → (holder : ℕ) → (step s k (Service (Checkout purpose))).1.answer ≢ answers.Refused (refusals.ServicesOut holder)
  free_unless (Build kind scope) lacks =
      let outer = unwrap_or (outer_rule k s.manager.passes.rules) [] in
      not_out (Checkout (Build kind scope)) (refusals.NotContained outer)
      (ap (λ b. first_cause (when (not b) (refusals.NotContained outer) ∷ option_map refusals.ServicesOut (serving_of s) ∷ scope_causes s.resources.tree scope)) lacks)
      (λ holder e. let e : refusals.NotContained outer ≡ refusals.ServicesOut holder = e in cc)
  free_unless (Save kind) lacks = absurd (true≢false lacks)

  two_others : (x y : OpRefusal) (holder : ℕ) (b c : Bool) → first_cause (when b (refusals.Operation x) ∷ when c (refusals.Operation y) ∷ []) ≡ Some (refusals.ServicesOut holder) → ⊥
  two_others x y holder true c is = let e : Some (refusals.Operation x) ≡ Some (refusals.ServicesOut holder) = is in cc
  two_others x y holder false true is = let e : Some (refusals.Operation y) ≡ Some (refusals.ServicesOut holder) = is in cc
  two_others x y holder false false is = let e : None ≡ Some (refusals.ServicesOut holder) = is in cc

  scope_others : (holder : ℕ) (scope : Option (List ℕ)) → first_cause (scope_causes s.resources.tree scope) ≡ Some (refusals.ServicesOut holder) → ⊥
  scope_others holder None is = let e : None ≡ Some (refusals.ServicesOut holder) = is in cc
  scope_others holder (Some project) is = two_others (NotFound (project ∷ [])) (ProjectClosed (project ∷ [])) holder (not (contains_key s.resources.tree (project ∷ []))) (is_shut s.resources.tree (project ∷ [])) is

  never_out : (purpose : Purpose) (holder : ℕ) → serving_of s ≡ None → refusal s k (Service (Checkout purpose)) ≡ Some (refusals.ServicesOut holder) → ⊥
  never_out (Save kind) holder home is =
      let e : None ≡ Some (refusals.ServicesOut holder) = sym (ap (λ o. first_cause (option_map refusals.ServicesOut o ∷ [])) home) ∙ is in cc
  never_out (Build kind scope) holder home is =
      by (rule_contains atom_contains outer root_rule) (sym (ap (λ o. first_cause (unrooted s.manager.passes.rules k ∷ option_map refusals.ServicesOut o ∷ scope_causes s.resources.tree scope)) home) ∙ is)
    where
      outer : List WsAtom
      outer = unwrap_or (outer_rule k s.manager.passes.rules) []

      by : (b : Bool) → first_cause (when (not b) (refusals.NotContained outer) ∷ None ∷ scope_causes s.resources.tree scope) ≡ Some (refusals.ServicesOut holder) → ⊥
      by true e = scope_others holder scope e
      by false e = let no : Some (refusals.NotContained outer) ≡ Some (refusals.ServicesOut holder) = e in cc

  done_out : (purpose : Purpose) → was_done (serve s k (Checkout purpose)).1 ≡ true
  done_out (Build kind scope) = refl
  done_out (Save kind) = refl

  pub free_home : (purpose : Purpose) → serving_of s ≡ None → (holder : ℕ) → (step s k (Service (Checkout purpose))).1.answer ≢ answers.Refused (refusals.ServicesOut holder)
  free_home purpose home holder out = by (refusal s k (Service (Checkout purpose))) refl
    where
      by : (r : Option Refusal) → refusal s k (Service (Checkout purpose)) ≡ r → ⊥
      by None is = true≢false (sym (ap was_done (answered (Checkout purpose) ∙ ap (λ o. (acted o s k (Service (Checkout purpose))).1) is) ∙ done_out purpose) ∙ ap was_done out)
      by (Some r) is =
          let same : answers.Refused r ≡ answers.Refused (refusals.ServicesOut holder) = sym (answered (Checkout purpose) ∙ ap (λ o. (acted o s k (Service (Checkout purpose))).1) is) ∙ out in
          never_out purpose holder home (is ∙ ap Some (same_refusal r (refusals.ServicesOut holder) same))

  no_attempt : (purpose : Purpose) → is_attempt (Service (Checkout purpose)) (serve s k (Checkout purpose)).1 ≡ false
  no_attempt (Build kind scope) = refl
  no_attempt (Save kind) = refl

  -- a Checkout that was done is no attempt
  pub out_stands : (purpose : Purpose) → was_done (step s k (Service (Checkout purpose))).1.answer ≡ true → only_tried (entry_of s k (Service (Checkout purpose))) ≡ false
  out_stands purpose good = by (refusal s k (Service (Checkout purpose))) refl
    where
      by : (r : Option Refusal) → refusal s k (Service (Checkout purpose)) ≡ r → only_tried (entry_of s k (Service (Checkout purpose))) ≡ false
      by None is = ap (is_attempt (Service (Checkout purpose))) (answered (Checkout purpose) ∙ ap (λ o. (acted o s k (Service (Checkout purpose))).1) is) ∙ no_attempt purpose
      by (Some r) is = absurd (true≢false (sym good ∙ ap was_done (answered (Checkout purpose) ∙ ap (λ o. (acted o s k (Service (Checkout purpose))).1) is)))

  -- the services come home from the pass, which had them
  pub moves_home : (outcome : Outcomes) → Moves s k (CheckIn outcome) (Some k) None
  moves_home outcome = by (refusal s k (Service (CheckIn outcome))) refl
    where
      by : (r : Option Refusal) → refusal s k (Service (CheckIn outcome)) ≡ r → Moves s k (CheckIn outcome) (Some k) None
      by (Some r) is = refused (CheckIn outcome) (Some k) None r is
      by None is = done (CheckIn outcome) (Some k) None is refl (serving_named s.manager.passes (may_end s.desk.serving outcome) k (first_none _ [] is)) refl

-- a refused entry is quiet
pub refused_quiet : (s : Moment) (k : ℕ) (x : ServiceEvent) (r : Refusal) → (step s k (Service x)).1.answer ≡ answers.Refused r → IsQuiet (entry_of s k (Service x))
refused_quiet s k x r is = inr (ap was_done is)

-- ---- what the lock keeps then

-- a session that went on by a refused event
pub went_refused : (x y : Session) (k : ℕ) (v : ServiceEvent) (r : Refusal) → (step x.state k (Service v)).1.answer ≡ answers.Refused r → serving_of (step x.state k (Service v)).0 ≡ serving_of x.state
    → y.opened ≡ x.opened → y.state ≡ (step x.state k (Service v)).0 → y.history ≡ written x.history (entry_of x.state k (Service v)) → WentOn x y
went_refused x y k v r is same opened state history =
    let e = entry_of x.state k (Service v) in
    let w = written_on (only_tried e) x.history e in
    record {
      opened = opened;
      services = ap (λ (s : Moment). s.manager.passes.services) state ∙ same;
      entries = w.0;
      history = history ∙ w.1;
      quiet = λ nobody. subst (AllByRecursion IsQuiet) (sym w.2) (quiet_noted (only_tried e) e (refused_quiet x.state k v r is));
    }

never_done : (a : Answer) (r : Refusal) → was_done a ≡ true → a ≡ answers.Refused r → ⊥
never_done a r good is = true≢false (sym good ∙ ap was_done is)

never_refused : (a : Answer) → was_done a ≡ false → was_done a ≡ true → ⊥
never_refused a bad good = true≢false (sym good ∙ bad)

module _ {D B P : Type 0} (moment : D → ℕ) (left_since : D → ℕ → Contents → Type 0) (may_leave : D → Contents → Type 0) (faults : D → ℕ) (b : B → BuilderTold) (p : P → PartTold)
    (vow : Opened → List BuilderTold → List Served → Type 0) where
  -- where a Checkout was done nothing is home
  pub hall_out : (l : Hall D B P) (y : Session) (k : ℕ) (purpose : Purpose) (reply : Reply) → was_done reply.answer ≡ true → reply ≡ (step l.core.state k (Service (Checkout purpose))).1
      → y.opened ≡ l.core.opened → y.state ≡ (step l.core.state k (Service (Checkout purpose))).0 → Keeps moment left_since may_leave faults b p vow l
      → Keeps moment left_since may_leave faults b p vow (record l { core = y; services = None })
  hall_out l y k purpose reply good is opened state keeps = by (moves_out l.core.state k purpose)
    where
      answer : was_done (step l.core.state k (Service (Checkout purpose))).1.answer ≡ true
      answer = ap (λ (r : Reply). was_done r.answer) (sym is) ∙ good

      by : Moves l.core.state k (Checkout purpose) None (Some k) → Keeps moment left_since may_leave faults b p vow (record l { core = y; services = None })
      by (WasRefused r told same) = absurd (never_done _ r answer told)
      by (WasDone good_now was now) = record {
        opened = opened ∙ keeps.opened;
        first = ap (λ (s : Moment). s.manager) opened ∙ keeps.first;
        home = ap is_some (ap serving_of state ∙ now);
        rests = λ t none. absurd (none_some none);
        fit = λ t none. absurd (none_some none);
      }
        where
          none_some : {T : Type 0} {t : T} → None ≡ Some t → ⊥
          none_some {t = t} e = let e : None ≡ Some t = e in cc

  -- and where it was refused all is as it was
  pub hall_stays : (l : Hall D B P) (y : Session) (k : ℕ) (purpose : Purpose) (reply : Reply) → was_done reply.answer ≡ false → reply ≡ (step l.core.state k (Service (Checkout purpose))).1
      → y.opened ≡ l.core.opened → y.state ≡ (step l.core.state k (Service (Checkout purpose))).0 → y.history ≡ written l.core.history (entry_of l.core.state k (Service (Checkout purpose)))
      → Keeps moment left_since may_leave faults b p vow l → Keeps moment left_since may_leave faults b p vow (record l { core = y })
  hall_stays l y k purpose reply bad is opened state history keeps = by (moves_out l.core.state k purpose)
    where
      by : Moves l.core.state k (Checkout purpose) None (Some k) → Keeps moment left_since may_leave faults b p vow (record l { core = y })
      by (WasRefused r told same) = hall_on moment left_since may_leave faults b p vow l y (went_refused l.core y k (Checkout purpose) r told same opened state history) keeps
      by (WasDone good_now was now) = absurd (never_refused _ bad (ap (λ (r : Reply). was_done r.answer) is ∙ good_now))

-- what the services that were home fit
pub out_fits : {D B P : Type 0} (Fit : Trio D B P → Type 0) (Fit2 : Services D B P → Type 0) (o r : Option (Services D B P)) → r ≡ o → ForSome (option_map (λ s. trio_of s) o) Fit
    → ((s : Services D B P) → Fit (trio_of s) → Fit2 s) → IfSome r Fit2
out_fits Fit Fit2 None r is all so = subst (λ z. IfSome z Fit2) (sym is) tt
out_fits Fit Fit2 (Some s) r is all so = subst (λ z. IfSome z Fit2) (sym is) (so s (all (trio_of s) refl))

-- the save under way then
pub round_out : (x y : Session) (k : ℕ) (purpose : Purpose) (reply : Reply) → was_done reply.answer ≡ true → reply ≡ (step x.state k (Service (Checkout purpose))).1 → y.history ≡ written x.history (entry_of x.state k (Service (Checkout purpose)))
    → (rounds_of x.history).under ≡ None → (rounds_of y.history).under ≡ round_for purpose
round_out x y k purpose reply good is history none = by purpose refl
  where
    e : Entry
    e = entry_of x.state k (Service (Checkout purpose))

    done : was_done (step x.state k (Service (Checkout purpose))).1.answer ≡ true
    done = ap (λ (r : Reply). was_done r.answer) (sym is) ∙ good

    grew : y.history ≡ x.history ++ e ∷ []
    grew = history ∙ ap (λ b. if b then x.history else x.history ++ e ∷ []) (out_stands x.state k purpose done)

    by : (p : Purpose) → purpose ≡ p → (rounds_of y.history).under ≡ round_for purpose
    by (Build kind scope) so = ap (λ (r : Rounds). r.under) (rounds_on x.history y.history (e ∷ []) [] grew (steps_one e None (made_is e (Checkout purpose) refl done ∙ ap (λ p. step_asked (Checkout p)) so))) ∙ none ∙ ap round_for (sym so)
    by (Save kind) so = ap (λ (r : Rounds). r.under) (rounds_on x.history y.history (e ∷ []) (Begins kind ∷ []) grew (steps_one e (Some (Begins kind)) (made_is e (Checkout purpose) refl done ∙ ap (λ p. step_asked (Checkout p)) so))) ∙ ap round_for (sym so)

-- ---- the services come home

same_done : (s : Moment) (k : ℕ) (outcome : Outcomes) (r : Option Refusal) → refusal s k (Service (CheckIn outcome)) ≡ r → was_done (act s k (Service (CheckIn outcome))).1 ≡ true → (act s k (Service (CheckIn outcome))).1 ≡ answers.Done
same_done s k outcome None is good = ap (λ o. (acted o s k (Service (CheckIn outcome))).1) is
same_done s k outcome (Some r) is good = absurd (true≢false (sym good ∙ ap (λ o. was_done (acted o s k (Service (CheckIn outcome))).1) is))

-- what is done of a CheckIn is answered so
pub home_answer : (s : Moment) (k : ℕ) (outcome : Outcomes) → was_done (step s k (Service (CheckIn outcome))).1.answer ≡ true → (step s k (Service (CheckIn outcome))).1.answer ≡ answers.Done
home_answer s k outcome good = answered s k (CheckIn outcome) ∙ same_done s k outcome (refusal s k (Service (CheckIn outcome))) refl (sym (ap was_done (answered s k (CheckIn outcome))) ∙ good)

same_refused : (s : Moment) (k : ℕ) (outcome : Outcomes) (r : Option Refusal) → refusal s k (Service (CheckIn outcome)) ≡ r → was_done (act s k (Service (CheckIn outcome))).1 ≡ false
    → (act s k (Service (CheckIn outcome))).1 ≡ answers.Refused (refusals.NotServices (serving_of s))
same_refused s k outcome None is bad = absurd (true≢false (sym (ap (λ o. was_done (acted o s k (Service (CheckIn outcome))).1) is) ∙ bad))
same_refused s k outcome (Some r) is bad = ap (λ o. (acted o s k (Service (CheckIn outcome))).1) is ∙ ap answers.Refused (by (serves s.manager.passes k && may_end s.desk.serving outcome) is)
  where
    by : (b : Bool) → first_cause (when (not b) (refusals.NotServices (serving_of s)) ∷ []) ≡ Some r → r ≡ refusals.NotServices (serving_of s)
    by true e = let e : None ≡ Some r = e in cc
    by false e = let e : Some (refusals.NotServices (serving_of s)) ≡ Some r = e in cc

-- and what is refused tells who has them
pub home_refused : (s : Moment) (k : ℕ) (outcome : Outcomes) → was_done (step s k (Service (CheckIn outcome))).1.answer ≡ false → (step s k (Service (CheckIn outcome))).1.answer ≡ answers.Refused (refusals.NotServices (serving_of s))
home_refused s k outcome bad = answered s k (CheckIn outcome) ∙ same_refused s k outcome (refusal s k (Service (CheckIn outcome))) refl (sym (ap was_done (answered s k (CheckIn outcome))) ∙ bad)

-- a CheckIn is no attempt
pub home_stands : (s : Moment) (k : ℕ) (outcome : Outcomes) → only_tried (entry_of s k (Service (CheckIn outcome))) ≡ false
home_stands s k outcome = by (was_done (step s k (Service (CheckIn outcome))).1.answer) refl
  where
    by : (b : Bool) → was_done (step s k (Service (CheckIn outcome))).1.answer ≡ b → only_tried (entry_of s k (Service (CheckIn outcome))) ≡ false
    by true is = ap (λ a. is_attempt (Service (CheckIn outcome)) a) (home_answer s k outcome is)
    by false is = ap (λ a. is_attempt (Service (CheckIn outcome)) a) (home_refused s k outcome is)

pub home_written : (s : Moment) (k : ℕ) (outcome : Outcomes) (h now : List Entry) → now ≡ written h (entry_of s k (Service (CheckIn outcome))) → now ≡ h ++ entry_of s k (Service (CheckIn outcome)) ∷ []
home_written s k outcome h now is = is ∙ ap (λ b. if b then h else h ++ entry_of s k (Service (CheckIn outcome)) ∷ []) (home_stands s k outcome)

module _ {D B P : Type 0} (moment : D → ℕ) (left_since : D → ℕ → Contents → Type 0) (may_leave : D → Contents → Type 0) (faults : D → ℕ) (b : B → BuilderTold) (p : P → PartTold)
    (vow : Opened → List BuilderTold → List Served → Type 0) where
  -- where a CheckIn was done the services are home, and fit
  pub hall_home : (l : Hall D B P) (y : Session) (k : ℕ) (outcome : Outcomes) (t : Trio D B P) → was_done (step l.core.state k (Service (CheckIn outcome))).1.answer ≡ true
      → y.opened ≡ l.core.opened → y.state ≡ (step l.core.state k (Service (CheckIn outcome))).0 → y.history ≡ written l.core.history (entry_of l.core.state k (Service (CheckIn outcome)))
      → (serving_of l.core.state ≡ Some k → ComesHome (λ h. Fits moment left_since may_leave faults vow (opened_by b p l.opening) l.opening.keeper.value h (told_by b p t)) k outcome l.core.history)
      → Keeps moment left_since may_leave faults b p vow l → Keeps moment left_since may_leave faults b p vow (record { core = y; services = Some t; opening = l.opening })
  hall_home l y k outcome t good opened state history fits keeps = by (moves_home l.core.state k outcome)
    where
      grew : y.history ≡ l.core.history ++ entry_of l.core.state k (Service (CheckIn outcome)) ∷ []
      grew = home_written l.core.state k outcome l.core.history y.history history

      same : {T : Type 0} {u v : T} → Some u ≡ Some v → u ≡ v
      same {u = u} {v = v} e = let e : Some u ≡ Some v = e in cc

      by : Moves l.core.state k (CheckIn outcome) (Some k) None → Keeps moment left_since may_leave faults b p vow (record { core = y; services = Some t; opening = l.opening })
      by (WasRefused r told still) = absurd (never_done _ r good told)
      by (WasDone good_now was now) =
          let comes = fits was (step l.core.state k (Service (CheckIn outcome))).1 (home_answer l.core.state k outcome good) in
          record {
            opened = opened ∙ keeps.opened;
            first = ap (λ (s : Moment). s.manager) opened ∙ keeps.first;
            home = ap is_some (ap serving_of state ∙ now);
            rests = λ u is. ap (λ h. (rounds_of h).under) grew ∙ comes.1;
            fit = λ u is. subst (λ z. Fits moment left_since may_leave faults vow (opened_by b p l.opening) l.opening.keeper.value y.history (told_by b p z)) (same is)
                (subst (λ h. Fits moment left_since may_leave faults vow (opened_by b p l.opening) l.opening.keeper.value h (told_by b p t)) (sym grew) comes.0);
          }

  -- where it was refused all is as it was
  pub hall_refused : (l : Hall D B P) (y : Session) (k : ℕ) (outcome : Outcomes) → was_done (step l.core.state k (Service (CheckIn outcome))).1.answer ≡ false
      → y.opened ≡ l.core.opened → y.state ≡ (step l.core.state k (Service (CheckIn outcome))).0 → y.history ≡ written l.core.history (entry_of l.core.state k (Service (CheckIn outcome)))
      → Keeps moment left_since may_leave faults b p vow l → Keeps moment left_since may_leave faults b p vow (record l { core = y })
  hall_refused l y k outcome bad opened state history keeps = by (moves_home l.core.state k outcome)
    where
      by : Moves l.core.state k (CheckIn outcome) (Some k) None → Keeps moment left_since may_leave faults b p vow (record l { core = y })
      by (WasRefused r told still) = hall_on moment left_since may_leave faults b p vow l y (went_refused l.core y k (CheckIn outcome) r told still opened state history) keeps
      by (WasDone good_now was now) = absurd (never_refused _ bad good_now)
