-- The store of an open workspace, as its history goes on.
use Rattle.std.proofs.Common.{◌≡◌, ◌≤◌, ◌<◌, ℕ, ◌+◌, false, true≢false, List, [], ◌∷◌, ◌++◌, Option, Some, None, Result, Ok, Err, refl, sym, ap, ◌∙◌, subst, arith, append-nil}
use Rattle.std.specs.Option.{option_to_list}
use Rattle.ws_outside.specs.declared.contents.Contents.{Contents}
use Rattle.ws_durable.specs.Saved.{Saved, saved}
use Rattle.save_kind.specs.declared.answer.SaveAnswer.{SaveAnswer}
use Rattle.save_kind.specs.declared.answer.SaveAnswer.TheVariants as answer
use Rattle.save_kind.specs.declared.kind.SaveKind.{SaveKind}
use Rattle.save_kind.specs.declared.state.PartState.{PartState}
use Rattle.save_store.specs.declared.saves.Saves.{Saves}
use Rattle.save_store.specs.Stored.{IsStored}
use Rattle.save_run.specs.declared.host.WriteFault.{WriteFault}
use Rattle.save_run.specs.declared.host.WriteFault.TheVariants as fault
use Rattle.save_run.specs.Books.{EndsUnkept, outcome_of}
use Rattle.core_event.specs.declared.entry.Entry.{Entry}
use Rattle.ws_core.specs.States.{Moment}
use Rattle.ws_core.specs.Histories.{after, replay}
use Rattle.ws_core.specs.Sessions.{Session}
use Rattle.ws_core.specs.Durables.{durable_of}
use Rattle.save_history.specs.Steps.{SaveStep, Begins, Keeps, Ends, NoSaves, failure, failure_in, failures, step_of, steps_of}
use Rattle.save_history.specs.Points.{Points, IsAsked, first_points, points_from, points_of, with_ended, with_step}
use Rattle.save_history.specs.Causes.{MayEndSo}
use Rattle.save_history.specs.Kept.{Keeper, HasNumberLeft, HasRisenBy, IsKept, IsSafe, IsTried, disk_of, first_disk, points_at}
use Rattle.save_history.proofs.Walks.{failures_append, no_points, no_steps, points_append, steps_append}
use Rattle.save_history.proofs.Backed.{risen_first, safe_acknowledged, safe_begun, safe_ended, safe_first}

module _ {D : Type 0} (k : Keeper D) (x y : Session) (opened : y.opened ≡ x.opened) where
  -- the points of a history that went on
  points_on : (l : List Entry) → y.history ≡ x.history ++ l → points_at y k ≡ points_from (points_at x k) (replay x.opened x.history) l
  points_on l grew = (λ i. points_of (saved k.began.last) (opened i) (grew i)) ∙ points_append (first_points (saved k.began.last)) x.opened x.history l

  -- and of one that went on by one entry, which made this step and left this state
  points_step : (e : Entry) (o : Option SaveStep) (t : Moment) → y.history ≡ x.history ++ e ∷ [] → x.state ≡ replay x.opened x.history → t ≡ after x.state e → step_of e.event e.reply.answer ≡ o
      → points_at y k ≡ with_step (durable_of t) o (points_at x k)
  points_step e o t grew placed is made =
      points_on (e ∷ []) grew
      ∙ ap (λ s. with_step (durable_of (after s e)) (step_of e.event e.reply.answer) (points_at x k)) (sym placed)
      ∙ (λ i. with_step (durable_of (sym is i)) (made i) (points_at x k))

-- the steps of a history that went on by one entry
steps_on : (h h' : List Entry) (e : Entry) (o : Option SaveStep) → h' ≡ h ++ e ∷ [] → step_of e.event e.reply.answer ≡ o → steps_of h' ≡ steps_of h ++ option_to_list o
steps_on h h' e o grew made = ap steps_of grew ∙ steps_append h (e ∷ []) ∙ (λ i. steps_of h ++ (option_to_list (made i) ++ []))
    ∙ ap (λ xs. steps_of h ++ xs) (by o)
  where
    by : (o : Option SaveStep) → option_to_list o ++ [] ≡ option_to_list o
    by None = refl
    by (Some step) = refl

-- how many failed
failures_none : (h h' : List Entry) → steps_of h' ≡ steps_of h ++ [] → failures (steps_of h') ≡ failures (steps_of h)
failures_none h h' is = let more = failures_append (steps_of h) [] in let all = ap failures is in omega (arith, more, all)

-- where it makes no step now, it made none before
none_before : (h h' : List Entry) → steps_of h' ≡ steps_of h ++ [] → steps_of h' ≡ [] → steps_of h ≡ []
none_before h h' is none = sym (append-nil (steps_of h)) ∙ sym is ∙ none

-- and with a step it makes some
some_made : {A : Type 0} (steps : List SaveStep) (step : SaveStep) → steps ++ step ∷ [] ≡ [] → A
some_made [] step is = let no : step ∷ [] ≡ [] = is in cc
some_made (first ∷ steps) step is = let no : first ∷ (steps ++ step ∷ []) ≡ [] = is in cc

failures_step : (h h' : List Entry) (step : SaveStep) → steps_of h' ≡ steps_of h ++ step ∷ [] → failures (steps_of h') ≡ failures (steps_of h) + failure_in step
failures_step h h' step is = let more = failures_append (steps_of h) (step ∷ []) in let all = ap failures is in omega (arith, more, all)

-- ---- save numbers

-- a number for the save that was begun
one_left : (n m a : ℕ) → n ≤ m + a → n < m + (a + 1)
one_left n m a le = omega (arith, le)

-- none is left for a save that ended
none_left : {D : Type 0} (k : Keeper D) (d : Saved) (o : SaveAnswer) (p : Points) → HasNumberLeft (with_step d (Some (Ends o)) p) k
none_left k d answer.Saved p due = absurd (true≢false (sym due))
none_left k d answer.SaveFailed p due = absurd (true≢false (sym due))
none_left k d (answer.ParticipantFailed name) p due = absurd (true≢false (sym due))
none_left k d answer.SaveTooLarge p due = absurd (true≢false (sym due))
none_left k d answer.SaveNumbers p due = absurd (true≢false (sym due))
none_left k d answer.NoMemory p due = absurd (true≢false (sym due))

-- ---- causes

-- a save in which nothing was kept may end so
pub unkept_may : (o : SaveAnswer) (p : Points) (top : ℕ) → EndsUnkept o → MayEndSo o p top
unkept_may answer.Saved p top unkept = absurd unkept
unkept_may answer.SaveFailed p top unkept = absurd unkept
unkept_may (answer.ParticipantFailed name) p top unkept = tt
unkept_may answer.SaveTooLarge p top unkept = absurd unkept
unkept_may answer.SaveNumbers p top unkept = absurd unkept
unkept_may answer.NoMemory p top unkept = tt

-- what it may end so for is there behind its end
pub may_on : (d : Saved) (o : SaveAnswer) (p : Points) (top : ℕ) → MayEndSo o p top → MayEndSo o (with_step d (Some (Ends o)) p) top
may_on d answer.Saved p top may = tt
may_on d answer.SaveFailed p top may = tt
may_on d (answer.ParticipantFailed name) p top may = tt
may_on d answer.SaveTooLarge p top may = may
may_on d answer.SaveNumbers p top may = may
may_on d answer.NoMemory p top may = tt

module _ {D : Type 0} (moment : D → ℕ) (left_since : D → ℕ → Contents → Type 0) (may_leave : D → Contents → Type 0) (faults : D → ℕ) where
  abbrev Kept : Session → Keeper D → Type 0
  Kept x k = IsKept moment left_since may_leave faults x k

  abbrev Safe : Points → Keeper D → Type 0
  Safe p k = IsSafe moment left_since may_leave faults p k

  abbrev Tried : Result (Unit {0}) WriteFault → Session → Keeper D → Type 0
  Tried r x k = IsTried moment left_since may_leave faults r x k

  abbrev Counted : ℕ → Keeper D → Type 0
  Counted n k = HasRisenBy n (faults (first_disk k)) (faults (disk_of k))

  -- a store that was just opened, before anything was done
  pub kept_first : ((d : D) (c : Contents) → left_since d (moment d) c → may_leave d c) → (saves : Saves D) → IsStored may_leave [] saves → (x : Session) → x.history ≡ []
      → Kept x (record { began = saves; store = saves; failed = false })
  kept_first only_now saves stored x none = record {
    safe = subst (λ h. Safe (points_of (saved saves.last) x.opened h) (record { began = saves; store = saves; failed = false })) (sym none) (safe_first moment left_since may_leave faults only_now saves stored);
    number_left = subst (λ h. HasNumberLeft (points_of (saved saves.last) x.opened h) (record { began = saves; store = saves; failed = false })) (sym none) (λ due. absurd (true≢false (sym due)));
    counted = subst (λ h. HasRisenBy (failures (steps_of h)) (faults saves.areas.disk) (faults saves.areas.disk)) (sym none) (risen_first (faults saves.areas.disk));
    untouched = λ _. refl;
  }

  -- the history went on by entries that make no step
  pub kept_on : (k : Keeper D) (x y : Session) (l : List Entry) → y.opened ≡ x.opened → y.history ≡ x.history ++ l → NoSaves l → Kept x k → Kept y k
  kept_on k x y l opened grew none kept = record {
    safe = subst (λ p. Safe p k) (sym (points_on k x y opened l grew ∙ no_points (points_at x k) (replay x.opened x.history) l none)) kept.safe;
    number_left = subst (λ p. HasNumberLeft p k) (sym (points_on k x y opened l grew ∙ no_points (points_at x k) (replay x.opened x.history) l none)) kept.number_left;
    counted = subst (λ n. Counted n k) (sym (failures_none x.history y.history (ap steps_of grew ∙ steps_append x.history l ∙ ap (λ s. steps_of x.history ++ s) (no_steps l none)))) kept.counted;
    untouched = λ unmade. kept.untouched (none_before x.history y.history (ap steps_of grew ∙ steps_append x.history l ∙ ap (λ s. steps_of x.history ++ s) (no_steps l none)) unmade);
  }

  module _ (k : Keeper D) (x y : Session) (opened : y.opened ≡ x.opened) (placed : x.state ≡ replay x.opened x.history) (e : Entry) (grew : y.history ≡ x.history ++ e ∷ []) (is : y.state ≡ after x.state e) where
    points_by : (o : Option SaveStep) → step_of e.event e.reply.answer ≡ o → points_at y k ≡ with_step (durable_of y.state) o (points_at x k)
    points_by o made = points_step k x y opened e o y.state grew placed is made

    counted_by : (step : SaveStep) → step_of e.event e.reply.answer ≡ Some step → Counted (failures (steps_of x.history) + failure_in step) k → Counted (failures (steps_of y.history)) k
    counted_by step made counted = subst (λ n. Counted n k) (sym (failures_step x.history y.history step (steps_on x.history y.history e (Some step) grew made))) counted

    never_unmade : (step : SaveStep) → step_of e.event e.reply.answer ≡ Some step → steps_of y.history ≡ [] → k.store ≡ k.began
    never_unmade step made unmade = some_made (steps_of x.history) step (sym (steps_on x.history y.history e (Some step) grew made) ∙ unmade)

    plus_none : Counted (failures (steps_of x.history)) k → Counted (failures (steps_of x.history) + 0) k
    plus_none counted = subst (λ n. Counted n k) (omega arith) counted

    -- what a save may end so for is there behind the entry that ends it
    pub may_by : (o : SaveAnswer) → step_of e.event e.reply.answer ≡ Some (Ends o) → MayEndSo o (points_at x k) k.began.areas.top → MayEndSo o (points_at y k) k.began.areas.top
    may_by o made may = subst (λ p. MayEndSo o p k.began.areas.top) (sym (points_by (Some (Ends o)) made)) (may_on (durable_of y.state) o (points_at x k) k.began.areas.top may)

    -- by an entry that makes no step
    pub kept_none : step_of e.event e.reply.answer ≡ None → Kept x k → Kept y k
    kept_none made kept = record {
      safe = subst (λ p. Safe p k) (sym (points_by None made)) kept.safe;
      number_left = subst (λ p. HasNumberLeft p k) (sym (points_by None made)) kept.number_left;
      counted = subst (λ n. Counted n k) (sym (failures_none x.history y.history (steps_on x.history y.history e None grew made))) kept.counted;
      untouched = λ unmade. kept.untouched (none_before x.history y.history (steps_on x.history y.history e None grew made) unmade);
    }

    -- by one that begins a save
    pub kept_begins : (kind : SaveKind) → step_of e.event e.reply.answer ≡ Some (Begins kind) → Kept x k → Kept y k
    kept_begins kind made kept = record {
      safe = subst (λ p. Safe p k) (sym (points_by (Some (Begins kind)) made)) kept.safe;
      number_left = subst (λ p. HasNumberLeft p k) (sym (points_by (Some (Begins kind)) made)) kept.number_left;
      counted = counted_by (Begins kind) made (plus_none kept.counted);
      untouched = never_unmade (Begins kind) made;
    }

    -- by one that keeps states
    pub kept_keeps : (states : List (List ℕ × PartState)) → step_of e.event e.reply.answer ≡ Some (Keeps states) → Kept x k → Kept y k
    kept_keeps states made kept = record {
      safe = subst (λ p. Safe p k) (sym (points_by (Some (Keeps states)) made)) (safe_begun moment left_since may_leave faults (durable_of y.state) (points_at x k) k kept.safe);
      number_left = subst (λ p. HasNumberLeft p k) (sym (points_by (Some (Keeps states)) made))
          (λ due. one_left k.store.areas.top k.began.areas.top (points_at x k).count kept.safe.leaves.numbered);
      counted = counted_by (Keeps states) made (plus_none kept.counted);
      untouched = never_unmade (Keeps states) made;
    }

    pub asked_keeps : (states : List (List ℕ × PartState)) → step_of e.event e.reply.answer ≡ Some (Keeps states) → IsAsked (points_at y k) (durable_of y.state)
    asked_keeps states made = subst (λ p. IsAsked p (durable_of y.state)) (sym (points_by (Some (Keeps states)) made)) (record { due = refl; newest = refl; last = ((points_at x k).begun, refl) })

    -- by one that ends a save
    ends_by : (o : SaveAnswer) → step_of e.event e.reply.answer ≡ Some (Ends o) → Safe (with_step (durable_of y.state) (Some (Ends o)) (points_at x k)) k → Counted (failures (steps_of x.history) + failure o) k → Kept y k
    ends_by o made safe counted = record {
      safe = subst (λ p. Safe p k) (sym (points_by (Some (Ends o)) made)) safe;
      number_left = subst (λ p. HasNumberLeft p k) (sym (points_by (Some (Ends o)) made)) (none_left k (durable_of y.state) o (points_at x k));
      counted = counted_by (Ends o) made counted;
      untouched = never_unmade (Ends o) made;
    }

    -- that isn't acknowledged
    ends_still : (o : SaveAnswer) → with_step (durable_of y.state) (Some (Ends o)) (points_at x k) ≡ with_ended (points_at x k) → step_of e.event e.reply.answer ≡ Some (Ends o) → Safe (points_at x k) k
        → Counted (failures (steps_of x.history) + failure o) k → Kept y k
    ends_still o same made safe counted = ends_by o made (subst (λ p. Safe p k) (sym same) (safe_ended moment left_since may_leave faults (points_at x k) k safe)) counted

    -- in which nothing was written
    pub kept_idle : (o : SaveAnswer) → with_step (durable_of y.state) (Some (Ends o)) (points_at x k) ≡ with_ended (points_at x k) → failure o ≡ 0 → step_of e.event e.reply.answer ≡ Some (Ends o) → Kept x k → Kept y k
    kept_idle o same none made kept = ends_still o same made kept.safe (subst (λ n. Counted (failures (steps_of x.history) + n) k) (sym none) (plus_none kept.counted))

    -- in which nothing was kept
    pub kept_unkept : (o : SaveAnswer) → EndsUnkept o → step_of e.event e.reply.answer ≡ Some (Ends o) → Kept x k → Kept y k
    kept_unkept answer.Saved unkept made kept = absurd unkept
    kept_unkept answer.SaveFailed unkept made kept = absurd unkept
    kept_unkept (answer.ParticipantFailed name) unkept made kept = kept_idle (answer.ParticipantFailed name) refl refl made kept
    kept_unkept answer.SaveTooLarge unkept made kept = absurd unkept
    kept_unkept answer.SaveNumbers unkept made kept = absurd unkept
    kept_unkept answer.NoMemory unkept made kept = kept_idle answer.NoMemory refl refl made kept

    -- that was written with this result
    pub kept_tried : (r : Result (Unit {0}) WriteFault) → step_of e.event e.reply.answer ≡ Some (Ends (outcome_of r)) → Tried r x k → Kept y k
    kept_tried (Ok done) made tried = ends_by answer.Saved made (safe_acknowledged moment left_since may_leave faults (points_at x k) k tried.stands) tried.counted
    kept_tried (Err fault.Disk) made tried = ends_still answer.SaveFailed refl made tried.stands tried.counted
    kept_tried (Err fault.TooLarge) made tried = ends_still answer.SaveTooLarge refl made tried.stands tried.counted
    kept_tried (Err fault.NumbersUsed) made tried = ends_still answer.SaveNumbers refl made tried.stands tried.counted
    kept_tried (Err fault.Memory) made tried = ends_still answer.NoMemory refl made tried.stands tried.counted
