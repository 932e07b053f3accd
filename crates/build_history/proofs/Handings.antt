-- What was handed last, over histories and over their entries as builds read them.
use Rattle.std.proofs.Common.{◌≡◌, ℕ, ◌+◌, false, List, [], ◌∷◌, ◌++◌, map, Option, Some, None, refl, sym, ap, ◌∙◌, subst, arith}
use Rattle.std.specs.Prelude.{IfSome}
use Rattle.std.specs.List.{AllByRecursion}
use Rattle.std.specs.Option.{IsSomeAnd, option_map, option_or, option_to_list}
use Rattle.builder_api.specs.declared.edits.Edits.{Edits}
use Rattle.builder_api.specs.declared.kind.BuildKind.{BuildKind}
use Rattle.builder_api.specs.declared.outcome.BuildOutcome.{BuildOutcome}
use Rattle.builder_api.specs.declared.outcome.BuildOutcome.TheVariants as outcome
use Rattle.builder_api.specs.Meanings.{Meanings}
use Rattle.builder_api.specs.Told.{Told}
use Rattle.build_laws.specs.States.{Descs}
use Rattle.build_plan.specs.Descriptions.{desc_at}
use Rattle.build_run.specs.declared.answers.Given.TheVariants as given
use Rattle.build_run.specs.declared.answers.Started.{Started}
use Rattle.build_run.specs.declared.answers.Taken.TheVariants as taken
use Rattle.build_run.specs.Books as books
use Rattle.build_run.specs.Books.{Deed, Begin, Batch, Checkout, Commit, CleanUp, CheckIn, EndBatch, End, at}
use Rattle.core_event.specs.declared.entry.Entry.{Entry}
use Rattle.core_event.specs.declared.event.Event.{Event}
use Rattle.core_event.specs.declared.event.Event.TheVariants as events
use Rattle.core_event.specs.declared.reply.Answer.{Answer}
use Rattle.core_event.specs.declared.reply.Answer.TheVariants as answers
use Rattle.core_event.specs.declared.service.Outcomes.TheVariants as outcomes
use Rattle.core_event.specs.declared.service.Purpose.TheVariants as purposes
use Rattle.core_event.specs.declared.service.ServiceEvent.{ServiceEvent}
use Rattle.core_event.specs.declared.service.ServiceEvent.TheVariants as services
use Rattle.core_event.specs.Events.{service_of}
use Rattle.ws_core.specs.States.{Moment}
use Rattle.ws_core.specs.Histories.{after, replay}
use Rattle.build_core.specs.States.{state_of}
use Rattle.build_core.specs.Histories.{deed_of, entries_of, service_deed, started_of}
use Rattle.build_history.specs.Calls.{command_at}
use Rattle.build_history.specs.Events.{IsOwn, NoBuilds, is_of_build}
use Rattle.build_history.specs.Handings.{AnswersHandings, AreRight, AreTold, Handing, HaveRisen, IsOf, IsRight, committed_by, failed_by, failure, failures, handed_by, handed_with, handing_of}
use Rattle.build_history.proofs.Calls.{own_entry}
use Rattle.build_history.proofs.Counts.{risen_none, risen_on}
use Rattle.build_history.proofs.Others.{otherwise}

-- ---- numbers

none_more : (a b : ℕ) → a ≡ 0 → b ≡ 0 → a + b ≡ 0
none_more a b h g = omega (arith, h, g)

some_more : (a b c d : ℕ) → b ≡ c + d → a + b ≡ (a + c) + d
some_more a b c d h = omega (arith, h)

-- ---- histories

-- what was handed last after a history
abbrev pub last_handed : Option Handing → Moment → List Entry → Option Handing
last_handed last s [] = last
last_handed last s (x ∷ h) = last_handed (handed_with last s x) (after s x) h

right_append : (ms : Meanings) (last : Option Handing) (s : Moment) (g h : List Entry) → AreRight ms last s g → AreRight ms (last_handed last s g) (replay s g) h → AreRight ms last s (g ++ h)
right_append ms last s [] h p q = q
right_append ms last s (x ∷ g) h p q = (p.0, right_append ms (handed_with last s x) (after s x) g h p.1 q)

told_append : (last : Option Handing) (s : Moment) (g h : List Entry) → AreTold last s g → AreTold (last_handed last s g) (replay s g) h → AreTold last s (g ++ h)
told_append last s [] h p q = q
told_append last s (x ∷ g) h p q = (p.0, told_append (handed_with last s x) (after s x) g h p.1 q)

failures_append : (name : List ℕ) (last : Option Handing) (s : Moment) (g h : List Entry) → failures name last s (g ++ h) ≡ failures name last s g + failures name (last_handed last s g) (replay s g) h
failures_append name last s [] h = none_before (failures name last s h)
  where
    none_before : (a : ℕ) → a ≡ 0 + a
    none_before a = omega arith
failures_append name last s (x ∷ g) h = some_more (failure name (failed_by x.event) last) (failures name (handed_with last s x) (after s x) (g ++ h)) (failures name (handed_with last s x) (after s x) g)
    (failures name (last_handed (handed_with last s x) (after s x) g) (replay (after s x) g) h) (failures_append name (handed_with last s x) (after s x) g h)

-- of a history in two parts
pub answers_on : (ms : Meanings) (last : Option Handing) (s t : Moment) (g h : List Entry) (a b c : List Told) → t ≡ replay s g → map (λ x. x.named) b ≡ map (λ x. x.named) a
    → AnswersHandings ms last s g a b → ((l : Option Handing) → AnswersHandings ms l t h b c) → AnswersHandings ms last s (g ++ h) a c
answers_on ms last s t g h a b c placed same p q =
    let then : AnswersHandings ms (last_handed last s g) (replay s g) h b c = subst (λ u. AnswersHandings ms (last_handed last s g) u h b c) placed (q (last_handed last s g)) in record {
      right = right_append ms last s g h p.right then.right;
      told = told_append last s g h p.told then.told;
      risen = λ name. subst (λ n. HaveRisen name n a c) (sym (failures_append name last s g h))
          (risen_on name (failures name last s g) (failures name (last_handed last s g) (replay s g) h) a b c same (p.risen name) (then.risen name));
    }

-- an event that doesn't concern the services commits nothing and tells nothing
record IsNothing (e : Event) (a : Answer) : Type 0 where
  committed : committed_by e a ≡ None
  failed : failed_by e ≡ None

plain_nothing : (e : Event) (a : Answer) → service_of e ≡ None → IsNothing e a
plain_nothing events.Enter a none = record { committed = refl; failed = refl }
plain_nothing events.Leave a none = record { committed = refl; failed = refl }
plain_nothing (events.Schedule name priority rule asleep) a none = record { committed = refl; failed = refl }
plain_nothing (events.Sleep name) a none = record { committed = refl; failed = refl }
plain_nothing (events.Wake name) a none = record { committed = refl; failed = refl }
plain_nothing (events.Cancel name) a none = record { committed = refl; failed = refl }
plain_nothing events.Take a none = record { committed = refl; failed = refl }
plain_nothing events.Finish a none = record { committed = refl; failed = refl }
plain_nothing (events.Begin rule) a none = record { committed = refl; failed = refl }
plain_nothing (events.TryBegin rule) a none = record { committed = refl; failed = refl }
plain_nothing (events.End rule) a none = record { committed = refl; failed = refl }
plain_nothing (events.Transfer to) a none = record { committed = refl; failed = refl }
plain_nothing events.Batch a none = record { committed = refl; failed = refl }
plain_nothing events.EndBatch a none = record { committed = refl; failed = refl }
plain_nothing events.Checkpoint a none = record { committed = refl; failed = refl }
plain_nothing (events.Operation op) a none = record { committed = refl; failed = refl }
plain_nothing (events.Service x) a none = absurd (let is : Some x ≡ None = none in cc)

-- nor does one that asks nothing of them for a build
other_nothing : (e : Event) (a : Answer) → is_of_build e ≡ false → IsNothing e a
other_nothing e a other = otherwise (λ v. IsNothing v a) (λ v none. plain_nothing v a none)
    (λ kind. record { committed = refl; failed = refl }) (λ answer. record { committed = refl; failed = refl }) (λ states. record { committed = refl; failed = refl }) e other

plain_right : (ms : Meanings) (last : Option Handing) (s : Moment) (h : List Entry) → NoBuilds h → AreRight ms last s h
plain_right ms last s [] none = tt
plain_right ms last s (x ∷ h) none = (
  subst (λ o. IfSome o (λ edits. IsSomeAnd last (IsRight ms (state_of s) edits))) (sym (other_nothing x.event x.reply.answer none.0).committed) tt,
  plain_right ms (handed_with last s x) (after s x) h none.1,
)

plain_told : (last : Option Handing) (s : Moment) (h : List Entry) → NoBuilds h → AreTold last s h
plain_told last s [] none = tt
plain_told last s (x ∷ h) none = (
  subst (λ o. IfSome o (λ at. IsSomeAnd last (IsOf at))) (sym (other_nothing x.event x.reply.answer none.0).failed) tt,
  plain_told (handed_with last s x) (after s x) h none.1,
)

plain_failures : (name : List ℕ) (last : Option Handing) (s : Moment) (h : List Entry) → NoBuilds h → failures name last s h ≡ 0
plain_failures name last s [] none = refl
plain_failures name last s (x ∷ h) none = none_more (failure name (failed_by x.event) last) (failures name (handed_with last s x) (after s x) h)
    (ap (λ o. failure name o last) (other_nothing x.event x.reply.answer none.0).failed) (plain_failures name (handed_with last s x) (after s x) h none.1)

-- nor does a history of such events
pub plain_answers : (ms : Meanings) (last : Option Handing) (s : Moment) (h : List Entry) (told : List Told) → NoBuilds h → AnswersHandings ms last s h told told
plain_answers ms last s h told none = record {
  right = plain_right ms last s h none;
  told = plain_told last s h none;
  risen = λ name. subst (λ n. HaveRisen name n told told) (sym (plain_failures name last s h none)) (risen_none name told);
}

-- ---- entries, as builds read them

abbrev pub deed_hands : Descs → Deed → Option Handing
deed_hands descs (books.Handing project index kind (given.Due h)) = option_map (handing_of project index h) (command_at descs project index)
deed_hands descs (books.Handing project index kind (given.Refused n)) = None
deed_hands descs (Begin x) = None
deed_hands descs Batch = None
deed_hands descs (Checkout kind scope x) = None
deed_hands descs (Commit e x) = None
deed_hands descs (CleanUp project index x) = None
deed_hands descs (CheckIn o) = None
deed_hands descs EndBatch = None
deed_hands descs End = None

abbrev pub deed_edits : Deed → Option Edits
deed_edits (Commit e (taken.Committed touched problems)) = Some e
deed_edits (Commit e (taken.Refused n)) = None
deed_edits (Begin x) = None
deed_edits Batch = None
deed_edits (Checkout kind scope x) = None
deed_edits (books.Handing project index kind x) = None
deed_edits (CleanUp project index x) = None
deed_edits (CheckIn o) = None
deed_edits EndBatch = None
deed_edits End = None

abbrev pub failed_in : BuildOutcome → Option (List ℕ × ℕ)
failed_in (outcome.BuilderFailed project index) = Some (project, index)
failed_in outcome.Settled = None
failed_in (outcome.Unsettled names) = None
failed_in (outcome.Refused n) = None
failed_in outcome.Cleaned = None
failed_in outcome.NoMemory = None

abbrev pub deed_fails : Deed → Option (List ℕ × ℕ)
deed_fails (CheckIn o) = failed_in o
deed_fails (Begin x) = None
deed_fails Batch = None
deed_fails (Checkout kind scope x) = None
deed_fails (books.Handing project index kind x) = None
deed_fails (Commit e x) = None
deed_fails (CleanUp project index x) = None
deed_fails EndBatch = None
deed_fails End = None

abbrev hands_in : Descs → Option Deed → Option Handing
hands_in descs None = None
hands_in descs (Some d) = deed_hands descs d

abbrev edits_in : Option Deed → Option Edits
edits_in None = None
edits_in (Some d) = deed_edits d

abbrev fails_in : Option Deed → Option (List ℕ × ℕ)
fails_in None = None
fails_in (Some d) = deed_fails d

-- an event with its answer is read as what it is
record IsRead (descs : Descs) (e : Event) (a : Answer) (o : Option Deed) : Type 0 where
  handed : handed_by descs e a ≡ hands_in descs o
  committed : committed_by e a ≡ edits_in o
  failed : failed_by e ≡ fails_in o

outcome_read : (descs : Descs) (o : BuildOutcome) (a : Answer) → IsRead descs (events.Service (services.CheckIn (outcomes.Build o))) a (Some (CheckIn o))
outcome_read descs outcome.Settled a = record { handed = refl; committed = refl; failed = refl }
outcome_read descs (outcome.Unsettled names) a = record { handed = refl; committed = refl; failed = refl }
outcome_read descs (outcome.BuilderFailed project index) a = record { handed = refl; committed = refl; failed = refl }
outcome_read descs (outcome.Refused n) a = record { handed = refl; committed = refl; failed = refl }
outcome_read descs outcome.Cleaned a = record { handed = refl; committed = refl; failed = refl }
outcome_read descs outcome.NoMemory a = record { handed = refl; committed = refl; failed = refl }

handing_read : (descs : Descs) (project : List ℕ) (index : ℕ) (kind : BuildKind) (a : Answer)
    → IsRead descs (events.Service (services.Handed project index kind)) a (service_deed (services.Handed project index kind) a)
handing_read descs project index kind answers.Done = record { handed = refl; committed = refl; failed = refl }
handing_read descs project index kind (answers.Id id) = record { handed = refl; committed = refl; failed = refl }
handing_read descs project index kind (answers.Count count) = record { handed = refl; committed = refl; failed = refl }
handing_read descs project index kind answers.None = record { handed = refl; committed = refl; failed = refl }
handing_read descs project index kind (answers.Job name) = record { handed = refl; committed = refl; failed = refl }
handing_read descs project index kind (answers.Seen seen) = record { handed = refl; committed = refl; failed = refl }
handing_read descs project index kind (answers.Plan plan) = record { handed = refl; committed = refl; failed = refl }
handing_read descs project index kind (answers.Handed handed) = record { handed = refl; committed = refl; failed = refl }
handing_read descs project index kind (answers.Committed touched problems) = record { handed = refl; committed = refl; failed = refl }
handing_read descs project index kind (answers.Refused refusal) = record { handed = refl; committed = refl; failed = refl }

commit_read : (descs : Descs) (edits : Edits) (a : Answer) → IsRead descs (events.Service (services.Commit edits)) a (service_deed (services.Commit edits) a)
commit_read descs edits answers.Done = record { handed = refl; committed = refl; failed = refl }
commit_read descs edits (answers.Id id) = record { handed = refl; committed = refl; failed = refl }
commit_read descs edits (answers.Count count) = record { handed = refl; committed = refl; failed = refl }
commit_read descs edits answers.None = record { handed = refl; committed = refl; failed = refl }
commit_read descs edits (answers.Job name) = record { handed = refl; committed = refl; failed = refl }
commit_read descs edits (answers.Seen seen) = record { handed = refl; committed = refl; failed = refl }
commit_read descs edits (answers.Plan plan) = record { handed = refl; committed = refl; failed = refl }
commit_read descs edits (answers.Handed handed) = record { handed = refl; committed = refl; failed = refl }
commit_read descs edits (answers.Committed touched problems) = record { handed = refl; committed = refl; failed = refl }
commit_read descs edits (answers.Refused refusal) = record { handed = refl; committed = refl; failed = refl }

service_read : (descs : Descs) (x : ServiceEvent) (a : Answer) → IsRead descs (events.Service x) a (service_deed x a)
service_read descs (services.Checkout (purposes.Build kind scope)) a = by (started_of a)
  where
    by : (o : Option Started) → IsRead descs (events.Service (services.Checkout (purposes.Build kind scope))) a (option_map (λ z. Checkout kind scope z) o)
    by None = record { handed = refl; committed = refl; failed = refl }
    by (Some z) = record { handed = refl; committed = refl; failed = refl }
service_read descs (services.Checkout (purposes.Save kind)) a = record { handed = refl; committed = refl; failed = refl }
service_read descs (services.CheckIn (outcomes.Build outcome)) a = outcome_read descs outcome a
service_read descs (services.CheckIn (outcomes.Save answer)) a = record { handed = refl; committed = refl; failed = refl }
service_read descs (services.Saving states) a = record { handed = refl; committed = refl; failed = refl }
service_read descs (services.Handed project index kind) a = handing_read descs project index kind a
service_read descs (services.Commit edits) a = commit_read descs edits a
service_read descs (services.Clean project index) a = record { handed = refl; committed = refl; failed = refl }

event_read : (descs : Descs) (e : Event) (a : Answer) → IsRead descs e a (deed_of e a)
event_read descs events.Enter a = record { handed = refl; committed = refl; failed = refl }
event_read descs events.Leave a = record { handed = refl; committed = refl; failed = refl }
event_read descs (events.Schedule name priority rule asleep) a = record { handed = refl; committed = refl; failed = refl }
event_read descs (events.Sleep name) a = record { handed = refl; committed = refl; failed = refl }
event_read descs (events.Wake name) a = record { handed = refl; committed = refl; failed = refl }
event_read descs (events.Cancel name) a = record { handed = refl; committed = refl; failed = refl }
event_read descs events.Take a = record { handed = refl; committed = refl; failed = refl }
event_read descs events.Finish a = record { handed = refl; committed = refl; failed = refl }
event_read descs (events.Begin rule) a = record { handed = refl; committed = refl; failed = refl }
event_read descs (events.TryBegin rule) a = record { handed = refl; committed = refl; failed = refl }
event_read descs (events.End rule) a = record { handed = refl; committed = refl; failed = refl }
event_read descs (events.Transfer to) a = record { handed = refl; committed = refl; failed = refl }
event_read descs events.Batch a = record { handed = refl; committed = refl; failed = refl }
event_read descs events.EndBatch a = record { handed = refl; committed = refl; failed = refl }
event_read descs events.Checkpoint a = record { handed = refl; committed = refl; failed = refl }
event_read descs (events.Operation op) a = record { handed = refl; committed = refl; failed = refl }
event_read descs (events.Service x) a = service_read descs x a

-- ---- along entries

abbrev pub hands_with : Option Handing → books.Entry → Option Handing
hands_with last x = option_or (deed_hands x.before.descs x.deed) last

abbrev pub last_of : Option Handing → List books.Entry → Option Handing
last_of last [] = last
last_of last (x ∷ es) = last_of (hands_with last x) es

-- an entry commits what is right for what was handed last, and tells of the command that was handed it
pub record IsGood (ms : Meanings) (last : Option Handing) (x : books.Entry) : Type 0 where
  pub right : IfSome (deed_edits x.deed) (λ edits. IsSomeAnd last (IsRight ms x.before edits))
  pub told : IfSome (deed_fails x.deed) (λ at. IsSomeAnd last (IsOf at))

abbrev pub AreGood : Meanings → Option Handing → List books.Entry → Type 0
AreGood ms last [] = Unit {0}
AreGood ms last (x ∷ es) = IsGood ms last x × AreGood ms (hands_with last x) es

abbrev pub failures_of : List ℕ → Option Handing → List books.Entry → ℕ
failures_of name last [] = 0
failures_of name last (x ∷ es) = failure name (deed_fails x.deed) last + failures_of name (hands_with last x) es

pub last_append : (last : Option Handing) (es fs : List books.Entry) → last_of last (es ++ fs) ≡ last_of (last_of last es) fs
last_append last [] fs = refl
last_append last (x ∷ es) fs = last_append (hands_with last x) es fs

pub good_append : (ms : Meanings) (last : Option Handing) (es fs : List books.Entry) → AreGood ms last es → AreGood ms (last_of last es) fs → AreGood ms last (es ++ fs)
good_append ms last [] fs p q = q
good_append ms last (x ∷ es) fs p q = (p.0, good_append ms (hands_with last x) es fs p.1 q)

-- where none of the first tells of a builder that failed, the others tell all
pub failures_after : (name : List ℕ) (last : Option Handing) (es fs : List books.Entry) → AllByRecursion (λ (x : books.Entry). deed_fails x.deed ≡ None) es
    → failures_of name last (es ++ fs) ≡ failures_of name (last_of last es) fs
failures_after name last [] fs none = refl
failures_after name last (x ∷ es) fs none =
    sum (failure name (deed_fails x.deed) last) (failures_of name (hands_with last x) (es ++ fs)) (failures_of name (last_of (hands_with last x) es) fs)
    (ap (λ o. failure name o last) none.0) (failures_after name (hands_with last x) es fs none.1)
  where
    sum : (a b c : ℕ) → a ≡ 0 → b ≡ c → a + b ≡ c
    sum a b c h g = omega (arith, h, g)

pub no_failures : (name : List ℕ) (last : Option Handing) (es : List books.Entry) → AllByRecursion (λ (x : books.Entry). deed_fails x.deed ≡ None) es → failures_of name last es ≡ 0
no_failures name last [] none = refl
no_failures name last (x ∷ es) none = none_more (failure name (deed_fails x.deed) last) (failures_of name (hands_with last x) es) (ap (λ o. failure name o last) none.0) (no_failures name (hands_with last x) es none.1)

-- ---- histories, as builds read them

record OneGood (ms : Meanings) (last : Option Handing) (s : Moment) (x : Entry) (es : List books.Entry) : Type 0 where
  right : IfSome (committed_by x.event x.reply.answer) (λ edits. IsSomeAnd last (IsRight ms (state_of s) edits))
  told : IfSome (failed_by x.event) (λ at. IsSomeAnd last (IsOf at))
  rest : AreGood ms (handed_with last s x) es

one_good : (ms : Meanings) (last : Option Handing) (s : Moment) (x : Entry) (es : List books.Entry) (o : Option Deed) → IsRead (desc_at s.resources.tree) x.event x.reply.answer o
    → AreGood ms last (option_to_list (option_map (at (state_of s)) o) ++ es) → OneGood ms last s x es
one_good ms last s x es None read h = record {
  right = subst (λ e. IfSome e (λ edits. IsSomeAnd last (IsRight ms (state_of s) edits))) (sym read.committed) tt;
  told = subst (λ f. IfSome f (λ at. IsSomeAnd last (IsOf at))) (sym read.failed) tt;
  rest = subst (λ g. AreGood ms (option_or g last) es) (sym read.handed) h;
}
one_good ms last s x es (Some d) read h = record {
  right = subst (λ e. IfSome e (λ edits. IsSomeAnd last (IsRight ms (state_of s) edits))) (sym read.committed) h.0.right;
  told = subst (λ f. IfSome f (λ at. IsSomeAnd last (IsOf at))) (sym read.failed) h.0.told;
  rest = subst (λ g. AreGood ms (option_or g last) es) (sym read.handed) h.1;
}

one_failure : (name : List ℕ) (last : Option Handing) (s : Moment) (x : Entry) (es : List books.Entry) (n : ℕ) (o : Option Deed) → IsRead (desc_at s.resources.tree) x.event x.reply.answer o
    → n ≡ failures_of name (handed_with last s x) es → failure name (failed_by x.event) last + n ≡ failures_of name last (option_to_list (option_map (at (state_of s)) o) ++ es)
one_failure name last s x es n None read h =
    sum (failure name (failed_by x.event) last) n (failures_of name last es) (ap (λ f. failure name f last) read.failed) (h ∙ ap (λ g. failures_of name (option_or g last) es) read.handed)
  where
    sum : (a b c : ℕ) → a ≡ 0 → b ≡ c → a + b ≡ c
    sum a b c h g = omega (arith, h, g)
one_failure name last s x es n (Some d) read h =
    (λ i. failure name (read.failed i) last + (h ∙ ap (λ g. failures_of name (option_or g last) es) read.handed) i)

-- what builds read of the entries of one pass holds of them
pub right_read : (ms : Meanings) (k : ℕ) (last : Option Handing) (s : Moment) (h : List Entry) → AllByRecursion (IsOwn k) h → AreGood ms last (entries_of k s h) → AreRight ms last s h
right_read ms k last s [] own are = tt
right_read ms k last s (x ∷ h) own are =
    let one = one_good ms last s x (entries_of k (after s x) h) (deed_of x.event x.reply.answer) (event_read (desc_at s.resources.tree) x.event x.reply.answer)
    (subst (λ z. AreGood ms last (z ++ entries_of k (after s x) h)) (own_entry k s x own.0.pass) are) in
    (one.right, right_read ms k (handed_with last s x) (after s x) h own.1 one.rest)

pub told_read : (ms : Meanings) (k : ℕ) (last : Option Handing) (s : Moment) (h : List Entry) → AllByRecursion (IsOwn k) h → AreGood ms last (entries_of k s h) → AreTold last s h
told_read ms k last s [] own are = tt
told_read ms k last s (x ∷ h) own are =
    let one = one_good ms last s x (entries_of k (after s x) h) (deed_of x.event x.reply.answer) (event_read (desc_at s.resources.tree) x.event x.reply.answer)
    (subst (λ z. AreGood ms last (z ++ entries_of k (after s x) h)) (own_entry k s x own.0.pass) are) in
    (one.told, told_read ms k (handed_with last s x) (after s x) h own.1 one.rest)

pub failures_read : (name : List ℕ) (k : ℕ) (last : Option Handing) (s : Moment) (h : List Entry) → AllByRecursion (IsOwn k) h → failures name last s h ≡ failures_of name last (entries_of k s h)
failures_read name k last s [] own = refl
failures_read name k last s (x ∷ h) own =
    one_failure name last s x (entries_of k (after s x) h) (failures name (handed_with last s x) (after s x) h) (deed_of x.event x.reply.answer) (event_read (desc_at s.resources.tree) x.event x.reply.answer)
    (failures_read name k (handed_with last s x) (after s x) h own.1)
    ∙ ap (λ z. failures_of name last (z ++ entries_of k (after s x) h)) (sym (own_entry k s x own.0.pass))
