-- Builds that settled, over histories and over their entries as builds read them.
use Rattle.std.proofs.Common.{◌≡◌, ℕ, Bool, true, false, List, [], ◌∷◌, ◌++◌, Option, Some, None, refl, sym, ap, ◌∙◌, subst}
use Rattle.std.specs.List.{AllByRecursion}
use Rattle.std.specs.Option.{IsSomeAnd, option_map, option_or, option_to_list}
use Rattle.builder_api.specs.declared.kind.BuildKind.{BuildKind}
use Rattle.builder_api.specs.declared.outcome.BuildOutcome.{BuildOutcome}
use Rattle.builder_api.specs.declared.outcome.BuildOutcome.TheVariants as outcome
use Rattle.builder_api.specs.Meanings.{Meanings}
use Rattle.build_run.specs.declared.answers.Given.{Given}
use Rattle.build_run.specs.declared.answers.Started.TheVariants as started
use Rattle.build_run.specs.declared.answers.Taken.{Taken}
use Rattle.build_run.specs.Books as books
use Rattle.build_run.specs.Books.{Deed, Begin, Batch, Checkout, Handing, Commit, CleanUp, CheckIn, EndBatch, End, at}
use Rattle.core_event.specs.declared.entry.Entry.{Entry}
use Rattle.core_event.specs.declared.event.Event.{Event}
use Rattle.core_event.specs.declared.event.Event.TheVariants as events
use Rattle.core_event.specs.declared.reply.Answer.{Answer}
use Rattle.core_event.specs.declared.reply.Answer.TheVariants as answers
use Rattle.core_event.specs.declared.service.Outcomes.TheVariants as outcomes
use Rattle.core_event.specs.declared.service.Purpose.TheVariants as purposes
use Rattle.core_event.specs.declared.service.ServiceEvent.{ServiceEvent}
use Rattle.core_event.specs.declared.service.ServiceEvent.TheVariants as services
use Rattle.core_event.specs.Events.{service_of}
use Rattle.ws_core.specs.States.{Moment}
use Rattle.ws_core.specs.Histories.{after, replay}
use Rattle.build_core.specs.States.{state_of}
use Rattle.build_core.specs.Histories.{deed_of, entries_of, given_of, service_deed, taken_of}
use Rattle.build_history.specs.Events.{IsOwn, NoBuilds, is_of_build}
use Rattle.build_history.specs.Settled.{AllSettled, Build, IsSettled, begun_by, begun_with, is_builder, is_settling, last_begun}
use Rattle.build_history.proofs.Calls.{own_entry}
use Rattle.build_history.proofs.Names.{same_builders, step_names}
use Rattle.build_history.proofs.Others.{otherwise}

-- ---- histories

-- of a history in two parts
pub settled_append : (ms : Meanings) (last : Option Build) (s : Moment) (g h : List Entry) → AllSettled ms last s g → AllSettled ms (last_begun last g) (replay s g) h → AllSettled ms last s (g ++ h)
settled_append ms last s [] h p q = q
settled_append ms last s (x ∷ g) h p q = (p.0, settled_append ms (begun_with last x) (after s x) g h p.1 q)

pub last_append : (last : Option Build) (g h : List Entry) → last_begun last (g ++ h) ≡ last_begun (last_begun last g) h
last_append last [] h = refl
last_append last (x ∷ g) h = last_append (begun_with last x) g h

-- where no build settled
pub none_settled : (ms : Meanings) (last : Option Build) (s : Moment) (h : List Entry) → AllByRecursion (λ x. is_settling x.event x.reply.answer ≡ false) h → AllSettled ms last s h
none_settled ms last s [] none = tt
none_settled ms last s (x ∷ h) none = (
  (λ is. absurd (let no : true ≡ false = sym is ∙ none.0 in cc)),
  none_settled ms (begun_with last x) (after s x) h none.1,
)

-- an event that doesn't concern the services begins no build and settles none
pub record IsNoBuild (e : Event) (a : Answer) : Type 0 where
  pub begun : begun_by e a ≡ None
  pub settling : is_settling e a ≡ false

pub plain_builds : (e : Event) (a : Answer) → service_of e ≡ None → IsNoBuild e a
plain_builds events.Enter a none = record { begun = refl; settling = refl }
plain_builds events.Leave a none = record { begun = refl; settling = refl }
plain_builds (events.Schedule name priority rule asleep) a none = record { begun = refl; settling = refl }
plain_builds (events.Sleep name) a none = record { begun = refl; settling = refl }
plain_builds (events.Wake name) a none = record { begun = refl; settling = refl }
plain_builds (events.Cancel name) a none = record { begun = refl; settling = refl }
plain_builds events.Take a none = record { begun = refl; settling = refl }
plain_builds events.Finish a none = record { begun = refl; settling = refl }
plain_builds (events.Begin rule) a none = record { begun = refl; settling = refl }
plain_builds (events.TryBegin rule) a none = record { begun = refl; settling = refl }
plain_builds (events.End rule) a none = record { begun = refl; settling = refl }
plain_builds (events.Transfer to) a none = record { begun = refl; settling = refl }
plain_builds events.Batch a none = record { begun = refl; settling = refl }
plain_builds events.EndBatch a none = record { begun = refl; settling = refl }
plain_builds events.Checkpoint a none = record { begun = refl; settling = refl }
plain_builds (events.Operation op) a none = record { begun = refl; settling = refl }
plain_builds (events.Service x) a none = absurd (let is : Some x ≡ None = none in cc)

-- nor does one that asks nothing of them for a build
pub other_builds : (e : Event) (a : Answer) → is_of_build e ≡ false → IsNoBuild e a
other_builds e a other = otherwise (λ v. IsNoBuild v a) (λ v none. plain_builds v a none)
    (λ kind. record { begun = refl; settling = refl }) (λ answer. record { begun = refl; settling = refl }) (λ states. record { begun = refl; settling = refl }) e other

-- nor does a history of such events
pub plain_settled : (ms : Meanings) (last : Option Build) (s : Moment) (h : List Entry) → NoBuilds h → AllSettled ms last s h
plain_settled ms last s [] none = tt
plain_settled ms last s (x ∷ h) none = (
  (λ is. absurd (let no : true ≡ false = sym is ∙ (other_builds x.event x.reply.answer none.0).settling in cc)),
  plain_settled ms (begun_with last x) (after s x) h none.1,
)

-- ---- entries, as builds read them

abbrev pub deed_begins : Deed → Option Build
deed_begins (Checkout kind scope (started.Plan plan)) = Some (record { scope = scope; plan = plan })
deed_begins (Checkout kind scope (started.Refused n)) = None
deed_begins (Begin x) = None
deed_begins Batch = None
deed_begins (Handing project index kind x) = None
deed_begins (Commit e x) = None
deed_begins (CleanUp project index x) = None
deed_begins (CheckIn o) = None
deed_begins EndBatch = None
deed_begins End = None

abbrev pub is_done : BuildOutcome → Bool
is_done outcome.Settled = true
is_done (outcome.Unsettled names) = false
is_done (outcome.BuilderFailed project index) = false
is_done (outcome.Refused n) = false
is_done outcome.Cleaned = false
is_done outcome.NoMemory = false

abbrev pub deed_settles : Deed → Bool
deed_settles (CheckIn o) = is_done o
deed_settles (Checkout kind scope x) = false
deed_settles (Begin x) = false
deed_settles Batch = false
deed_settles (Handing project index kind x) = false
deed_settles (Commit e x) = false
deed_settles (CleanUp project index x) = false
deed_settles EndBatch = false
deed_settles End = false

abbrev begins_in : Option Deed → Option Build
begins_in None = None
begins_in (Some d) = deed_begins d

abbrev settles_in : Option Deed → Bool
settles_in None = false
settles_in (Some d) = deed_settles d

-- each build of these entries that settled left what it is to leave
abbrev pub AreSettled : Meanings → (List ℕ → Bool) → Option Build → List books.Entry → Type 0
AreSettled ms has last [] = Unit {0}
AreSettled ms has last (x ∷ es) = (deed_settles x.deed ≡ true → IsSomeAnd last (IsSettled ms has x.before.tree)) × AreSettled ms has (option_or (deed_begins x.deed) last) es

module _ (kind : BuildKind) (scope : Option (List ℕ)) where
  checkout_begins : (a : Answer) → begun_by (events.Service (services.Checkout (purposes.Build kind scope))) a ≡ begins_in (deed_of (events.Service (services.Checkout (purposes.Build kind scope))) a)
  checkout_begins answers.Done = refl
  checkout_begins (answers.Id id) = refl
  checkout_begins (answers.Count count) = refl
  checkout_begins answers.None = refl
  checkout_begins (answers.Job name) = refl
  checkout_begins (answers.Seen seen) = refl
  checkout_begins (answers.Plan plan) = refl
  checkout_begins (answers.Handed handed) = refl
  checkout_begins (answers.Committed touched problems) = refl
  checkout_begins (answers.Refused refusal) = refl

service_begins : (x : ServiceEvent) (a : Answer) → begun_by (events.Service x) a ≡ begins_in (service_deed x a)
service_begins (services.Checkout (purposes.Build kind scope)) a = checkout_begins kind scope a
service_begins (services.Checkout (purposes.Save kind)) a = refl
service_begins (services.CheckIn (outcomes.Build outcome)) a = refl
service_begins (services.CheckIn (outcomes.Save answer)) a = refl
service_begins (services.Saving states) a = refl
service_begins (services.Clean project index) a = refl
service_begins (services.Handed project index kind) a = by (given_of a)
  where
    by : (o : Option Given) → None ≡ begins_in (option_map (λ z. Handing project index kind z) o)
    by None = refl
    by (Some z) = refl
service_begins (services.Commit edits) a = by (taken_of a)
  where
    by : (o : Option Taken) → None ≡ begins_in (option_map (λ z. Commit edits z) o)
    by None = refl
    by (Some z) = refl

begins_read : (e : Event) (a : Answer) → begun_by e a ≡ begins_in (deed_of e a)
begins_read events.Enter a = refl
begins_read events.Leave a = refl
begins_read (events.Schedule name priority rule asleep) a = refl
begins_read (events.Sleep name) a = refl
begins_read (events.Wake name) a = refl
begins_read (events.Cancel name) a = refl
begins_read events.Take a = refl
begins_read events.Finish a = refl
begins_read (events.Begin rule) a = refl
begins_read (events.TryBegin rule) a = refl
begins_read (events.End rule) a = refl
begins_read (events.Transfer to) a = refl
begins_read events.Batch a = refl
begins_read events.EndBatch a = refl
begins_read events.Checkpoint a = refl
begins_read (events.Operation op) a = refl
begins_read (events.Service x) a = service_begins x a

settles_read : (e : Event) (a : Answer) → is_settling e a ≡ true → settles_in (deed_of e a) ≡ true
settles_read events.Enter a is = is
settles_read events.Leave a is = is
settles_read (events.Schedule name priority rule asleep) a is = is
settles_read (events.Sleep name) a is = is
settles_read (events.Wake name) a is = is
settles_read (events.Cancel name) a is = is
settles_read events.Take a is = is
settles_read events.Finish a is = is
settles_read (events.Begin rule) a is = is
settles_read (events.TryBegin rule) a is = is
settles_read (events.End rule) a is = is
settles_read (events.Transfer to) a is = is
settles_read events.Batch a is = is
settles_read events.EndBatch a is = is
settles_read events.Checkpoint a is = is
settles_read (events.Operation op) a is = is
settles_read (events.Service (services.Checkout (purposes.Build kind scope))) a is = absurd (let no : false ≡ true = is in cc)
settles_read (events.Service (services.Checkout (purposes.Save kind))) a is = absurd (let no : false ≡ true = is in cc)
settles_read (events.Service (services.CheckIn (outcomes.Save answer))) a is = absurd (let no : false ≡ true = is in cc)
settles_read (events.Service (services.Saving states)) a is = absurd (let no : false ≡ true = is in cc)
settles_read (events.Service (services.Handed project index kind)) a is = absurd (let no : false ≡ true = is in cc)
settles_read (events.Service (services.Commit edits)) a is = absurd (let no : false ≡ true = is in cc)
settles_read (events.Service (services.Clean project index)) a is = absurd (let no : false ≡ true = is in cc)
settles_read (events.Service (services.CheckIn (outcomes.Build outcome.Settled))) a is = refl
settles_read (events.Service (services.CheckIn (outcomes.Build (outcome.Unsettled names)))) a is = absurd (let no : false ≡ true = is in cc)
settles_read (events.Service (services.CheckIn (outcomes.Build (outcome.BuilderFailed project index)))) a is = absurd (let no : false ≡ true = is in cc)
settles_read (events.Service (services.CheckIn (outcomes.Build (outcome.Refused n)))) a is = absurd (let no : false ≡ true = is in cc)
settles_read (events.Service (services.CheckIn (outcomes.Build outcome.Cleaned))) a is = absurd (let no : false ≡ true = is in cc)
settles_read (events.Service (services.CheckIn (outcomes.Build outcome.NoMemory))) a is = absurd (let no : false ≡ true = is in cc)

-- one entry
one_read : (ms : Meanings) (has : List ℕ → Bool) (last : Option Build) (s : Moment) (x : Entry) (es : List books.Entry) (o : Option Deed) → is_builder s ≡ has → deed_of x.event x.reply.answer ≡ o
    → AreSettled ms has last (option_to_list (option_map (at (state_of s)) o) ++ es)
    → (is_settling x.event x.reply.answer ≡ true → IsSomeAnd last (IsSettled ms (is_builder s) s.resources.tree)) × AreSettled ms has (begun_with last x) es
one_read ms has last s x es None same is h = (
  (λ settles. absurd (let no : true ≡ false = sym (settles_read x.event x.reply.answer settles) ∙ ap settles_in is in cc)),
  subst (λ b. AreSettled ms has (option_or b last) es) (sym (begins_read x.event x.reply.answer ∙ ap begins_in is)) h,
)
one_read ms has last s x es (Some d) same is h = (
  (λ settles. subst (λ (f : List ℕ → Bool). IsSomeAnd last (IsSettled ms f s.resources.tree)) (sym same) (h.0 (sym (ap settles_in is) ∙ settles_read x.event x.reply.answer settles))),
  subst (λ b. AreSettled ms has (option_or b last) es) (sym (begins_read x.event x.reply.answer ∙ ap begins_in is)) h.1,
)

-- what builds read of the entries of one pass holds of them
pub settled_read : (ms : Meanings) (has : List ℕ → Bool) (k : ℕ) (last : Option Build) (s : Moment) (h : List Entry) → AllByRecursion (IsOwn k) h → is_builder s ≡ has
    → AreSettled ms has last (entries_of k s h) → AllSettled ms last s h
settled_read ms has k last s [] own same are = tt
settled_read ms has k last s (x ∷ h) own same are =
    let one = one_read ms has last s x (entries_of k (after s x) h) (deed_of x.event x.reply.answer) same refl
    (subst (λ z. AreSettled ms has last (z ++ entries_of k (after s x) h)) (own_entry k s x own.0.pass) are) in
    (one.0, settled_read ms has k (begun_with last x) (after s x) h own.1 (same_builders s (after s x) (step_names s x.pass x.event) ∙ same) one.1)
