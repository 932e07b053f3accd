-- Calls of histories, and of their entries as builds read them.
use Rattle.std.proofs.Common.{◌≡◌, ℕ, false, cond, eq-eqb, List, [], ◌∷◌, ◌++◌, map, Option, Some, None, refl, sym, ap, ◌∙◌, subst, append_assoc, append-nil}
use Rattle.std.specs.List.{AllByRecursion, flat_map}
use Rattle.std.specs.Option.{option_map, option_to_list}
use Rattle.builder_api.specs.Told.{Told, Built, Cleaned}
use Rattle.build_laws.specs.States.{Descs, State}
use Rattle.build_run.specs.declared.answers.Given.TheVariants as given
use Rattle.build_run.specs.declared.answers.Started.{Started}
use Rattle.build_run.specs.declared.answers.Taken.{Taken}
use Rattle.build_run.specs.Books as books
use Rattle.build_run.specs.Books.{Deed, Did, Called, Cleared, WereDone, Begin, Batch, Checkout, Handing, Commit, CleanUp, CheckIn, EndBatch, End, at}
use Rattle.build_plan.specs.Descriptions.{desc_at}
use Rattle.core_event.specs.declared.entry.Entry.{Entry}
use Rattle.core_event.specs.declared.event.Event.{Event}
use Rattle.core_event.specs.declared.event.Event.TheVariants as events
use Rattle.core_event.specs.declared.reply.Answer.{Answer}
use Rattle.core_event.specs.declared.reply.Answer.TheVariants as answers
use Rattle.core_event.specs.declared.service.Outcomes.TheVariants as outcomes
use Rattle.core_event.specs.declared.service.Purpose.TheVariants as purposes
use Rattle.core_event.specs.declared.service.ServiceEvent.{ServiceEvent}
use Rattle.core_event.specs.declared.service.ServiceEvent.TheVariants as services
use Rattle.core_event.specs.Events.{service_of}
use Rattle.ws_core.specs.States.{Moment}
use Rattle.ws_core.specs.Histories.{after, replay}
use Rattle.build_core.specs.States.{state_of}
use Rattle.build_core.specs.Histories.{deed_of, entries_of, entry_of, service_deed, started_of, taken_of}
use Rattle.build_history.specs.Calls.{NamedCall, WereCalled, calls, calls_for, calls_of, command_at, service_calls}
use Rattle.build_history.specs.Events.{IsOwn, NoBuilds, is_of_build}
use Rattle.build_history.proofs.Lists.{flat_append}
use Rattle.build_history.proofs.Others.{otherwise}

-- ---- histories

-- what a history in two parts asks
pub calls_append : (s : Moment) (g h : List Entry) → calls s (g ++ h) ≡ calls s g ++ calls (replay s g) h
calls_append s [] h = refl
calls_append s (x ∷ g) h =
    ap (λ cs. calls_of s x.event x.reply.answer ++ cs) (calls_append (after s x) g h)
    ∙ sym (append_assoc (calls_of s x.event x.reply.answer) (calls (after s x) g) (calls (replay (after s x) g) h))

-- builders that were called for some calls and then for others
pub called_append : (cs ds : List NamedCall) (a b c : List Told) → WereCalled cs a b → WereCalled ds b c → WereCalled (cs ++ ds) a c
called_append [] ds a b c h g = subst (λ x. WereCalled ds x c) h g
called_append (d ∷ cs) ds a b c h g = (h.0, h.1, called_append cs ds h.0 b c h.2 g)

-- where no history asks anything, builders tell what they told
pub called_none : (cs : List NamedCall) (told : List Told) → cs ≡ [] → WereCalled cs told told
called_none cs told is = subst (λ xs. WereCalled xs told told) (sym is) refl

-- an event that doesn't concern the services asks nothing
pub plain_calls : (s : Moment) (e : Event) (a : Answer) → service_of e ≡ None → calls_of s e a ≡ []
plain_calls s events.Enter a none = refl
plain_calls s events.Leave a none = refl
plain_calls s (events.Schedule name priority rule asleep) a none = refl
plain_calls s (events.Sleep name) a none = refl
plain_calls s (events.Wake name) a none = refl
plain_calls s (events.Cancel name) a none = refl
plain_calls s events.Take a none = refl
plain_calls s events.Finish a none = refl
plain_calls s (events.Begin rule) a none = refl
plain_calls s (events.TryBegin rule) a none = refl
plain_calls s (events.End rule) a none = refl
plain_calls s (events.Transfer to) a none = refl
plain_calls s events.Batch a none = refl
plain_calls s events.EndBatch a none = refl
plain_calls s events.Checkpoint a none = refl
plain_calls s (events.Operation op) a none = refl
plain_calls s (events.Service x) a none = absurd (let is : Some x ≡ None = none in cc)

-- nor does one that asks nothing of them for a build
pub other_calls : (s : Moment) (e : Event) (a : Answer) → is_of_build e ≡ false → calls_of s e a ≡ []
other_calls s e a other = otherwise (λ v. calls_of s v a ≡ []) (λ v none. plain_calls s v a none) (λ kind. refl) (λ answer. refl) (λ states. refl) e other

-- a history of such events asks nothing
pub no_calls : (s : Moment) (h : List Entry) → NoBuilds h → calls s h ≡ []
no_calls s [] all = refl
no_calls s (x ∷ h) all = (λ i. other_calls s x.event x.reply.answer all.0 i ++ no_calls (after s x) h all.1 i)

-- ---- entries, as builds read them

-- what an entry asks
abbrev pub deed_calls : Descs → Deed → List NamedCall
deed_calls descs (Handing project index kind (given.Due h)) = calls_for (command_at descs project index) (λ c. Built c h)
deed_calls descs (Handing project index kind (given.Refused n)) = []
deed_calls descs (CleanUp project index None) = calls_for (command_at descs project index) (λ c. Cleaned)
deed_calls descs (CleanUp project index (Some n)) = []
deed_calls descs (Begin x) = []
deed_calls descs Batch = []
deed_calls descs (Checkout kind project x) = []
deed_calls descs (Commit e x) = []
deed_calls descs (CheckIn o) = []
deed_calls descs EndBatch = []
deed_calls descs End = []

abbrev pub asked : books.Entry → List NamedCall
asked x = deed_calls x.before.descs x.deed

abbrev pub deed_asks : State → Option Deed → List NamedCall
deed_asks s o = flat_map asked (option_to_list (option_map (at s) o))

service_read : (s : Moment) (x : ServiceEvent) (a : Answer) → service_calls (desc_at s.resources.tree) x a ≡ deed_asks (state_of s) (service_deed x a)
service_read s (services.Checkout (purposes.Build kind scope)) a = by (started_of a)
  where
    by : (o : Option Started) → [] ≡ deed_asks (state_of s) (option_map (λ z. Checkout kind scope z) o)
    by None = refl
    by (Some z) = refl
service_read s (services.Checkout (purposes.Save kind)) a = refl
service_read s (services.CheckIn (outcomes.Build outcome)) a = refl
service_read s (services.CheckIn (outcomes.Save answer)) a = refl
service_read s (services.Saving states) a = refl
service_read s (services.Commit edits) a = by (taken_of a)
  where
    by : (o : Option Taken) → [] ≡ deed_asks (state_of s) (option_map (λ z. Commit edits z) o)
    by None = refl
    by (Some z) = refl
service_read s (services.Handed project index kind) answers.Done = refl
service_read s (services.Handed project index kind) (answers.Id id) = refl
service_read s (services.Handed project index kind) (answers.Count count) = refl
service_read s (services.Handed project index kind) answers.None = refl
service_read s (services.Handed project index kind) (answers.Job name) = refl
service_read s (services.Handed project index kind) (answers.Seen seen) = refl
service_read s (services.Handed project index kind) (answers.Plan plan) = refl
service_read s (services.Handed project index kind) (answers.Handed handed) = sym (append-nil (calls_for (command_at (desc_at s.resources.tree) project index) (λ c. Built c handed)))
service_read s (services.Handed project index kind) (answers.Committed touched problems) = refl
service_read s (services.Handed project index kind) (answers.Refused refusal) = refl
service_read s (services.Clean project index) answers.Done = sym (append-nil (calls_for (command_at (desc_at s.resources.tree) project index) (λ c. Cleaned)))
service_read s (services.Clean project index) (answers.Id id) = sym (append-nil (calls_for (command_at (desc_at s.resources.tree) project index) (λ c. Cleaned)))
service_read s (services.Clean project index) (answers.Count count) = sym (append-nil (calls_for (command_at (desc_at s.resources.tree) project index) (λ c. Cleaned)))
service_read s (services.Clean project index) answers.None = sym (append-nil (calls_for (command_at (desc_at s.resources.tree) project index) (λ c. Cleaned)))
service_read s (services.Clean project index) (answers.Job name) = sym (append-nil (calls_for (command_at (desc_at s.resources.tree) project index) (λ c. Cleaned)))
service_read s (services.Clean project index) (answers.Seen seen) = sym (append-nil (calls_for (command_at (desc_at s.resources.tree) project index) (λ c. Cleaned)))
service_read s (services.Clean project index) (answers.Plan plan) = sym (append-nil (calls_for (command_at (desc_at s.resources.tree) project index) (λ c. Cleaned)))
service_read s (services.Clean project index) (answers.Handed handed) = sym (append-nil (calls_for (command_at (desc_at s.resources.tree) project index) (λ c. Cleaned)))
service_read s (services.Clean project index) (answers.Committed touched problems) = sym (append-nil (calls_for (command_at (desc_at s.resources.tree) project index) (λ c. Cleaned)))
service_read s (services.Clean project index) (answers.Refused refusal) = refl

event_read : (s : Moment) (e : Event) (a : Answer) → calls_of s e a ≡ deed_asks (state_of s) (deed_of e a)
event_read s events.Enter a = refl
event_read s events.Leave a = refl
event_read s (events.Schedule name priority rule asleep) a = refl
event_read s (events.Sleep name) a = refl
event_read s (events.Wake name) a = refl
event_read s (events.Cancel name) a = refl
event_read s events.Take a = refl
event_read s events.Finish a = refl
event_read s (events.Begin rule) a = refl
event_read s (events.TryBegin rule) a = refl
event_read s (events.End rule) a = refl
event_read s (events.Transfer to) a = refl
event_read s events.Batch a = refl
event_read s events.EndBatch a = refl
event_read s events.Checkpoint a = refl
event_read s (events.Operation op) a = refl
event_read s (events.Service x) a = service_read s x a

-- an entry of the pass, as builds read it
pub own_entry : (k : ℕ) (s : Moment) (x : Entry) → x.pass ≡ k → entry_of k s x ≡ option_to_list (option_map (at (state_of s)) (deed_of x.event x.reply.answer))
own_entry k s x own = ap (λ b. cond b (option_to_list (option_map (at (state_of s)) (deed_of x.event x.reply.answer))) []) (eq-eqb x.pass k own)

-- what entries of one pass ask is what builds read of them
pub calls_read : (k : ℕ) (s : Moment) (h : List Entry) → AllByRecursion (IsOwn k) h → calls s h ≡ flat_map asked (entries_of k s h)
calls_read k s [] own = refl
calls_read k s (x ∷ h) own =
    (λ i. (event_read s x.event x.reply.answer ∙ ap (flat_map asked) (sym (own_entry k s x own.0.pass))) i ++ calls_read k (after s x) h own.1 i)
    ∙ sym (flat_append asked (entry_of k s x) (entries_of k (after s x) h))

-- ---- what was done

abbrev pub call_of : Did → NamedCall
call_of (Called i h answer) = (i.command.builder, Built i.command h)
call_of (Cleared i) = (i.command.builder, Cleaned)

-- what was done is what builders were called for
pub done_called : (ds : List Did) (a b : List Told) → WereDone ds a b → WereCalled (map call_of ds) a b
done_called [] a b h = h
done_called (Called i handed answer ∷ ds) a b h = (h.0, h.1.0, done_called ds h.0 b h.2)
done_called (Cleared i ∷ ds) a b h = (h.0, h.1, done_called ds h.0 b h.2)
