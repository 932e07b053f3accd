-- What a pass has done of a build, as the history of the core tells it.
use Rattle.std.specs.Prelude.{◌≡◌, ℕ, ◌==◌, Bool, ◌&&◌, not, if◌then◌else◌, List, [], ◌∷◌, ◌++◌, take, drop, Option, Some, None, is_none}
use Rattle.std.specs.List.{list_any}
use Rattle.std.specs.Option.{option_map, option_to_list}
use Rattle.std.specs.Str.{bytes_eq}
use Rattle.core_event.specs.declared.entry.Entry.{Entry}
use Rattle.core_event.specs.declared.event.Event.{Event}
use Rattle.core_event.specs.declared.event.Event.TheVariants as events
use Rattle.core_event.specs.declared.reply.Answer.{Answer}
use Rattle.core_event.specs.declared.reply.Answer.TheVariants as answers
use Rattle.core_event.specs.declared.service.Outcomes.TheVariants as outcomes
use Rattle.core_event.specs.declared.service.Purpose.TheVariants as purposes
use Rattle.core_event.specs.declared.service.ServiceEvent.{ServiceEvent}
use Rattle.core_event.specs.declared.service.ServiceEvent.TheVariants as services
use Rattle.core_event.specs.Replies.{refusal_number}
use Rattle.builder_api.specs.Told.{Told}
use Rattle.pass_table.specs.Passes.{batches_of}
use Rattle.service_desk.specs.Desks.{is_building}
use Rattle.service_desk.specs.Refusals.{not_serving, unrooted}
use Rattle.build_run.specs.declared.answers.Given.{Given}
use Rattle.build_run.specs.declared.answers.Given.TheVariants as given
use Rattle.build_run.specs.declared.answers.Started.{Started}
use Rattle.build_run.specs.declared.answers.Started.TheVariants as started
use Rattle.build_run.specs.declared.answers.Taken.{Taken}
use Rattle.build_run.specs.declared.answers.Taken.TheVariants as taken
use Rattle.build_run.specs.Books as books
use Rattle.build_run.specs.Books.{Book, Deed, Begin, Batch, Checkout, Handing, Commit, CleanUp, CheckIn, EndBatch, End}
use Rattle.ws_core.specs.States.{Moment}
use Rattle.ws_core.specs.Histories as core
use Rattle.ws_core.specs.Histories.{after, replay}
use Rattle.ws_core.specs.Steps.{step}
use Rattle.ws_core.specs.Refusals.{current}
use Rattle.ws_core.specs.Sessions.{IsConsistent, Session}
use Rattle.build_core.specs.States.{item_of, state_of}

-- ---- answers, as builds tell them

-- the number with which an event was refused, if it was
abbrev pub number_of : Answer → Option ℕ
number_of (answers.Refused r) = Some (refusal_number r)
number_of answer = None

abbrev pub started_of : Answer → Option Started
started_of (answers.Plan plan) = Some (started.Plan plan)
started_of (answers.Refused r) = Some (started.Refused (refusal_number r))
started_of answer = None

abbrev pub given_of : Answer → Option Given
given_of (answers.Handed handed) = Some (given.Due handed)
given_of (answers.Refused r) = Some (given.Refused (refusal_number r))
given_of answer = None

abbrev pub taken_of : Answer → Option Taken
taken_of (answers.Committed touched problems) = Some (taken.Committed touched problems)
taken_of (answers.Refused r) = Some (taken.Refused (refusal_number r))
taken_of answer = None

-- ---- events, as builds tell them

abbrev pub service_deed : ServiceEvent → Answer → Option Deed
service_deed (services.Checkout (purposes.Build kind scope)) a = option_map (λ x. Checkout kind scope x) (started_of a)
service_deed (services.Checkout (purposes.Save kind)) a = None
service_deed (services.CheckIn (outcomes.Build outcome)) a = Some (CheckIn outcome)
service_deed (services.CheckIn (outcomes.Save answer)) a = None
service_deed (services.Handed project index kind) a = option_map (λ x. Handing project index kind x) (given_of a)
service_deed (services.Commit edits) a = option_map (λ x. Commit edits x) (taken_of a)
service_deed (services.Clean project index) a = Some (CleanUp project index (number_of a))
service_deed (services.Saving states) a = None

-- what an event with its answer is of a build command, if it is one's
abbrev pub deed_of : Event → Answer → Option Deed
deed_of (events.Begin rule) a = Some (Begin (number_of a))
deed_of events.Batch a = Some Batch
deed_of (events.Service x) a = service_deed x a
deed_of events.EndBatch a = Some EndBatch
deed_of (events.End rule) a = Some End
deed_of event a = None

-- ---- the book

-- the entry of the pass, and the state before it, where it is one of the pass
abbrev pub entry_of : ℕ → Moment → Entry → List books.Entry
entry_of k s x = if x.pass == k then option_to_list (option_map (books.at (state_of s)) (deed_of x.event x.reply.answer)) else []

-- those of a history, oldest first
abbrev pub entries_of : ℕ → Moment → List Entry → List books.Entry
entries_of k s [] = []
entries_of k s (x ∷ h) = entry_of k s x ++ entries_of k (after s x) h

-- whether a pass may build: it has the services for a build, the rule of the root and an open batch
abbrev pub may_build : Moment → ℕ → Bool
may_build s k =
    is_none (not_serving s.manager.passes (is_building s.desk.serving) k) && is_none (unrooted s.manager.passes.rules k) && not (batches_of s.manager.passes k == 0)

-- what the pass has done, where its last entry is the last; its build command began after so many entries, when builders
-- told this
abbrev pub book_of : Session → ℕ → ℕ → List Told → List Told → Book
book_of x k start began told = record {
  mine = entries_of k x.opened x.history;
  since = entries_of k (replay x.opened (take start x.history)) (drop start x.history);
  began = began;
  told = told;
  now = state_of x.state;
  serving = may_build x.state k;
  home = is_none x.state.manager.passes.services;
  has = λ name. list_any (bytes_eq name) x.state.desk.builders;
  under = option_map item_of (current x.state);
}

-- the pass did the event, which left an entry
pub record Steps (k : ℕ) (e : Event) (x y : Session) : Type 0 where
  pub sound : IsConsistent x.state
  pub placed : x.state ≡ replay x.opened x.history
  pub opened : y.opened ≡ x.opened
  pub state : y.state ≡ (step x.state k e).0
  pub history : y.history ≡ x.history ++ core.entry_of x.state k e ∷ []
