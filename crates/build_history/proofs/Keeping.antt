-- Along the entries of one pass what was built last stays sound where nothing is committed.
use Rattle.std.proofs.Common.{◌≡◌, ℕ, Bool, true, false, List, [], ◌∷◌, ◌++◌, map, Option, Some, None, refl, sym, ap, ◌∙◌, subst}
use Rattle.std.specs.List.{AllByRecursion}
use Rattle.std.specs.Option.{option_map, option_to_list}
use Rattle.builder_api.specs.declared.edits.Edits.{Edits}
use Rattle.builder_api.specs.Meanings.{Meanings}
use Rattle.build_laws.specs.Records.{Sound}
use Rattle.build_run.specs.declared.answers.Given.{Given}
use Rattle.build_run.specs.declared.answers.Started.{Started}
use Rattle.build_run.specs.declared.answers.Taken.TheVariants as taken
use Rattle.build_run.specs.Books as books
use Rattle.build_run.specs.Books.{Deed, Begin, Batch, Checkout, Handing, Commit, CleanUp, CheckIn, EndBatch, End, at}
use Rattle.core_event.specs.declared.entry.Entry.{Entry}
use Rattle.core_event.specs.declared.event.Event.{Event}
use Rattle.core_event.specs.declared.event.Event.TheVariants as events
use Rattle.core_event.specs.declared.reply.Answer.{Answer}
use Rattle.core_event.specs.declared.reply.Answer.TheVariants as answers
use Rattle.core_event.specs.declared.reply.Reply.{Reply}
use Rattle.core_event.specs.declared.service.Outcomes.TheVariants as outcomes
use Rattle.core_event.specs.declared.service.Purpose.TheVariants as purposes
use Rattle.core_event.specs.declared.service.ServiceEvent.{ServiceEvent}
use Rattle.core_event.specs.declared.service.ServiceEvent.TheVariants as services
use Rattle.ws_core.specs.States.{Moment}
use Rattle.ws_core.specs.Histories.{after, replay, replies}
use Rattle.ws_core.specs.Steps.{step}
use Rattle.build_core.specs.States.{records_of, state_of}
use Rattle.build_core.specs.Histories.{deed_of, entries_of, given_of, service_deed, started_of}
use Rattle.build_history.specs.Events.{IsOwn, has_committed}
use Rattle.build_history.proofs.Lists.{head_same, never_within, tail_same}
use Rattle.build_history.proofs.Calls.{own_entry}
use Rattle.build_history.proofs.Sounds.{step_sound}

-- whether an entry committed edits
abbrev pub deed_commits : Deed → Bool
deed_commits (Commit e (taken.Committed touched problems)) = true
deed_commits (Commit e (taken.Refused n)) = false
deed_commits (Checkout kind scope x) = false
deed_commits (Begin x) = false
deed_commits Batch = false
deed_commits (Handing project index kind x) = false
deed_commits (CleanUp project index x) = false
deed_commits (CheckIn o) = false
deed_commits EndBatch = false
deed_commits End = false

abbrev commits_in : Option Deed → Bool
commits_in None = false
commits_in (Some d) = deed_commits d

abbrev pub NoCommits : List books.Entry → Type 0
NoCommits = AllByRecursion (λ (e : books.Entry). deed_commits e.deed ≡ false)

commit_read : (edits : Edits) (a : Answer) → has_committed (events.Service (services.Commit edits)) a ≡ commits_in (service_deed (services.Commit edits) a)
commit_read edits answers.Done = refl
commit_read edits (answers.Id id) = refl
commit_read edits (answers.Count count) = refl
commit_read edits answers.None = refl
commit_read edits (answers.Job name) = refl
commit_read edits (answers.Seen seen) = refl
commit_read edits (answers.Plan plan) = refl
commit_read edits (answers.Handed handed) = refl
commit_read edits (answers.Committed touched problems) = refl
commit_read edits (answers.Refused refusal) = refl

service_commits : (x : ServiceEvent) (a : Answer) → has_committed (events.Service x) a ≡ commits_in (service_deed x a)
service_commits (services.Commit edits) a = commit_read edits a
service_commits (services.CheckIn (outcomes.Build outcome)) a = refl
service_commits (services.CheckIn (outcomes.Save answer)) a = refl
service_commits (services.Saving states) a = refl
service_commits (services.Checkout (purposes.Save kind)) a = refl
service_commits (services.Clean project index) a = refl
service_commits (services.Checkout (purposes.Build kind scope)) a = by (started_of a)
  where
    by : (o : Option Started) → false ≡ commits_in (option_map (λ z. Checkout kind scope z) o)
    by None = refl
    by (Some z) = refl
service_commits (services.Handed project index kind) a = by (given_of a)
  where
    by : (o : Option Given) → false ≡ commits_in (option_map (λ z. Handing project index kind z) o)
    by None = refl
    by (Some z) = refl

commits_read : (e : Event) (a : Answer) → has_committed e a ≡ commits_in (deed_of e a)
commits_read events.Enter a = refl
commits_read events.Leave a = refl
commits_read (events.Schedule name priority rule asleep) a = refl
commits_read (events.Sleep name) a = refl
commits_read (events.Wake name) a = refl
commits_read (events.Cancel name) a = refl
commits_read events.Take a = refl
commits_read events.Finish a = refl
commits_read (events.Begin rule) a = refl
commits_read (events.TryBegin rule) a = refl
commits_read (events.End rule) a = refl
commits_read (events.Transfer to) a = refl
commits_read events.Batch a = refl
commits_read events.EndBatch a = refl
commits_read events.Checkpoint a = refl
commits_read (events.Operation op) a = refl
commits_read (events.Service x) a = service_commits x a

-- the replies are those of the steps, from a state on
abbrev pub AreReplies : Moment → List Entry → Type 0
AreReplies s h = map (λ (x : Entry). x.reply) h ≡ replies s h

pub first_reply : (s : Moment) (x : Entry) (h : List Entry) → AreReplies s (x ∷ h) → x.reply ≡ (step s x.pass x.event).1
first_reply s x h are = head_same x.reply (step s x.pass x.event).1 (map (λ (x : Entry). x.reply) h) (replies (after s x) h) are

pub other_replies : (s : Moment) (x : Entry) (h : List Entry) → AreReplies s (x ∷ h) → AreReplies (after s x) h
other_replies s x h are = tail_same x.reply (step s x.pass x.event).1 (map (λ (x : Entry). x.reply) h) (replies (after s x) h) are

pub later_replies : (s : Moment) (g h : List Entry) → AreReplies s (g ++ h) → AreReplies (replay s g) h
later_replies s [] h are = are
later_replies s (x ∷ g) h are = later_replies (after s x) g h (other_replies s x (g ++ h) are)

module _ (ms : Meanings) (has : List ℕ → Bool) where
  abbrev KeptSound : Moment → Type 0
  KeptSound s = Sound ms has (records_of s.remembered.built)

  -- an entry that committed nothing keeps records sound
  one_sound : (s : Moment) (x : Entry) → x.reply ≡ (step s x.pass x.event).1 → commits_in (deed_of x.event x.reply.answer) ≡ false → KeptSound s → KeptSound (after s x)
  one_sound s x replied none sound = step_sound ms has s x.pass x.event
      (ap (λ (r : Reply). has_committed x.event r.answer) (sym replied) ∙ commits_read x.event x.reply.answer ∙ none) sound

  none_commits : (s : Moment) (o : Option Deed) (es : List books.Entry) → NoCommits (option_to_list (option_map (at (state_of s)) o) ++ es) → (commits_in o ≡ false) × NoCommits es
  none_commits s None es h = (refl, h)
  none_commits s (Some d) es h = h

  -- so do those of a pass
  pub all_sound : (k : ℕ) (s : Moment) (h : List Entry) → AllByRecursion (IsOwn k) h → AreReplies s h → NoCommits (entries_of k s h) → KeptSound s → KeptSound (replay s h)
  all_sound k s [] own are none sound = sound
  all_sound k s (x ∷ h) own are none sound =
      let no = none_commits s (deed_of x.event x.reply.answer) (entries_of k (after s x) h) (subst (λ z. NoCommits (z ++ entries_of k (after s x) h)) (own_entry k s x own.0.pass) none) in
      all_sound k (after s x) h own.1 (other_replies s x h are) no.1 (one_sound s x (first_reply s x h are) no.0 sound)

  to_step : (s : Moment) (x : Entry) (es front : List books.Entry) (e : books.Entry) (rest : List books.Entry) (o : Option Deed) → deed_of x.event x.reply.answer ≡ o → x.reply ≡ (step s x.pass x.event).1
      → option_to_list (option_map (at (state_of s)) o) ++ es ≡ front ++ e ∷ rest → NoCommits front → KeptSound s
      → ((f : List books.Entry) → es ≡ f ++ e ∷ rest → NoCommits f → KeptSound (after s x) → Sound ms has e.before.records) → Sound ms has e.before.records
  to_step s x es front e rest None is replied are none sound on = on front are none (one_sound s x replied (ap commits_in is) sound)
  to_step s x es [] e rest (Some d) is replied are none sound on = let same = head_same (at (state_of s) d) e es rest are in subst (λ (v : books.Entry). Sound ms has v.before.records) same sound
  to_step s x es (f ∷ front) e rest (Some d) is replied are none sound on =
      let same = head_same (at (state_of s) d) f es (front ++ e ∷ rest) are in
      on front (tail_same (at (state_of s) d) f es (front ++ e ∷ rest) are) none.1 (one_sound s x replied (ap commits_in is ∙ ap (λ (v : books.Entry). deed_commits v.deed) same ∙ none.0) sound)

  -- records are sound at an entry, where they are before the first, and nothing was committed before it
  pub sound_to : (k : ℕ) (s : Moment) (h : List Entry) (front : List books.Entry) (e : books.Entry) (rest : List books.Entry) → AllByRecursion (IsOwn k) h → AreReplies s h
      → entries_of k s h ≡ front ++ e ∷ rest → NoCommits front → KeptSound s → Sound ms has e.before.records
  sound_to k s [] front e rest own are is none sound = absurd (never_within front rest e is)
  sound_to k s (x ∷ h) front e rest own are is none sound =
      to_step s x (entries_of k (after s x) h) front e rest (deed_of x.event x.reply.answer) refl (first_reply s x h are)
      (ap (λ z. z ++ entries_of k (after s x) h) (sym (own_entry k s x own.0.pass)) ∙ is) none sound
      (λ f same no sounds. sound_to k (after s x) h f e rest own.1 (other_replies s x h are) same no sounds)

  from_step : (s t : Moment) (x : Entry) (es front : List books.Entry) (e : books.Entry) (rest : List books.Entry) (o : Option Deed) → deed_of x.event x.reply.answer ≡ o → x.reply ≡ (step s x.pass x.event).1
      → option_to_list (option_map (at (state_of s)) o) ++ es ≡ front ++ e ∷ rest → NoCommits (e ∷ rest) → Sound ms has e.before.records
      → ((f : List books.Entry) → es ≡ f ++ e ∷ rest → KeptSound t) → (NoCommits es → KeptSound (after s x) → KeptSound t) → KeptSound t
  from_step s t x es front e rest None is replied are none sound on all = on front are
  from_step s t x es [] e rest (Some d) is replied are none sound on all =
      let same = sym (head_same (at (state_of s) d) e es rest are) in
      let those = sym (tail_same (at (state_of s) d) e es rest are) in
      all (subst NoCommits those none.1)
      (one_sound s x replied (ap commits_in is ∙ ap (λ (v : books.Entry). deed_commits v.deed) (sym same) ∙ none.0) (subst (λ (v : books.Entry). Sound ms has v.before.records) same sound))
  from_step s t x es (f ∷ front) e rest (Some d) is replied are none sound on all = on front (tail_same (at (state_of s) d) f es (front ++ e ∷ rest) are)

  -- and after the last, where they are at an entry, and nothing was committed from it on
  pub sound_from : (k : ℕ) (s : Moment) (h : List Entry) (front : List books.Entry) (e : books.Entry) (rest : List books.Entry) → AllByRecursion (IsOwn k) h → AreReplies s h
      → entries_of k s h ≡ front ++ e ∷ rest → NoCommits (e ∷ rest) → Sound ms has e.before.records → KeptSound (replay s h)
  sound_from k s [] front e rest own are is none sound = absurd (never_within front rest e is)
  sound_from k s (x ∷ h) front e rest own are is none sound =
      from_step s (replay (after s x) h) x (entries_of k (after s x) h) front e rest (deed_of x.event x.reply.answer) refl (first_reply s x h are)
      (ap (λ z. z ++ entries_of k (after s x) h) (sym (own_entry k s x own.0.pass)) ∙ is) none sound
      (λ f same. sound_from k (after s x) h f e rest own.1 (other_replies s x h are) same none sound)
      (λ no sounds. all_sound k (after s x) h own.1 (other_replies s x h are) no sounds)
