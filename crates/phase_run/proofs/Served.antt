-- What events that ask nothing of the services for a build leave to the builders: nothing.
use Rattle.std.proofs.Common.{◌≡◌, ℕ, false, List, [], ◌∷◌, ◌++◌, map, refl, sym, ap, ◌∙◌, subst, append-nil}
use Rattle.std.specs.Prelude.{Result, Ok, Err, OnOk, OnErr, MatchResult}
use Rattle.builder_api.specs.Meanings.{Meanings}
use Rattle.builder_api.specs.Told.{Told}
use Rattle.core_event.specs.declared.entry.Entry.{Entry}
use Rattle.core_event.specs.declared.event.Event.{Event}
use Rattle.core_event.specs.declared.event.Event.TheVariants.{Enter, Leave, Schedule, Sleep, Wake, Cancel, Take, Finish, Begin, TryBegin, End, Transfer, Batch, EndBatch, Checkpoint, Operation, Service}
use Rattle.ws_core.specs.Histories.{entry_of, written}
use Rattle.ws_core.specs.Sessions.{Session}
use Rattle.run_order.proofs.Written.{finish_tried, written_more}
use Rattle.run_order.specs.Alone.{IsCommand}
use Rattle.run_order.specs.Lists.{entry, acts, Cut, Grew}
use Rattle.run_order.specs.Parts.{CommandEntries}
use Rattle.build_history.specs.Events.{NoBuilds, is_of_build}
use Rattle.build_host.specs.Hosts.{Serves}
use Rattle.build_host.specs.Laws.{serves_itself, serves_quietly}
use Rattle.phase_run.specs.Inside.Doing.{Makes, Stops, TakesOne, TakesNone, Works}

quiet_front : (h rest : List Entry) → NoBuilds (h ++ rest) → NoBuilds h
quiet_front [] rest q = tt
quiet_front (x ∷ h) rest q = (q.0, quiet_front h rest q.1)

module _ {A : Type 0} (act : A → ℕ × Event) (quiet : (x : A) → is_of_build (act x).1 ≡ false) where
  quiet_acts : (xs : List A) (h : List Entry) → acts h ≡ map act xs → NoBuilds h
  quiet_acts [] [] e = tt
  quiet_acts [] (x ∷ h) e = cc
  quiet_acts (a ∷ xs) [] e = cc
  quiet_acts (a ∷ xs) (x ∷ h) e = (ap (λ (p : ℕ × Event). is_of_build p.1) (head_of e) ∙ quiet a, quiet_acts xs h (tail_of e))
    where
      head_of : acts (x ∷ h) ≡ map act (a ∷ xs) → (x.pass, x.event) ≡ act a
      head_of e = cc

      tail_of : acts (x ∷ h) ≡ map act (a ∷ xs) → acts h ≡ map act xs
      tail_of e = cc

  pub acts_serve : (ms : Meanings) (xs : List A) (a b : Session) (told : List Told) → Makes (λ h. acts h ≡ map act xs) a b → Serves ms a b told told
  acts_serve ms xs a b told m = serves_quietly ms a b told m.grew.0 m.opened m.grew.1 (quiet_acts xs m.grew.0 m.grew.2)

  pub cut_acts_serve : (ms : Meanings) (xs : List A) (a b : Session) (told : List Told) → Stops (Cut (λ h. acts h ≡ map act xs)) a b → Serves ms a b told told
  cut_acts_serve ms xs a b told m = serves_quietly ms a b told m.grew.0 m.opened m.grew.1 (quiet_front m.grew.0 m.grew.2.0 (quiet_acts xs (m.grew.0 ++ m.grew.2.0) m.grew.2.1))

  -- in either outcome
  pub either_serves : {X E : Type 0} (r : Result X E) (ms : Meanings) (xs : List A) (a b : Session) (told : List Told)
      → MatchResult r (λ _. Makes (λ h. acts h ≡ map act xs) a b) (λ _. Stops (Cut (λ h. acts h ≡ map act xs)) a b) → Serves ms a b told told
  either_serves (Ok x) ms xs a b told m = acts_serve ms xs a b told m
  either_serves (Err e) ms xs a b told m = cut_acts_serve ms xs a b told m

-- an event that a command may be asks nothing of the services
pub command_quiet : (e : Event) → IsCommand e → is_of_build e ≡ false
command_quiet Enter c = absurd c
command_quiet Leave c = absurd c
command_quiet (Schedule n p u a) c = refl
command_quiet (Sleep n) c = refl
command_quiet (Wake n) c = refl
command_quiet (Cancel n) c = refl
command_quiet Take c = absurd c
command_quiet Finish c = absurd c
command_quiet (Begin u) c = refl
command_quiet (TryBegin u) c = refl
command_quiet (End u) c = refl
command_quiet (Transfer to) c = absurd c
command_quiet Batch c = refl
command_quiet EndBatch c = refl
command_quiet Checkpoint c = refl
command_quiet (Operation op) c = refl
command_quiet (Service x) c = absurd c

event_quiet : (e : Event) (h : List Entry) → IsCommand e → CommandEntries 1 e h → NoBuilds h
event_quiet e h c p = subst NoBuilds (sym p.1) (command_quiet e c, tt)

pub event_serves : {X E : Type 0} (r : Result X E) (ms : Meanings) (e : Event) (a b : Session) (told : List Told) → IsCommand e
    → MatchResult r (λ _. Works (CommandEntries 1 e) a b) (λ _. Stops (Cut (CommandEntries 1 e)) a b) → Serves ms a b told told
event_serves (Ok x) ms e a b told c w = serves_quietly ms a b told w.grew.0 w.opened w.grew.1 (event_quiet e w.grew.0 c w.grew.2)
event_serves (Err x) ms e a b told c w = serves_quietly ms a b told w.grew.0 w.opened w.grew.1 (quiet_front w.grew.0 w.grew.2.0 (event_quiet e (w.grew.0 ++ w.grew.2.0) c w.grew.2.1))

-- nothing was done
pub same_serves : (ms : Meanings) (a b : Session) (told : List Told) → b ≡ a → Serves ms a b told told
same_serves ms a b told same = subst (λ x. Serves ms a x told told) (sym same) (serves_itself ms a told)

-- a job was taken, or none was there
pub take_serves : (ms : Meanings) (name : List ℕ) (a b : Session) (told : List Told) → TakesOne name a b → Serves ms a b told told
take_serves ms name a b told t = serves_quietly ms a b told (entry 1 Take t.taken ∷ []) t.opened t.history (refl, tt)

pub none_serves : (ms : Meanings) (a b : Session) (told : List Told) → TakesNone a b → Serves ms a b told told
none_serves ms a b told t = serves_quietly ms a b told [] t.opened (t.history ∙ sym (append-nil a.history)) tt

-- an entry of its own was written
pub one_serves : (ms : Meanings) (a b : Session) (told : List Told) (x : Entry) → b.opened ≡ a.opened → b.history ≡ a.history ++ x ∷ [] → is_of_build x.event ≡ false → Serves ms a b told told
one_serves ms a b told x o h quiet = serves_quietly ms a b told (x ∷ []) o h (quiet, tt)

-- Finish was done, or wanted memory
pub finish_serves : {X E : Type 0} (r : Result X E) (ms : Meanings) (a b : Session) (told : List Told) → b.opened ≡ a.opened
    → OnOk r (b.history ≡ written a.history (entry_of a.state 1 Finish)) → OnErr r (b ≡ a) → Serves ms a b told told
finish_serves (Ok x) ms a b told o h e = one_serves ms a b told (entry_of a.state 1 Finish) o (h ∙ written_more a.history (entry_of a.state 1 Finish) (finish_tried a.state 1)) refl
finish_serves (Err x) ms a b told o h e = same_serves ms a b told e

acts_one : (k : ℕ) (e : Event) (h : List Entry) → is_of_build e ≡ false → acts h ≡ (k, e) ∷ [] → NoBuilds h
acts_one k e h quiet is = quiet_acts {A = Unit {0}} (λ _. (k, e)) (λ _. quiet) (tt ∷ []) h is

-- the worker entered
pub enter_serves : (ms : Meanings) (a b : Session) (told : List Told) → Makes (λ h. acts h ≡ (0, Enter) ∷ []) a b → Serves ms a b told told
enter_serves ms a b told m = serves_quietly ms a b told m.grew.0 m.opened m.grew.1 (acts_one 0 Enter m.grew.0 refl m.grew.2)

-- it left, or that wanted memory
pub leave_serves : {X E : Type 0} (r : Result X E) (ms : Meanings) (a b : Session) (told : List Told) → b.opened ≡ a.opened
    → OnOk r (Grew (λ h. acts h ≡ (1, Leave) ∷ []) a.history b.history) → OnErr r (b ≡ a) → Serves ms a b told told
leave_serves (Ok x) ms a b told o g e = serves_quietly ms a b told g.0 o g.1 (acts_one 1 Leave g.0 refl g.2)
leave_serves (Err x) ms a b told o g e = same_serves ms a b told e
