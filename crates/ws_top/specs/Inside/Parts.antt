-- What the parts of a run answer.
use Rattle.std.specs.Prelude.{◌≡◌, ◌≢◌, ◌⊎◌, ℕ, List, [], Option, Result, MatchResult}
use Rattle.ws_outside.specs.declared.contents.Contents.{Contents}
use Rattle.ws_outside.specs.Faults.{Rose}
use Rattle.ws_outside.specs.Streams.{Gains, GainsFront}
use Rattle.ws_durable.specs.declared.durable.Durable.{Durable}
use Rattle.script_lang.specs.declared.script.Script.{Script}
use Rattle.script_lang.specs.Scripts.{IsScript, IsFirstBad}
use Rattle.script_gen.specs.Generated.{generated}
use Rattle.core_event.specs.declared.entry.Entry.{Entry}
use Rattle.builder_api.specs.Meanings.{Meanings}
use Rattle.save_round.specs.Told.{Told as PartTold}
use Rattle.run_text.specs.declared.writing.Unwritten.{Unwritten}
use Rattle.run_text.specs.declared.writing.Unwritten.TheVariants.{Fault, Memory}
use Rattle.run_text.specs.Printing.{IsCause}
use Rattle.phase_run.specs.Calm.{IsCalm}
use Rattle.ws_core.specs.States.{Moment}
use Rattle.ws_top.specs.declared.reading.Unread.{Unread}
use Rattle.ws_top.specs.declared.reading.Unread.TheVariants as unread
use Rattle.ws_top.specs.Limits.{ReadsShort, ReadsLong}
use Rattle.ws_top.specs.Outcomes.{IsStatus, WasRun, WasUnread, WasUnopened, TellsReadFault, TellsWriteFault, SpellsNone, Shuffle, CutShuffle, StoppedShuffle, Spelled, WasStopped, IsOneThread, DoesScript, WritesText, Writes, ReadsNoMore, Completes, RunsScript, LoadsScript}
use Rattle.ws_top.specs.declared.report.Telling.TheVariants.{All}
use Rattle.ws_top.specs.Texts.{Report, report_of, text, status_line, bad_line}

-- ---- reading

-- the status of a source that wasn't read to its end
abbrev pub unread_status : Unread → ℕ
unread_status unread.Fault = 3
unread_status unread.TooLong = 9
unread_status unread.Memory = 8

-- a failed read is told as a fault, and nothing else where none failed
abbrev pub IsUnreadCause : Unread → ℕ → ℕ → Type 0
IsUnreadCause unread.Fault before after = Rose before after
IsUnreadCause unread.TooLong before after = after ≡ before
IsUnreadCause unread.Memory before after = after ≡ before

-- more was read than the longest script has just where that is told
abbrev pub IsUnreadLength : Unread → Option (List ℕ) → Option (List ℕ) → Type 0
IsUnreadLength unread.Fault old new = ReadsShort old new
IsUnreadLength unread.TooLong old new = ReadsLong old new
IsUnreadLength unread.Memory old new = ReadsShort old new

-- ---- writing

-- the bytes were written; or a front of them, and then a write failed
abbrev pub WritesLast : {E : Type 0} → Option (List ℕ) → Option (List ℕ) → ℕ → ℕ → List ℕ → Result E Unwritten → Type 0
WritesLast old new before after bytes result =
    MatchResult result (λ _. Gains old bytes new × (after ≡ before)) (λ e. (e ≡ Fault) × GainsFront old bytes new × Rose before after)

-- what is written before the status was written, or some front of it
abbrev pub WritesReport : {E : Type 0} → Option (List ℕ) → Option (List ℕ) → ℕ → ℕ → List ℕ → Result E Unwritten → Type 0
WritesReport old new before after report result =
    MatchResult result (λ _. Gains old report new × (after ≡ before)) (λ e. GainsFront old report new × IsCause e before after)

-- where the text of a run wasn't written whole: a write failed, or memory wanted before the last line
abbrev pub IsBreak : Unwritten → Option (List ℕ) → Option (List ℕ) → ℕ → ℕ → Report → Moment → List Entry → ℕ → Type 0
IsBreak Fault old new before after report opened h n = GainsFront old (text report opened h n) new × Rose before after
IsBreak Memory old new before after report opened h n = GainsFront old (report opened h) new × (after ≡ before)

-- the text of a run was written, or some front of it
abbrev pub WritesRun : {E : Type 0} → Option (List ℕ) → Option (List ℕ) → ℕ → ℕ → Report → Moment → List Entry → ℕ → Result E Unwritten → Type 0
WritesRun old new before after report opened h n result =
    MatchResult result (λ _. Gains old (text report opened h n) new × (after ≡ before)) (λ e. IsBreak e old new before after report opened h n)

-- ---- running

-- no history
abbrev pub Nothing : List Entry → Type 0
Nothing h = ⊥

-- this history
abbrev pub Same : List Entry → List Entry → Type 0
Same done h = h ≡ done

-- A script was run, as far as memory sufficed, and what was done was written, by this report: `Whole` says that it is all of
-- the script, `Front` that it is a front of it, `Stopped` that at least one call was not made.
pub record Performs (Whole Front Stopped : List Entry → Type 0) (kept : Option Durable) (report : Report) (opened : Moment) (old new : Option (List ℕ)) (before after status : ℕ) (h : List Entry) : Type 0 where
  pub ends : WasRun kept status ⊎ (status ≡ 8)
  pub fault : TellsWriteFault kept before after status ((h ≡ []) ⊎ Stopped h)
  pub done : DoesScript Whole Front kept status h
  pub thread : IsOneThread opened h
  pub text : WritesText kept report opened old new status h
  pub calm : status ≢ 8 → IsCalm h

-- the line that is the first bad one was written, or memory wanted for it
abbrev pub SaysBadLine : ℕ → Option (List ℕ) → Option (List ℕ) → ℕ → ℕ → ℕ → Type 0
SaysBadLine line old new before after status = ((status ≡ 6) × Writes old new before after (bad_line line)) ⊎ ((status ≡ 8) × Writes old new before after (status_line 8))

-- no state was opened, and nothing was done
pub record IsRefused (kept : Option Durable) (status : ℕ) (h : List Entry) : Type 0 where
  pub ends : WasUnopened kept status
  pub nothing : h ≡ []

-- the bytes spell a script, and no state was opened for it
pub record IsUnopenedFor (kept : Option Durable) (bytes : List ℕ) (status : ℕ) (h : List Entry) : Type 0 where
  pub script : Script
  pub spelled : IsScript bytes script
  pub refused : IsRefused kept status h

-- The bytes spell no script: nothing was done, and the line that is the first bad one was written.
pub record TellsBadLine (bytes : List ℕ) (old new : Option (List ℕ)) (before after status : ℕ) (h : List Entry) : Type 0 where
  pub ends : status ≡ 6
  pub none : SpellsNone bytes
  pub nothing : h ≡ []
  pub line : ℕ
  pub place : IsFirstBad bytes line
  pub written : Writes old new before after (bad_line line)

-- what the bytes ask for was done
abbrev pub Responds : Meanings → Option Durable → List PartTold → Moment → List ℕ → Option (List ℕ) → Option (List ℕ) → ℕ → ℕ → ℕ → List Entry → Type 0
Responds ms kept parts opened bytes old new before after status h =
    Performs (Spelled (Shuffle ms opened) bytes) (Spelled (CutShuffle ms opened) bytes) (Spelled (StoppedShuffle ms opened) bytes) kept (report_of All parts) opened old new before after status h
    ⊎ TellsBadLine bytes old new before after status h
    ⊎ IsUnopenedFor kept bytes status h

-- the source was read, and what its bytes ask for was done
pub record EndsRun (ms : Meanings) (kept : Option Durable) (parts : List PartTold) (opened : Moment) (left after_reading : Option (List ℕ)) (reads_before reads_after : Option ℕ) (reads_failed reads_fail : ℕ)
    (seen : Option Contents) (disk_before disk_after : ℕ) (old new : Option (List ℕ)) (before after status : ℕ) (h : List Entry) : Type 0 where
  pub ends : IsStatus status
  pub usage : status ≢ 2
  pub read_fault : TellsReadFault reads_failed reads_fail status
  pub write_fault : TellsWriteFault kept before after status (WasStopped ms opened left after_reading h)
  pub complete : Completes left seen (Rose reads_failed reads_fail) (Rose before after) (Rose disk_before disk_after) status
  pub reads : ReadsNoMore left after_reading reads_before reads_after status
  pub thread : IsOneThread opened h
  pub runs : RunsScript ms kept parts opened left after_reading old new before after status h
  pub calm : status ≢ 8 → IsCalm h
  pub line : WasUnread status → Writes old new before after (status_line status)

-- the script that the number gives was run, or no state was opened for it
pub record EndsLoad (ms : Meanings) (number : ℕ) (kept : Option Durable) (opened : Moment) (seen : Option Contents) (disk_before disk_after : ℕ) (old new : Option (List ℕ)) (before after status : ℕ) (h : List Entry) : Type 0 where
  pub write_fault : TellsWriteFault kept before after status ((h ≡ []) ⊎ StoppedShuffle ms opened (generated number) h)
  pub thread : IsOneThread opened h
  pub loads : LoadsScript ms number kept opened seen disk_before disk_after old new before after status h
  pub calm : status ≢ 8 → IsCalm h
