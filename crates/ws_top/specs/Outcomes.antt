-- What a run read, did and wrote, by its status.
use Rattle.std.specs.Prelude.{◌≡◌, ◌≢◌, ◌⊎◌, ◌↔◌, ◌≤◌, ℕ, true, List, [], ◌++◌, take, length, Option, Some, None, IfSome, IsSome}
use Rattle.sched_rules.specs.Atoms.{atom_contains, atom_conflicts}
use Rattle.rule_table.specs.Tables.{IsApart}
use Rattle.delta_kind.specs.declared.node.DeltaNode.{DeltaNode}
use Rattle.ws_outside.specs.declared.contents.Contents.{Contents}
use Rattle.ws_outside.specs.Faults.{Rose}
use Rattle.ws_outside.specs.Streams.{Gains, GainsFront, IsAtEnd}
use Rattle.disk_area.specs.declared.damage.Damage.{Damage}
use Rattle.ws_durable.specs.declared.durable.Durable.{Durable}
use Rattle.save_store.specs.declared.look.Found.{Found}
use Rattle.save_store.specs.Looks.{IsLookedAt}
use Rattle.area_text.specs.Damages.{damage_line}
use Rattle.script_lang.specs.declared.script.Script.{Script}
use Rattle.script_lang.specs.Scripts.{IsScript, IsFirstBad}
use Rattle.script_gen.specs.Generated.{generated}
use Rattle.core_event.specs.declared.entry.Entry.{Entry}
use Rattle.builder_api.specs.Meanings.{Meanings}
use Rattle.builder_api.specs.Told.{Told}
use Rattle.save_round.specs.Told.{Told as PartTold}
use Rattle.save_round.specs.Restoring.{HasStoppedRestoring, WereRestored}
use Rattle.save_round.specs.declared.restoring.KeptState.{KeptState}
use Rattle.save_history.specs.Rounds.{HadSaves, rounds_of}
use Rattle.ws_core.specs.Durables.{kept_since}
use Rattle.ws_core.specs.States.{Moment}
use Rattle.ws_core.specs.Histories.{has_entered, replay, Legal, notices, told_of}
use Rattle.run_order.specs.Orders as order
use Rattle.save_parts.specs.Heard.{Heard, HeardMore}
use Rattle.phase_run.specs.Calm.{IsCalm}
use Rattle.phase_run.specs.Plans.{Made}
use Rattle.script_plan.specs.Plans.{phases_plan}
use Rattle.run_words.specs.declared.words.Form.{Form}
use Rattle.ws_top.specs.declared.report.Telling.TheVariants as telling
use Rattle.run_words.specs.declared.words.Form.TheVariants.{Generate, Load, Help, Version}
use Rattle.ws_opening.specs.Opened.{opened_state}
use Rattle.ws_top.specs.Areas.{IsHeld, IsDamage, AreUndamaged, FindsDamage, TellsDiskFault}
use Rattle.load_text.specs.Summaries.{summary_from}
use Rattle.run_words.specs.Forms.{IsRun, IsCheck, Works, Touches, help_text, version_text}
use Rattle.ws_top.specs.Limits.{longest, Reads, ReadsAll, ReadsShort, ReadsLong}
use Rattle.ws_top.specs.Texts.{Report, report_of, text, cut_text, status_line, bad_line, check_text, generated_text}

-- ---- statuses

-- the statuses with which the program ends
abbrev pub IsStatus : ℕ → Type 0
IsStatus status = (status ≡ 0) ⊎ (status ≡ 2) ⊎ (status ≡ 3) ⊎ (status ≡ 4) ⊎ (status ≡ 6) ⊎ (status ≡ 8) ⊎ (status ≡ 9) ⊎ (status ≡ 5) ⊎ (status ≡ 7)

-- the status is none of those of a source that wasn't read to its end, and memory sufficed
pub record WasRead (status : ℕ) : Type 0 where
  pub usage : status ≢ 2
  pub fault : status ≢ 3
  pub memory : status ≢ 8
  pub too_long : status ≢ 9

-- a script was run to its end: the sink may have failed, or, where a state was opened, the disk in a save
abbrev pub WasRun : Option Durable → ℕ → Type 0
WasRun kept status = (status ≡ 0) ⊎ (status ≡ 4) ⊎ ((status ≡ 5) × IsSome kept)

-- the source wasn't read to its end, and memory sufficed
abbrev pub WasUnread : ℕ → Type 0
WasUnread status = (status ≡ 2) ⊎ (status ≡ 3) ⊎ (status ≡ 9)

-- nothing was run, and memory sufficed
abbrev pub WasIdle : ℕ → Type 0
WasIdle status = WasUnread status ⊎ (status ≡ 6)

-- the areas couldn't be read: the disk failed, and no state was opened, or they are damaged
abbrev pub WasUnopened : Option Durable → ℕ → Type 0
WasUnopened kept status = ((status ≡ 5) × (kept ≡ None)) ⊎ (status ≡ 7)

-- ---- faults

-- A failed read is told by the status 3, and by no other.
pub record TellsReadFault (before after status : ℕ) : Type 0 where
  pub rose_at_3 : status ≡ 3 → Rose before after
  pub calm_else : status ≢ 3 → after ≡ before

-- A failed write is told by the status 4, or by one whose cause came earlier: at 8 that is where memory had wanted
-- before the first failed write. None failed at 0, and at 5 where a state was opened.
pub record TellsWriteFault (kept : Option Durable) (before after status : ℕ) (WantedBefore : Type 0) : Type 0 where
  pub rose_at_4 : status ≡ 4 → Rose before after
  pub calm_at_0 : status ≡ 0 → after ≡ before
  pub calm_at_5 : status ≡ 5 → IsSome kept → after ≡ before
  pub calm_or_later_at_8 : status ≡ 8 → (after ≡ before) ⊎ WantedBefore

-- ---- which state is opened

-- Which state a run opened: the one that both areas hold. There is one where the script was run to its end, and none where
-- nothing was run and memory sufficed. Where there is none nothing was done.
pub record TellsState (kept : Option Durable) (seen : Option Contents) (status : ℕ) (h : List Entry) : Type 0 where
  pub held : IsHeld kept seen
  pub some_if_run : WasRun kept status → IsSome kept
  pub none_if_idle : WasIdle status → kept ≡ None
  pub none_if_unopened : WasUnopened kept status → kept ≡ None
  pub nothing_if_none : kept ≡ None → h ≡ []

-- ---- what is done

-- the bytes spell no script
abbrev pub SpellsNone : List ℕ → Type 0
SpellsNone bytes = (script : Script) → IsScript bytes script → ⊥

-- one worker ran the phases of the script from a state on, to their end; the builders of its builds mean what is told
abbrev pub Shuffle : Meanings → Moment → Script → List Entry → Type 0
Shuffle ms opened script h = order.Shuffle (Made ms) opened (phases_plan script.phases) 1 h

-- the same, as far as it came
abbrev pub CutShuffle : Meanings → Moment → Script → List Entry → Type 0
CutShuffle ms opened script h = order.CutShuffle (Made ms) opened (phases_plan script.phases) 1 h

-- the same, and the worker hasn't left: it is still there, or never entered
pub record StoppedShuffle (ms : Meanings) (opened : Moment) (script : Script) (h : List Entry) : Type 0 where
  pub cut : CutShuffle ms opened script h
  pub there : (h ≡ []) ⊎ (has_entered 1 (replay opened h) ≡ true)

-- the bytes spell a script, and what was run is made of it in this way
pub record Spelled (Made : Script → List Entry → Type 0) (bytes : List ℕ) (h : List Entry) : Type 0 where
  pub script : Script
  pub spelled : IsScript bytes script
  pub made : Made script h

-- the source was read to its end, its bytes spell a script, and what was run is made of it in this way
pub record Ran (Made : Script → List Entry → Type 0) (old new : Option (List ℕ)) (h : List Entry) : Type 0 where
  pub bytes : List ℕ
  pub script : Script
  pub read : ReadsAll old new bytes
  pub spelled : IsScript bytes script
  pub made : Made script h

-- the script was run to its end
abbrev pub RanAll : Meanings → Moment → Option (List ℕ) → Option (List ℕ) → List Entry → Type 0
RanAll ms opened = Ran (Shuffle ms opened)

-- the same, up to a call at which it stopped
abbrev pub RanSome : Meanings → Moment → Option (List ℕ) → Option (List ℕ) → List Entry → Type 0
RanSome ms opened = Ran (CutShuffle ms opened)

-- memory wanted before the end of a run of the script on the source: nothing was done, or the worker hasn't left
abbrev pub WasStopped : Meanings → Moment → Option (List ℕ) → Option (List ℕ) → List Entry → Type 0
WasStopped ms opened old new h = (h ≡ []) ⊎ Ran (StoppedShuffle ms opened) old new h

-- the same of the script that the words ask for: the one on the source, or the one that a number gives
abbrev pub WasStoppedAs : Option Form → Meanings → Moment → Option (List ℕ) → Option (List ℕ) → List Entry → Type 0
WasStoppedAs form ms opened old new h = (h ≡ []) ⊎ (IsRun form × Ran (StoppedShuffle ms opened) old new h) ⊎ ((number : ℕ) × (form ≡ Some (Load number)) × StoppedShuffle ms opened (generated number) h)

-- The run's history is one thread's: from the opened state each reply is the one that the table of steps gives at its
-- place, and each notice is the delta between two telling places. No two jobs ever hold conflicting rules: at each front
-- of the history each rule lies within those that its pass began before, and no rules of two passes conflict.
pub record IsOneThread (opened : Moment) (h : List Entry) : Type 0 where
  pub legal : Legal opened h
  pub told : told_of h ≡ notices opened h
  pub apart : (n : ℕ) → IsApart atom_contains atom_conflicts (replay opened (take n h)).manager.passes.rules

-- What listeners were told: each the notices of the history, in order, after what it had been told; where memory wanted
-- some of the first of them.
pub record HearsNotices (opened : Moment) (status : ℕ) (h : List Entry) (old new : List Heard) : Type 0 where
  pub all_else : status ≢ 8 → HeardMore (notices opened h) old new
  pub front_at_8 : status ≡ 8 → (front : List (List DeltaNode)) × (rest : List (List DeltaNode)) × (notices opened h ≡ front ++ rest) × HeardMore front old new

-- What was done: `All` says that it is all of the script, `Front` that it is a front of it.
pub record DoesScript (All Front : List Entry → Type 0) (kept : Option Durable) (status : ℕ) (h : List Entry) : Type 0 where
  pub all_if_run : WasRun kept status → All h
  pub some_at_8 : status ≡ 8 → (h ≡ []) ⊎ Front h

-- ---- participants

-- What participants were told: where a state was opened the first of each name that kept something in it got that back, with
-- what changed since where it asked for that, and then had the calls of the saves of the history, in order, and no others.
-- Where none was opened they had no call; or memory wanted while they got back what they kept.
abbrev pub HaveTakenPart : Option Durable → Moment → ℕ → List Entry → List PartTold → List PartTold → Type 0
HaveTakenPart None opened status h old new = (new ≡ old) ⊎ ((status ≡ 8) × ((kept : List KeptState) × HasStoppedRestoring kept old new))
HaveTakenPart (Some d) opened status h old new = (then : List PartTold) × WereRestored (kept_since opened) old then × HadSaves (rounds_of h).ended then new

-- ---- what is written

-- the status of a run without a failed write: a call on the disk failed in a save, or none did
abbrev pub IsUnwritten : ℕ → Type 0
IsUnwritten status = (status ≡ 0) ⊎ (status ≡ 5)

-- What was written is the text of what was done, by this report: all of it, a front of it where a write failed, or a front of
-- the text of a want of memory.
pub record WritesText (kept : Option Durable) (report : Report) (opened : Moment) (old new : Option (List ℕ)) (status : ℕ) (h : List Entry) : Type 0 where
  pub all_at_0 : status ≡ 0 → Gains old (text report opened h 0) new
  pub all_at_5 : status ≡ 5 → IsSome kept → Gains old (text report opened h 5) new
  pub front_at_4 : status ≡ 4 → (n : ℕ) × IsUnwritten n × GainsFront old (text report opened h n) new
  pub front_at_8 : status ≡ 8 → GainsFront old (cut_text kept report opened h) new

-- the text was written; or a front of it, and then a write failed
abbrev pub Writes : Option (List ℕ) → Option (List ℕ) → ℕ → ℕ → List ℕ → Type 0
Writes old new before after text = Gains old text new ⊎ (GainsFront old text new × Rose before after)

-- the areas have this damage, and its line was written
pub record WritesDamage (seen : Option Contents) (old new : Option (List ℕ)) (before after : ℕ) : Type 0 where
  pub damage : Damage
  pub is : IsDamage seen damage
  pub line : Writes old new before after (damage_line damage)

-- Where no state was opened nothing was done. What was written is the line of the status, which names the first damage where
-- the areas are damaged.
pub record TellsUnopened (kept : Option Durable) (seen : Option Contents) (old new : Option (List ℕ)) (before after status : ℕ) (h : List Entry) : Type 0 where
  pub nothing : WasUnopened kept status → h ≡ []
  pub line_at_5 : kept ≡ None → status ≡ 5 → Writes old new before after (status_line 5)
  pub damage_at_7 : status ≡ 7 → WritesDamage seen old new before after
  pub line_at_8 : kept ≡ None → status ≡ 8 → Writes old new before after (status_line 8)

-- the source was read to its end, its bytes spell no script, and this is the text that names the first bad line
pub record IsTextBad (old new : Option (List ℕ)) (written : List ℕ) : Type 0 where
  pub bytes : List ℕ
  pub line : ℕ
  pub read : ReadsAll old new bytes
  pub none : SpellsNone bytes
  pub place : IsFirstBad bytes line
  pub line_is : written ≡ bad_line line

-- ---- a whole run

-- What was read, at most one byte more than the longest script has, and so much just at the status 9.
pub record ReadsNoMore (old new : Option (List ℕ)) (before after : Option ℕ) (status : ℕ) : Type 0 where
  pub few : (bytes : List ℕ) × Reads old new before after bytes
  pub one_too_many_at_9 : status ≡ 9 → ReadsLong old new
  pub short_else : status ≢ 9 → ReadsShort old new

-- the source was read to its end; its bytes spell a script or spell none, as the status says
abbrev pub Judges : Option (List ℕ) → Option (List ℕ) → ℕ → Type 0
Judges old new status = (bytes : List ℕ) × ReadsAll old new bytes × ((status ≡ 6) ↔ SpellsNone bytes)

-- where nothing failed, the bytes to read spell a script that isn't too long and the areas have no damage, it is run, or
-- memory wants
abbrev pub Completes : Option (List ℕ) → Option Contents → Type 0 → Type 0 → Type 0 → ℕ → Type 0
Completes left seen ReadFailed WriteFailed DiskFailed status = (ReadFailed → ⊥) → (WriteFailed → ⊥) → (DiskFailed → ⊥)
    → (bytes : List ℕ) (script : Script) (both : Contents) → left ≡ Some bytes → length bytes ≤ longest → IsScript bytes script
    → seen ≡ Some both → AreUndamaged both → (status ≡ 0) ⊎ (status ≡ 8)

-- The source `left` what it had to read, and the sink went from `old` to `new`.
pub record RunsScript (ms : Meanings) (kept : Option Durable) (parts : List PartTold) (opened : Moment) (left after_reading old new : Option (List ℕ)) (before after status : ℕ) (h : List Entry) : Type 0 where
  pub to_its_end : WasRead status → IsAtEnd after_reading
  pub judged : WasRead status → Judges left after_reading status
  pub nothing_if_idle : WasIdle status → h ≡ []
  pub done : DoesScript (RanAll ms opened left after_reading) (RanSome ms opened left after_reading) kept status h
  pub text : WritesText kept (report_of telling.All parts) opened old new status h
  pub bad_line_at_6 : status ≡ 6 → (written : List ℕ) × IsTextBad left after_reading written × Writes old new before after written

-- where nothing failed and the areas have no damage, the end is reached, or memory wants
abbrev pub EndsWell : Option Contents → Type 0 → Type 0 → ℕ → Type 0
EndsWell seen WriteFailed DiskFailed status = (WriteFailed → ⊥) → (DiskFailed → ⊥) → (both : Contents) → seen ≡ Some both → AreUndamaged both → (status ≡ 0) ⊎ (status ≡ 8)

-- What `load` does: the script that the number gives is run, from the state that the areas hold, or they couldn't be opened.
-- What is written is the summary of the history, in the place of a run's report.
pub record LoadsScript (ms : Meanings) (number : ℕ) (kept : Option Durable) (opened : Moment) (seen : Option Contents) (disk_before disk_after : ℕ) (old new : Option (List ℕ)) (before after status : ℕ) (h : List Entry) : Type 0 where
  pub ends : WasRun kept status ⊎ WasUnopened kept status ⊎ (status ≡ 8)
  pub done : DoesScript (Shuffle ms opened (generated number)) (CutShuffle ms opened (generated number)) kept status h
  pub text : WritesText kept summary_from opened old new status h
  pub complete : EndsWell seen (Rose before after) (Rose disk_before disk_after) status

-- the text was told; or a front of it, and then a write failed
abbrev pub Tells : List ℕ → Option (List ℕ) → Option (List ℕ) → ℕ → ℕ → ℕ → Type 0
Tells text old new before after status = ((status ≡ 0) × Gains old text new × (after ≡ before)) ⊎ ((status ≡ 4) × GainsFront old text new × Rose before after)

-- the text was told, as above, or memory wanted for it
abbrev pub TellsOrWants : List ℕ → Option (List ℕ) → Option (List ℕ) → ℕ → ℕ → ℕ → Type 0
TellsOrWants text old new before after status = Tells text old new before after status ⊎ ((status ≡ 8) × Writes old new before after (status_line 8))

-- What `gen` tells: the text of the script that the number gives, which spells that script; or memory wanted for it.
pub record TellsScript (number : ℕ) (old new : Option (List ℕ)) (before after status : ℕ) : Type 0 where
  pub told : TellsOrWants (generated_text number) old new before after status
  pub spelled : status ≢ 8 → IsScript (generated_text number) (generated number)

-- both areas were looked at, and what they hold was told
pub record TellsFound (seen : Option Contents) (old new : Option (List ℕ)) (before after status : ℕ) : Type 0 where
  pub found : Found
  pub held : IfSome seen (λ both. IsLookedAt both found)
  pub told : Tells (check_text found) old new before after status

-- What `check` tells: what both areas hold; or a status that says why it doesn't.
pub record Checks (seen : Option Contents) (disk_before disk_after : ℕ) (old new : Option (List ℕ)) (before after status : ℕ) : Type 0 where
  pub tells : TellsFound seen old new before after status ⊎ WasUnopened None status ⊎ (status ≡ 8)
  pub complete : EndsWell seen (Rose before after) (Rose disk_before disk_after) status

-- no read was made
pub record ReadsNothing (old new : Option (List ℕ)) (reads_before reads_after : Option ℕ) (before after : ℕ) : Type 0 where
  pub left : new ≡ old
  pub reads : reads_after ≡ reads_before
  pub faults : after ≡ before

-- What the program answers to words of a form, or of none.
pub record EndsProgram (ms : Meanings) (kept : Option Durable) (told : List Told) (parts : List PartTold) (form : Option Form) (left after_reading : Option (List ℕ)) (reads_before reads_after : Option ℕ) (reads_failed reads_fail : ℕ)
    (seen : Option Contents) (disk_before disk_after : ℕ) (old new : Option (List ℕ)) (before after status : ℕ) (h : List Entry) : Type 0 where
  pub ends : IsStatus status
  pub usage : (status ≡ 2) ↔ (form ≡ None)
  pub read_fault : TellsReadFault reads_failed reads_fail status
  pub disk_fault : TellsDiskFault disk_before disk_after status
  pub write_fault : TellsWriteFault kept before after status (WasStoppedAs form ms (opened_state kept told) left after_reading h)
  pub damaged : Touches form → IfSome seen (λ both. FindsDamage both status)
  pub complete : IsRun form → Completes left seen (Rose reads_failed reads_fail) (Rose before after) (Rose disk_before disk_after) status
  pub reads : ReadsNoMore left after_reading reads_before reads_after status
  pub opens : Works form → TellsState kept seen status h
  pub none : (Works form → ⊥) → kept ≡ None
  pub thread : IsOneThread (opened_state kept told) h
  pub runs : IsRun form → RunsScript ms kept parts (opened_state kept told) left after_reading old new before after status h
  pub calm : status ≢ 8 → IsCalm h
  pub line : WasUnread status → Writes old new before after (status_line status)
  pub unopened : TellsUnopened kept seen old new before after status h
  pub loads : (number : ℕ) → form ≡ Some (Load number) → LoadsScript ms number kept (opened_state kept told) seen disk_before disk_after old new before after status h
  pub checks : IsCheck form → Checks seen disk_before disk_after old new before after status
  pub generates : (number : ℕ) → form ≡ Some (Generate number) → TellsScript number old new before after status
  pub help : form ≡ Some Help → Tells help_text old new before after status
  pub version : form ≡ Some Version → Tells version_text old new before after status
  pub unread : (IsRun form → ⊥) → ReadsNothing left after_reading reads_before reads_after reads_failed reads_fail
  pub undone : (Works form → ⊥) → h ≡ []
