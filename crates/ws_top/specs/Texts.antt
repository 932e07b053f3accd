-- The text of a run, and those of the other forms.
use Rattle.std.specs.Prelude.{ℕ, List, [], ◌++◌, Option, Some, None, codes, decimal}
use Rattle.std.specs.List.{flat_map}
use Rattle.script_words.specs.Words.{word_text}
use Rattle.save_round.specs.declared.restoring.KeptState.{KeptState}
use Rattle.save_round.specs.Restoring.{kept_for_each}
use Rattle.save_round.specs.Told.{Told as PartTold}
use Rattle.ws_core.specs.Durables.{kept_since}
use Rattle.ws_durable.specs.declared.durable.Durable.{Durable}
use Rattle.save_store.specs.declared.look.Found.{Found}
use Rattle.area_text.specs.Looks.{found_text}
use Rattle.script_lang.specs.Scripts.{script_text}
use Rattle.script_gen.specs.Generated.{generated}
use Rattle.delta_kind.specs.Deltas.{delta}
use Rattle.core_event.specs.declared.entry.Entry.{Entry}
use Rattle.report_text.specs.Deltas.{delta_lines}
use Rattle.run_text.specs.Lines.{history_lines, some_lines}
use Rattle.load_text.specs.Summaries.{summary_from}
use Rattle.ws_core.specs.States.{Moment}
use Rattle.ws_core.specs.Histories.{replay}
use Rattle.ws_top.specs.declared.report.Telling.{Telling}
use Rattle.ws_top.specs.declared.report.Telling.TheVariants.{All, Summary}

-- what changed since the state was opened
abbrev pub changes_from : Moment → List Entry → List ℕ
changes_from opened h = codes "since start\n" ++ delta_lines (delta opened.resources.tree (replay opened h).resources.tree)

-- ---- what is restored

-- what is told of what is given back, if something is: the name, and what changed since that was kept, where that is told
abbrev pub restored_block : Option KeptState → List ℕ
restored_block None = []
restored_block (Some k) = codes "restored " ++ word_text k.name ++ (codes "\n" ++ some_lines k.delta)

-- what is told of these, one after another
abbrev pub restored_blocks : List (Option KeptState) → List ℕ
restored_blocks = flat_map restored_block

-- of each participant that is the first of its name, in their order
abbrev pub restored_text : Moment → List PartTold → List ℕ
restored_text opened parts = restored_blocks (kept_for_each (kept_since opened) parts)

-- ---- the whole

-- what was done from a state on: the entries, and what changed since that state
abbrev pub done_from : Moment → List Entry → List ℕ
done_from opened h = history_lines h ++ changes_from opened h

-- what is written of a history from a state on, before the status
abbrev pub Report : Type 0
Report = Moment → List Entry → List ℕ

-- the report of a run: what was restored to these participants, and what was done
abbrev pub report_from : List PartTold → Moment → List Entry → List ℕ
report_from parts opened h = restored_text opened parts ++ done_from opened h

-- all of that, or the summary
abbrev pub report_of : Telling → List PartTold → Report
report_of All parts opened h = report_from parts opened h
report_of Summary parts opened h = summary_from opened h

abbrev pub status_line : ℕ → List ℕ
status_line n = codes "status " ++ decimal n ++ codes "\n"

-- the text of a run or of a load: its report, and the status
abbrev pub text : Report → Moment → List Entry → ℕ → List ℕ
text report opened h n = report opened h ++ status_line n

-- the text of a want of memory: of what was done, as above, or the status alone where no state was opened
abbrev pub cut_text : Option Durable → Report → Moment → List Entry → List ℕ
cut_text None report opened h = status_line 8
cut_text (Some d) report opened h = text report opened h 8

abbrev pub bad_line : ℕ → List ℕ
bad_line line = codes "status " ++ decimal 6 ++ codes " line " ++ decimal line ++ codes "\n"

-- the text of what was found in both areas
abbrev pub check_text : Found → List ℕ
check_text found = found_text found ++ status_line 0

-- the text of the script that a number gives
unfoldable pub generated_text : ℕ → List ℕ
generated_text number = script_text (generated number)
