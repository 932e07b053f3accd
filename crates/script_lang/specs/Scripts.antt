-- Scripts, the texts that spell them, and the first bad line of a text that spells none.
use Rattle.std.specs.Prelude.{◌≡◌, ℕ, ◌+◌, ◌-◌, ◌≤◌, List, [], ◌∷◌, ◌++◌, map, length, take}
use Rattle.std.specs.List.{flat_map, AllByRecursion}
use Rattle.script_lang.specs.declared.script.Command.{Command}
use Rattle.script_lang.specs.declared.script.Job.{Job}
use Rattle.script_lang.specs.declared.script.Phase.{Phase}
use Rattle.script_lang.specs.declared.script.Script.{Script}
use Rattle.script_lang.specs.declared.line.Line.{Line}
use Rattle.script_lang.specs.declared.line.Line.TheVariants.{BeginPhase, BeginJob, InJob, EndJob, EndPhase}
use Rattle.script_words.specs.declared.words.Token.{Token}
use Rattle.script_words.specs.Lines.{lines_of, SpellsLines}
use Rattle.script_lang.specs.Commands.{FitsLine, line_parts, command_parts}
use Rattle.script_lang.specs.Names.{HaveOwnNames}
use Rattle.script_parts.specs.Parts.{parts_text}

-- ---- the lines of a script

abbrev pub job_lines : Job → List Line
job_lines job = BeginJob job.name job.priority job.asleep job.rule ∷ (map InJob job.commands ++ EndJob ∷ [])

abbrev pub phase_lines : Phase → List Line
phase_lines phase = BeginPhase ∷ (flat_map job_lines phase.jobs ++ EndPhase ∷ [])

abbrev pub script_lines : Script → List Line
script_lines script = flat_map phase_lines script.phases

-- ---- which texts spell it

-- the tokens stand for the lines, one by one
abbrev pub FitsLines : List (List Token) → List Line → Type 0
FitsLines [] [] = Unit {0}
FitsLines (tokens ∷ more) (line ∷ lines) = FitsLine tokens line × FitsLines more lines
FitsLines [] (line ∷ lines) = ⊥
FitsLines (tokens ∷ more) [] = ⊥

-- the names of jobs in one phase differ; they may come again in another
abbrev pub HasOwnNames : Phase → Type 0
HasOwnNames phase = HaveOwnNames phase.jobs

-- the lines spell the script
pub record IsScriptOf (lines : List (List ℕ)) (script : Script) : Type 0 where
  pub names : AllByRecursion HasOwnNames script.phases
  pub tokens : List (List Token)
  pub spelled : SpellsLines lines tokens
  pub fitting : FitsLines tokens (script_lines script)

-- the text spells the script
abbrev pub IsScript : List ℕ → Script → Type 0
IsScript bytes script = IsScriptOf (lines_of bytes) script

-- ---- the first bad line

-- some lines after these make them a script
pub record IsBeginning (lines : List (List ℕ)) : Type 0 where
  pub more : List (List ℕ)
  pub script : Script
  pub spelled : IsScriptOf (lines ++ more) script

-- the first line, counted from 1, at which no continuation makes the lines so far the beginning of a script; one past
-- the last where each line has one, and the lines alone are none
pub record IsFirstBad (bytes : List ℕ) (number : ℕ) : Type 0 where
  pub counted : 1 ≤ number
  pub within : number ≤ length (lines_of bytes) + 1
  pub before : IsBeginning (take (number - 1) (lines_of bytes))
  pub bad : number ≤ length (lines_of bytes) → IsBeginning (take number (lines_of bytes)) → ⊥
  pub short : number ≡ length (lines_of bytes) + 1 → (script : Script) → IsScript bytes script → ⊥

-- ---- how it is printed

abbrev pub line_text : Line → List ℕ
line_text line = parts_text (line_parts line)

-- lines, with LF after each
abbrev pub ended : List Line → List ℕ
ended lines = flat_map (λ line. line_text line ++ 10 ∷ []) lines

abbrev pub script_text : Script → List ℕ
script_text script = ended (script_lines script)

-- a command's line, without its end
abbrev pub command_text : Command → List ℕ
command_text command = parts_text (command_parts command)
