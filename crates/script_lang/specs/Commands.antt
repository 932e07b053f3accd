-- The lines of a script: what each says, and the words that say it.
use Rattle.std.specs.Prelude.{◌≡◌, ℕ, Bool, true, false, List, [], ◌∷◌, ◌++◌, codes}
use Rattle.builder_api.specs.declared.kind.BuildKind.{BuildKind}
use Rattle.builder_api.specs.declared.kind.BuildKind.TheVariants.{Full, Auto, Incremental, Clean}
use Rattle.save_kind.specs.declared.kind.SaveKind.{SaveKind}
use Rattle.save_kind.specs.declared.kind.SaveKind.TheVariants.{Full as FullSave, Snapshot}
use Rattle.script_lang.specs.declared.script.Command.{Command}
use Rattle.script_lang.specs.declared.script.Command.TheVariants.{Operation, Batch, EndBatch, Checkpoint, Begin, TryBegin, End, Sleep, Wake, Cancel, Build as BuildCommand, Save as SaveCommand}
use Rattle.script_lang.specs.declared.script.Priority.{Priority}
use Rattle.script_lang.specs.declared.script.Priority.TheVariants.{Interactive, Short, Long, Build, Decorate}
use Rattle.script_lang.specs.declared.line.Line.{Line}
use Rattle.script_lang.specs.declared.line.Line.TheVariants.{BeginPhase, BeginJob, InJob, EndJob, EndPhase}
use Rattle.script_words.specs.declared.words.Token.{Token}
use Rattle.script_parts.specs.Parts.{Part, FitsParts, keyword, a_name, rule_parts, rule_read, scope_parts}
use Rattle.script_ops.specs.Operations.{operation_parts}

-- the word of a build's kind
abbrev pub kind_word : BuildKind → List ℕ
kind_word Full = codes "full"
kind_word Auto = codes "auto"
kind_word Incremental = codes "incr"
kind_word Clean = codes "clean"

-- the word of a save's kind
abbrev pub save_word : SaveKind → List ℕ
save_word FullSave = codes "full"
save_word Snapshot = codes "snapshot"

-- the parts of a command's line
abbrev pub command_parts : Command → List Part
command_parts (Operation op) = operation_parts op
command_parts Batch = keyword (codes "batch") ∷ []
command_parts EndBatch = keyword (codes "endbatch") ∷ []
command_parts Checkpoint = keyword (codes "checkpoint") ∷ []
command_parts (Begin rule) = keyword (codes "begin") ∷ rule_parts rule
command_parts (TryBegin rule) = keyword (codes "trybegin") ∷ rule_parts rule
command_parts (End rule) = keyword (codes "end") ∷ rule_parts rule
command_parts (Sleep name) = keyword (codes "sleep") ∷ a_name name ∷ []
command_parts (Wake name) = keyword (codes "wake") ∷ a_name name ∷ []
command_parts (Cancel name) = keyword (codes "cancel") ∷ a_name name ∷ []
command_parts (BuildCommand kind project) = keyword (codes "build") ∷ keyword (kind_word kind) ∷ scope_parts project
command_parts (SaveCommand kind) = keyword (codes "save") ∷ keyword (save_word kind) ∷ []

abbrev pub priority_number : Priority → ℕ
priority_number Interactive = 10
priority_number Short = 20
priority_number Long = 30
priority_number Build = 40
priority_number Decorate = 50

abbrev pub priority_word : Priority → List ℕ
priority_word Interactive = codes "10"
priority_word Short = codes "20"
priority_word Long = codes "30"
priority_word Build = codes "40"
priority_word Decorate = codes "50"

-- the word of a job that is scheduled asleep
abbrev pub asleep_parts : Bool → List Part
asleep_parts true = keyword (codes "asleep") ∷ []
asleep_parts false = []

-- the parts of a line
abbrev pub line_parts : Line → List Part
line_parts BeginPhase = keyword (codes "phase") ∷ []
line_parts (BeginJob name priority asleep rule) = keyword (codes "job") ∷ a_name name ∷ keyword (priority_word priority) ∷ (asleep_parts asleep ++ rule_parts rule)
line_parts (InJob command) = command_parts command
line_parts EndJob = keyword (codes "endjob") ∷ []
line_parts EndPhase = keyword (codes "endphase") ∷ []

-- ---- lines as they are written and read

abbrev pub command_read : Command → Command
command_read (Operation op) = Operation op
command_read Batch = Batch
command_read EndBatch = EndBatch
command_read Checkpoint = Checkpoint
command_read (Begin atoms) = Begin (rule_read atoms)
command_read (TryBegin atoms) = TryBegin (rule_read atoms)
command_read (End atoms) = End (rule_read atoms)
command_read (Sleep name) = Sleep name
command_read (Wake name) = Wake name
command_read (Cancel name) = Cancel name
command_read (BuildCommand kind project) = BuildCommand kind project
command_read (SaveCommand kind) = SaveCommand kind

-- the line that is read where this one is written, whose rule may be any atoms
abbrev pub line_read : Line → Line
line_read BeginPhase = BeginPhase
line_read (BeginJob name priority asleep atoms) = BeginJob name priority asleep (rule_read atoms)
line_read (InJob command) = InJob (command_read command)
line_read EndJob = EndJob
line_read EndPhase = EndPhase

-- the tokens stand for the line: for the parts of one that is read as it
pub record FitsLine (tokens : List Token) (line : Line) : Type 0 where
  pub written : Line
  pub read : line_read written ≡ line
  pub fits : FitsParts tokens (line_parts written)
