-- The script that a number gives. What a part of it draws begins at a state that is handed to the part. The parts draw in
-- the order of the text: a hundred times for each project, once a file, and then a hundred times for each job of edits, twice
-- a write.
use Rattle.std.specs.Prelude.{ℕ, zero, suc, ◌+◌, ◌*◌, List, [], ◌∷◌, ◌++◌, map, false, None, codes, decimal}
use Rattle.std.specs.List.{flat_map, range_with_len}
use Rattle.res_path.specs.Paths.{Names}
use Rattle.sched_rules.specs.declared.ws_atom.WsAtom.TheVariants.{Path}
use Rattle.proj_desc.specs.declared.input.Input.TheVariants.{Own}
use Rattle.proj_desc.specs.declared.command.Command.{Command as BuildCommand}
use Rattle.proj_desc.specs.declared.desc.Desc.{Desc}
use Rattle.proj_desc.specs.Canonical.{canonical}
use Rattle.op_kind.specs.declared.op.Op.TheVariants.{CreateFile, CreateFolder, CreateProject, Describe, Write}
use Rattle.builder_api.specs.declared.kind.BuildKind.TheVariants.{Full, Incremental}
use Rattle.save_kind.specs.declared.kind.SaveKind.TheVariants.{Full as FullSave}
use Rattle.script_lang.specs.declared.script.Command.{Command}
use Rattle.script_lang.specs.declared.script.Command.TheVariants.{Operation, Batch, EndBatch, Build, Save}
use Rattle.script_lang.specs.declared.script.Priority.TheVariants.{Long, Build as ToBuild}
use Rattle.script_lang.specs.declared.script.Job.{Job}
use Rattle.script_lang.specs.declared.script.Script.{Script}
use Rattle.script_gen.specs.Draws.{behind, drawn}

-- ---- names

abbrev pub numbered : List ℕ → ℕ → List ℕ
numbered letter n = letter ++ decimal n

abbrev pub project_path : ℕ → Names
project_path p = numbered (codes "G") p ∷ []

abbrev pub source_path : ℕ → Names
source_path p = project_path p ++ codes "src" ∷ []

abbrev pub file_path : ℕ → ℕ → Names
file_path p f = source_path p ++ numbered (codes "f") f ∷ []

-- ---- the projects

-- each project but the first refers to the one before it
abbrev pub references : ℕ → List (List ℕ)
references zero = []
references (suc p) = numbered (codes "G") p ∷ []

-- what lies in src is copied to bin
abbrev pub copying : BuildCommand
copying = record { builder = codes "copy"; inputs = Own (codes "src" ∷ []) ∷ []; output = codes "bin" ∷ [] }

abbrev pub description : ℕ → Desc
description p = record { references = references p; commands = copying ∷ [] }

-- a file with what is drawn for it, behind those before it
abbrev pub create_file : ℕ → ℕ → ℕ → Command
create_file state p f = Operation (CreateFile (file_path p f) (decimal (drawn state f 32768)))

unfoldable pub files : ℕ → ℕ → List Command
files state p = map (create_file state p) (range_with_len 0 100)

-- a project with its files
abbrev pub project_commands : ℕ → ℕ → List Command
project_commands state p =
    Operation (CreateProject (project_path p))
    ∷ Operation (Describe (project_path p) (canonical (description p)))
    ∷ Operation (CreateFolder (source_path p))
    ∷ files state p

unfoldable pub projects : ℕ → List Command
projects state = flat_map (λ p. project_commands (behind state (100 * p)) p) (range_with_len 0 16)

-- ---- the edits

-- a file is drawn, and then what is written to it
abbrev pub write_file : ℕ → ℕ → ℕ → Command
write_file state p i = Operation (Write (file_path p (drawn state (2 * i) 100)) (decimal (drawn state (2 * i + 1) 32768)))

unfoldable pub edits : ℕ → ℕ → List Command
edits state p = map (write_file state p) (range_with_len 0 50)

-- ---- the jobs

-- in one batch
abbrev pub batched : List Command → List Command
batched commands = Batch ∷ (commands ++ EndBatch ∷ [])

abbrev pub setup_job : ℕ → Job
setup_job state = record {
  name = codes "setup";
  priority = Long;
  asleep = false;
  rule = Path [] ∷ [];
  commands = batched (projects state ++ Build Full None ∷ []);
}

abbrev pub edit_job : ℕ → ℕ → Job
edit_job state p = record {
  name = numbered (codes "e") p;
  priority = Long;
  asleep = false;
  rule = Path (project_path p) ∷ [];
  commands = batched (edits state p);
}

unfoldable pub edit_jobs : ℕ → List Job
edit_jobs state = map (λ p. edit_job (behind state (100 * p)) p) (range_with_len 0 16)

abbrev pub finish_job : Job
finish_job = record {
  name = codes "finish";
  priority = ToBuild;
  asleep = false;
  rule = Path [] ∷ [];
  commands = Build Incremental None ∷ Save FullSave ∷ [];
}

-- the projects are made, all of them are written to side by side, and the workspace is built and saved
abbrev pub generated : ℕ → Script
generated number = record {
  phases =
      record { jobs = setup_job number ∷ [] }
      ∷ record { jobs = edit_jobs (behind number 1600) }
      ∷ record { jobs = finish_job ∷ [] }
      ∷ [];
}
