-- The definitions at worked scripts.
use Rattle.std.proofs.Common.{◌≡◌, ℕ, true, false, Some, None, List, [], ◌∷◌, get_or, refl, ap, arith, lit≤}
use Rattle.std.specs.Prelude.{codes, pos}
use Rattle.std.specs.Fmt.{digits}
use Rattle.std.specs.List.{AllByRecursion}
use Rattle.sched_rules.specs.declared.ws_atom.WsAtom.TheVariants.{Path, Mutex, Lines}
use Rattle.mark_set.specs.declared.value.RawValue.TheVariants.{Int}
use Rattle.op_kind.specs.declared.op.Op.TheVariants.{CreateFile, CreateProject, Derived, Move, Describe, Mark, Read}
use Rattle.op_kind.specs.declared.op.Want.TheVariants.{Cat}
use Rattle.builder_api.specs.declared.kind.BuildKind.TheVariants.{Full, Incremental}
use Rattle.save_kind.specs.declared.kind.SaveKind.TheVariants.{Full as FullSave, Snapshot}
use Rattle.script_lang.specs.declared.script.Command.TheVariants.{Operation, Batch, EndBatch, Checkpoint, Begin, TryBegin, Sleep, Wake, Cancel, Build, Save}
use Rattle.script_lang.specs.declared.script.Job.{Job}
use Rattle.script_lang.specs.declared.script.Priority.TheVariants.{Long, Decorate}
use Rattle.script_lang.specs.declared.line.Line.TheVariants.{BeginPhase}
use Rattle.script_parts.specs.Parts.{a_path, a_number, FitsPart, FitsParts, rule_read}
use Rattle.script_lang.specs.Commands.{line_parts}
use Rattle.script_lang.specs.Names.{HaveOwnNames}
use Rattle.script_lang.specs.Scripts.{script_text, IsScript, HasOwnNames}
use Rattle.script_words.specs.declared.words.Token.{Token}

-- ---- scripts

one_job : Job
one_job = record {
  name = codes "j";
  priority = Long;
  asleep = true;
  rule = Path [] ∷ Lines (codes "P" ∷ []) 3 9 ∷ [];
  commands = Batch ∷ Operation (CreateProject (codes "P" ∷ [])) ∷ Operation (CreateFile (codes "P" ∷ codes "a" ∷ []) (codes "hi")) ∷ Operation (Derived (codes "P" ∷ codes "a" ∷ []) true)
      ∷ Operation (Move (codes "P" ∷ codes "a" ∷ []) []) ∷ Operation (Describe (codes "P" ∷ []) []) ∷ Operation (Read [] Cat) ∷ Operation (Mark [] (codes "t") ((codes "n", Int (pos 7)) ∷ [])) ∷ Begin [] ∷ TryBegin (Mutex (codes "m") ∷ []) ∷ Checkpoint ∷ EndBatch ∷ Sleep (codes "k") ∷ Wake (codes "k") ∷ Cancel (codes "k") ∷ Build Incremental None ∷ Build Full (Some (codes "P")) ∷ Save FullSave ∷ Save Snapshot ∷ [];
}

other_job : Job
other_job = record { name = codes "k"; priority = Decorate; asleep = false; rule = []; commands = [] }

-- the words of each line as they stand in a text
its_text : script_text (record { phases = record { jobs = one_job ∷ other_job ∷ [] } ∷ [] }) ≡ codes
    "phase\njob j 30 asleep path / lines /P 3 9\nbatch\ncreate project /P\ncreate file /P/a hi\nderived /P/a on\nmove /P/a /\ndescribe /P \"\"\ncat /\nmark / t n int 7\nbegin null\ntrybegin mutex m\ncheckpoint\nendbatch\nsleep k\nwake k\ncancel k\nbuild incr\nbuild full /P\nsave full\nsave snapshot\nendjob\njob k 50 null\nendjob\nendphase\n"
unfolding one_job other_job digits
its_text = refl

-- an empty text is the script without phases, and nothing else
no_phases : IsScript [] (record { phases = [] })
no_phases = record { names = tt; tokens = []; spelled = tt; fitting = tt }

-- a name may come again in a later phase
again : AllByRecursion HasOwnNames (record { jobs = one_job ∷ other_job ∷ [] } ∷ record { jobs = one_job ∷ [] } ∷ [])
unfolding one_job other_job
again = (((λ e. let first : 106 ≡ 107 = ap (λ (name : List ℕ). get_or name 0 0) e in omega (arith, first), tt), (tt, tt)), ((tt, tt), tt))

-- but not in the same
not_twice : HaveOwnNames (one_job ∷ one_job ∷ []) → ⊥
not_twice h = h.0.0 refl

-- a keyword doesn't stand between quotes
not_quoted : FitsParts (record { bare = false; word = codes "phase" } ∷ []) (line_parts BeginPhase) → ⊥
not_quoted h = let bare : false ≡ true = h.0.0 in cc

-- but the root may
quoted_root : FitsPart (record { bare = false; word = codes "/" }) (a_path [])
quoted_root = (record { names = tt; deep = lit≤ tt; long = lit≤ tt }, refl)

-- of two atoms the one that the other contains is dropped
one_kept : rule_read (Path (codes "P" ∷ codes "a" ∷ []) ∷ Path (codes "P" ∷ []) ∷ []) ≡ Path (codes "P" ∷ []) ∷ []
one_kept = refl

-- no words are a range whose last line is above its first
no_lines : (token : Token) → FitsPart token (a_number 32 9 3) → ⊥
no_lines token h = omega (arith, h.0.reaches)
