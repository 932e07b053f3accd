-- The line that some words are.
use Rattle.std.proofs.Common.{◌≡◌, true, false, Some, None, List, [], ◌∷◌, map, drop, refl, sym, ◌∙◌, ap}
use Rattle.std.specs.Prelude.{codes, if◌then◌else◌}
use Rattle.std.specs.Str.{bytes_eq}
use Rattle.sched_rules.specs.declared.ws_atom.WsAtom.{WsAtom}
use Rattle.sched_rules.specs.declared.ws_atom.WsAtom.TheVariants.{Path, Mutex, Lines}
use Rattle.op_kind.specs.declared.op.Op.{Op}
use Rattle.op_kind.specs.declared.op.Op.TheVariants.{Sync, Read}
use Rattle.op_kind.specs.declared.op.Want.TheVariants.{Show, Cat, Tree, Digest}
use Rattle.builder_api.specs.declared.kind.BuildKind.{BuildKind}
use Rattle.builder_api.specs.declared.kind.BuildKind.TheVariants.{Full, Auto, Incremental, Clean}
use Rattle.save_kind.specs.declared.kind.SaveKind.{SaveKind}
use Rattle.save_kind.specs.declared.kind.SaveKind.TheVariants.{Full as FullSave, Snapshot}
use Rattle.script_lang.specs.declared.script.Command.TheVariants.{Operation, Batch, EndBatch, Checkpoint, Begin, TryBegin, End, Sleep, Wake, Cancel, Build as BuildCommand, Save as SaveCommand}
use Rattle.script_lang.specs.declared.script.Priority.{Priority}
use Rattle.script_lang.specs.declared.script.Priority.TheVariants.{Interactive, Short, Long, Build, Decorate}
use Rattle.script_lang.specs.declared.line.Line.{Line}
use Rattle.script_lang.specs.declared.line.Line.TheVariants.{BeginPhase, BeginJob, InJob, EndJob, EndPhase}
use Rattle.script_words.specs.declared.words.Token.{Token}
use Rattle.script_words.specs.Words.{Word}
use Rattle.script_parts.specs.Parts.{FitsParts}
use Rattle.script_lang.specs.Commands.{FitsLine, kind_word, save_word, priority_word, line_parts, line_read}
use Rattle.script_parts.proofs.Values.{chosen, nth, atoms_at, scope_at, words_of, AreNamed, rule_back, scope_back, fit_words, fit_all_named}
use Rattle.script_ops.proofs.Coded.{op_at, op_back}
use Rattle.script_ops.specs.Operations.{operation_parts}

abbrev pub priority_at : Word → Priority
priority_at word = chosen word ((codes "10", Interactive) ∷ (codes "20", Short) ∷ (codes "30", Long) ∷ (codes "40", Build) ∷ []) Decorate

priority_back : (p : Priority) → priority_at (priority_word p) ≡ p
priority_back Interactive = refl
priority_back Short = refl
priority_back Long = refl
priority_back Build = refl
priority_back Decorate = refl

abbrev pub kind_at : Word → BuildKind
kind_at word = chosen word ((codes "full", Full) ∷ (codes "auto", Auto) ∷ (codes "incr", Incremental) ∷ []) Clean

kind_back : (kind : BuildKind) → kind_at (kind_word kind) ≡ kind
kind_back Full = refl
kind_back Auto = refl
kind_back Incremental = refl
kind_back Clean = refl

abbrev pub saved_at : Word → SaveKind
saved_at word = chosen word ((codes "full", FullSave) ∷ []) Snapshot

saved_back : (kind : SaveKind) → saved_at (save_word kind) ≡ kind
saved_back FullSave = refl
saved_back Snapshot = refl

-- the line of a job that the words behind its priority are the start of
abbrev pub job_at : Word → Word → List Word → Line
job_at name priority start =
    if bytes_eq (nth 0 start) (codes "asleep") then BeginJob name (priority_at priority) true (atoms_at (drop 1 start)) else BeginJob name (priority_at priority) false (atoms_at start)

-- the line that the words are, where they are one
abbrev pub line_at : List Word → Line
line_at words = chosen (nth 0 words) (
    (codes "phase", BeginPhase)
    ∷ (codes "endphase", EndPhase)
    ∷ (codes "job", job_at (nth 1 words) (nth 2 words) (drop 3 words))
    ∷ (codes "endjob", EndJob)
    ∷ (codes "batch", InJob Batch)
    ∷ (codes "endbatch", InJob EndBatch)
    ∷ (codes "checkpoint", InJob Checkpoint)
    ∷ (codes "begin", InJob (Begin (atoms_at (drop 1 words))))
    ∷ (codes "trybegin", InJob (TryBegin (atoms_at (drop 1 words))))
    ∷ (codes "end", InJob (End (atoms_at (drop 1 words))))
    ∷ (codes "sleep", InJob (Sleep (nth 1 words)))
    ∷ (codes "wake", InJob (Wake (nth 1 words)))
    ∷ (codes "cancel", InJob (Cancel (nth 1 words)))
    ∷ (codes "build", InJob (BuildCommand (kind_at (nth 1 words)) (scope_at (drop 2 words))))
    ∷ (codes "save", InJob (SaveCommand (saved_at (nth 1 words))))
    ∷ []) (InJob (Operation (op_at words)))

-- an operation's words are no other line
op_line : (x : Op) → line_at (words_of (operation_parts x)) ≡ InJob (Operation (op_at (words_of (operation_parts x))))
op_line (Sync p name None) = refl
op_line (Sync p name (Some bytes)) = refl
op_line (Read p Show) = refl
op_line (Read p Cat) = refl
op_line (Read p Tree) = refl
op_line (Read p Digest) = refl
op_line x = refl

line_back : (line : Line) → AreNamed (line_parts line) → line_at (words_of (line_parts line)) ≡ line
line_back BeginPhase h = refl
line_back EndPhase h = refl
line_back EndJob h = refl
line_back (BeginJob name priority true rule) h = λ i. BeginJob name (priority_back priority i) true (rule_back rule h.1.1.1.1 i)
line_back (BeginJob name priority false []) h = λ i. BeginJob name (priority_back priority i) false []
line_back (BeginJob name priority false (Path p ∷ atoms)) h = λ i. BeginJob name (priority_back priority i) false (rule_back (Path p ∷ atoms) h.1.1.1 i)
line_back (BeginJob name priority false (Mutex m ∷ atoms)) h = λ i. BeginJob name (priority_back priority i) false (rule_back (Mutex m ∷ atoms) h.1.1.1 i)
line_back (BeginJob name priority false (Lines f a b ∷ atoms)) h = λ i. BeginJob name (priority_back priority i) false (rule_back (Lines f a b ∷ atoms) h.1.1.1 i)
line_back (InJob Batch) h = refl
line_back (InJob EndBatch) h = refl
line_back (InJob Checkpoint) h = refl
line_back (InJob (Begin rule)) h = ap (λ (rule : List WsAtom). InJob (Begin rule)) (rule_back rule h.1)
line_back (InJob (TryBegin rule)) h = ap (λ (rule : List WsAtom). InJob (TryBegin rule)) (rule_back rule h.1)
line_back (InJob (End rule)) h = ap (λ (rule : List WsAtom). InJob (End rule)) (rule_back rule h.1)
line_back (InJob (Sleep name)) h = refl
line_back (InJob (Wake name)) h = refl
line_back (InJob (Cancel name)) h = refl
line_back (InJob (BuildCommand kind project)) h = λ i. InJob (BuildCommand (kind_back kind i) (scope_back project i))
line_back (InJob (SaveCommand kind)) h = λ i. InJob (SaveCommand (saved_back kind i))
line_back (InJob (Operation x)) h = op_line x ∙ ap (λ (x : Op). InJob (Operation x)) (op_back x h)

-- the line that was written is known from the tokens' words
pub known : (tokens : List Token) (line : Line) → FitsParts tokens (line_parts line) → line ≡ line_at (map (λ (t : Token). t.word) tokens)
known tokens line h = sym (line_back line (fit_all_named tokens (line_parts line) h)) ∙ ap line_at (sym (fit_words tokens (line_parts line) h))

pub same_line : (tokens : List Token) (a b : Line) → FitsLine tokens a → FitsLine tokens b → a ≡ b
same_line tokens a b h g = sym h.read ∙ ap line_read (known tokens h.written h.fits ∙ sym (known tokens g.written g.fits)) ∙ g.read
