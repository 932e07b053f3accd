-- The words that lines begin with.
use Rattle.std.specs.Prelude.{◌≡◌, ◌≢◌, ℕ, Bool, true, false, not, List, [], ◌∷◌, Option, Some, None, codes}
use Rattle.std.specs.List.{AllByRecursion}
use Rattle.script_ops.specs.declared.verb.Verb.{Verb}
use Rattle.script_ops.specs.declared.verb.Verb.TheVariants.{Phase, EndPhase, Job, EndJob, Batch, EndBatch, Checkpoint, Begin, TryBegin, End, Sleep, Wake, Cancel, Build, Save, Create, Delete, Write, Touch, Derived, Move, Copy, Open, Close, Describe, Forget, Mark, Attr, Unmark, ClearMarks, Partner, Sync, NoSync, Flush, Show, Cat, Tree, Digest}
use Rattle.script_words.specs.declared.words.Token.{Token}

-- the word that a line begins with
abbrev pub verb_word : Verb → List ℕ
verb_word Phase = codes "phase"
verb_word EndPhase = codes "endphase"
verb_word Job = codes "job"
verb_word EndJob = codes "endjob"
verb_word Batch = codes "batch"
verb_word EndBatch = codes "endbatch"
verb_word Checkpoint = codes "checkpoint"
verb_word Begin = codes "begin"
verb_word TryBegin = codes "trybegin"
verb_word End = codes "end"
verb_word Sleep = codes "sleep"
verb_word Wake = codes "wake"
verb_word Cancel = codes "cancel"
verb_word Build = codes "build"
verb_word Save = codes "save"
verb_word Create = codes "create"
verb_word Delete = codes "delete"
verb_word Write = codes "write"
verb_word Touch = codes "touch"
verb_word Derived = codes "derived"
verb_word Move = codes "move"
verb_word Copy = codes "copy"
verb_word Open = codes "open"
verb_word Close = codes "close"
verb_word Describe = codes "describe"
verb_word Forget = codes "forget"
verb_word Mark = codes "mark"
verb_word Attr = codes "attr"
verb_word Unmark = codes "unmark"
verb_word ClearMarks = codes "clearmarks"
verb_word Partner = codes "partner"
verb_word Sync = codes "sync"
verb_word NoSync = codes "nosync"
verb_word Flush = codes "flush"
verb_word Show = codes "show"
verb_word Cat = codes "cat"
verb_word Tree = codes "tree"
verb_word Digest = codes "digest"

-- the verbs, by what their lines are: the bounds of phases, jobs, batches and rules with what steers jobs, what builds and
-- what saves, the changes of resources, those of markers and synchronisation bytes, and the reads
abbrev pub bounds : List Verb
bounds = Phase ∷ EndPhase ∷ Job ∷ EndJob ∷ Batch ∷ EndBatch ∷ Checkpoint ∷ Begin ∷ TryBegin ∷ End ∷ Sleep ∷ Wake ∷ Cancel ∷ Build ∷ Save ∷ []

abbrev pub changes : List Verb
changes = Create ∷ Delete ∷ Write ∷ Touch ∷ Derived ∷ Move ∷ Copy ∷ Open ∷ Close ∷ Describe ∷ Forget ∷ []

abbrev pub notes : List Verb
notes = Mark ∷ Attr ∷ Unmark ∷ ClearMarks ∷ Partner ∷ Sync ∷ NoSync ∷ Flush ∷ []

abbrev pub reads : List Verb
reads = Show ∷ Cat ∷ Tree ∷ Digest ∷ []

-- the verb that the word is, or none where it is none of these
abbrev pub IsNamed : List Verb → List ℕ → Option Verb → Type 0
IsNamed verbs word None = AllByRecursion (λ verb. word ≢ verb_word verb) verbs
IsNamed verbs word (Some verb) = word ≡ verb_word verb

-- a line that begins with the verb has no other word
abbrev pub stands_alone : Verb → Bool
stands_alone Phase = true
stands_alone EndPhase = true
stands_alone EndJob = true
stands_alone Batch = true
stands_alone EndBatch = true
stands_alone Checkpoint = true
stands_alone verb = false

-- a line that begins with the verb is one of an operation
abbrev pub begins_operation : Verb → Bool
begins_operation Job = false
begins_operation Begin = false
begins_operation TryBegin = false
begins_operation End = false
begins_operation Sleep = false
begins_operation Wake = false
begins_operation Cancel = false
begins_operation Build = false
begins_operation Save = false
begins_operation verb = not (stands_alone verb)

-- a line that begins with the verb and goes on with these tokens
abbrev pub begun_with : Verb → List Token → List Token
begun_with verb rest = record { bare = true; word = verb_word verb } ∷ rest
