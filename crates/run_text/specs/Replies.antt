-- The lines of a history's entries.
use Rattle.std.specs.Prelude.{ℕ, Bool, true, false, List, [], ◌∷◌, ◌++◌, length, Option, Some, None, codes, decimal}
use Rattle.std.specs.List.{flat_map}
use Rattle.res_path.specs.Paths.{Names}
use Rattle.mark_set.specs.declared.error.ValueCause.{ValueCause}
use Rattle.mark_set.specs.declared.error.ValueCause.TheVariants.{EmptyName, LongName, LongText}
use Rattle.ws_elem.specs.declared.element.Element.{Element}
use Rattle.proj_desc.specs.Words.{cause_words}
use Rattle.proj_desc.specs.declared.cause.DescCause.{DescCause}
use Rattle.proj_desc.specs.declared.cause.DescCause.TheVariants.{Member, Double}
use Rattle.delta_kind.specs.declared.node.DeltaNode.{DeltaNode}
use Rattle.op_kind.specs.Entries.{Entries}
use Rattle.op_kind.specs.Partners.{Partners}
use Rattle.op_kind.specs.declared.op.Op.TheVariants.{Read}
use Rattle.op_kind.specs.declared.op.Want.{Want}
use Rattle.op_kind.specs.declared.op.Want.TheVariants.{Show, Cat, Tree, Digest}
use Rattle.op_kind.specs.declared.refusal.OpRefusal.{OpRefusal}
use Rattle.op_kind.specs.declared.refusal.OpRefusal.TheVariants as ops
use Rattle.job_queue.specs.States.{state_number}
use Rattle.script_words.specs.Words.{word_text}
use Rattle.report_text.specs.Words.{path_word}
use Rattle.report_text.specs.Elements.{shown_text}
use Rattle.report_text.specs.Rules.{rule_words}
use Rattle.report_text.specs.Trees.{digest_text}
use Rattle.script_ops.specs.Operations.{operation_text}
use Rattle.core_event.specs.declared.event.Event.{Event}
use Rattle.core_event.specs.declared.event.Event.TheVariants.{Enter, Leave, Schedule, Sleep, Wake, Cancel, Take, Finish, Begin, TryBegin, End, Transfer, Batch, EndBatch, Checkpoint, Operation, Service}
use Rattle.core_event.specs.declared.reply.Refusal.{Refusal}
use Rattle.core_event.specs.declared.reply.Refusal.TheVariants as refusals
use Rattle.core_event.specs.declared.reply.Answer.{Answer}
use Rattle.core_event.specs.declared.reply.Answer.TheVariants as answers
use Rattle.core_event.specs.declared.reply.Answer.TheVariants.{Done, Id, Count, Job, Seen, Plan, Handed, Committed, Refused}
use Rattle.core_event.specs.declared.entry.Entry.{Entry}
use Rattle.service_desk.specs.declared.desk.UnderWay.{UnderWay}
use Rattle.run_text.specs.Services.{service_text}

-- the word of a job that is scheduled asleep
abbrev pub asleep_text : Bool → List ℕ
asleep_text true = codes " asleep"
asleep_text false = []

-- the command of a script that the event is, or what stands for it, where this command is under way
abbrev pub event_text : Option UnderWay → Event → List ℕ
event_text u Enter = codes "enter"
event_text u Leave = codes "leave"
event_text u (Schedule name priority rule asleep) = codes "schedule " ++ word_text name ++ codes " " ++ decimal priority ++ asleep_text asleep ++ codes " " ++ rule_words rule
event_text u (Sleep name) = codes "sleep " ++ word_text name
event_text u (Wake name) = codes "wake " ++ word_text name
event_text u (Cancel name) = codes "cancel " ++ word_text name
event_text u Take = codes "take"
event_text u Finish = codes "finish"
event_text u (Begin rule) = codes "begin " ++ rule_words rule
event_text u (TryBegin rule) = codes "trybegin " ++ rule_words rule
event_text u (End rule) = codes "end " ++ rule_words rule
event_text u (Transfer to) = codes "transfer " ++ decimal to
event_text u Batch = codes "batch"
event_text u EndBatch = codes "endbatch"
event_text u Checkpoint = codes "checkpoint"
event_text u (Operation op) = operation_text op
event_text u (Service x) = service_text u x

-- the words of a cause, the names in it as words
abbrev pub cause_text : DescCause → List ℕ
cause_text (Member name) = codes "member " ++ word_text name
cause_text (Double name) = codes "double " ++ word_text name
cause_text cause = cause_words cause

-- the number of a bad value's refusal, and its cause
abbrev pub value_words : ValueCause → List ℕ
value_words EmptyName = codes "23 empty-name"
value_words LongName = codes "23 long-name"
value_words LongText = codes "23 long-text"

-- the number of an operation's refusal, and the path, the id or the cause that it names
abbrev pub operation_refusal_text : OpRefusal → List ℕ
operation_refusal_text ops.TooDeep = codes "2"
operation_refusal_text ops.TooLong = codes "3"
operation_refusal_text (ops.NotFound p) = codes "10 " ++ path_word p
operation_refusal_text (ops.Exists p) = codes "11 " ++ path_word p
operation_refusal_text (ops.NotContainer p) = codes "12 " ++ path_word p
operation_refusal_text (ops.WrongKind p) = codes "13 " ++ path_word p
operation_refusal_text (ops.ProjectClosed p) = codes "14 " ++ path_word p
operation_refusal_text ops.TreeFull = codes "17"
operation_refusal_text ops.NumbersUsed = codes "18"
operation_refusal_text ops.PartnerUnknown = codes "21"
operation_refusal_text (ops.MarkerUnknown id) = codes "22 " ++ decimal id
operation_refusal_text (ops.BadValue cause) = value_words cause
operation_refusal_text ops.IntoItself = codes "24"
operation_refusal_text (ops.BadDescription cause) = codes "25 " ++ cause_text cause

-- the number of the pass that has the services, if one has them
abbrev pub holder_text : Option ℕ → List ℕ
holder_text None = codes "none"
holder_text (Some pass) = decimal pass

abbrev pub refusal_text : Refusal → List ℕ
refusal_text (refusals.Operation refusal) = operation_refusal_text refusal
refusal_text (refusals.NotContained outer) = codes "15 " ++ rule_words outer
refusal_text refusals.NumbersUsed = codes "18"
refusal_text (refusals.NotLast held) = codes "19 " ++ decimal held
refusal_text refusals.HoldsNothing = codes "20"
refusal_text (refusals.Conflict holder rule) = codes "30 " ++ decimal holder ++ codes " " ++ rule_words rule
refusal_text refusals.TargetHolds = codes "31"
refusal_text (refusals.ServicesOut holder) = codes "32 " ++ decimal holder
refusal_text (refusals.NotServices holder) = codes "33 " ++ holder_text holder
refusal_text (refusals.BadEdits p) = codes "34 " ++ path_word p
refusal_text (refusals.NoBuilder name) = codes "35 " ++ word_text name
refusal_text (refusals.NoCommand count) = codes "36 " ++ decimal count
refusal_text refusals.NoBuild = codes "37"
refusal_text refusals.UnknownJob = codes "40"
refusal_text (refusals.WrongState state) = codes "41 " ++ decimal (state_number state)
refusal_text refusals.PassBusy = codes "42"
refusal_text refusals.NoPass = codes "43"
refusal_text refusals.NoBatch = codes "44"

-- the text of the first element, if there is one
abbrev pub first_text : (Element → List ℕ) → Entries → List ℕ
first_text text [] = []
first_text text (e ∷ es) = text e.1

abbrev pub contents_word : Element → List ℕ
contents_word e = word_text e.bytes

-- on a line of its own an element's path, and what is shown of it
abbrev pub place_text : Partners → Names × Element → List ℕ
place_text partners e = codes "\n  " ++ path_word e.0 ++ codes " " ++ shown_text partners e.1

-- how many elements there are, and each of them
abbrev pub elements_text : Partners → Entries → List ℕ
elements_text partners es = decimal (length es) ++ codes " elements" ++ flat_map (place_text partners) es

-- what was read at a path, where the partners have these names
abbrev pub read_text : Want → Names → Entries → Partners → List ℕ
read_text Show p es partners = first_text (shown_text partners) es
read_text Cat p es partners = first_text contents_word es
read_text Tree p es partners = elements_text partners es
read_text Digest p es partners = digest_text p es

-- what the event read
abbrev pub seen_text : Event → Entries → Partners → List ℕ
seen_text (Operation (Read p want)) es partners = read_text want p es partners
seen_text event es partners = []

-- whether a delta is handed
abbrev pub handed_word : Option (List DeltaNode) → List ℕ
handed_word None = codes "none"
handed_word (Some nodes) = codes "delta"

abbrev pub answer_text : Event → Answer → List ℕ
answer_text event Done = codes "ok"
answer_text event (Id n) = codes "id " ++ decimal n
answer_text event (Count n) = codes "count " ++ decimal n
answer_text event answers.None = codes "none"
answer_text event (Job name) = word_text name
answer_text event (Seen seen) = seen_text event seen.0 seen.1
answer_text event (Plan plan) = codes "ok"
answer_text event (Handed handed) = handed_word handed.delta
answer_text event (Committed touched problems) = codes "touched " ++ decimal touched ++ codes " problems " ++ decimal problems
answer_text event (Refused refusal) = codes "refused " ++ refusal_text refusal

-- the pass, what it asked where this command is under way, and what it was answered
abbrev pub entry_line : Option UnderWay → Entry → List ℕ
entry_line u x = codes "p" ++ decimal x.pass ++ codes " " ++ event_text u x.event ++ codes " -> " ++ answer_text x.event x.reply.answer ++ codes "\n"

-- a pass's entering and leaving are not shown
abbrev pub is_shown : Event → Bool
is_shown Enter = false
is_shown Leave = false
is_shown (Schedule name priority rule asleep) = true
is_shown (Sleep name) = true
is_shown (Wake name) = true
is_shown (Cancel name) = true
is_shown Take = true
is_shown Finish = true
is_shown (Begin rule) = true
is_shown (TryBegin rule) = true
is_shown (End rule) = true
is_shown (Transfer to) = true
is_shown Batch = true
is_shown EndBatch = true
is_shown Checkpoint = true
is_shown (Operation op) = true
is_shown (Service x) = true
