-- The lines of a history.
use Rattle.std.specs.Prelude.{ℕ, if◌then◌else◌, List, [], ◌∷◌, ◌++◌, Option, Some, None, codes}
use Rattle.delta_kind.specs.declared.node.DeltaNode.{DeltaNode}
use Rattle.core_event.specs.declared.entry.Entry.{Entry}
use Rattle.core_event.specs.declared.reply.Answer.{Answer}
use Rattle.core_event.specs.declared.reply.Answer.TheVariants.{Handed}
use Rattle.report_text.specs.Deltas.{delta_lines}
use Rattle.run_text.specs.Replies.{entry_line, is_shown}
use Rattle.run_text.specs.UnderWay.{under_after}
use Rattle.service_desk.specs.declared.desk.UnderWay.{UnderWay}

-- the lines of a delta, if there is one
abbrev pub some_lines : Option (List DeltaNode) → List ℕ
some_lines None = []
some_lines (Some nodes) = delta_lines nodes

-- the lines of the delta that is handed
abbrev pub handed_lines : Answer → List ℕ
handed_lines (Handed handed) = some_lines handed.delta
handed_lines answer = []

abbrev pub notice_lines : Option (List DeltaNode) → List ℕ
notice_lines None = []
notice_lines (Some nodes) = codes "notice\n" ++ delta_lines nodes

-- the lines of the delta that an entry hands, and its notice
abbrev pub entry_blocks : Entry → List ℕ
entry_blocks x = handed_lines x.reply.answer ++ notice_lines x.reply.notice

-- an entry's line and what follows it, where this command is under way
abbrev pub entry_lines : Option UnderWay → Entry → List ℕ
entry_lines u x = if is_shown x.event then entry_line u x ++ entry_blocks x else []

-- the lines of entries before which this command is under way
abbrev pub lines_from : Option UnderWay → List Entry → List ℕ
lines_from u [] = []
lines_from u (x ∷ h) = entry_lines u x ++ lines_from (under_after u x) h

-- no command is under way at the beginning
abbrev pub history_lines : List Entry → List ℕ
history_lines = lines_from None
