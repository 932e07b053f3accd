-- The summary of a run.
use Rattle.std.specs.Prelude.{ℕ, Bool, true, false, List, [], ◌++◌, codes, decimal}
use Rattle.std.specs.FinMap.{len}
use Rattle.std.specs.List.{count_by}
use Rattle.ws_elem.specs.Trees.{Tree, branch}
use Rattle.builder_api.specs.declared.outcome.BuildOutcome.TheVariants.{Settled}
use Rattle.core_event.specs.declared.entry.Entry.{Entry}
use Rattle.core_event.specs.declared.event.Event.{Event}
use Rattle.core_event.specs.declared.event.Event.TheVariants.{Finish, Service}
use Rattle.core_event.specs.declared.service.Outcomes.TheVariants.{Build}
use Rattle.core_event.specs.declared.service.ServiceEvent.TheVariants.{CheckIn}
use Rattle.report_text.specs.Trees.{digest_text}
use Rattle.ws_core.specs.States.{Moment}
use Rattle.ws_core.specs.Histories.{replay}

-- ---- what is counted

-- whether an event ends a job
unfoldable pub is_finish : Event → Bool
is_finish Finish = true
is_finish event = false

-- whether an event ends a build that settled
unfoldable pub is_settled : Event → Bool
is_settled (Service (CheckIn (Build Settled))) = true
is_settled event = false

-- how many jobs were finished
abbrev pub finished : List Entry → ℕ
finished h = count_by (λ x. is_finish x.event) h

-- how many builds settled
abbrev pub settled : List Entry → ℕ
settled h = count_by (λ x. is_settled x.event) h

-- ---- the lines

abbrev pub counted_line : List ℕ → ℕ → List ℕ
counted_line name n = name ++ decimal n ++ codes "\n"

-- the digest of the text of the whole tree
abbrev pub tree_line : Tree → List ℕ
tree_line t = codes "tree " ++ digest_text [] (branch t []) ++ codes "\n"

-- the summary of this history, which led to this tree
abbrev pub summary : List Entry → Tree → List ℕ
summary h t = counted_line (codes "jobs ") (finished h) ++ counted_line (codes "settled ") (settled h) ++ counted_line (codes "elements ") (len t) ++ tree_line t

-- the summary of what was done from an opened state on: of that history, and of the tree that it led to
abbrev pub summary_from : Moment → List Entry → List ℕ
summary_from opened h = summary h (replay opened h).resources.tree
