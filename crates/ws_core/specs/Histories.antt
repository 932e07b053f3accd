-- What was done, entry by entry.
use Rattle.std.specs.Prelude.{◌≡◌, ℕ, Bool, true, false, ◌&&◌, List, [], ◌∷◌, ◌++◌, map, if◌then◌else◌}
use Rattle.std.specs.Option.{option_to_list}
use Rattle.std.specs.FinMap.{empty}
use Rattle.std.specs.List.{list_any}
use Rattle.ws_elem.specs.Trees.{Tree, fresh_tree}
use Rattle.delta_kind.specs.Deltas.{delta}
use Rattle.delta_kind.specs.declared.node.DeltaNode.{DeltaNode}
use Rattle.pass_table.specs.Passes.{has_pass}
use Rattle.core_event.specs.declared.entry.Entry.{Entry}
use Rattle.core_event.specs.declared.event.Event.{Event}
use Rattle.core_event.specs.declared.reply.Reply.{Reply}
use Rattle.core_event.specs.Replies.{is_attempt, some_nodes}
use Rattle.job_manager.specs.Managers.{first_manager}
use Rattle.res_path.specs.Paths.{Names}
use Rattle.service_desk.specs.Desks.{desk_of}
use Rattle.ws_content.specs.States.{tree_alone}
use Rattle.ws_core.specs.States.{Moment}
use Rattle.ws_core.specs.Steps.{step, tells}

-- the fresh workspace with these builders: the root alone, as node 1, and pass 0; nothing was built, and nothing is kept
abbrev pub fresh_for : Names → Moment
fresh_for builders = record {
  resources = record { tree = fresh_tree; shelf = empty; next_node = 2; next_stamp = 1; next_marker = 1; partners = [] };
  remembered = tree_alone fresh_tree;
  manager = first_manager;
  desk = desk_of builders;
}

-- the fresh workspace without builders
abbrev pub fresh : Moment
fresh = fresh_for []

-- the state after an entry
abbrev pub after : Moment → Entry → Moment
after s x = (step s x.pass x.event).0

-- the state after a history
abbrev pub replay : Moment → List Entry → Moment
replay s [] = s
replay s (x ∷ h) = replay (after s x) h

-- what the events of the entries are answered, one after another
abbrev pub replies : Moment → List Entry → List Reply
replies s [] = []
replies s (x ∷ h) = (step s x.pass x.event).1 ∷ replies (after s x) h

-- the pass has entered, and hasn't left
abbrev pub has_entered : ℕ → Moment → Bool
has_entered pass s = has_pass s.manager.passes pass

-- each entry's pass has entered before it, and hasn't left
abbrev pub entered : Moment → List Entry → Bool
entered s [] = true
entered s (x ∷ h) = has_entered x.pass s && entered (after s x) h

-- the event only found that it must wait
abbrev pub only_tried : Entry → Bool
only_tried x = is_attempt x.event x.reply.answer

-- a history that may follow the state s
pub record Legal (s : Moment) (h : List Entry) : Type 0 where
  -- each reply is the one that the step gives at its place
  pub replies : map (λ (x : Entry). x.reply) h ≡ replies s h
  -- each pass is there at its place
  pub entered : entered s h ≡ true
  -- and no entry is an attempt
  pub events : list_any only_tried h ≡ false

-- a list of what is told, empty where that is nothing
abbrev pub unless_empty : List DeltaNode → List (List DeltaNode)
unless_empty nodes = option_to_list (some_nodes nodes)

-- at each telling place the delta from the told tree to the tree, where there is one; the tree is then told
abbrev pub notices_from : Tree → Moment → List Entry → List (List DeltaNode)
notices_from told s [] = []
notices_from told s (x ∷ h) =
    let next = after s x in
    if tells x.event next then unless_empty (delta told next.resources.tree) ++ notices_from next.resources.tree next h else notices_from told next h

-- the notices of a history that begins at s, whose tree has been told
abbrev pub notices : Moment → List Entry → List (List DeltaNode)
notices s h = notices_from s.resources.tree s h

-- what the replies of a history tell
abbrev pub told_of : List Entry → List (List DeltaNode)
told_of [] = []
told_of (x ∷ h) = option_to_list x.reply.notice ++ told_of h

-- the entry of an event at its place
abbrev pub entry_of : Moment → ℕ → Event → Entry
entry_of s pass event = record { pass = pass; event = event; reply = (step s pass event).1 }

-- the history with this entry; an attempt leaves none
abbrev pub written : List Entry → Entry → List Entry
written h x = if only_tried x then h else h ++ x ∷ []
