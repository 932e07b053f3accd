-- What is planned.
use Rattle.std.specs.Prelude.{◌≡◌, ℕ, ◌+◌, ◌-◌, ◌<◌, ◌^◌, ◌||◌, nat_lt, is_some, if◌then◌else◌, List, [], ◌∷◌, ◌++◌, length, Option, Some, None, Result, MatchResult}
use Rattle.std.specs.FinMap.{get, entries, len}
use Rattle.res_path.specs.Paths.{Names}
use Rattle.ws_elem.specs.Trees.{Tree}
use Rattle.ws_elem.specs.declared.element.Element.{Element}
use Rattle.op_kind.specs.Members.{members, found_at}
use Rattle.op_kind.specs.Places.{project_of}
use Rattle.op_kind.specs.Refusals.{max_elements, is_spent}
use Rattle.op_kind.specs.Resources.{Resources}
use Rattle.proj_desc.specs.FirstCause.{when, first_cause}
use Rattle.output_edits.specs.declared.refusal.EditRefusal.{EditRefusal}
use Rattle.output_edits.specs.declared.refusal.EditRefusal.TheVariants.{TreeFull, NumbersUsed}
use Rattle.op_kind.specs.declared.side.Side.{Side}
use Rattle.op_plan.specs.Edits.{changed}
use Rattle.op_plan.specs.Inside.Lists.{taken, put}
use Rattle.builder_api.specs.declared.edits.Problem.{Problem}
use Rattle.builder_api.specs.declared.edits.Edits.{Edits}
use Rattle.output_edits.specs.declared.refusal.EditError.{EditError}
use Rattle.output_edits.specs.Judging.{IfRefused}
use Rattle.output_edits.specs.Wanted.{wanted}
use Rattle.output_commit.specs.Committed.{changed_to, files_after, room_causes, refusal}
use Rattle.output_commit.specs.Placed.{nodes_of, stamps_of, placed, total}
use Rattle.output_commit.specs.Told.{told_at, ids_drawn}
use Rattle.output_commit.specs.Touched.{unwanted, touches_of, touched}
use Rattle.output_commit.specs.declared.planning.Change.{Change}
use Rattle.output_commit.specs.declared.drawing.Draws.{Draws}

-- nothing is there
abbrev pub news_of : Element → Option Element → ℕ
news_of e x = if is_some x then 0 else 1

-- what is drawn for one element
abbrev pub draw_of : Element → Option Element → Draws
draw_of e x = record { nodes = nodes_of e x; stamps = stamps_of e x; news = news_of e x; touches = touches_of e x }

abbrev pub add_draws : Draws → Draws → Draws
add_draws a b = record { nodes = a.nodes + b.nodes; stamps = a.stamps + b.stamps; news = a.news + b.news; touches = a.touches + b.touches }

-- this is changed so that below o lies what is wanted, and the problems of the command are these
pub record IsChange (r : Resources) (o : Names) (w : Tree) (index : ℕ) (ps : List Problem) (c : Change) : Type 0 where
  pub edits : c.edits ≡ (taken (unwanted w (members r.tree o)) ++ put (placed r.tree r.next_node r.next_stamp (entries w)))
      ++ put (found_at (project_of o) (told_at index r.next_marker ps (get r.tree (project_of o))))
  pub node : c.next_node ≡ r.next_node + total nodes_of r.tree (entries w)
  pub stamp : c.next_stamp ≡ r.next_stamp + total stamps_of r.tree (entries w)
  pub marker : c.next_marker ≡ r.next_marker + ids_drawn index ps (get r.tree (project_of o))
  pub gone : c.gone ≡ length (unwanted w (members r.tree o))
  pub news : c.news ≡ total news_of r.tree (entries w)
  pub touched : c.touched ≡ touched r.tree o w

-- the resources after a change
abbrev pub changed_by : Resources → Change → Resources
changed_by r c = record r { tree = changed r.tree c.edits; next_node = c.next_node; next_stamp = c.next_stamp; next_marker = c.next_marker }

-- why there can't be these changes, by their counts: too many elements, or too great numbers
abbrev pub counted_causes : Resources → Change → List (Option EditRefusal)
counted_causes r c =
    when (nat_lt max_elements (len r.tree - c.gone + c.news + len r.shelf)) TreeFull
    ∷ when (is_spent r.next_node (c.next_node - r.next_node) || is_spent r.next_stamp (c.next_stamp - r.next_stamp) || is_spent r.next_marker (c.next_marker - r.next_marker)) NumbersUsed
    ∷ []

-- so many nodes, stamps and ids can be drawn
pub record CanDraw (side : Side) (nodes stamps ids : ℕ) : Type 0 where
  pub node : side.next_node + nodes < 2 ^ 64
  pub stamp : side.next_stamp + stamps < 2 ^ 64
  pub marker : side.next_marker + ids < 2 ^ 64

-- what is changed so that below o lies what is wanted, or why there is no room for it
abbrev pub PlansFiles : Resources → Names → Tree → ℕ → List Problem → Result Change EditError → Type 0
PlansFiles r o w index ps result = MatchResult result
    (λ c. (first_cause (room_causes r (changed_to r o w index ps)) ≡ None) × IsChange r o w index ps c)
    (IfRefused (λ x. first_cause (room_causes r (changed_to r o w index ps)) ≡ Some x))

-- what the edits change, or why they are refused
abbrev pub Plans : Resources → Names → ℕ → Edits → Result Change EditError → Type 0
Plans r o index e result = MatchResult result
    (λ c. (refusal r o index e ≡ None) × IsChange r o (wanted o (files_after r o e)) index e.problems c)
    (IfRefused (λ x. refusal r o index e ≡ Some x))
