-- What a commit of edits does, and why it is refused.
use Rattle.std.specs.Prelude.{◌≡◌, ◌≤◌, ℕ, ◌+◌, ◌-◌, Bool, false, true, ◌||◌, nat_lt, List, [], ◌∷◌, ◌++◌, length, Option}
use Rattle.std.specs.FinMap.{len, empty, contains_key}
use Rattle.res_path.specs.Paths.{Names}
use Rattle.ws_elem.specs.Trees.{Tree}
use Rattle.op_kind.specs.Places.{project_of, is_shut}
use Rattle.op_kind.specs.Refusals.{max_elements, is_spent}
use Rattle.op_kind.specs.Resources.{Resources}
use Rattle.proj_desc.specs.FirstCause.{when, first_cause}
use Rattle.builder_api.specs.declared.edits.Edits.{Edits}
use Rattle.builder_api.specs.declared.edits.Problem.{Problem}
use Rattle.output_edits.specs.declared.refusal.EditRefusal.{EditRefusal}
use Rattle.output_edits.specs.declared.refusal.EditRefusal.TheVariants.{TreeFull, NumbersUsed}
use Rattle.output_edits.specs.Bad.{edit_causes}
use Rattle.output_edits.specs.Outputs.{outputs, edited}
use Rattle.output_edits.specs.Wanted.{wanted}
use Rattle.output_commit.specs.Placed.{with_wanted}
use Rattle.output_commit.specs.Told.{with_told}

-- o lies below a project that is there and open
pub record IsOpenOutput (t : Tree) (o : Names) : Type 0 where
  pub long : 2 ≤ length o
  pub there : contains_key t (project_of o) ≡ true
  pub opened : is_shut t o ≡ false

-- the files below o after the edits, by their paths from there
abbrev pub files_after : Resources → Names → Edits → Tree
files_after r o e = edited (outputs r.tree o) e.files

-- the resources in which below o lies what is wanted, and the problems of the command with this index are these
abbrev pub changed_to : Resources → Names → Tree → ℕ → List Problem → Resources
changed_to r o w index ps = with_told r.tree (with_wanted r o w) o index ps

-- the resources after the edits below o of the command with this index
abbrev pub committed : Resources → Names → ℕ → Edits → Resources
committed r o index e = changed_to r o (wanted o (files_after r o e)) index e.problems

-- the resources after all below o went, and the problems of the command with this index
abbrev pub cleaned : Resources → Names → ℕ → Resources
cleaned r o index = changed_to r o empty index []

-- a counter would pass the greatest number
abbrev pub is_overdrawn : Resources → Resources → Bool
is_overdrawn before after =
    is_spent before.next_node (after.next_node - before.next_node)
    || is_spent before.next_stamp (after.next_stamp - before.next_stamp)
    || is_spent before.next_marker (after.next_marker - before.next_marker)

-- why there can't be these resources after the others: too many elements, or too great numbers
abbrev pub room_causes : Resources → Resources → List (Option EditRefusal)
room_causes before after =
    when (nat_lt max_elements (len after.tree + len after.shelf)) TreeFull
    ∷ when (is_overdrawn before after) NumbersUsed
    ∷ []

-- why the edits are refused, if they are
abbrev pub refusal : Resources → Names → ℕ → Edits → Option EditRefusal
refusal r o index e = first_cause (edit_causes o e.files (files_after r o e) ++ room_causes r (committed r o index e))
