-- What a plan comes to, and when it is refused.
use Rattle.std.proofs.Common.{◌≡◌, ℕ, ◌+◌, ◌-◌, ◌||◌, nat_lt, List, [], ◌∷◌, ◌++◌, refl, sym, ap, ◌∙◌}
use Rattle.std.specs.Prelude.{Option, Some, None}
use Rattle.std.specs.Option.{option_or}
use Rattle.std.specs.FinMap.{entries, len, get}
use Rattle.res_path.specs.Paths.{Names}
use Rattle.ws_elem.specs.Trees.{Tree}
use Rattle.op_kind.specs.Places.{project_of}
use Rattle.op_kind.specs.Refusals.{max_elements, is_spent}
use Rattle.op_kind.specs.Resources.{Resources}
use Rattle.proj_desc.specs.FirstCause.{when, first_cause}
use Rattle.builder_api.specs.declared.edits.Problem.{Problem}
use Rattle.builder_api.specs.declared.edits.Edits.{Edits}
use Rattle.op_plan.specs.Edits.{changed}
use Rattle.output_edits.specs.declared.refusal.EditRefusal.{EditRefusal}
use Rattle.output_edits.specs.declared.refusal.EditRefusal.TheVariants.{TreeFull, NumbersUsed}
use Rattle.output_edits.specs.Bad.{edit_causes}
use Rattle.output_commit.specs.Committed.{changed_to, committed, files_after, room_causes, refusal}
use Rattle.output_commit.specs.Placed.{placed}
use Rattle.output_commit.specs.Told.{told_at}
use Rattle.output_commit.specs.declared.planning.Change.{Change}
use Rattle.output_commit.specs.Inside.Plans.{IsChange, changed_by, counted_causes}
use Rattle.output_commit.proofs.Gone.{planned_is}
use Rattle.output_commit.proofs.Counting.{len_after}

-- what is planned is what is said
pub changed_is : (r : Resources) (o : Names) (w : Tree) (index : ℕ) (ps : List Problem) (c : Change) → IsChange r o w index ps c → changed_by r c ≡ changed_to r o w index ps
changed_is r o w index ps c is =
    let tree = ap (changed r.tree) is.edits
    ∙ planned_is r.tree o w (placed r.tree r.next_node r.next_stamp (entries w)) (project_of o) (told_at index r.next_marker ps (get r.tree (project_of o))) in
    λ i. record r { tree = tree i; next_node = is.node i; next_stamp = is.stamp i; next_marker = is.marker i }

more : (n k m : ℕ) → m ≡ n + k → m - n ≡ n + k - n
more n k m h = ap (λ x. x - n) h

-- the counts tell how many elements and which numbers there will be
pub room_is : (r : Resources) (o : Names) (w : Tree) (index : ℕ) (ps : List Problem) (c : Change) → IsChange r o w index ps c
    → counted_causes r c ≡ room_causes r (changed_to r o w index ps)
room_is r o w index ps c is =
    let after = changed_to r o w index ps in
    let many : len r.tree - c.gone + c.news ≡ len after.tree =
    (λ i. len r.tree - is.gone i + is.news i) ∙ sym (len_after r.tree o w r.next_node r.next_stamp index r.next_marker ps) in
    λ i. when (nat_lt max_elements (many i + len r.shelf)) TreeFull
    ∷ when (is_spent r.next_node (is.node i - r.next_node) || is_spent r.next_stamp (is.stamp i - r.next_stamp) || is_spent r.next_marker (is.marker i - r.next_marker)) NumbersUsed
    ∷ []

-- ---- causes after causes

first_append : (cs ds : List (Option EditRefusal)) → first_cause (cs ++ ds) ≡ option_or (first_cause cs) (first_cause ds)
first_append [] ds = refl
first_append (c ∷ cs) ds = ap (option_or c) (first_append cs ds) ∙ by c
  where
    by : (c : Option EditRefusal) → option_or c (option_or (first_cause cs) (first_cause ds)) ≡ option_or (option_or c (first_cause cs)) (first_cause ds)
    by None = refl
    by (Some x) = refl

-- where the edits by themselves aren't refused, the room decides
pub room_decides : (r : Resources) (o : Names) (index : ℕ) (e : Edits) → first_cause (edit_causes o e.files (files_after r o e)) ≡ None
    → refusal r o index e ≡ first_cause (room_causes r (committed r o index e))
room_decides r o index e h = first_append (edit_causes o e.files (files_after r o e)) (room_causes r (committed r o index e))
    ∙ ap (λ x. option_or x (first_cause (room_causes r (committed r o index e)))) h

-- where they are, that is why
pub refused_first : (r : Resources) (o : Names) (index : ℕ) (e : Edits) (x : EditRefusal) → first_cause (edit_causes o e.files (files_after r o e)) ≡ Some x → refusal r o index e ≡ Some x
refused_first r o index e x h = first_append (edit_causes o e.files (files_after r o e)) (room_causes r (committed r o index e))
    ∙ ap (λ y. option_or y (first_cause (room_causes r (committed r o index e)))) h
