-- What `copy` makes is what a builder may make.
use Rattle.std.proofs.Common.{◌≡◌, ℕ, true, false, ◌||◌, List, [], ◌∷◌, ◌++◌, sym, ap, ◌∙◌, subst}
use Rattle.std.specs.Prelude.{Option, Some, None, IsSomeAnd}
use Rattle.std.specs.FinMap.{get}
use Rattle.std.specs.List.{fold}
use Rattle.proj_desc.specs.declared.command.Command.{Command}
use Rattle.builder_api.specs.declared.handed.Handed.{Handed}
use Rattle.builder_api.specs.declared.edits.Edits.{Edits}
use Rattle.res_path.specs.Paths.{Names}
use Rattle.delta_kind.specs.declared.node.DeltaNode.{DeltaNode}
use Rattle.builder_api.specs.Files.{Files, files_of}
use Rattle.builder_api.specs.Places.{is_within}
use Rattle.builder_api.specs.Tasks.{Task, task_of, inputs_of}
use Rattle.builder_api.proofs.Places.{prefix_append}
use Rattle.builder_api.specs.Meanings.{Made, IsMeaning}
use Rattle.builder_api.specs.Lawful.{Does}
use Rattle.std_kit.specs.Changes.{AreChanges}
use Rattle.std_kit.specs.Making.{nothing_made}
use Rattle.std_kit.specs.Placed.{AreMade}
use Rattle.std_kit.specs.Roots.{files_of_root, rooted, relative}
use Rattle.std_kit.specs.Since.{IsAsPromised, AreDue}
use Rattle.std_kit.proofs.Idle.{at_nodes, was_clear}
use Rattle.std_kit.proofs.Lawful.{does_made, does_as_promised, due_changes}
use Rattle.std_kit.proofs.Makings.{with_file_made}
use Rattle.std_kit.proofs.Placing.{empty_made, meaning_of}
use Rattle.std_kit.proofs.Rooted.{rooted_in}
use Rattle.std_copy.specs.Copied.{with_copy, with_root, copied, copy}
use Rattle.std_copy.specs.Inside.Shortcuts.{AreTold}
use Rattle.std_copy.proofs.Clear.{clear_files, clear_problems}

root_made : (root : Names) (m : Made) (es : List (Names × List ℕ)) → AreMade m.files → AreMade (fold (with_copy root) m es).files
root_made root m [] made = made
root_made root m (e ∷ es) made = root_made root (with_copy root m e) es (with_file_made m e.0 (relative root e.0) e.1 made)

all_made : (m : Made) (roots : List (Names × List (Names × List ℕ))) → AreMade m.files → AreMade (fold with_root m roots).files
all_made m [] made = made
all_made m (root ∷ roots) made = all_made (with_root m root) roots (root_made root.0 m root.1 made)

-- what `copy` tells is a meaning
pub copy_means : IsMeaning copy
copy_means = meaning_of copy (λ c f. all_made nothing_made (rooted c.inputs f) empty_made)

-- edits that are due for the copies of the roots' files are lawful
pub does_copy : (command : Command) (h : Handed) (e : Edits) → AreDue h (copied (rooted h.inputs h.view)).files e.files
    → e.problems ≡ (copied (rooted h.inputs h.view)).problems → Does copy command h e
does_copy command h e = does_made copy command h e (copied (rooted h.inputs h.view)) (ap copied (sym (rooted_in h.inputs h.view)))

-- and the changes to what it tells that it makes of the inputs
pub changes_copy : (command : Command) (h : Handed) (e : Edits) → AreDue h (copied (rooted h.inputs h.view)).files e.files
    → IsAsPromised copy (task_of command h) h.delta h.view → AreChanges h.output h.view (copy (task_of command h) (inputs_of (task_of command h) h.view)).files e.files
changes_copy command h e are = due_changes copy command h e.files (subst (λ roots. AreDue h (copied roots).files e.files) (sym (rooted_in h.inputs h.view)) are)

-- ---- edits that a delta tells

reads : (root : Names) (inputs : List Names) → inputs ≡ root ∷ [] → (r : Names) → is_within inputs (root ++ r) ≡ true
reads root inputs h r = ap (λ roots. is_within roots (root ++ r)) h ∙ ap (λ b. b || false) (prefix_append root r)

alone : (c : Task) (root : Names) (f : Files) → c.inputs ≡ root ∷ [] → copy c (inputs_of c f) ≡ copied ((root, files_of_root root f) ∷ [])
alone c root f h = ap copied (rooted_in c.inputs f ∙ ap (λ roots. rooted roots f) h)

changes_since : (command : Command) (h : Handed) (e : Edits) (nodes : List DeltaNode) → AreTold nodes h e → IsAsPromised copy (task_of command h) (Some nodes) h.view
    → AreChanges h.output h.view (copy (task_of command h) (inputs_of (task_of command h) h.view)).files e.files
changes_since command h e nodes told promised =
    let c = task_of command h in
    let read = reads told.root h.inputs told.alone in
    at_nodes copy c nodes promised.0 promised.1 h.view promised.2 promised.3 told.root read told.calm e.files told.files
    (λ n r. ap (λ m. get m.files (n ∷ r)) (alone c told.root (files_of promised.0) told.alone)
    ∙ clear_files told.root (files_of promised.0) (was_clear copy c nodes promised.0 promised.1 h.view promised.2 promised.3 told.root read told.calm told.clear) n r)
    (λ n r. ap (λ m. get m.files (n ∷ r)) (alone c told.root h.view told.alone) ∙ clear_files told.root h.view told.clear n r)

pub changes_told : (command : Command) (h : Handed) (e : Edits) → IsSomeAnd h.delta (λ nodes. AreTold nodes h e) → IsAsPromised copy (task_of command h) h.delta h.view
    → AreChanges h.output h.view (copy (task_of command h) (inputs_of (task_of command h) h.view)).files e.files
changes_told command h e = by h.delta
  where
    by : (o : Option (List DeltaNode)) → IsSomeAnd o (λ nodes. AreTold nodes h e) → IsAsPromised copy (task_of command h) o h.view
        → AreChanges h.output h.view (copy (task_of command h) (inputs_of (task_of command h) h.view)).files e.files
    by None told promised = absurd told
    by (Some nodes) told promised = changes_since command h e nodes told promised

problems_told : (command : Command) (h : Handed) (e : Edits) → IsSomeAnd h.delta (λ nodes. AreTold nodes h e)
    → e.problems ≡ (copy (task_of command h) (inputs_of (task_of command h) h.view)).problems
problems_told command h e = by h.delta
  where
    by : (o : Option (List DeltaNode)) → IsSomeAnd o (λ nodes. AreTold nodes h e) → e.problems ≡ (copy (task_of command h) (inputs_of (task_of command h) h.view)).problems
    by None told = absurd told
    by (Some nodes) told = told.problems ∙ sym (ap (λ m. m.problems) (alone (task_of command h) told.root h.view told.alone) ∙ clear_problems told.root h.view told.clear)

pub does_told : (command : Command) (h : Handed) (e : Edits) → IsSomeAnd h.delta (λ nodes. AreTold nodes h e) → Does copy command h e
does_told command h e told = does_as_promised copy command h e (changes_told command h e told) (λ promised. problems_told command h e told)
