-- `concat` is a meaning, and its builder is lawful.
use Rattle.std.proofs.Common.{◌≡◌, ℕ, List, [], ◌∷◌, refl, sym, ap, ◌∙◌, subst}
use Rattle.std.specs.FinMap.{empty}
use Rattle.res_path.specs.Paths.{Names}
use Rattle.proj_desc.specs.declared.command.Command.{Command}
use Rattle.builder_api.specs.declared.handed.Handed.{Handed}
use Rattle.builder_api.specs.declared.edits.Edits.{Edits}
use Rattle.builder_api.specs.Edits.{Edit}
use Rattle.builder_api.specs.Files.{Files}
use Rattle.builder_api.specs.Tasks.{Task, task_of, inputs_of}
use Rattle.builder_api.specs.Meanings.{IsMeaning}
use Rattle.builder_api.specs.Lawful.{Does}
use Rattle.std_kit.specs.Changes.{AreChanges}
use Rattle.std_kit.specs.Placed.{AreMade}
use Rattle.std_kit.specs.Since.{IsAsPromised, AreDue}
use Rattle.std_kit.proofs.Lawful.{due_changes, does_made}
use Rattle.std_kit.proofs.Placing.{empty_made, placed_made, placed_first, meaning_of}
use Rattle.std_kit.proofs.Rooted.{rooted_in}
use Rattle.std.specs.List.{flat_map}
use Rattle.std_concat.specs.Concat.{concat, files_of_roots, joined, all_of, all_path}

all_made : (files : List (Names × List ℕ)) → AreMade (all_of files).files
all_made [] = empty_made
all_made (e ∷ es) = subst AreMade (placed_first _ [] (joined (e ∷ es))) (placed_made empty all_path (joined (e ∷ es)) empty_made)

pub concat_sound : IsMeaning concat
concat_sound = meaning_of concat (λ c f. all_made (files_of_roots c.inputs f))

no_problems : (files : List (Names × List ℕ)) → (all_of files).problems ≡ []
no_problems [] = refl
no_problems (e ∷ es) = refl

-- what it makes of the view's inputs is what it makes of the view
seen : (c : Task) (view : Files) → all_of (files_of_roots c.inputs view) ≡ concat c (inputs_of c view)
seen c view = ap (λ roots. all_of (flat_map (λ root. root.1) roots)) (sym (rooted_in c.inputs view))

pub changes : (command : Command) (h : Handed) (edits : List Edit) → AreDue h (all_of (files_of_roots h.inputs h.view)).files edits
    → IsAsPromised concat (task_of command h) h.delta h.view → AreChanges h.output h.view (concat (task_of command h) (inputs_of (task_of command h) h.view)).files edits
changes command h edits are = due_changes concat command h edits (subst (λ m. AreDue h m.files edits) (seen (task_of command h) h.view) are)

pub does : (command : Command) (h : Handed) (e : Edits) → AreDue h (all_of (files_of_roots h.inputs h.view)).files e.files → e.problems ≡ [] → Does concat command h e
does command h e are none = does_made concat command h e (all_of (files_of_roots h.inputs h.view)) (seen (task_of command h) h.view) are
    (none ∙ sym (no_problems (files_of_roots h.inputs h.view)))
