-- `expand` is a meaning, and its builder is lawful.
use Rattle.std.proofs.Common.{◌≡◌, ℕ, Bool, true, false, cond, List, [], ◌∷◌, ◌++◌, map, refl, sym, ap, ◌∙◌, subst}
use Rattle.std.specs.Prelude.{Option, Some, None}
use Rattle.std.specs.FinMap.{insert}
use Rattle.res_path.specs.Paths.{Names}
use Rattle.proj_desc.specs.declared.command.Command.{Command}
use Rattle.builder_api.specs.declared.handed.Handed.{Handed}
use Rattle.builder_api.specs.declared.edits.Edits.{Edits}
use Rattle.builder_api.specs.declared.edits.Problem.{Problem}
use Rattle.builder_api.specs.Edits.{Edit}
use Rattle.builder_api.specs.Files.{Files}
use Rattle.builder_api.specs.Tasks.{Task, task_of, inputs_of}
use Rattle.builder_api.specs.Meanings.{Made, IsMeaning}
use Rattle.builder_api.specs.Lawful.{Does}
use Rattle.include_lines.specs.declared.expanding.Missing.{Missing}
use Rattle.std_kit.specs.Changes.{AreChanges}
use Rattle.std_kit.specs.Making.{nothing_made, shadowed, with_problem}
use Rattle.std_kit.specs.Placed.{AreMade, is_free}
use Rattle.std_kit.specs.Roots.{rooted}
use Rattle.std_kit.specs.Since.{IsAsPromised, AreDue}
use Rattle.std_kit.proofs.Lawful.{does_made, due_changes}
use Rattle.std_kit.proofs.Placing.{empty_made, inserted_made, meaning_of}
use Rattle.std_kit.proofs.Rooted.{rooted_in}
use Rattle.std_expand.specs.Sources.{source_stem}
use Rattle.std_expand.specs.Expand.{file_named, problem_at, with_expanded, with_stem, with_source, with_sources, with_roots, expand}

abbrev Named : Type 0
Named = List ℕ → Option (List ℕ)

expanded_made : (m : Made) (location p : Names) (bytes : List ℕ) (lines : List Missing) → AreMade m.files → AreMade (with_expanded m location p bytes lines).files
expanded_made m location p bytes lines made = by (is_free m.files p) refl
  where
    by : (b : Bool) → is_free m.files p ≡ b → AreMade (cond b (record { files = insert m.files p bytes; problems = m.problems ++ map (problem_at location) lines }) (with_problem m (shadowed location))).files
    by true free = inserted_made m.files made p bytes free
    by false free = made

stem_made : (named : Named) (root : Names) (m : Made) (e : Names × List ℕ) (stem : Option (List ℕ)) → AreMade m.files → AreMade (with_stem named root m e stem).files
stem_made named root m e None made = made
stem_made named root m e (Some stem) made = expanded_made m e.0 _ _ _ made

sources_made : (named : Named) (root : Names) (m : Made) (es : List (Names × List ℕ)) → AreMade m.files → AreMade (with_sources named root m es).files
sources_made named root m [] made = made
sources_made named root m (e ∷ es) made = sources_made named root (with_source named root m e) es (stem_made named root m e (source_stem e.0) made)

roots_made : (m : Made) (roots : List (Names × List (Names × List ℕ))) → AreMade m.files → AreMade (with_roots m roots).files
roots_made m [] made = made
roots_made m (root ∷ roots) made = roots_made (with_sources (file_named root.0 root.1) root.0 m root.1) roots (sources_made (file_named root.0 root.1) root.0 m root.1 made)

pub expand_sound : IsMeaning expand
expand_sound = meaning_of expand (λ c f. roots_made nothing_made (rooted c.inputs f) empty_made)

-- what it makes of the view's inputs is what it makes of the view
seen : (c : Task) (view : Files) → with_roots nothing_made (rooted c.inputs view) ≡ expand c (inputs_of c view)
seen c view = ap (with_roots nothing_made) (sym (rooted_in c.inputs view))

pub changes : (command : Command) (h : Handed) (edits : List Edit) → AreDue h (with_roots nothing_made (rooted h.inputs h.view)).files edits
    → IsAsPromised expand (task_of command h) h.delta h.view → AreChanges h.output h.view (expand (task_of command h) (inputs_of (task_of command h) h.view)).files edits
changes command h edits are = due_changes expand command h edits (subst (λ m. AreDue h m.files edits) (seen (task_of command h) h.view) are)

pub problems : (command : Command) (h : Handed) (told : List Problem) → told ≡ (with_roots nothing_made (rooted h.inputs h.view)).problems → told ≡ (expand (task_of command h) (inputs_of (task_of command h) h.view)).problems
problems command h told same = same ∙ ap (λ m. m.problems) (seen (task_of command h) h.view)

pub does : (command : Command) (h : Handed) (e : Edits) → AreDue h (with_roots nothing_made (rooted h.inputs h.view)).files e.files
    → e.problems ≡ (with_roots nothing_made (rooted h.inputs h.view)).problems → Does expand command h e
does command h e are same = does_made expand command h e (with_roots nothing_made (rooted h.inputs h.view)) (seen (task_of command h) h.view) are same
