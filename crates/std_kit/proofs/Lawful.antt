-- Edits that are the changes to what is made are lawful.
use Rattle.std.proofs.Common.{◌≡◌, ◌≢◌, inl, inr, ℕ, Bool, true, false, cond, List, [], ◌∷◌, ◌++◌, refl, sym, ap, ◌∙◌, subst}
use Rattle.std.specs.Prelude.{Option, Some, None, unwrap_or}
use Rattle.std.specs.FinMap.{get, find}
use Rattle.std.specs.Cmp.Lexicographic.{bytes_decides}
use Rattle.std.specs.List.{AllByRecursion}
use Rattle.std.specs.Option.{option_eq}
use Rattle.std.specs.Ordering.{eq_by_cmp}
use Rattle.std.specs.Str.{bytes_eq}
use Rattle.proj_desc.specs.declared.command.Command.{Command}
use Rattle.builder_api.specs.declared.handed.Handed.{Handed}
use Rattle.builder_api.specs.declared.edits.Edits.{Edits}
use Rattle.res_path.specs.Paths.{Names, path_cmp}
use Rattle.ws_elem.specs.Trees.{Tree}
use Rattle.delta_kind.specs.declared.node.DeltaNode.{DeltaNode}
use Rattle.builder_api.specs.Files.{Files, files_of}
use Rattle.builder_api.specs.Tasks.{Task, task_of, inputs_of, view_of}
use Rattle.builder_api.specs.Edits.{Edit, edit_paths}
use Rattle.builder_api.specs.Meanings.{Made, Meaning}
use Rattle.builder_api.specs.Lawful.{IsPromised, Fulfils, Does}
use Rattle.builder_api.proofs.Maps.{same_path}
use Rattle.builder_api.proofs.Views.{view_below, view_inputs}
use Rattle.builder_api.proofs.Commits.{after_edits, makes}
use Rattle.std_kit.specs.Changes.{change_of, AreChanges}
use Rattle.std_kit.specs.Since.{IsAsPromised, AreDue}
use Rattle.std_kit.proofs.Idle.{no_edits}
use Rattle.std_kit.proofs.Walks.{Once, once_of}

-- edits of other paths
untouched : (q : Names) (es : List Edit) (was : Option (List ℕ)) → AllByRecursion (λ p. q ≢ p) (edit_paths es) → after_edits es q was ≡ was
untouched q [] was h = refl
untouched q (e ∷ es) was h = by (eq_by_cmp path_cmp q e.0) refl (untouched q es was h.1)
  where
    by : (b : Bool) → eq_by_cmp path_cmp q e.0 ≡ b → after_edits es q was ≡ was → after_edits es q (cond b e.1 was) ≡ was
    by true i rest = absurd (h.0 (same_path q e.0 i))
    by false i rest = rest

-- where each path is edited once, its edit counts
counted : (q : Names) (es : List Edit) (was : Option (List ℕ)) → Once (edit_paths es) → after_edits es q was ≡ unwrap_or (find path_cmp q es) was
counted q [] was h = refl
counted q (e ∷ es) was h = by (eq_by_cmp path_cmp q e.0) refl (counted q es was h.1)
  where
    by : (b : Bool) → eq_by_cmp path_cmp q e.0 ≡ b → after_edits es q was ≡ unwrap_or (find path_cmp q es) was → after_edits es q (cond b e.1 was) ≡ unwrap_or (cond b (Some e.1) (find path_cmp q es)) was
    by true i next = untouched q es e.1 (subst (λ p. AllByRecursion (λ r. p ≢ r) (edit_paths es)) (sym (same_path q e.0 i)) h.0)
    by false i next = next

-- after a change there is what is made
changed : (was made : Option (List ℕ)) → unwrap_or (change_of was made) was ≡ made
changed was made = by (option_eq bytes_eq was made) refl
  where
    same : (was made : Option (List ℕ)) → option_eq bytes_eq was made ≡ true → was ≡ made
    same None None h = refl
    same None (Some y) h = cc
    same (Some x) None h = cc
    same (Some x) (Some y) h = ap Some ((bytes_decides x y).0 h)

    by : (b : Bool) → option_eq bytes_eq was made ≡ b → unwrap_or (cond b None (Some made)) was ≡ made
    by true h = same was made h
    by false h = refl

-- the files of which the view is then have below the output what is made
pub fulfils : (m : Meaning) (c : Task) (view f : Files) (e : Edits) → view ≡ view_of c f → AreChanges c.output view (m c (inputs_of c view)).files e.files
    → e.problems ≡ (m c (inputs_of c view)).problems → Fulfils m c f e
fulfils m c view f e sees are problems = record {
  files = makes c.output f (m c (inputs_of c f)).files e.files (λ n r. counted (n ∷ r) e.files (get f (c.output ++ n ∷ r)) (once_of (edit_paths e.files) are.once)
      ∙ ap (λ x. unwrap_or x (get f (c.output ++ n ∷ r))) (are.at n r)
      ∙ (λ i. unwrap_or (change_of (before n r i) (get (m c (inputs i)).files (n ∷ r))) (get f (c.output ++ n ∷ r)))
      ∙ changed (get f (c.output ++ n ∷ r)) (get (m c (inputs_of c f)).files (n ∷ r)));
  problems = problems ∙ ap (λ i. (m c i).problems) inputs;
  named = are.named;
  once = are.once;
}
  where
    inputs : inputs_of c view ≡ inputs_of c f
    inputs = ap (inputs_of c) sees ∙ view_inputs c f

    before : (n : List ℕ) (r : Names) → get view (c.output ++ n ∷ r) ≡ get f (c.output ++ n ∷ r)
    before n r = ap (λ v. get v (c.output ++ n ∷ r)) sees ∙ view_below c f n r

as_promised : (m : Meaning) (c : Task) (nodes : Option (List DeltaNode)) (view : Files) (last now : Tree) → view ≡ view_of c (files_of now) → IsPromised m c nodes last now → IsAsPromised m c nodes view
as_promised m c None view last now sees h = tt
as_promised m c (Some nodes) view last now sees h = (last, now, sees, h)

-- a builder whose edits are the changes from its view to what its meaning makes of it, where what is handed is as promised, and
-- whose problems are that meaning's, is lawful
pub does_as_promised : (m : Meaning) (command : Command) (h : Handed) (e : Edits)
    → (IsAsPromised m (task_of command h) h.delta h.view → AreChanges h.output h.view (m (task_of command h) (inputs_of (task_of command h) h.view)).files e.files)
    → (IsAsPromised m (task_of command h) h.delta h.view → e.problems ≡ (m (task_of command h) (inputs_of (task_of command h) h.view)).problems)
    → Does m command h e
does_as_promised m command h e are problems last now sees promised =
    let all = as_promised m (task_of command h) h.delta h.view last now sees promised in
    fulfils m (task_of command h) h.view (files_of now) e sees (are all) (problems all)

-- what is due are the changes, where what is handed is as promised
pub due_changes : (m : Meaning) (command : Command) (h : Handed) (edits : List Edit) → AreDue h (m (task_of command h) (inputs_of (task_of command h) h.view)).files edits
    → IsAsPromised m (task_of command h) h.delta h.view → AreChanges h.output h.view (m (task_of command h) (inputs_of (task_of command h) h.view)).files edits
due_changes m command h edits (inl are) promised = are
due_changes m command h edits (inr idle) promised =
    subst (AreChanges h.output h.view (m (task_of command h) (inputs_of (task_of command h) h.view)).files) (sym idle.1) (no_edits m (task_of command h) h.delta h.view idle.0 promised)

-- and lawful
pub does_due : (m : Meaning) (command : Command) (h : Handed) (e : Edits) → AreDue h (m (task_of command h) (inputs_of (task_of command h) h.view)).files e.files
    → e.problems ≡ (m (task_of command h) (inputs_of (task_of command h) h.view)).problems → Does m command h e
does_due m command h e are problems = does_as_promised m command h e (due_changes m command h e.files are) (λ promised. problems)

-- the same of what it made, which is that
pub does_made : (m : Meaning) (command : Command) (h : Handed) (e : Edits) (made : Made) → made ≡ m (task_of command h) (inputs_of (task_of command h) h.view)
    → AreDue h made.files e.files → e.problems ≡ made.problems → Does m command h e
does_made m command h e made is are problems = does_due m command h e (subst (λ x. AreDue h x.files e.files) is are) (problems ∙ ap (λ x. x.problems) is)
