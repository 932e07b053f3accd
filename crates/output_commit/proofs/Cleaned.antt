-- What a cleaning leaves.
use Rattle.std.proofs.Common.{◌≡◌, ◌≢◌, ℕ, Bool, true, false, cond, not, ◌&&◌, List, [], ◌∷◌, refl, sym, ap, ◌∙◌}
use Rattle.std.specs.Prelude.{Option, Some, None, is_some}
use Rattle.std.specs.Option.{option_map, option_or}
use Rattle.std.specs.FinMap.{get, empty, entries, get-entries, get-empty}
use Rattle.mark_set.specs.Markers.{Marks}
use Rattle.res_path.specs.Paths.{Names, path_cmp}
use Rattle.ws_elem.specs.Trees.{Tree}
use Rattle.ws_elem.specs.declared.element.Element.{Element}
use Rattle.op_kind.specs.Marking.{with_marks, removed}
use Rattle.op_kind.specs.Members.{is_below, put_all}
use Rattle.op_kind.specs.Places.{project_of}
use Rattle.op_kind.specs.Resources.{Resources}
use Rattle.op_kind.proofs.Looks.{is_at, at_itself, at_other}
use Rattle.op_kind.proofs.PathsBelow.{never}
use Rattle.builder_api.specs.Places.{is_below as lies_below}
use Rattle.output_commit.specs.Committed.{cleaned}
use Rattle.output_commit.specs.Placed.{placed, cleared}
use Rattle.output_commit.specs.Told.{problem_ids, are_told, retold, tell_all, told_at}
use Rattle.output_commit.proofs.Apart.{not_placed}
use Rattle.output_commit.proofs.Counting.{not_below}
use Rattle.output_commit.proofs.Gone.{get-cleared}
use Rattle.output_commit.proofs.Shown.{get-put_some}
use Rattle.output_commit.proofs.Under.{below_alike}

-- without the problems of the command with this index
abbrev pub untold : ℕ → Element → Element
untold index = with_marks (λ marks. removed marks (problem_ids index marks))

none_told : (index : ℕ) (marks : Marks) (ids : List ℕ) → tell_all index marks ids [] ≡ true → removed marks ids ≡ marks
none_told index marks [] h = refl
none_told index marks (id ∷ ids) h = absurd (never (sym h))

-- what is told of no problems
told_none : (index id : ℕ) (x : Option Element) → option_or (told_at index id [] x) x ≡ option_map (untold index) x
told_none index id None = refl
told_none index id (Some e) = by (are_told index [] e.attached.marks) refl
  where
    by : (b : Bool) → are_told index [] e.attached.marks ≡ b → option_or (cond b None (Some (with_marks (retold index id []) e))) (Some e) ≡ Some (untold index e)
    by true h = λ i. Some (with_marks (λ marks. sym (none_told index e.attached.marks (problem_ids index e.attached.marks) h) i) e)
    by false h = refl

-- nothing
abbrev nothing : Tree
nothing = empty

module _ (r : Resources) (o : Names) (index : ℕ) where
  abbrev told : Option Element
  told = told_at index r.next_marker [] (get r.tree (project_of o))

  abbrev left : Tree
  left = put_all (cleared r.tree o nothing) (placed r.tree r.next_node r.next_stamp (entries nothing))

  get-left : (q : Names) → get left q ≡ cond (is_below o q) None (get r.tree q)
  get-left q = not_placed r.tree (cleared r.tree o nothing) r.next_node r.next_stamp (entries nothing) q (sym (get-entries nothing q) ∙ get-empty path_cmp q)
      ∙ get-cleared r.tree o nothing q ∙ (λ i. cond (not (is_below o q && not (is_some (get-empty {X = Element} path_cmp q i)))) (get r.tree q) None) ∙ by (is_below o q)
    where
      by : (b : Bool) → cond (not (b && true)) (get r.tree q) None ≡ cond b None (get r.tree q)
      by true = refl
      by false = refl

  elsewhere : (q : Names) → is_at q (project_of o) ≡ false → get (cleaned r o index).tree q ≡ cond (is_below o q) None (get r.tree q)
  elsewhere q other = get-put_some left (project_of o) told q ∙ ap (λ b. cond b (option_or told (get left q)) (get left q)) other ∙ get-left q

  -- nothing is left below the output
  pub cleaned_gone : (q : Names) → lies_below o q ≡ true → get (cleaned r o index).tree q ≡ None
  cleaned_gone q h =
      let under : is_below o q ≡ true = sym (below_alike o q) ∙ h in
      elsewhere q (at_other q (project_of o) (λ same. never (sym under ∙ ap (is_below o) same ∙ not_below o))) ∙ ap (λ b. cond b None (get r.tree q)) under

  -- the project has no problem of the command
  pub cleaned_project : get (cleaned r o index).tree (project_of o) ≡ option_map (untold index) (get r.tree (project_of o))
  cleaned_project =
      get-put_some left (project_of o) told (project_of o) ∙ ap (λ b. cond b (option_or told (get left (project_of o))) (get left (project_of o))) (at_itself (project_of o))
      ∙ ap (option_or told) (get-left (project_of o) ∙ ap (λ b. cond b None (get r.tree (project_of o))) (not_below o))
      ∙ told_none index r.next_marker (get r.tree (project_of o))

  -- all else stays as it was
  pub cleaned_others : (q : Names) → lies_below o q ≡ false → q ≢ project_of o → get (cleaned r o index).tree q ≡ get r.tree q
  cleaned_others q h other = elsewhere q (at_other q (project_of o) other) ∙ ap (λ b. cond b None (get r.tree q)) (sym (below_alike o q) ∙ h)
