-- What a commit and a cleaning leave of the records and the descriptions.
use Rattle.std.proofs.Common.{◌≡◌, ℕ, ◌≤◌, ◌==◌, Bool, true, false, cond, ◌&&◌, ◌||◌, eqb-true, eq-eqb, List, [], ◌∷◌, length, Option, Some, None, refl, sym, ap, ◌∙◌, subst, arith}
use Rattle.std.specs.Prelude.{option_and_then}
use Rattle.std.specs.Option.{option_map, option_or}
use Rattle.std.specs.Ordering.{eq_by_cmp, is_eq}
use Rattle.std.specs.Str.{bytes_eq}
use Rattle.std.specs.Cmp.Lexicographic.{bytes_decides}
use Rattle.std.specs.FinMap.{get, insert, remove, get-insert, get-remove}
use Rattle.std.specs.declared.cmp.Ordering.{Ordering}
use Rattle.std.specs.declared.cmp.Ordering.TheVariants.{Less, Equal, Greater}
use Rattle.std.proofs.lemmas.Cmp.{tied_itself}
use Rattle.res_path.specs.Paths.{Names, is_prefix, overlap}
use Rattle.ws_elem.specs.Trees.{Tree}
use Rattle.ws_elem.specs.declared.element.Element.{Element}
use Rattle.ws_elem.proofs.Cuts.{same_at}
use Rattle.op_kind.specs.Places.{project_of}
use Rattle.op_kind.specs.Resources.{Resources}
use Rattle.op_kind.proofs.Looks.{is_at, at_itself, not_at}
use Rattle.op_kind.proofs.PathsBelow.{not_true, prefix_length, project_below}
use Rattle.builder_api.specs.declared.edits.Edits.{Edits}
use Rattle.builder_api.specs.declared.edits.Problem.{Problem}
use Rattle.builder_api.specs.Places.{is_below}
use Rattle.output_edits.specs.Wanted.{wanted}
use Rattle.output_commit.specs.Committed.{IsOpenOutput, files_after, committed, cleaned}
use Rattle.output_commit.specs.Placed.{with_wanted}
use Rattle.output_commit.specs.Told.{are_told, retold, told_at}
use Rattle.output_commit.proofs.Apart.{project_same, stays}
use Rattle.output_commit.proofs.Cleaned.{untold, cleaned_others, cleaned_project}
use Rattle.output_commit.proofs.Reasons.{project_unwanted}
use Rattle.output_commit.proofs.Shown.{get-put_some}
use Rattle.build_laws.specs.States.{Item, unmarked}
use Rattle.build_laws.specs.Commits.{with_record}
use Rattle.build_plan.specs.Descriptions.{described_by, desc_at}
use Rattle.ws_marks.specs.declared.record.Record.{Record}
use Rattle.ws_marks.specs.Places.{Records, place_cmp}
use Rattle.ws_marks.proofs.Places.{place_cmp_exact, place_cmp_total}
use Rattle.ws_content.specs.Handing.{built_of}
use Rattle.build_core.specs.States.{records_of}

-- ---- records

tied : (o : Ordering) → is_eq o ≡ true → o ≡ Equal
tied Less h = cc
tied Equal h = refl
tied Greater h = cc

same_bool : (a b : Bool) → (a ≡ true → b ≡ true) → (b ≡ true → a ≡ true) → a ≡ b
same_bool true b h g = sym (h refl)
same_bool false true h g = g refl
same_bool false false h g = refl

-- two places are one where the project and the command are
same_place : (i : Item) (project : List ℕ) (index : ℕ) → eq_by_cmp place_cmp (project, index) (i.project, i.index) ≡ (bytes_eq i.project project && i.index == index)
same_place i project index = same_bool (eq_by_cmp place_cmp (project, index) (i.project, i.index)) (bytes_eq i.project project && i.index == index) there back
  where
    both : (a b : Bool) → a ≡ true → b ≡ true → (a && b) ≡ true
    both true b h g = g
    both false b h g = h

    parts : (a b : Bool) → (a && b) ≡ true → (a ≡ true) × (b ≡ true)
    parts true b h = (refl, h)
    parts false b h = cc

    there : eq_by_cmp place_cmp (project, index) (i.project, i.index) ≡ true → (bytes_eq i.project project && i.index == index) ≡ true
    there h =
        let same = place_cmp_exact (project, index) (i.project, i.index) (tied (place_cmp (project, index) (i.project, i.index)) h) in
        both (bytes_eq i.project project) (i.index == index) ((bytes_decides i.project project).1 (sym (ap (λ p. p.0) same))) (eq-eqb i.index index (sym (ap (λ p. p.1) same)))

    back : (bytes_eq i.project project && i.index == index) ≡ true → eq_by_cmp place_cmp (project, index) (i.project, i.index) ≡ true
    back h =
        let name : i.project ≡ project = (bytes_decides i.project project).0 (parts (bytes_eq i.project project) (i.index == index) h).0 in
        let number : i.index ≡ index = eqb-true i.index index (parts (bytes_eq i.project project) (i.index == index) h).1 in
        (λ k. eq_by_cmp place_cmp (sym name k, sym number k) (i.project, i.index)) ∙ ap is_eq (tied_itself place_cmp_total (i.project, i.index))

-- the command has a record more
pub records_inserted : (built : Records Tree) (i : Item) (r : Record Tree) → records_of (insert built (i.project, i.index) r) ≡ with_record (records_of built) i (Some (built_of r))
records_inserted built i r k project index =
    (ap (option_map built_of) (get-insert place_cmp_total built (i.project, i.index) r (project, index))
    ∙ ap (λ b. option_map built_of (cond b (Some r) (get built (project, index)))) (same_place i project index)
    ∙ by (bytes_eq i.project project && i.index == index)) k
  where
    by : (b : Bool) → option_map built_of (cond b (Some r) (get built (project, index))) ≡ cond b (Some (built_of r)) (option_map built_of (get built (project, index)))
    by true = refl
    by false = refl

-- the command has none
pub records_removed : (built : Records Tree) (i : Item) → records_of (remove built (i.project, i.index)) ≡ with_record (records_of built) i None
records_removed built i k project index =
    (ap (option_map built_of) (get-remove place_cmp_total built (i.project, i.index) (project, index))
    ∙ ap (λ b. option_map built_of (cond b None (get built (project, index)))) (same_place i project index)
    ∙ by (bytes_eq i.project project && i.index == index)) k
  where
    by : (b : Bool) → option_map built_of (cond b None (get built (project, index))) ≡ cond b None (option_map built_of (get built (project, index)))
    by true = refl
    by false = refl

-- ---- descriptions

-- where projects differ by markers alone, they are described alike
pub descs_same : (s t : Tree) → ((project : List ℕ) → option_map unmarked (get t (project ∷ [])) ≡ option_map unmarked (get s (project ∷ []))) → desc_at t ≡ desc_at s
descs_same s t alike i project =
    (sym (unmarked_alike project (get t (project ∷ []))) ∙ ap (option_and_then (described_by project)) (alike project) ∙ unmarked_alike project (get s (project ∷ []))) i
  where
    unmarked_alike : (project : List ℕ) (o : Option Element) → option_and_then (described_by project) (option_map unmarked o) ≡ option_and_then (described_by project) o
    unmarked_alike project None = refl
    unmarked_alike project (Some e) = refl

-- a project that isn't that of o is aside of it
aside : (o : Names) (project : List ℕ) → 2 ≤ length o → is_at (project ∷ []) (project_of o) ≡ false → overlap (project ∷ []) o ≡ false
aside o project long other =
    neither (is_prefix (project ∷ []) o) (is_prefix o (project ∷ []))
    (not_true (is_prefix (project ∷ []) o) (λ h. not_at (project ∷ []) (project_of o) other (sym (project_below (project ∷ []) o (λ none. let no : project ∷ [] ≡ [] = none in cc) h))))
    (not_true (is_prefix o (project ∷ [])) (λ h. let less : length o ≤ 1 = prefix_length o (project ∷ []) h in absurd (omega arith)))
  where
    neither : (a b : Bool) → a ≡ false → b ≡ false → (a || b) ≡ false
    neither false b h g = g
    neither true b h g = h

told_alike : (index id : ℕ) (ps : List Problem) (x : Option Element) → option_map unmarked (option_or (told_at index id ps x) x) ≡ option_map unmarked x
told_alike index id ps None = refl
told_alike index id ps (Some e) = by (are_told index ps e.attached.marks)
  where
    by : (b : Bool) → option_map unmarked (option_or (cond b None (Some (record e { attached = record e.attached { marks = retold index id ps e.attached.marks } }))) (Some e)) ≡ Some (unmarked e)
    by true = refl
    by false = refl

-- of the projects a commit changes only markers
commit_alike : (r : Resources) (o : Names) (index : ℕ) (e : Edits) → IsOpenOutput r.tree o → (project : List ℕ)
    → option_map unmarked (get (committed r o index e).tree (project ∷ [])) ≡ option_map unmarked (get r.tree (project ∷ []))
commit_alike r o index e out project = by (is_at (project ∷ []) (project_of o)) refl
  where
    w : Tree
    w = wanted o (files_after r o e)

    left : Tree
    left = (with_wanted r o w).tree

    told : Option Element
    told = told_at index r.next_marker e.problems (get r.tree (project_of o))

    here : get (committed r o index e).tree (project_of o) ≡ option_or told (get r.tree (project_of o))
    here = get-put_some left (project_of o) told (project_of o)
        ∙ ap (λ b. cond b (option_or told (get left (project_of o))) (get left (project_of o))) (at_itself (project_of o))
        ∙ ap (option_or told) (project_same r o w (project_unwanted o (files_after r o e) out.long))

    by : (b : Bool) → is_at (project ∷ []) (project_of o) ≡ b → option_map unmarked (get (committed r o index e).tree (project ∷ [])) ≡ option_map unmarked (get r.tree (project ∷ []))
    by false other = ap (option_map unmarked) (stays r o (files_after r o e) index e.problems (project ∷ []) (aside o project out.long other))
    by true at = subst (λ p. option_map unmarked (get (committed r o index e).tree p) ≡ option_map unmarked (get r.tree p)) (sym (same_at (project ∷ []) (project_of o) at))
        (ap (option_map unmarked) here ∙ told_alike index r.next_marker e.problems (get r.tree (project_of o)))

pub commit_descs : (r : Resources) (o : Names) (index : ℕ) (e : Edits) → IsOpenOutput r.tree o → desc_at (committed r o index e).tree ≡ desc_at r.tree
commit_descs r o index e out = descs_same r.tree (committed r o index e).tree (commit_alike r o index e out)

-- no project lies below an output
not_under : (o : Names) (project : List ℕ) → 2 ≤ length o → is_below o (project ∷ []) ≡ false
not_under [] project long = absurd (omega arith)
not_under (n ∷ []) project long = absurd (omega arith)
not_under (n ∷ m ∷ o) project long = by (bytes_eq n project)
  where
    by : (b : Bool) → (b && false) ≡ false
    by true = refl
    by false = refl

-- of the projects a cleaning changes only markers too
pub clean_descs : (r : Resources) (o : Names) (index : ℕ) → IsOpenOutput r.tree o → desc_at (cleaned r o index).tree ≡ desc_at r.tree
clean_descs r o index out = descs_same r.tree (cleaned r o index).tree (λ project. by project (is_at (project ∷ []) (project_of o)) refl)
  where
    same_but_marks : (x : Option Element) → option_map unmarked (option_map (untold index) x) ≡ option_map unmarked x
    same_but_marks None = refl
    same_but_marks (Some e) = refl

    by : (project : List ℕ) (b : Bool) → is_at (project ∷ []) (project_of o) ≡ b → option_map unmarked (get (cleaned r o index).tree (project ∷ [])) ≡ option_map unmarked (get r.tree (project ∷ []))
    by project false other = ap (option_map unmarked) (cleaned_others r o index (project ∷ []) (not_under o project out.long) (not_at (project ∷ []) (project_of o) other))
    by project true at = subst (λ p. option_map unmarked (get (cleaned r o index).tree p) ≡ option_map unmarked (get r.tree p)) (sym (same_at (project ∷ []) (project_of o) at))
        (ap (option_map unmarked) (cleaned_project r o index) ∙ same_but_marks (get r.tree (project_of o)))
