-- What is clear of an output stays as it was.
use Rattle.std.proofs.Common.{◌≡◌, ◌≢◌, ℕ, ◌+◌, ◌-◌, Bool, true, false, cond, not, ◌&&◌, ◌||◌, List, [], ◌∷◌, ◌++◌, map, length, refl, sym, ap, ◌∙◌}
use Rattle.std.specs.Prelude.{Option, Some, None, IfSome}
use Rattle.std.specs.List.{AllByRecursion, flat_map}
use Rattle.std.specs.Option.{option_or}
use Rattle.std.specs.FinMap.{get, entries, contains_key, get-entries}
use Rattle.res_path.specs.Paths.{Names, is_prefix, overlap}
use Rattle.ws_elem.specs.declared.element.Element.{Element}
use Rattle.ws_elem.specs.Trees.{Tree}
use Rattle.ws_elem.proofs.Cuts.{same_at}
use Rattle.op_kind.specs.Entries.{Entries}
use Rattle.op_kind.specs.Effects.{new_folder, put_some}
use Rattle.op_kind.specs.Members.{put_all}
use Rattle.op_kind.specs.Places.{project_of}
use Rattle.op_kind.specs.Resources.{Resources}
use Rattle.op_kind.proofs.Looks.{is_at, at_other, find_at, last_at}
use Rattle.op_kind.proofs.PathsBelow.{never, project_prefix}
use Rattle.builder_api.specs.declared.edits.Problem.{Problem}
use Rattle.builder_api.proofs.Places.{clear_below, prefix_append, or_true, neither}
use Rattle.output_edits.specs.Wanted.{above, standing, wanted}
use Rattle.output_commit.specs.Committed.{changed_to}
use Rattle.output_commit.specs.Placed.{fresh, nodes_of, stamps_of, placed, cleared, with_wanted}
use Rattle.output_commit.specs.Told.{told_at}
use Rattle.output_commit.proofs.Gone.{get-cleared}
use Rattle.output_commit.proofs.Counting.{put_first, project_stays}
use Rattle.output_commit.proofs.Shown.{get-put_some}
use Rattle.output_commit.proofs.Wished.{Over, above_over, last_all, all_flat, all_map, entries_got, get-wanted, fewer, not_root}

-- what is clear of o isn't at or below it, and isn't above it
not_over : (q o j : Names) → overlap q o ≡ false → is_prefix q (o ++ j) ≡ true → ⊥
not_over q o j clear h = never (sym (or_true (is_prefix (o ++ j) o)) ∙ (λ i. is_prefix (o ++ j) o || sym (prefix_append o j) i) ∙ clear_below q (o ++ j) o clear h)

not_in : (q o j : Names) → overlap q o ≡ false → q ≡ o ++ j → ⊥
not_in q o j clear h = never (sym (ap (is_prefix o) h ∙ prefix_append o j) ∙ (neither (is_prefix q o) (is_prefix o q) clear).1)

some_names : (q o : Names) → overlap q o ≡ false → o ≢ []
some_names q o clear h = not_in q o q clear (ap (λ p. p ++ q) (sym h))

-- nothing is wanted there
none_wanted : (o : Names) (f : Tree) (q : Names) → overlap q o ≡ false → get (wanted o f) q ≡ None
none_wanted o f q clear = get-wanted o f q ∙ nothing last_at_is (last_all (λ _. ⊥) q (flat_map (λ e. standing (o ++ e.0) e.1) (entries f)) (all_flat At (λ e. standing (o ++ e.0) e.1) (entries f)
    (all_map (λ e. get f e.0 ≡ Some e.1) (λ e. AllByRecursion At (standing (o ++ e.0) e.1)) (entries f) (λ e _. each e) (entries_got f))))
  where
    last_at_is : Option Element
    last_at_is = last_at q (flat_map (λ e. standing (o ++ e.0) e.1) (entries f))

    At : Names × Element → Type 0
    At x = is_at q x.0 ≡ true → ⊥

    folder : (j : Names) (ps : List Names) → AllByRecursion (Over (o ++ j)) ps → AllByRecursion At (map (λ p. (p, new_folder 0)) ps)
    folder j [] all = tt
    folder j (p ∷ ps) all = (λ at. not_over q o j clear (ap (λ x. is_prefix x (o ++ j)) (same_at q p at) ∙ all.0.under), folder j ps all.1)

    each : (e : Names × Element) → AllByRecursion At (standing (o ++ e.0) e.1)
    each e = (
      λ at. not_in q o e.0 clear (same_at q (o ++ e.0) at),
      folder e.0 (above (length (o ++ e.0) - 2) (o ++ e.0)) (above_over (length (o ++ e.0) - 2) (o ++ e.0) (fewer (o ++ e.0) (not_root o e.0 (some_names q o clear)))),
    )

    nothing : (x : Option Element) → IfSome x (λ _. ⊥) → x ≡ None
    nothing None h = refl
    nothing (Some e) h = absurd h

-- what isn't placed stays
pub not_placed : (t u : Tree) (n s : ℕ) (es : Entries) (q : Names) → find_at q es ≡ None → get (put_all u (placed t n s es)) q ≡ get u q
not_placed t u n s [] q h = refl
not_placed t u n s (e ∷ es) q h =
    let x = get t e.0 in
    let f = fresh n s e.1 x in
    let rest = placed t (n + nodes_of e.1 x) (s + stamps_of e.1 x) es in
    let other = away (is_at q e.0) refl h in
    ap (λ v. get v q) (put_first u e.0 f rest) ∙ not_placed t (put_some u e.0 f) (n + nodes_of e.1 x) (s + stamps_of e.1 x) es q (ap (λ b. cond b (Some e.1) (find_at q es)) (sym other) ∙ h)
    ∙ get-put_some u e.0 f q ∙ ap (λ b. cond b (option_or f (get u q)) (get u q)) other
  where
    away : (b : Bool) → is_at q e.0 ≡ b → cond b (Some e.1) (find_at q es) ≡ None → is_at q e.0 ≡ false
    away true at g = cc
    away false at g = at

-- what is clear of the output stays, whatever files are to lie below it
pub stays : (r : Resources) (o : Names) (f : Tree) (index : ℕ) (ps : List Problem) (q : Names) → overlap q o ≡ false → get (changed_to r o (wanted o f) index ps).tree q ≡ get r.tree q
stays r o f index ps q clear =
    let w : Tree = wanted o f in
    let u : Tree = put_all (cleared r.tree o w) (placed r.tree r.next_node r.next_stamp (entries w)) in
    let told : Option Element = told_at index r.next_marker ps (get r.tree (project_of o)) in
    get-put_some u (project_of o) told q ∙ ap (λ b. cond b (option_or told (get u q)) (get u q)) no_project
    ∙ not_placed r.tree (cleared r.tree o w) r.next_node r.next_stamp (entries w) q (sym (get-entries w q) ∙ none_wanted o f q clear)
    ∙ get-cleared r.tree o w q ∙ ap (λ b. cond (not ((b && not (is_prefix q o)) && not (contains_key w q))) (get r.tree q) None) (neither (is_prefix q o) (is_prefix o q) clear).1
  where
    no_project : is_at q (project_of o) ≡ false
    no_project = at_other q (project_of o) (λ same. never (sym (ap (λ p. is_prefix p o) same ∙ project_prefix o) ∙ (neither (is_prefix q o) (is_prefix o q) clear).0))

-- the same of resources that are those after a change
pub stays_now : (r now : Resources) (o : Names) (f : Tree) (index : ℕ) (ps : List Problem) → now ≡ changed_to r o (wanted o f) index ps → (q : Names) → overlap q o ≡ false → get now.tree q ≡ get r.tree q
stays_now r now o f index ps is q clear = ap (λ (x : Resources). get x.tree q) is ∙ stays r o f index ps q clear

-- where nothing is wanted at the project's path, the project stays
pub project_same : (r : Resources) (o : Names) (w : Tree) → get w (project_of o) ≡ None → get (with_wanted r o w).tree (project_of o) ≡ get r.tree (project_of o)
project_same r o w none = not_placed r.tree (cleared r.tree o w) r.next_node r.next_stamp (entries w) (project_of o) (sym (get-entries w (project_of o)) ∙ none) ∙ project_stays r.tree o w
