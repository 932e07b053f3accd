-- A commit and a cleaning keep resources sound, and trees known.
use Rattle.std.proofs.Common.{◌≡◌, ◌≢◌, ◌↔◌, ℕ, ◌<◌, ◌≤◌, Bool, true, false, cond, not, ◌&&◌, List, [], ◌∷◌, length, refl, sym, ap, ◌∙◌, subst, arith}
use Rattle.std.specs.Prelude.{Option, Some, None, IfSome, IsSomeAnd, is_some}
use Rattle.std.specs.List.{All}
use Rattle.std.specs.FinMap.{get, empty, entries, entries_sorted, contains_key, get-entries, get-empty}
use Rattle.std.proofs.lemmas.List.Elements.{All-nil, All-cons}
use Rattle.res_path.specs.Paths.{Names, path_cmp, parent, is_prefix}
use Rattle.ws_elem.specs.Kinds.{is_file}
use Rattle.ws_elem.specs.Stamps.{SameContents, AgreeByStamps}
use Rattle.ws_elem.specs.Trees.{Tree}
use Rattle.ws_elem.specs.declared.element.Element.{Element}
use Rattle.ws_elem.specs.declared.kind.Kind.TheVariants.{File, Project}
use Rattle.op_kind.specs.Members.{is_below}
use Rattle.op_kind.specs.Places.{project_of, has_closed}
use Rattle.op_kind.specs.Resources.{Resources}
use Rattle.op_kind.specs.Sound.{IsConsistent}
use Rattle.op_kind.specs.Stamps.{IsKnown}
use Rattle.op_kind.proofs.Cases.{if_map, if_none, none_if}
use Rattle.op_kind.proofs.PathsBelow.{never, both, not_true, prefix_itself, prefix_length, prefix_parent, project_below, project_length}
use Rattle.op_sound.proofs.SoundOpen.{below_prefix}
use Rattle.op_sound.proofs.SoundParts.{open_kept}
use Rattle.op_sound.proofs.SoundSteps.{is_there, is_away, names_at_least}
use Rattle.builder_api.specs.declared.edits.Edits.{Edits}
use Rattle.builder_api.specs.declared.edits.Problem.{Problem}
use Rattle.output_edits.specs.Wanted.{wanted}
use Rattle.output_commit.specs.Committed.{IsOpenOutput, files_after, changed_to, committed, cleaned, refusal}
use Rattle.output_commit.specs.Placed.{cleared, with_wanted}
use Rattle.output_commit.proofs.Apart.{project_same}
use Rattle.output_commit.proofs.Counting.{entries_there, project_stays}
use Rattle.output_commit.proofs.Gone.{get-cleared}
use Rattle.output_commit.proofs.Grown.{MayBeWanted, IsUnderway, place_sound}
use Rattle.output_commit.proofs.Left.{wanted_same, unrefused}
use Rattle.output_commit.proofs.Noted.{tell_sound}
use Rattle.output_commit.proofs.Pruned.{StaysSound, IsPruning, pruned, prune_sound, sound_on}
use Rattle.output_commit.proofs.Reasons.{may_be_wanted}
use Rattle.output_commit.proofs.Under.{prefix_shorter, below_then}
use Rattle.output_commit.proofs.Undisputed.{none_above}
use Rattle.output_commit.proofs.Wished.{entries_got}

-- ---- what goes

-- what isn't wanted below o goes
abbrev stays_at : Names → Tree → Names → Bool
stays_at o w q = not (is_below o q && not (contains_key w q))

-- a project isn't below o
project_aside : (o q : Names) → 2 ≤ length o → is_below o (project_of q) ≡ false
project_aside o q long = not_true (is_below o (project_of q)) (λ h.
    let less : length o ≤ length (project_of q) = prefix_length o (project_of q) (below_prefix o (project_of q) h).0 in
    let short : length (project_of q) ≤ 1 = project_length q in
    absurd (omega arith))

-- what lies in nothing wanted isn't wanted
unwanted_below : (o : Names) (w : Tree) (q : Names) → 2 ≤ length o → MayBeWanted o w → is_below o (parent q) ≡ true → contains_key w (parent q) ≡ false → stays_at o w q ≡ true → ⊥
unwanted_below o w q long want under none stays = by (get w q) refl (want.parents q)
  where
    below : is_below o q ≡ true
    below = below_then o (parent q) q under (prefix_parent (parent q) q (prefix_itself (parent q)))

    deep : 3 ≤ length q
    deep =
        let parts = below_prefix o q below in
        let more : length o < length q = prefix_shorter o q parts.0 parts.1 in
        omega arith

    there : (y : Option Element) → is_some y ≡ false → IsSomeAnd y (λ g. is_file g.kind ≡ false) → ⊥
    there None h g = g
    there (Some e) h g = never h

    by : (x : Option Element) → get w q ≡ x → IfSome x (λ _. 3 ≤ length q → IsSomeAnd (get w (parent q)) (λ g. is_file g.kind ≡ false)) → ⊥
    by None is p = never (sym stays ∙ (λ i. not (below i && not (is_some (is i)))))
    by (Some g) is p = there (get w (parent q)) none (p deep)

clear_pruning : (t : Tree) (o : Names) (w : Tree) → IsOpenOutput t o → MayBeWanted o w → IsPruning (get t) (stays_at o w)
clear_pruning t o w out want = record {
  project = λ q. ap (λ b. not (b && not (contains_key w (project_of q)))) (project_aside o q out.long);
  parents = λ q h. ap not (not_true (is_below o (parent q) && not (contains_key w (parent q))) (λ g.
      let parts = both (is_below o (parent q)) (not (contains_key w (parent q))) g in
      unwanted_below o w q out.long want parts.0 (is_away (contains_key w (parent q)) parts.1) h));
  shown = λ q h.
      let parts = both (is_below o q) (not (contains_key w q)) (is_there (is_below o q && not (contains_key w q)) h) in
      open_kept (get t) q (ap (λ z. has_closed (get t z)) (project_below o q some (below_prefix o q parts.0).0) ∙ out.opened);
}
  where
    some : o ≢ []
    some = let long : 2 ≤ length o = out.long in names_at_least o (omega arith)

-- ---- all that is wanted

-- a project that is there is no file
no_file : (o : Names) (x : Option Element) → 2 ≤ length o → is_some x ≡ true → IfSome x (λ e. (e.kind ≡ Project) ↔ (length (project_of o) ≡ 1)) → IsSomeAnd x (λ e. e.kind ≢ File)
no_file o None long there at = absurd (never (sym there))
no_file [] (Some e) long there at = absurd (omega arith)
no_file (n ∷ o) (Some e) long there at = λ file. let project : e.kind ≡ Project = at.1 refl in cc

underway : (r : Resources) (o : Names) (w : Tree) → IsConsistent r → IsOpenOutput r.tree o → IsUnderway o r.tree w (cleared r.tree o w) (entries w)
underway r o w x out = record {
  ordered = entries_sorted w;
  same = wanted_same r.tree o w (entries w) (entries_there w);
  each = entries_got w;
  stands = λ q none. none_if (λ g. IsSomeAnd (get (cleared r.tree o w) q) (λ e. is_file e.kind ≡ is_file g.kind)) (get w q) (get-entries w q ∙ none);
  gone = λ q under none. get-cleared r.tree o w q ∙ (λ i. cond (not (under i && not (is_some (none i)))) (get r.tree q) None);
  project = subst (λ y. IsSomeAnd y (λ e. e.kind ≢ File)) (sym (project_stays r.tree o w)) (no_file o (get r.tree (project_of o)) out.long out.there (x.tree.projects (project_of o)));
  shown = ap has_closed (project_stays r.tree o w) ∙ out.opened;
}

wanted_sound : (r : Resources) (o : Names) (w : Tree) → IsConsistent r → IsOpenOutput r.tree o → MayBeWanted o w → StaysSound r (with_wanted r o w)
wanted_sound r o w x out want =
    let cut : StaysSound r (pruned r (stays_at o w)) = prune_sound r (stays_at o w) x (clear_pruning r.tree o w out want) in
    sound_on r (pruned r (stays_at o w)) (with_wanted r o w) cut (place_sound o r.tree w (pruned r (stays_at o w)) (entries w) want cut.sound (underway r o w x out))

-- nothing is wanted at a project's path
project_unwanted : (o : Names) (w : Tree) → MayBeWanted o w → get w (project_of o) ≡ None
project_unwanted o w want = if_none (get w (project_of o)) (if_map (λ _. (2 ≤ length (project_of o)) × (project_of (project_of o) ≡ project_of o)) (λ _. ⊥) (get w (project_of o))
    (λ _ at. let long : 2 ≤ length (project_of o) = at.0 in let short : length (project_of o) ≤ 1 = project_length o in absurd (omega arith))
    (want.within (project_of o)))

changed_sound : (r : Resources) (o : Names) (w : Tree) (index : ℕ) (ps : List Problem) → IsConsistent r → IsOpenOutput r.tree o → MayBeWanted o w → StaysSound r (changed_to r o w index ps)
changed_sound r o w index ps x out want =
    let one : StaysSound r (with_wanted r o w) = wanted_sound r o w x out want in
    sound_on r (with_wanted r o w) (changed_to r o w index ps) one (tell_sound r.tree (with_wanted r o w) o index ps one.sound (project_same r o w (project_unwanted o w want)))

-- ---- commits and cleanings

commit_stays : (r : Resources) (o : Names) (index : ℕ) (e : Edits) → IsOpenOutput r.tree o → IsConsistent r → refusal r o index e ≡ None → StaysSound r (committed r o index e)
commit_stays r o index e out x allowed = changed_sound r o (wanted o (files_after r o e)) index e.problems x out
    (may_be_wanted o (files_after r o e) out.long (none_above e.files (files_after r o e) (unrefused r o index e allowed)))

clean_stays : (r : Resources) (o : Names) (index : ℕ) → IsOpenOutput r.tree o → IsConsistent r → StaysSound r (cleaned r o index)
clean_stays r o index out x = changed_sound r o empty index [] x out record {
  within = λ q. none_if (λ _. (2 ≤ length q) × (project_of q ≡ project_of o)) (get empty q) (get-empty path_cmp q);
  parents = λ q. none_if (λ _. 3 ≤ length q → IsSomeAnd (get empty (parent q)) (λ g. is_file g.kind ≡ false)) (get empty q) (get-empty path_cmp q);
  below = λ q. none_if (λ g. is_file g.kind ≡ true → is_prefix o q ≡ true) (get empty q) (get-empty path_cmp q);
  clear = λ q r. none_if (λ g. is_file g.kind ≡ true → is_below q r ≡ true → get empty r ≡ None) (get empty q) (get-empty path_cmp q);
}

-- a commit that isn't refused leaves sound resources sound
pub commit_sound : (r : Resources) (o : Names) (index : ℕ) (e : Edits) → IsOpenOutput r.tree o → IsConsistent r → refusal r o index e ≡ None → IsConsistent (committed r o index e)
commit_sound r o index e out x allowed = (commit_stays r o index e out x allowed).sound

-- and what was known of them stays known
pub commit_known : (r : Resources) (o : Names) (index : ℕ) (e : Edits) (t : Tree) → IsOpenOutput r.tree o → IsConsistent r → refusal r o index e ≡ None → IsKnown r t
    → IsKnown (committed r o index e) t
commit_known r o index e t out x allowed known = (commit_stays r o index e out x allowed).known t known

-- so does a cleaning
pub clean_sound : (r : Resources) (o : Names) (index : ℕ) → IsOpenOutput r.tree o → IsConsistent r → IsConsistent (cleaned r o index)
clean_sound r o index out x = (clean_stays r o index out x).sound

pub clean_known : (r : Resources) (o : Names) (index : ℕ) (t : Tree) → IsOpenOutput r.tree o → IsConsistent r → IsKnown r t → IsKnown (cleaned r o index) t
clean_known r o index t out x known = (clean_stays r o index out x).known t known

-- ---- the trees before and after

same_back : (a b : Tree) → SameContents a b → SameContents b a
same_back a b h p q = by (get b p) (get a q) (h q p)
  where
    by : (o u : Option Element)
        → IfSome u (λ e. IfSome o (λ f. e.kind ≡ File → f.kind ≡ File → e.stamp ≡ f.stamp → e.bytes ≡ f.bytes))
        → IfSome o (λ e. IfSome u (λ f. e.kind ≡ File → f.kind ≡ File → e.stamp ≡ f.stamp → e.bytes ≡ f.bytes))
    by None u g = tt
    by (Some e) None g = tt
    by (Some e) (Some f) g = λ e_file f_file stamps. sym (g f_file e_file (sym stamps))

agree : (r after : Resources) → IsConsistent r → StaysSound r after → AgreeByStamps (r.tree ∷ after.tree ∷ [])
agree r after x s =
    let across : SameContents r.tree after.tree = (s.known r.tree x.tree_known).tree in
    two (λ t. All (SameContents t) (r.tree ∷ after.tree ∷ [])) r.tree after.tree
    (two (SameContents r.tree) r.tree after.tree x.tree_known.tree across)
    (two (SameContents after.tree) r.tree after.tree (same_back r.tree after.tree across) s.sound.tree_known.tree)
  where
    two : (P : Tree → Type 0) (a b : Tree) → P a → P b → All P (a ∷ b ∷ [])
    two P a b h g = All-cons P a (b ∷ []) h (All-cons P b [] g (All-nil P))

-- the trees before and after a commit have equal contents under equal stamps
pub commit_agrees : (r : Resources) (o : Names) (index : ℕ) (e : Edits) → IsOpenOutput r.tree o → IsConsistent r → refusal r o index e ≡ None
    → AgreeByStamps (r.tree ∷ (committed r o index e).tree ∷ [])
commit_agrees r o index e out x allowed = agree r (committed r o index e) x (commit_stays r o index e out x allowed)

pub clean_agrees : (r : Resources) (o : Names) (index : ℕ) → IsOpenOutput r.tree o → IsConsistent r → AgreeByStamps (r.tree ∷ (cleaned r o index).tree ∷ [])
clean_agrees r o index out x = agree r (cleaned r o index) x (clean_stays r o index out x)
