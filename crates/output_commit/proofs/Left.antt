-- The files that a commit leaves below its output are those that its edits make.
use Rattle.std.proofs.Common.{◌≡◌, ◌≢◌, ℕ, ◌+◌, ◌≤◌, Bool, true, false, cond, not, ◌&&◌, List, [], ◌∷◌, ◌++◌, length, T, refl, sym, ap, ◌∙◌, subst, arith}
use Rattle.std.specs.Prelude.{Option, Some, None, is_some, filter}
use Rattle.std.specs.List.{AllByRecursion}
use Rattle.std.specs.Option.{option_or, option_map}
use Rattle.std.specs.FinMap.{get, empty, entries, entries_sorted, contains_key, get-entries, get-empty}
use Rattle.std.specs.FinMap.Entries.{below_all}
use Rattle.res_path.specs.Paths.{Names, path_cmp, is_prefix}
use Rattle.ws_elem.specs.declared.element.Element.{Element}
use Rattle.ws_elem.specs.Elements.{file_bytes}
use Rattle.ws_elem.specs.Kinds.{is_file}
use Rattle.ws_elem.specs.Trees.{Tree}
use Rattle.ws_elem.proofs.Cuts.{same_at}
use Rattle.op_kind.specs.Entries.{Entries}
use Rattle.op_kind.specs.Members.{members, is_below, put_all}
use Rattle.op_kind.specs.Places.{project_of}
use Rattle.op_kind.specs.Resources.{Resources}
use Rattle.op_kind.proofs.Looks.{is_at, at_other, find_at, find-members, sorted, sorted-members, none_above}
use Rattle.op_kind.proofs.PathsBelow.{project_length}
use Rattle.op_sound.proofs.SoundCarried.{AllBelow, get-carried}
use Rattle.builder_api.specs.declared.edits.Edits.{Edits}
use Rattle.builder_api.specs.Edits.{committed as committed_files}
use Rattle.builder_api.specs.Files.{Files, files_of, HasBelow}
use Rattle.builder_api.proofs.Commits.{after_edits, committed_below}
use Rattle.builder_api.proofs.Places.{prefix_append, not_above}
use Rattle.builder_api.proofs.Trees.{get-files_of}
use Rattle.proj_desc.specs.FirstCause.{when, first_cause}
use Rattle.output_edits.specs.declared.refusal.EditRefusal.TheVariants.{BadEdits, TooDeep, TooLong}
use Rattle.output_edits.specs.Bad.{bad_path, goes_too_deep, gets_too_long}
use Rattle.output_edits.specs.Outputs.{outputs}
use Rattle.output_edits.specs.Wanted.{wanted}
use Rattle.output_commit.specs.Committed.{files_after, committed, room_causes, refusal}
use Rattle.output_commit.specs.Placed.{placed, cleared}
use Rattle.output_commit.specs.Told.{told_at}
use Rattle.output_commit.proofs.Gone.{get-cleared}
use Rattle.output_commit.proofs.Counting.{entries_there}
use Rattle.output_commit.proofs.Shown.{pick, file_placed, get-put_some}
use Rattle.output_commit.proofs.Wished.{no_file_wanted, file_wanted}
use Rattle.output_commit.proofs.Undisputed.{none_above as none_over, bytes_edited}

first : (a b : Bool) → T (a && b) → T a
first true b h = tt
first false b h = h

second : (a b : Bool) → T (a && b) → T b
second true b h = h
second false b h = absurd h

both : (a b : Bool) → T a → T b → T (a && b)
both true b x y = y
both false b x y = x

-- ---- the files among some elements

below_files : (p : Names) (es : Entries) → T (below_all path_cmp p es) → T (below_all path_cmp p (filter (λ e. is_file e.1.kind) es))
below_files p [] h = tt
below_files p (e ∷ es) h = by (is_file e.1.kind) (below_files p es (second _ _ h))
  where
    by : (b : Bool) → T (below_all path_cmp p (filter (λ e. is_file e.1.kind) es)) → T (below_all path_cmp p (cond b (e ∷ filter (λ e. is_file e.1.kind) es) (filter (λ e. is_file e.1.kind) es)))
    by true rest = both _ _ (first _ _ h) rest
    by false rest = rest

pub sorted_files : (es : Entries) → T (sorted es) → T (sorted (filter (λ e. is_file e.1.kind) es))
sorted_files [] h = tt
sorted_files (e ∷ es) h = by (is_file e.1.kind) (sorted_files es (second _ _ h))
  where
    by : (b : Bool) → T (sorted (filter (λ e. is_file e.1.kind) es)) → T (sorted (cond b (e ∷ filter (λ e. is_file e.1.kind) es) (filter (λ e. is_file e.1.kind) es)))
    by true rest = both _ _ (below_files e.0 es (first _ _ h)) rest
    by false rest = rest

find_files : (q : Names) (es : Entries) → T (sorted es) → file_bytes (find_at q (filter (λ e. is_file e.1.kind) es)) ≡ file_bytes (find_at q es)
find_files q [] h = refl
find_files q (e ∷ es) h = by (is_file e.1.kind) refl (is_at q e.0) refl (find_files q es (second _ _ h))
  where
    files : Entries
    files = filter (λ x. is_file x.1.kind) es

    by : (f : Bool) → is_file e.1.kind ≡ f → (b : Bool) → is_at q e.0 ≡ b → file_bytes (find_at q files) ≡ file_bytes (find_at q es)
        → file_bytes (find_at q (cond f (e ∷ files) files)) ≡ file_bytes (cond b (Some e.1) (find_at q es))
    by true k true at next = ap (λ b. file_bytes (cond b (Some e.1) (find_at q files))) at
    by true k false at next = ap (λ b. file_bytes (cond b (Some e.1) (find_at q files))) at ∙ next
    by false k true at next = next ∙ ap file_bytes (none_above q es (subst (λ p. T (below_all path_cmp p es)) (sym (same_at q e.0 at)) (first _ _ h))) ∙ sym (ap (λ f. cond f (Some e.1.bytes) None) k)
    by false k false at next = next

-- ---- the files below o

pub below_members : (o : Names) (es : Entries) → AllBelow o (filter (λ e. is_file e.1.kind) (filter (λ e. is_below o e.0) es))
below_members o [] = tt
below_members o (e ∷ es) = by (is_below o e.0) refl (below_members o es)
  where
    members_left : Entries
    members_left = filter (λ x. is_below o x.0) es

    inner : (f : Bool) → is_prefix o e.0 ≡ true → AllBelow o (filter (λ x. is_file x.1.kind) members_left) → AllBelow o (cond f (e ∷ filter (λ x. is_file x.1.kind) members_left) (filter (λ x. is_file x.1.kind) members_left))
    inner true h rest = (h, rest)
    inner false h rest = rest

    by : (b : Bool) → is_below o e.0 ≡ b → AllBelow o (filter (λ x. is_file x.1.kind) members_left) → AllBelow o (filter (λ x. is_file x.1.kind) (cond b (e ∷ members_left) members_left))
    by true h rest = inner (is_file e.1.kind) (front (is_prefix o e.0) (not (is_prefix e.0 o)) h) rest
      where
        front : (a b : Bool) → (a && b) ≡ true → a ≡ true
        front true b h = refl
        front false b h = cc
    by false h rest = rest

pub under : (o : Names) (n : List ℕ) (k : Names) → is_below o (o ++ n ∷ k) ≡ true
under o n k = λ i. prefix_append o (n ∷ k) i && not (not_above o n k i)

-- the file below o at a path from there
pub bytes_outputs : (t : Tree) (o k : Names) → file_bytes (get (outputs t o) k) ≡ file_bytes (cond (is_below o (o ++ k)) (get t (o ++ k)) None)
bytes_outputs t o k =
    ap file_bytes (get-carried empty o [] (filter (λ e. is_file e.1.kind) (members t o)) (below_members o (entries t)) (sorted_files (members t o) (sorted-members t o)) (λ q h. get-empty path_cmp q) k)
    ∙ find_files (o ++ k) (members t o) (sorted-members t o) ∙ ap file_bytes (find-members t o (o ++ k))

bytes_output : (t : Tree) (o : Names) (n : List ℕ) (k : Names) → file_bytes (get (outputs t o) (n ∷ k)) ≡ file_bytes (get t (o ++ n ∷ k))
bytes_output t o n k = bytes_outputs t o (n ∷ k) ∙ ap (λ b. file_bytes (cond b (get t (o ++ n ∷ k)) None)) (under o n k)

-- ---- all of it

pub wanted_same : (t : Tree) (o : Names) (w : Tree) (es : Entries) → AllByRecursion (λ e. contains_key w e.0 ≡ true) es → AllByRecursion (λ e. get (cleared t o w) e.0 ≡ get t e.0) es
wanted_same t o w [] all = tt
wanted_same t o w (e ∷ es) all = (get-cleared t o w e.0 ∙ ap (λ b. cond (not (is_below o e.0 && not b)) (get t e.0) None) all.0 ∙ by (is_below o e.0) (get t e.0), wanted_same t o w es all.1)
  where
    by : (b : Bool) (x : Option Element) → cond (not (b && false)) x None ≡ x
    by true x = refl
    by false x = refl

pub no_project : (o : Names) (n : List ℕ) (k : Names) → 2 ≤ length o → is_at (o ++ n ∷ k) (project_of o) ≡ false
no_project o n k h = at_other (o ++ n ∷ k) (project_of o) (λ same.
    let long : length (o ++ n ∷ k) ≡ length o + length (n ∷ k) = length_append o (n ∷ k) in
    let short : length (project_of o) ≤ 1 = project_length o in
    let equal : length (o ++ n ∷ k) ≡ length (project_of o) = ap length same in
    absurd (omega arith))
  where
    length_append : (p q : Names) → length (p ++ q) ≡ length p + length q
    length_append [] q = omega arith
    length_append (m ∷ p) q = let h = length_append p q in omega arith

-- the file below o at a path from there, after a commit
bytes_left : (r : Resources) (o : Names) (index : ℕ) (e : Edits) (n : List ℕ) (k : Names) → 2 ≤ length o → bad_path e.files (files_after r o e) ≡ None
    → file_bytes (get (committed r o index e).tree (o ++ n ∷ k)) ≡ file_bytes (get (files_after r o e) (n ∷ k))
bytes_left r o index e n k long good =
    let t : Tree = r.tree in
    let f : Tree = files_after r o e in
    let w : Tree = wanted o f in
    let u : Tree = put_all (cleared t o w) (placed t r.next_node r.next_stamp (entries w)) in
    let told : Option Element = told_at index r.next_marker e.problems (get t (project_of o)) in
    ap file_bytes (get-put_some u (project_of o) told q ∙ ap (λ b. cond b (option_or told (get u q)) (get u q)) (no_project o n k long))
    ∙ file_placed t (cleared t o w) r.next_node r.next_stamp (entries w) q (entries_sorted w) (wanted_same t o w (entries w) (entries_there w))
    ∙ ap (λ x. pick x (file_bytes (get (cleared t o w) q))) (sym (get-entries w q))
    ∙ by (get f (n ∷ k)) refl
  where
    q : Names
    q = o ++ n ∷ k

    f : Tree
    f = files_after r o e

    w : Tree
    w = wanted o f

    some_names : o ≢ []
    some_names h = let none : length o ≡ 0 = ap length h in absurd (omega arith)

    gone : (x : Option Element) → get w q ≡ x → file_bytes x ≡ None → pick x (file_bytes (get (cleared r.tree o w) q)) ≡ None
    gone (Some g) is h = h
    gone None is h = ap file_bytes (get-cleared r.tree o w q ∙ (λ i. cond (not (under o n k i && not (is_some (is i)))) (get r.tree q) None))

    by : (x : Option Element) → get f (n ∷ k) ≡ x → pick (get w q) (file_bytes (get (cleared r.tree o w) q)) ≡ file_bytes (get f (n ∷ k))
    by (Some g) is = ap (λ x. pick x (file_bytes (get (cleared r.tree o w) q))) (file_wanted o f (n ∷ k) g some_names is (λ j there. none_over e.files f good (n ∷ k) j (ap is_some is) there)) ∙ ap file_bytes (sym is)
    by None is = gone (get w q) refl (no_file_wanted o f (n ∷ k) is) ∙ ap file_bytes (sym is)

-- what the builders' view says of it
pub file_left : (r : Resources) (o : Names) (index : ℕ) (e : Edits) (n : List ℕ) (k : Names) → 2 ≤ length o → bad_path e.files (files_after r o e) ≡ None
    → get (files_of (committed r o index e).tree) (o ++ n ∷ k) ≡ get (committed_files o (files_of r.tree) e.files) (o ++ n ∷ k)
file_left r o index e n k long good =
    get-files_of (committed r o index e).tree (o ++ n ∷ k) ∙ bytes_left r o index e n k long good ∙ bytes_edited (outputs r.tree o) e.files (n ∷ k)
    ∙ ap (after_edits e.files (n ∷ k)) (bytes_output r.tree o n k ∙ sym (get-files_of r.tree (o ++ n ∷ k)))
    ∙ sym (committed_below o (files_of r.tree) e.files n k)

-- the files below the output are those that the edits make of the ones before
pub files_left : (r : Resources) (o : Names) (index : ℕ) (e : Edits) → 2 ≤ length o → bad_path e.files (files_after r o e) ≡ None
    → (m : Files) → HasBelow o (committed_files o (files_of r.tree) e.files) m → HasBelow o (files_of (committed r o index e).tree) m
files_left r o index e long good m has = record { at = λ n k. file_left r o index e n k long good ∙ has.at n k }

-- edits that aren't refused have no bad path
pub unrefused : (r : Resources) (o : Names) (index : ℕ) (e : Edits) → refusal r o index e ≡ None → bad_path e.files (files_after r o e) ≡ None
unrefused r o index e h = by (bad_path e.files (files_after r o e)) h
  where
    by : (x : Option Names) → option_or (option_map BadEdits x) (first_cause (when (goes_too_deep o e.files) TooDeep ∷ when (gets_too_long o e.files) TooLong ∷ room_causes r (committed r o index e))) ≡ None → x ≡ None
    by None g = refl
    by (Some p) g = cc

-- the same of resources that are those after the commit
pub files_kept : (r now : Resources) (o : Names) (index : ℕ) (e : Edits) → now ≡ committed r o index e → refusal r o index e ≡ None → 2 ≤ length o
    → (m : Files) → HasBelow o (committed_files o (files_of r.tree) e.files) m → HasBelow o (files_of now.tree) m
files_kept r now o index e is allowed long m has = subst (λ x. HasBelow o (files_of x.tree) m) (sym is) (files_left r o index e long (unrefused r o index e allowed) m has)
