-- All files after a commit, also at the output and above it, are those that the builders' view says.
use Rattle.std.proofs.Common.{◌≡◌, ◌≢◌, ◌↔◌, ℕ, ◌+◌, ◌≤◌, Bool, true, false, cond, not, ◌&&◌, ◌||◌, List, [], ◌∷◌, ◌++◌, length, refl, sym, ap, ◌∙◌, subst, arith, length-append}
use Rattle.std.specs.Prelude.{Option, Some, None, IfSome, IsSomeAnd, is_some, filter}
use Rattle.std.specs.List.{AllByRecursion, list_any}
use Rattle.std.specs.Option.{option_or}
use Rattle.std.specs.Ordering.{eq_by_cmp}
use Rattle.std.specs.FinMap.{get, entries, entries_sorted, contains_key, retain_keys, get-entries}
use Rattle.std.proofs.lemmas.List.{append-nil}
use Rattle.res_path.specs.Paths.{Names, path_cmp, is_prefix, overlap}
use Rattle.ws_elem.specs.Elements.{file_bytes}
use Rattle.ws_elem.specs.Kinds.{is_file}
use Rattle.ws_elem.specs.Trees.{Tree, Whole}
use Rattle.ws_elem.specs.declared.element.Element.{Element}
use Rattle.ws_elem.specs.declared.kind.Kind.TheVariants.{File, Project, Root}
use Rattle.ws_elem.proofs.Cuts.{same_at}
use Rattle.op_kind.specs.Marking.{with_marks}
use Rattle.op_kind.specs.Members.{is_below}
use Rattle.op_kind.specs.Places.{project_of, is_root_path}
use Rattle.op_kind.specs.Resources.{Resources}
use Rattle.op_kind.proofs.Cases.{if_map}
use Rattle.op_kind.proofs.Looks.{is_at, at_itself, at_other}
use Rattle.op_kind.proofs.PathsBelow.{never, not_true, prefix_length}
use Rattle.op_sound.proofs.SoundOpen.{below_itself}
use Rattle.builder_api.specs.declared.edits.Edits.{Edits}
use Rattle.builder_api.specs.declared.edits.Problem.{Problem}
use Rattle.builder_api.specs.Edits.{Edit, edit_paths, edit as edit_below, edited as edited_below, with_room, committed as committed_files}
use Rattle.builder_api.specs.Files.{Files, files_of}
use Rattle.builder_api.specs.Places.{is_below as lies_below}
use Rattle.builder_api.proofs.Commits.{after_edits, committed_other}
use Rattle.builder_api.proofs.Maps.{get_kept, same_files, put_elsewhere, gone_elsewhere}
use Rattle.builder_api.proofs.Places.{Split, split, prefix_append, or_true}
use Rattle.builder_api.proofs.Trees.{get-files_of}
use Rattle.output_edits.specs.Bad.{repeated, bad_path}
use Rattle.output_edits.specs.Outputs.{outputs}
use Rattle.output_edits.specs.Wanted.{wanted}
use Rattle.output_commit.specs.Committed.{files_after, changed_to, committed, refusal}
use Rattle.output_commit.specs.Placed.{cleared, with_wanted}
use Rattle.output_commit.specs.Told.{retold, are_told, told_at}
use Rattle.output_commit.proofs.Apart.{stays, project_same}
use Rattle.output_commit.proofs.Counting.{entries_there}
use Rattle.output_commit.proofs.Filled.{IsFile, output_files, edited_files}
use Rattle.output_commit.proofs.Gone.{get-cleared}
use Rattle.output_commit.proofs.Left.{bytes_outputs, wanted_same, file_left, unrefused}
use Rattle.output_commit.proofs.Reasons.{Reason, reason, for_file, project_unwanted}
use Rattle.output_commit.proofs.Shown.{pick, file_placed, get-put_some}
use Rattle.output_commit.proofs.Spots.{nothing_under, file_only}
use Rattle.output_commit.proofs.Under.{prefix_trans, below_more, below_alike}
use Rattle.output_commit.proofs.Undisputed.{bytes_edited, no_root, no_repeated}

-- ---- edits

-- each path has a name
named : (es : List Edit) → filter is_root_path (edit_paths es) ≡ [] → AllByRecursion (λ e. e.0 ≢ []) es
named [] h = tt
named (e ∷ es) h = by (is_root_path e.0) refl h (named es)
  where
    by : (b : Bool) → is_root_path e.0 ≡ b → cond b (e.0 ∷ filter is_root_path (edit_paths es)) (filter is_root_path (edit_paths es)) ≡ []
        → (filter is_root_path (edit_paths es) ≡ [] → AllByRecursion (λ e. e.0 ≢ []) es) → AllByRecursion (λ e. e.0 ≢ []) (e ∷ es)
    by true k h next = cc
    by false k h next = (λ same. never (sym (ap is_root_path same) ∙ k), next h)

-- they change nothing at the output's own path
at_root : (es : List Edit) (x : Option (List ℕ)) → AllByRecursion (λ e. e.0 ≢ []) es → after_edits es [] x ≡ x
at_root [] x all = refl
at_root (e ∷ es) x all = ap (λ b. after_edits es [] (cond b e.1 x)) (at_other [] e.0 (λ same. all.0 (sym same))) ∙ at_root es x all.1

-- nor above it
edited_above : (o : Names) (f : Files) (es : List Edit) (q : Names) → is_prefix q o ≡ true → AllByRecursion (λ e. e.0 ≢ []) es → get (edited_below o f es) q ≡ get f q
edited_above o f [] q h all = refl
edited_above o f (e ∷ es) q h all = edited_above o (edit_below o f e.0 e.1) es q h all.1 ∙ one e.1
  where
    apart : q ≡ o ++ e.0 → ⊥
    apart same =
        let less : length q ≤ length o = prefix_length q o h in
        let equal : length q ≡ length (o ++ e.0) = ap length same in
        let sum : length (o ++ e.0) ≡ length o + length e.0 = length-append o e.0 in
        let some : 1 ≤ length e.0 = names e.0 all.0 in
        absurd (omega arith)
      where
        names : (p : Names) → p ≢ [] → 1 ≤ length p
        names [] some = absurd (some refl)
        names (n ∷ p) some = omega arith

    one : (x : Option (List ℕ)) → get (edit_below o f e.0 x) q ≡ get f q
    one (Some bytes) = put_elsewhere f (o ++ e.0) bytes q apart
    one None = gone_elsewhere f (o ++ e.0) q apart

either_way : (b : Bool) (x : Option (List ℕ)) → cond b x x ≡ x
either_way true x = refl
either_way false x = refl

-- edits that put nothing leave nothing where nothing was
no_put : (es : List Edit) (k : Names) → list_any (λ e. is_some e.1) es ≡ false → after_edits es k None ≡ None
no_put [] k h = refl
no_put (e ∷ es) k h = by e.1 h (no_put es k)
  where
    by : (x : Option (List ℕ)) → (is_some x || list_any (λ e. is_some e.1) es) ≡ false → (list_any (λ e. is_some e.1) es ≡ false → after_edits es k None ≡ None)
        → after_edits es k (cond (eq_by_cmp path_cmp k e.0) x None) ≡ None
    by None h next = ap (after_edits es k) (either_way (eq_by_cmp path_cmp k e.0) None) ∙ next h
    by (Some bytes) h next = absurd (never h)

first_seen : (b : Bool) (p : Names) (ps : List Names) → cond b (p ∷ []) [] ++ ps ≡ [] → (b ≡ false) × (ps ≡ [])
first_seen true p ps h = cc
first_seen false p ps h = (refl, h)

-- a path that was seen doesn't come again
seen_stays : (seen : Names → Bool) (es : List Edit) (p : Names) (x : Option (List ℕ)) → repeated seen (edit_paths es) ≡ [] → seen p ≡ true → after_edits es p x ≡ x
seen_stays seen [] p x h is = refl
seen_stays seen (e ∷ es) p x h is =
    let parts = first_seen (seen e.0) e.0 (repeated (λ q. eq_by_cmp path_cmp q e.0 || seen q) (edit_paths es)) h in
    ap (λ b. after_edits es p (cond b e.1 x)) (at_other p e.0 (λ same. never (sym is ∙ ap seen same ∙ parts.0)))
    ∙ seen_stays (λ q. eq_by_cmp path_cmp q e.0 || seen q) es p x parts.1 (ap (λ b. eq_by_cmp path_cmp p e.0 || b) is ∙ or_true (eq_by_cmp path_cmp p e.0))

-- edits that put a file, and have no path twice, leave one
pub record Leaves (es : List Edit) : Type 0 where
  pub path : Names
  pub file : (x : Option (List ℕ)) → is_some (after_edits es path x) ≡ true

some_put : (seen : Names → Bool) (es : List Edit) → repeated seen (edit_paths es) ≡ [] → list_any (λ e. is_some e.1) es ≡ true → Leaves es
some_put seen [] h any = absurd (never (sym any))
some_put seen (e ∷ es) h any =
    let parts = first_seen (seen e.0) e.0 (repeated (λ q. eq_by_cmp path_cmp q e.0 || seen q) (edit_paths es)) h in
    by e.1 refl any parts.1 (some_put (λ q. eq_by_cmp path_cmp q e.0 || seen q) es parts.1)
  where
    by : (y : Option (List ℕ)) → e.1 ≡ y → (is_some y || list_any (λ e. is_some e.1) es) ≡ true → repeated (λ q. eq_by_cmp path_cmp q e.0 || seen q) (edit_paths es) ≡ []
        → (list_any (λ e. is_some e.1) es ≡ true → Leaves es) → Leaves (e ∷ es)
    by None is any rest next = let more = next any in record { path = more.path; file = λ x. more.file (cond (eq_by_cmp path_cmp more.path e.0) e.1 x) }
    by (Some bytes) is any rest next = record {
      path = e.0;
      file = λ x. ap is_some ((λ i. after_edits es e.0 (cond (at_itself e.0 i) (is i) x))
          ∙ seen_stays (λ q. eq_by_cmp path_cmp q e.0 || seen q) es e.0 (Some bytes) rest (ap (λ b. b || seen e.0) (at_itself e.0)));
    }

-- ---- elements and their files

file_none : (x : Option Element) → IfSome x IsFile → file_bytes x ≡ None → x ≡ None
file_none None h none = refl
file_none (Some e) h none = absurd (some_none e.bytes (sym (ap (λ b. cond b (Some e.bytes) None) h) ∙ none))
  where
    some_none : (bytes : List ℕ) → Some bytes ≡ None → ⊥
    some_none bytes h = cc

no_bytes : (g : Element) → is_file g.kind ≡ false → file_bytes (Some g) ≡ None
no_bytes g h = ap (λ b. cond b (Some g.bytes) None) h

is_there : (x : Option Element) (bytes : List ℕ) → file_bytes x ≡ Some bytes → IsSomeAnd x (λ e. e.kind ≡ File)
is_there None bytes h = cc
is_there (Some e) bytes h = by (is_file e.kind) refl h
  where
    by : (b : Bool) → is_file e.kind ≡ b → cond b (Some e.bytes) None ≡ Some bytes → e.kind ≡ File
    by true k h = file_only e.kind k
    by false k h = cc

-- a file is below a project
file_deep : (t : Tree) → Whole t → (q : Names) → IsSomeAnd (get t q) (λ e. e.kind ≡ File) → 2 ≤ length q
file_deep t w [] h = absurd (clash (get t []) w.root h)
  where
    clash : (x : Option Element) → IsSomeAnd x (λ e. e.kind ≡ Root) → IsSomeAnd x (λ e. e.kind ≡ File) → ⊥
    clash None a b = a
    clash (Some e) a b = cc
file_deep t w (n ∷ []) h = absurd (clash (get t (n ∷ [])) (w.projects (n ∷ [])) h)
  where
    clash : (x : Option Element) → IfSome x (λ e. (e.kind ≡ Project) ↔ (length (n ∷ []) ≡ 1)) → IsSomeAnd x (λ e. e.kind ≡ File) → ⊥
    clash None a b = b
    clash (Some e) a b = let project : e.kind ≡ Project = a.1 refl in cc
file_deep t w (n ∷ m ∷ q) h = omega arith

some_if : (P : Element → Type 0) (x : Option Element) → IsSomeAnd x P → IfSome x P
some_if P None h = absurd h
some_if P (Some e) h = h

-- ---- the project's problems are no files

-- whatever is told, the file there is the same
told_bytes : (index id : ℕ) (ps : List Problem) (x : Option Element) → file_bytes (option_or (told_at index id ps x) x) ≡ file_bytes x
told_bytes index id ps None = refl
told_bytes index id ps (Some e) = by (are_told index ps e.attached.marks)
  where
    by : (b : Bool) → file_bytes (option_or (cond b None (Some (with_marks (retold index id ps) e))) (Some e)) ≡ file_bytes (Some e)
    by true = refl
    by false = refl

-- where nothing is wanted at the project's path, problems change no file
pub told_files : (r : Resources) (o : Names) (w : Tree) (index : ℕ) (ps : List Problem) (q : Names) → get (with_wanted r o w).tree (project_of o) ≡ get r.tree (project_of o)
    → file_bytes (get (changed_to r o w index ps).tree q) ≡ file_bytes (get (with_wanted r o w).tree q)
told_files r o w index ps q same = ap file_bytes (get-put_some u (project_of o) told q) ∙ by (is_at q (project_of o)) refl
  where
    u : Tree
    u = (with_wanted r o w).tree

    told : Option Element
    told = told_at index r.next_marker ps (get r.tree (project_of o))

    by : (b : Bool) → is_at q (project_of o) ≡ b → file_bytes (cond b (option_or told (get u q)) (get u q)) ≡ file_bytes (get u q)
    by false at = refl
    by true at =
        let here : get u q ≡ get r.tree (project_of o) = ap (get u) (same_at q (project_of o) at) ∙ same in
        ap (λ x. file_bytes (option_or told x)) here ∙ told_bytes index r.next_marker ps (get r.tree (project_of o)) ∙ ap file_bytes (sym here)

-- ---- at the output and above it

is_some_file : (x : Option Element) → is_some (file_bytes x) ≡ true → is_some x ≡ true
is_some_file None h = h
is_some_file (Some e) h = refl

and_false : (b : Bool) → (b && false) ≡ false
and_false true = refl
and_false false = refl

module _ (r : Resources) (o : Names) (index : ℕ) (e : Edits) (whole : Whole r.tree) (long : 2 ≤ length o) (good : bad_path e.files (files_after r o e) ≡ None) where
  abbrev f : Tree
  f = files_after r o e

  abbrev w : Tree
  w = wanted o f

  abbrev puts : Bool
  puts = list_any (λ x. is_some x.1) e.files

  no_roots : AllByRecursion (λ x. x.0 ≢ []) e.files
  no_roots = named e.files (no_root e.files f good)

  all_files : (k : Names) → IfSome (get f k) IsFile
  all_files = edited_files (outputs r.tree o) e.files (output_files r.tree o)

  no_own : get f [] ≡ None
  no_own = file_none (get f []) (all_files []) (bytes_edited (outputs r.tree o) e.files [] ∙ at_root e.files (file_bytes (get (outputs r.tree o) [])) no_roots ∙ bytes_outputs r.tree o []
      ∙ ap (λ b. file_bytes (cond b (get r.tree (o ++ [])) None)) (ap (is_below o) (append-nil o) ∙ below_itself o))

  -- what is wanted there is no file
  folder_wanted : (q : Names) → is_prefix q o ≡ true → IfSome (get w q) (λ g. is_file g.kind ≡ false)
  folder_wanted q h = if_map (Reason o f q) (λ g. is_file g.kind ≡ false) (get w q) (λ g y. not_true (is_file g.kind) (λ file. own y.file (y.own file) y.there)) (reason o f q long)
    where
      own : (j : Names) → q ≡ o ++ j → is_some (get f j) ≡ true → ⊥
      own [] same there = never (sym there ∙ ap is_some no_own)
      own (n ∷ j) same there =
          let less : length q ≤ length o = prefix_length q o h in
          let equal : length q ≡ length (o ++ n ∷ j) = ap length same in
          let sum : length (o ++ n ∷ j) ≡ length o + length (n ∷ j) = length-append o (n ∷ j) in
          absurd (omega arith)

  -- a file there gives way where a file is put
  gives_way : (q : Names) (bytes : List ℕ) → is_prefix q o ≡ true → 2 ≤ length q → puts ≡ true → pick (get w q) (Some bytes) ≡ None
  gives_way q bytes h deep any =
      let put = some_put (λ _. false) e.files (no_repeated e.files f good) any in
      let there : is_some (get f put.path) ≡ true = is_some_file (get f put.path) (ap is_some (bytes_edited (outputs r.tree o) e.files put.path) ∙ put.file (file_bytes (get (outputs r.tree o) put.path))) in
      by (get w q) (for_file o f q put.path there (prefix_trans q o (o ++ put.path) h (prefix_append o put.path)) deep) (folder_wanted q h)
    where
      by : (x : Option Element) → is_some x ≡ true → IfSome x (λ g. is_file g.kind ≡ false) → pick x (Some bytes) ≡ None
      by None there k = absurd (never (sym there))
      by (Some g) there k = no_bytes g k

  -- else it stays: nothing is below it, and nothing is wanted
  stays_there : (q : Names) (bytes : List ℕ) → is_prefix q o ≡ true → ((d : Names) → is_below q d ≡ true → get r.tree d ≡ None) → puts ≡ false → pick (get w q) (Some bytes) ≡ Some bytes
  stays_there q bytes h clear none = by (get w q) (reason o f q long)
    where
      no_output : (k : Names) → (b : Bool) → is_below o (o ++ k) ≡ b → file_bytes (cond b (get r.tree (o ++ k)) None) ≡ None
      no_output k true under = ap file_bytes (clear (o ++ k) (below_more q o (o ++ k) h under))
      no_output k false under = refl

      nothing : (k : Names) → get f k ≡ None
      nothing k = file_none (get f k) (all_files k) (bytes_edited (outputs r.tree o) e.files k
          ∙ ap (after_edits e.files k) (bytes_outputs r.tree o k ∙ no_output k (is_below o (o ++ k)) refl) ∙ no_put e.files k none)

      by : (x : Option Element) → IfSome x (Reason o f q) → pick x (Some bytes) ≡ Some bytes
      by None y = refl
      by (Some g) y = absurd (never (sym y.there ∙ ap is_some (nothing y.file)))

  picked_above : (q : Names) → is_prefix q o ≡ true → pick (get w q) (file_bytes (get r.tree q)) ≡ cond puts None (file_bytes (get r.tree q))
  picked_above q h = by (file_bytes (get r.tree q)) refl
    where
      none_picked : (x : Option Element) → IfSome x (λ g. is_file g.kind ≡ false) → pick x None ≡ None
      none_picked None k = refl
      none_picked (Some g) k = no_bytes g k

      some : (bytes : List ℕ) → IsSomeAnd (get r.tree q) (λ x. x.kind ≡ File) → (b : Bool) → puts ≡ b → pick (get w q) (Some bytes) ≡ cond b None (Some bytes)
      some bytes file true any = gives_way q bytes h (file_deep r.tree whole q file) any
      some bytes file false any = stays_there q bytes h (nothing_under (get r.tree) whole.parents q (some_if (λ x. x.kind ≡ File) (get r.tree q) file)) any

      by : (y : Option (List ℕ)) → file_bytes (get r.tree q) ≡ y → pick (get w q) y ≡ cond puts None y
      by None is = none_picked (get w q) (folder_wanted q h) ∙ sym (either_way puts None)
      by (Some bytes) is = some bytes (is_there (get r.tree q) bytes is) puts refl

  files_above : (q : Names) → is_prefix q o ≡ true → get (files_of (committed r o index e).tree) q ≡ get (committed_files o (files_of r.tree) e.files) q
  files_above q h =
      get-files_of (committed r o index e).tree q ∙ told_files r o w index e.problems q (project_same r o w (project_unwanted o f long))
      ∙ file_placed r.tree (cleared r.tree o w) r.next_node r.next_stamp (entries w) q (entries_sorted w) (wanted_same r.tree o w (entries w) (entries_there w))
      ∙ ap (λ x. pick x (file_bytes (get (cleared r.tree o w) q))) (sym (get-entries w q))
      ∙ ap (λ x. pick (get w q) (file_bytes x)) (get-cleared r.tree o w q ∙ ap (λ b. cond (not (b && not (contains_key w q))) (get r.tree q) None) (ap (λ b. is_prefix o q && not b) h ∙ and_false (is_prefix o q)))
      ∙ picked_above q h ∙ sym (edited_above o (with_room o (files_of r.tree) e.files) e.files q h no_roots ∙ room puts)
    where
      room : (b : Bool) → get (cond b (retain_keys (files_of r.tree) (λ d. not (is_prefix d o))) (files_of r.tree)) q ≡ cond b None (file_bytes (get r.tree q))
      room true = get_kept (files_of r.tree) (λ d. not (is_prefix d o)) q ∙ ap (λ b. cond (not b) (get (files_of r.tree) q) None) h
      room false = get-files_of r.tree q

  -- ---- at each path

  file_is : (q : Names) → get (files_of (committed r o index e).tree) q ≡ get (committed_files o (files_of r.tree) e.files) q
  file_is q = by (lies_below o q) refl (is_prefix q o) refl (is_prefix o q) refl
    where
      below : lies_below o q ≡ true → get (files_of (committed r o index e).tree) q ≡ get (committed_files o (files_of r.tree) e.files) q
      below h =
          let s : Split o q = split o q h in
          subst (λ p. get (files_of (committed r o index e).tree) p ≡ get (committed_files o (files_of r.tree) e.files) p) (sym s.is) (file_left r o index e s.name s.rest long good)

      clear : overlap q o ≡ false → get (files_of (committed r o index e).tree) q ≡ get (committed_files o (files_of r.tree) e.files) q
      clear h = get-files_of (committed r o index e).tree q ∙ ap file_bytes (stays r o f index e.problems q h) ∙ sym (get-files_of r.tree q) ∙ sym (committed_other o (files_of r.tree) e.files q h)

      by : (a : Bool) → lies_below o q ≡ a → (b : Bool) → is_prefix q o ≡ b → (c : Bool) → is_prefix o q ≡ c → get (files_of (committed r o index e).tree) q ≡ get (committed_files o (files_of r.tree) e.files) q
      by true i b j c k = below i
      by false i true j c k = files_above q j
      by false i false j true k = absurd (never (sym (λ l. k l && not (j l)) ∙ sym (below_alike o q) ∙ i))
      by false i false j false k = clear (λ l. j l || k l)

-- the files after a commit that isn't refused are those that the builders' view says
pub files_are : (r : Resources) (o : Names) (index : ℕ) (e : Edits) → Whole r.tree → 2 ≤ length o → refusal r o index e ≡ None
    → files_of (committed r o index e).tree ≡ committed_files o (files_of r.tree) e.files
files_are r o index e whole long allowed = same_files (files_of (committed r o index e).tree) (committed_files o (files_of r.tree) e.files) (file_is r o index e whole long (unrefused r o index e allowed))
