-- The files that a commit counts as touched are those that differ.
use Rattle.std.proofs.Common.{◌≡◌, ℕ, ◌+◌, Bool, true, false, cond, not, ◌&&◌, List, [], ◌∷◌, ◌++◌, length, T, refl, sym, ap, ◌∙◌, arith}
use Rattle.std.specs.Prelude.{Option, Some, None, filter}
use Rattle.std.specs.List.{AllByRecursion}
use Rattle.std.specs.Option.{option_eq, option_or}
use Rattle.std.specs.Str.{bytes_eq}
use Rattle.std.specs.FinMap.{get, remove, entries, entries_sorted, contains_key, get-remove}
use Rattle.std.specs.FinMap.Entries.{below_all, is_sorted-where_key}
use Rattle.res_path.specs.Paths.{Names, path_cmp}
use Rattle.res_path.specs.PathLaws.{path_cmp_total}
use Rattle.ws_elem.specs.Elements.{file_bytes}
use Rattle.ws_elem.specs.Kinds.{is_file}
use Rattle.ws_elem.specs.Trees.{Tree}
use Rattle.ws_elem.specs.declared.element.Element.{Element}
use Rattle.op_kind.specs.Effects.{put_some}
use Rattle.op_kind.specs.Entries.{Entries}
use Rattle.op_kind.specs.Members.{members, is_below, put_all}
use Rattle.op_kind.specs.Places.{project_of, has_file}
use Rattle.op_kind.specs.Resources.{Resources}
use Rattle.op_kind.proofs.Looks.{is_at, at_itself, sorted, sorted-members}
use Rattle.op_plan.specs.Edits.{changed}
use Rattle.op_plan.specs.Inside.Lists.{taken}
use Rattle.builder_api.specs.declared.edits.Problem.{Problem}
use Rattle.builder_api.specs.Files.{files_of}
use Rattle.builder_api.proofs.Maps.{same_files}
use Rattle.builder_api.proofs.Trees.{get-files_of}
use Rattle.build_laws.specs.Commits.{differing}
use Rattle.output_commit.specs.Committed.{changed_to}
use Rattle.output_commit.specs.Placed.{serves, fresh, nodes_of, stamps_of, placed, cleared, total, with_wanted}
use Rattle.output_commit.specs.Touched.{unwanted, count_files, is_touched, touches_of, touched}
use Rattle.output_commit.proofs.AllFiles.{told_files}
use Rattle.output_commit.proofs.Apart.{project_same}
use Rattle.output_commit.proofs.Counting.{entries_there, still_all, all_filter, put_first}
use Rattle.output_commit.proofs.Gone.{cleared_is}
use Rattle.output_commit.proofs.Left.{wanted_same}
use Rattle.output_commit.proofs.Shown.{fresh_bytes, get-put_some}
use Rattle.output_commit.proofs.Wished.{entries_got}
use Rattle.build_meets.proofs.Differs.{one_more, none_differ}

first : (a b : Bool) → T (a && b) → T a
first true b h = tt
first false b h = h

second : (a b : Bool) → T (a && b) → T b
second true b h = h
second false b h = absurd h

-- how many files differ in two trees
abbrev apart : Tree → Tree → ℕ
apart t u = length (differing (files_of t) (files_of u))

-- one more path changed
one_changed : (t u v : Tree) (p : Names) → get u p ≡ get t p → ((q : Names) → is_at q p ≡ false → get v q ≡ get u q)
    → apart t v ≡ apart t u + cond (option_eq bytes_eq (file_bytes (get t p)) (file_bytes (get v p))) 0 1
one_changed t u v p was still = one_more (files_of t) (files_of u) (files_of v) p
    (get-files_of u p ∙ ap file_bytes was ∙ sym (get-files_of t p))
    (λ q other. get-files_of v q ∙ ap file_bytes (still q other) ∙ sym (get-files_of u q))
    ∙ (λ i. apart t u + cond (option_eq bytes_eq (get-files_of t p i) (get-files_of v p i)) 0 1)

-- ---- what goes

gone_one : (e : Element) → ◌≡◌ {A = ℕ} (cond (option_eq bytes_eq (file_bytes (Some e)) None) 0 1) (cond (is_file e.kind) 1 0)
gone_one e = by (is_file e.kind)
  where
    by : (b : Bool) → ◌≡◌ {A = ℕ} (cond (option_eq bytes_eq (cond b (Some e.bytes) None) None) 0 1) (cond b 1 0)
    by true = refl
    by false = refl

count_more : (e : Names × Element) (es : Entries) → cond (is_file e.1.kind) 1 0 + count_files es ≡ count_files (e ∷ es)
count_more e es = by (is_file e.1.kind)
  where
    by : (b : Bool) → cond b 1 0 + count_files es ≡ length (cond b (e ∷ filter (λ x. is_file x.1.kind) es) (filter (λ x. is_file x.1.kind) es))
    by true = omega arith
    by false = omega arith

apart_taken : (t u : Tree) (es : Entries) → T (sorted es) → AllByRecursion (λ e. get t e.0 ≡ Some e.1) es → AllByRecursion (λ e. get u e.0 ≡ get t e.0) es
    → apart t (changed u (taken es)) ≡ apart t u + count_files es
apart_taken t u [] h there same = omega arith
apart_taken t u (e ∷ es) h there same =
    let next : apart t (changed (remove u e.0) (taken es)) ≡ apart t (remove u e.0) + count_files es = apart_taken t (remove u e.0) es (second _ _ h) there.1
    (still_all (λ p. get u p ≡ get t p) (λ p. get (remove u e.0) p ≡ get t p) e.0 (λ q other k. elsewhere q other ∙ k) es (first _ _ h) same.1) in
    let one : apart t (remove u e.0) ≡ apart t u + cond (is_file e.1.kind) 1 0 = one_changed t u (remove u e.0) e.0 same.0 elsewhere
    ∙ (λ i. apart t u + cond (option_eq bytes_eq (file_bytes (there.0 i)) (file_bytes (here i))) 0 1) ∙ ap (λ n. apart t u + n) (gone_one e.1) in
    let more : cond (is_file e.1.kind) 1 0 + count_files es ≡ count_files (e ∷ es) = count_more e es in
    next ∙ ap (λ n. n + count_files es) one ∙ sum (apart t u) (cond (is_file e.1.kind) 1 0) (count_files es) ∙ ap (λ n. apart t u + n) more
  where
    sum : (a b c : ℕ) → (a + b) + c ≡ a + (b + c)
    sum a b c = omega arith

    elsewhere : (q : Names) → is_at q e.0 ≡ false → get (remove u e.0) q ≡ get u q
    elsewhere q other = get-remove path_cmp_total u e.0 q ∙ ap (λ b. cond b None (get u q)) other

    here : get (remove u e.0) e.0 ≡ None
    here = get-remove path_cmp_total u e.0 e.0 ∙ ap (λ b. cond b None (get u e.0)) (at_itself e.0)

-- ---- what is put

touched_one : (e : Element) (x : Option Element) → ◌≡◌ {A = ℕ} (cond (option_eq bytes_eq (file_bytes x) (file_bytes (Some e))) 0 1) (touches_of e x)
touched_one e None = by (is_file e.kind)
  where
    by : (b : Bool) → ◌≡◌ {A = ℕ} (cond (option_eq bytes_eq None (cond b (Some e.bytes) None)) 0 1) (cond (cond b (not (cond b false false)) false) 1 0)
    by true = refl
    by false = refl
touched_one e (Some f) = by (is_file e.kind) (is_file f.kind) (bytes_eq f.bytes e.bytes) refl
  where
    by : (b k q : Bool) → bytes_eq f.bytes e.bytes ≡ q
        → ◌≡◌ {A = ℕ} (cond (option_eq bytes_eq (cond k (Some f.bytes) None) (cond b (Some e.bytes) None)) 0 1) (cond (cond b (not (cond b (k && q) (not k))) k) 1 0)
    by true true true h = ap (λ c. cond c 0 1) h
    by true true false h = ap (λ c. cond c 0 1) h
    by true false q h = refl
    by false true q h = refl
    by false false q h = refl

apart_placed : (t u : Tree) (n s : ℕ) (es : Entries) → T (sorted es) → AllByRecursion (λ e. get u e.0 ≡ get t e.0) es → apart t (put_all u (placed t n s es)) ≡ apart t u + total touches_of t es
apart_placed t u n s [] h same = omega arith
apart_placed t u n s (e ∷ es) h same =
    let x = get t e.0 in
    let f = fresh n s e.1 x in
    let rest = placed t (n + nodes_of e.1 x) (s + stamps_of e.1 x) es in
    let next : apart t (put_all now rest) ≡ apart t now + total touches_of t es = apart_placed t now (n + nodes_of e.1 x) (s + stamps_of e.1 x) es (second _ _ h)
    (still_all (λ p. get u p ≡ get t p) (λ p. get now p ≡ get t p) e.0 (λ q other k. elsewhere q other ∙ k) es (first _ _ h) same.1) in
    let one : apart t now ≡ apart t u + touches_of e.1 x = one_changed t u now e.0 same.0 elsewhere
    ∙ ap (λ y. apart t u + cond (option_eq bytes_eq (file_bytes x) y) 0 1) (ap file_bytes here ∙ fresh_bytes n s e.1 x) ∙ ap (λ m. apart t u + m) (touched_one e.1 x) in
    ap (apart t) (put_first u e.0 f rest) ∙ next ∙ ap (λ m. m + total touches_of t es) one ∙ sum (apart t u) (touches_of e.1 x) (total touches_of t es)
  where
    sum : (a b c : ℕ) → (a + b) + c ≡ a + (b + c)
    sum a b c = omega arith

    now : Tree
    now = put_some u e.0 (fresh n s e.1 (get t e.0))

    elsewhere : (q : Names) → is_at q e.0 ≡ false → get now q ≡ get u q
    elsewhere q other = get-put_some u e.0 (fresh n s e.1 (get t e.0)) q ∙ ap (λ b. cond b (option_or (fresh n s e.1 (get t e.0)) (get u q)) (get u q)) other

    here : get now e.0 ≡ option_or (fresh n s e.1 (get t e.0)) (get t e.0)
    here = get-put_some u e.0 (fresh n s e.1 (get t e.0)) e.0 ∙ ap (λ b. cond b (option_or (fresh n s e.1 (get t e.0)) (get u e.0)) (get u e.0)) (at_itself e.0)
        ∙ ap (option_or (fresh n s e.1 (get t e.0))) same.0

-- ---- all of it

same_each : (t : Tree) (es : Entries) → AllByRecursion (λ e. get t e.0 ≡ get t e.0) es
same_each t [] = tt
same_each t (e ∷ es) = (refl, same_each t es)

apart_cleared : (t : Tree) (o : Names) (w : Tree) → apart t (cleared t o w) ≡ count_files (unwanted w (members t o))
apart_cleared t o w = ap (apart t) (sym (cleared_is t o w)) ∙ apart_taken t t (unwanted w (members t o))
    (is_sorted-where_key path_cmp (λ q. not (contains_key w q)) (members t o) (sorted-members t o))
    (all_filter (λ e. get t e.0 ≡ Some e.1) (λ e. not (contains_key w e.0)) (members t o) (all_filter (λ e. get t e.0 ≡ Some e.1) (λ e. is_below o e.0) (entries t) (entries_got t)))
    (same_each t (unwanted w (members t o)))
    ∙ ap (λ n. n + count_files (unwanted w (members t o))) (none_differ (files_of t)) ∙ none_plus (count_files (unwanted w (members t o)))
  where
    none_plus : (n : ℕ) → 0 + n ≡ n
    none_plus n = omega arith

-- a commit touches as many files as differ after it
pub counted : (r : Resources) (o : Names) (w : Tree) (index : ℕ) (ps : List Problem) → get w (project_of o) ≡ None
    → touched r.tree o w ≡ length (differing (files_of r.tree) (files_of (changed_to r o w index ps).tree))
counted r o w index ps none =
    sym (ap (apart r.tree) (λ i. with_wanted_tree i) ∙ apart_placed r.tree (cleared r.tree o w) r.next_node r.next_stamp (entries w) (entries_sorted w) (wanted_same r.tree o w (entries w) (entries_there w))
    ∙ ap (λ n. n + total touches_of r.tree (entries w)) (apart_cleared r.tree o w))
    ∙ ap (λ m. length (differing (files_of r.tree) m)) (sym told)
  where
    with_wanted_tree : (with_wanted r o w).tree ≡ put_all (cleared r.tree o w) (placed r.tree r.next_node r.next_stamp (entries w))
    with_wanted_tree = refl

    told : files_of (changed_to r o w index ps).tree ≡ files_of (with_wanted r o w).tree
    told = same_files (files_of (changed_to r o w index ps).tree) (files_of (with_wanted r o w).tree) (λ q.
        get-files_of (changed_to r o w index ps).tree q ∙ told_files r o w index ps q (project_same r o w none) ∙ sym (get-files_of (with_wanted r o w).tree q))
