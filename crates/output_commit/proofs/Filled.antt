-- No folder below an output is left empty.
use Rattle.std.proofs.Common.{◌≡◌, ◌≢◌, ℕ, ◌-◌, ◌≤◌, Bool, true, false, cond, not, ◌&&◌, List, [], ◌∷◌, ◌++◌, map, length, refl, sym, ap, ◌∙◌, subst, arith}
use Rattle.std.specs.Prelude.{Option, Some, None, IfSome, IsSome, is_some, filter}
use Rattle.std.specs.List.{AllByRecursion, flat_map}
use Rattle.std.specs.Option.{option_or, option_map}
use Rattle.std.specs.Str.{bytes_eq}
use Rattle.std.specs.Cmp.Lexicographic.{bytes_decides}
use Rattle.std.specs.FinMap.{get, empty, entries, entries_sorted, get-entries, get-empty}
use Rattle.res_path.specs.Paths.{Names, path_cmp, is_prefix}
use Rattle.ws_elem.specs.declared.element.Element.{Element}
use Rattle.ws_elem.specs.declared.kind.Kind.TheVariants.{Folder}
use Rattle.ws_elem.specs.Elements.{file_bytes}
use Rattle.ws_elem.specs.Kinds.{is_file}
use Rattle.ws_elem.specs.Trees.{Tree}
use Rattle.ws_elem.proofs.Cuts.{same_at}
use Rattle.ws_elem.proofs.Kept.{get-set_at}
use Rattle.op_kind.specs.Entries.{Entries}
use Rattle.op_kind.specs.Effects.{new_file, new_folder}
use Rattle.op_kind.specs.Members.{members, put_all, is_below}
use Rattle.op_kind.specs.Places.{project_of}
use Rattle.op_kind.specs.Resources.{Resources}
use Rattle.op_kind.proofs.Looks.{is_at, find_at, sorted-members}
use Rattle.op_kind.proofs.PathsBelow.{never}
use Rattle.op_sound.proofs.SoundCarried.{get-carried}
use Rattle.builder_api.specs.declared.edits.Edits.{Edits}
use Rattle.builder_api.specs.Edits.{Edit}
use Rattle.builder_api.specs.Files.{HasNoEmptyFolder}
use Rattle.builder_api.specs.Places.{is_below as lies_below}
use Rattle.builder_api.proofs.Places.{Split, split}
use Rattle.output_edits.specs.Bad.{bad_path}
use Rattle.output_edits.specs.Outputs.{outputs, edit, edited}
use Rattle.output_edits.specs.Wanted.{above, standing, wanted}
use Rattle.output_commit.specs.Committed.{files_after, committed, refusal}
use Rattle.output_commit.specs.Placed.{placed, cleared}
use Rattle.output_commit.specs.Told.{told_at}
use Rattle.output_commit.proofs.Gone.{get-cleared}
use Rattle.output_commit.proofs.Counting.{entries_there}
use Rattle.output_commit.proofs.Shown.{pick, file_placed, get-put_some}
use Rattle.output_commit.proofs.Wished.{Over, above_over, over_below, prefix_both, last_all, all_flat, all_map, entries_got, get-wanted, file_wanted, fewer, not_root}
use Rattle.output_commit.proofs.Undisputed.{none_above}
use Rattle.output_commit.proofs.Left.{under, below_members, sorted_files, wanted_same, no_project, unrefused}
use Rattle.output_commit.proofs.Apart.{not_placed}

-- ---- all files after edits are files

abbrev pub IsFile : Element → Type 0
IsFile e = is_file e.kind ≡ true

found_file : (q : Names) (es : Entries) → IfSome (find_at q (filter (λ e. is_file e.1.kind) es)) IsFile
found_file q [] = tt
found_file q (e ∷ es) = by (is_file e.1.kind) refl (found_file q es)
  where
    files : Entries
    files = filter (λ x. is_file x.1.kind) es

    inner : (b : Bool) → IsFile e.1 → IfSome (find_at q files) IsFile → IfSome (cond b (Some e.1) (find_at q files)) IsFile
    inner true h rest = h
    inner false h rest = rest

    by : (b : Bool) → is_file e.1.kind ≡ b → IfSome (find_at q files) IsFile → IfSome (find_at q (cond b (e ∷ files) files)) IsFile
    by true h rest = inner (is_at q e.0) h rest
    by false h rest = rest

pub output_files : (t : Tree) (o k : Names) → IfSome (get (outputs t o) k) IsFile
output_files t o k = subst (λ x. IfSome x IsFile)
    (sym (get-carried empty o [] (filter (λ e. is_file e.1.kind) (members t o)) (below_members o (entries t)) (sorted_files (members t o) (sorted-members t o)) (λ q h. get-empty path_cmp q) k))
    (found_file (o ++ k) (members t o))

pub edited_files : (f : Tree) (es : List Edit) → ((k : Names) → IfSome (get f k) IsFile) → (k : Names) → IfSome (get (edited f es) k) IsFile
edited_files f [] all k = all k
edited_files f (e ∷ es) all k = edited_files (edit f e) es (λ j. subst (λ x. IfSome x IsFile) (sym (get-set_at f e.0 (option_map (new_file 0 0) e.1) j)) (by (is_at j e.0) e.1 (get f j) (all j))) k
  where
    by : (b : Bool) (x : Option (List ℕ)) (y : Option Element) → IfSome y IsFile → IfSome (cond b (option_map (new_file 0 0) x) y) IsFile
    by true None y h = tt
    by true (Some bytes) y h = refl
    by false x y h = h

-- ---- what is wanted is a file, or has a file below it

-- a file of these lies below q
pub record HasBelowIt (o : Names) (f : Tree) (q : Names) : Type 0 where
  pub file : Names
  pub there : is_some (get f file) ≡ true
  pub below : is_below q (o ++ file) ≡ true

wanted_for : (o : Names) (f : Tree) (q : Names) → o ≢ [] → ((k : Names) → IfSome (get f k) IsFile) → IfSome (get (wanted o f) q) (λ g. is_file g.kind ≡ false → HasBelowIt o f q)
wanted_for o f q some files = subst (λ x. IfSome x Why) (sym (get-wanted o f q)) (last_all Why q (flat_map (λ e. standing (o ++ e.0) e.1) (entries f)) (all_flat At (λ e. standing (o ++ e.0) e.1) (entries f)
    (all_map (λ e. get f e.0 ≡ Some e.1) (λ e. AllByRecursion At (standing (o ++ e.0) e.1)) (entries f) each (entries_got f))))
  where
    Why : Element → Type 0
    Why g = is_file g.kind ≡ false → HasBelowIt o f q

    At : Names × Element → Type 0
    At x = is_at q x.0 ≡ true → Why x.1

    folder : (j : Names) → is_some (get f j) ≡ true → (ps : List Names) → AllByRecursion (Over (o ++ j)) ps → AllByRecursion At (map (λ p. (p, new_folder 0)) ps)
    folder j h [] all = tt
    folder j h (p ∷ ps) all = (λ at _. record { file = j; there = h; below = ap (λ x. is_below x (o ++ j)) (same_at q p at) ∙ over_below (o ++ j) p all.0 }, folder j h ps all.1)

    each : (e : Names × Element) → get f e.0 ≡ Some e.1 → AllByRecursion At (standing (o ++ e.0) e.1)
    each e is = (
      λ at no. absurd (never (sym (subst (λ x. IfSome x IsFile) is (files e.0)) ∙ no)),
      folder e.0 (ap is_some is) (above (length (o ++ e.0) - 2) (o ++ e.0)) (above_over (length (o ++ e.0) - 2) (o ++ e.0) (fewer (o ++ e.0) (not_root o e.0 some))),
    )

-- ---- all of it

front : (a b : Bool) → (a && b) ≡ true → (a ≡ true) × (b ≡ true)
front true b h = (refl, h)
front false b h = cc

lies : (p q : Names) → is_prefix p q ≡ true → not (is_prefix q p) ≡ true → lies_below p q ≡ true
lies [] [] h g = cc
lies [] (n ∷ q) h g = refl
lies (n ∷ p) [] h g = cc
lies (n ∷ p) (m ∷ q) h g = by (bytes_eq n m) refl h (lies p q)
  where
    by : (b : Bool) → bytes_eq n m ≡ b → (b && is_prefix p q) ≡ true → (is_prefix p q ≡ true → not (is_prefix q p) ≡ true → lies_below p q ≡ true) → (b && lies_below p q) ≡ true
    by true e k next = next k (ap (λ c. not (c && is_prefix q p)) (sym ((bytes_decides m n).1 (sym ((bytes_decides n m).0 e)))) ∙ g)
    by false e k next = cc

has_some : (x : Option Element) (bytes : List ℕ) → file_bytes x ≡ Some bytes → IsSome x
has_some None bytes h = cc
has_some (Some e) bytes h = refl

no_bytes : (x : Element) → x.kind ≡ Folder → file_bytes (Some x) ≡ None
no_bytes x h = ap (λ k. cond (is_file k) (Some x.bytes) None) h

is_folder_bytes : (g : Element) (b : Bool) → is_file g.kind ≡ b → file_bytes (Some g) ≡ None → b ≡ false
is_folder_bytes g false h none = refl
is_folder_bytes g true h none = absurd (some_none g.bytes (sym (ap (λ c. cond c (Some g.bytes) None) h) ∙ none))
  where
    some_none : (bytes : List ℕ) → Some bytes ≡ None → ⊥
    some_none bytes e = cc

named : (o : Names) (n : List ℕ) (k : Names) → is_below (o ++ n ∷ k) (o ++ []) ≡ true → ⊥
named o n k h = never (sym (sym (prefix_both o (n ∷ k) []) ∙ (front (is_prefix (o ++ n ∷ k) (o ++ [])) (not (is_prefix (o ++ []) (o ++ n ∷ k))) h).0))

-- each folder below the output has a file below it
pub filled : (r : Resources) (o : Names) (index : ℕ) (e : Edits) → 2 ≤ length o → bad_path e.files (files_after r o e) ≡ None → HasNoEmptyFolder o (committed r o index e).tree
filled r o index e long good = record {
  filled = λ q h.
      let s : Split o q = split o q h in
      subst (λ p. IfSome (get after p) (λ x. x.kind ≡ Folder → (d : Names) × (lies_below p d ≡ true) × IsSome (get after d))) (sym s.is) (at s.name s.rest);
}
  where
    after : Tree
    after = (committed r o index e).tree

    f : Tree
    f = files_after r o e

    w : Tree
    w = wanted o f

    u : Tree
    u = put_all (cleared r.tree o w) (placed r.tree r.next_node r.next_stamp (entries w))

    told : Option Element
    told = told_at index r.next_marker e.problems (get r.tree (project_of o))

    some_names : o ≢ []
    some_names h = let none : length o ≡ 0 = ap length h in absurd (omega arith)

    files : (k : Names) → IfSome (get f k) IsFile
    files = edited_files (outputs r.tree o) e.files (output_files r.tree o)

    shown : (n : List ℕ) (k : Names) → get after (o ++ n ∷ k) ≡ get u (o ++ n ∷ k)
    shown n k = get-put_some u (project_of o) told (o ++ n ∷ k) ∙ ap (λ b. cond b (option_or told (get u (o ++ n ∷ k))) (get u (o ++ n ∷ k))) (no_project o n k long)

    bytes : (n : List ℕ) (k : Names) → file_bytes (get u (o ++ n ∷ k)) ≡ pick (get w (o ++ n ∷ k)) (file_bytes (get (cleared r.tree o w) (o ++ n ∷ k)))
    bytes n k = file_placed r.tree (cleared r.tree o w) r.next_node r.next_stamp (entries w) (o ++ n ∷ k) (entries_sorted w) (wanted_same r.tree o w (entries w) (entries_there w))
        ∙ ap (λ x. pick x (file_bytes (get (cleared r.tree o w) (o ++ n ∷ k)))) (sym (get-entries w (o ++ n ∷ k)))

    -- what isn't wanted isn't there
    gone : (n : List ℕ) (k : Names) → get w (o ++ n ∷ k) ≡ None → get u (o ++ n ∷ k) ≡ None
    gone n k is = not_placed r.tree (cleared r.tree o w) r.next_node r.next_stamp (entries w) (o ++ n ∷ k) (sym (get-entries w (o ++ n ∷ k)) ∙ is)
        ∙ get-cleared r.tree o w (o ++ n ∷ k) ∙ (λ i. cond (not (under o n k i && not (is_some (is i)))) (get r.tree (o ++ n ∷ k)) None)

    -- a file that is to lie below the output is there
    stands : (j : Names) (x : Option Element) → get f j ≡ x → is_some x ≡ true → IfSome x IsFile → (n : List ℕ) (k : Names) → j ≡ n ∷ k → IsSome (get after (o ++ j))
    stands j None is h file n k named = absurd (never (sym h))
    stands j (Some g) is h file n k named =
        let here : get w (o ++ n ∷ k) ≡ Some g = file_wanted o f (n ∷ k) g some_names (ap (get f) (sym named) ∙ is) (λ i there. none_above e.files f good (n ∷ k) i (ap is_some (ap (get f) (sym named) ∙ is)) there) in
        subst (λ i. IsSome (get after (o ++ i))) (sym named)
        (has_some (get after (o ++ n ∷ k)) g.bytes (ap file_bytes (shown n k) ∙ bytes n k ∙ ap (λ x. pick x (file_bytes (get (cleared r.tree o w) (o ++ n ∷ k)))) here ∙ ap (λ c. cond c (Some g.bytes) None) file))

    below : (n : List ℕ) (k : Names) (j : Names) → is_some (get f j) ≡ true → is_below (o ++ n ∷ k) (o ++ j) ≡ true → (d : Names) × (lies_below (o ++ n ∷ k) d ≡ true) × IsSome (get after d)
    below n k [] there under_it = absurd (named o n k under_it)
    below n k (m ∷ j) there under_it =
        let parts = front (is_prefix (o ++ n ∷ k) (o ++ m ∷ j)) (not (is_prefix (o ++ m ∷ j) (o ++ n ∷ k))) under_it in
        (o ++ m ∷ j, lies (o ++ n ∷ k) (o ++ m ∷ j) parts.0 parts.1, stands (m ∷ j) (get f (m ∷ j)) refl there (files (m ∷ j)) m j refl)

    from : (n : List ℕ) (k : Names) (x : Element) (y : Option Element) → get u (o ++ n ∷ k) ≡ Some x → get w (o ++ n ∷ k) ≡ y → x.kind ≡ Folder
        → (d : Names) × (lies_below (o ++ n ∷ k) d ≡ true) × IsSome (get after d)
    from n k x None there is kind = absurd (some_none (sym there ∙ gone n k is))
      where
        some_none : Some x ≡ None → ⊥
        some_none h = cc
    from n k x (Some g) there is kind =
        let none : file_bytes (Some g) ≡ None = sym (ap file_bytes (sym there) ∙ bytes n k ∙ ap (λ z. pick z (file_bytes (get (cleared r.tree o w) (o ++ n ∷ k)))) is) ∙ no_bytes x kind in
        let why : HasBelowIt o f (o ++ n ∷ k) = subst (λ z. IfSome z (λ g. is_file g.kind ≡ false → HasBelowIt o f (o ++ n ∷ k))) is (wanted_for o f (o ++ n ∷ k) some_names files) (is_folder_bytes g (is_file g.kind) refl none) in
        below n k why.file why.there why.below

    at : (n : List ℕ) (k : Names) → IfSome (get after (o ++ n ∷ k)) (λ x. x.kind ≡ Folder → (d : Names) × (lies_below (o ++ n ∷ k) d ≡ true) × IsSome (get after d))
    at n k = by (get u (o ++ n ∷ k)) refl
      where
        by : (x : Option Element) → get u (o ++ n ∷ k) ≡ x → IfSome (get after (o ++ n ∷ k)) (λ x. x.kind ≡ Folder → (d : Names) × (lies_below (o ++ n ∷ k) d ≡ true) × IsSome (get after d))
        by None is = subst (λ z. IfSome z (λ x. x.kind ≡ Folder → (d : Names) × (lies_below (o ++ n ∷ k) d ≡ true) × IsSome (get after d))) (sym (shown n k ∙ is)) tt
        by (Some x) is = subst (λ z. IfSome z (λ x. x.kind ≡ Folder → (d : Names) × (lies_below (o ++ n ∷ k) d ≡ true) × IsSome (get after d))) (sym (shown n k ∙ is)) (from n k x (get w (o ++ n ∷ k)) is refl)

-- the same of resources that are those after the commit
pub filled_now : (r now : Resources) (o : Names) (index : ℕ) (e : Edits) → now ≡ committed r o index e → refusal r o index e ≡ None → 2 ≤ length o → HasNoEmptyFolder o now.tree
filled_now r now o index e is allowed long = subst (λ (x : Resources). HasNoEmptyFolder o x.tree) (sym is) (filled r o index e long (unrefused r o index e allowed))
