-- Trees in which nothing but markers differs.
use Rattle.std.proofs.Common.{◌≡◌, true, ◌&&◌, [], ◌∷◌, refl, sym, ap, ◌∙◌, Option, Some, None}
use Rattle.std.specs.Prelude.{IsSome, IfSome, option_map}
use Rattle.std.specs.Str.{bytes_eq}
use Rattle.std.specs.FinMap.{get}
use Rattle.res_path.specs.Paths.{Names}
use Rattle.ws_elem.specs.declared.element.Element.{Element}
use Rattle.ws_elem.specs.declared.kind.Kind.TheVariants.{Folder}
use Rattle.ws_elem.specs.Elements.{file_bytes}
use Rattle.ws_elem.specs.Trees.{Tree}
use Rattle.builder_api.specs.Places.{is_within, is_below}
use Rattle.builder_api.specs.Files.{files_of, HasNoEmptyFolder}
use Rattle.builder_api.specs.Tasks.{Task}
use Rattle.builder_api.specs.Meanings.{Meanings, Fresh}
use Rattle.builder_api.proofs.Places.{both, same_name, itself}
use Rattle.builder_api.proofs.Maps.{same_files}
use Rattle.builder_api.proofs.Trees.{get-files_of}
use Rattle.builder_api.proofs.Commits.{built_still}
use Rattle.build_laws.specs.States.{State, unmarked, IsAlikeAt, Finds}

bytes_of : (o : Option Element) → file_bytes o ≡ file_bytes (option_map unmarked o)
bytes_of None = refl
bytes_of (Some e) = refl

-- the file at a path where nothing but markers differs
pub file_alike : (a b : Tree) (q : Names) → IsAlikeAt a b q → get (files_of b) q ≡ get (files_of a) q
file_alike a b q h = get-files_of b q ∙ bytes_of (get b q) ∙ ap file_bytes h ∙ sym (bytes_of (get a q)) ∙ sym (get-files_of a q)

-- so all files are the same where nothing but markers differs
pub files_found : (s found : State) → Finds s found → files_of found.tree ≡ files_of s.tree
files_found s found h = same_files (files_of found.tree) (files_of s.tree) (λ q. file_alike s.tree found.tree q (h.alike q))

below_trans : (o q r : Names) → is_below o q ≡ true → is_below q r ≡ true → is_below o r ≡ true
below_trans [] [] r h g = cc
below_trans [] (n ∷ q) [] h g = cc
below_trans [] (n ∷ q) (m ∷ r) h g = refl
below_trans (n ∷ o) [] r h g = cc
below_trans (n ∷ o) (m ∷ q) [] h g = cc
below_trans (n ∷ o) (m ∷ q) (k ∷ r) h g =
    let one = both (bytes_eq n m) (is_below o q) h in
    let two = both (bytes_eq m k) (is_below q r) g in
    ap (λ x. bytes_eq n x && is_below o r) (sym (same_name n m one.0 ∙ same_name m k two.0))
    ∙ ap (λ b. b && is_below o r) (itself n) ∙ below_trans o q r one.1 two.1

some_alike : (x y : Option Element) → option_map unmarked y ≡ option_map unmarked x → IsSome x → IsSome y
some_alike None None e h = h
some_alike None (Some y) e h = cc
some_alike (Some x) None e h = cc
some_alike (Some x) (Some y) e h = refl

-- no folder becomes empty where nothing but markers differs below o
pub filled_still : (o : Names) (a b : Tree) → ((q : Names) → is_below o q ≡ true → IsAlikeAt a b q) → HasNoEmptyFolder o a → HasNoEmptyFolder o b
filled_still o a b alike was = record { filled = λ q h. by q h (get a q) (get b q) (alike q h) (was.filled q h) }
  where
    by : (q : Names) → is_below o q ≡ true → (x y : Option Element) → option_map unmarked y ≡ option_map unmarked x
        → IfSome x (λ e. e.kind ≡ Folder → (r : Names) × (is_below q r ≡ true) × IsSome (get a r)) → IfSome y (λ e. e.kind ≡ Folder → (r : Names) × (is_below q r ≡ true) × IsSome (get b r))
    by q h None None e was = tt
    by q h None (Some y) e was = cc
    by q h (Some x) None e was = tt
    by q h (Some x) (Some y) e was = λ is.
        let same : unmarked y ≡ unmarked x = cc in
        let kind : x.kind ≡ y.kind = ap (λ (e : Element). e.kind) (sym same) in
        let f = was (kind ∙ is) in
        (f.0, f.1, some_alike (get a f.0) (get b f.0) (alike f.0 (below_trans o q f.0 h f.1)) f.2)

-- a task stays fresh where no file within its inputs changes, and below its output nothing but markers
pub fresh_still : (ms : Meanings) (c : Task) (a b : Tree) → ((q : Names) → is_within c.inputs q ≡ true → get (files_of b) q ≡ get (files_of a) q)
    → ((q : Names) → is_below c.output q ≡ true → IsAlikeAt a b q) → Fresh ms c a → Fresh ms c b
fresh_still ms c a b ins below was = record {
  files = built_still ms c (files_of a) (files_of b) ins (λ q h. file_alike a b q (below q h)) was.files;
  folders = filled_still c.output a b below was.folders;
}

-- so it does until the next entry
pub fresh_found : (ms : Meanings) (c : Task) (s found : State) → Finds s found → Fresh ms c s.tree → Fresh ms c found.tree
fresh_found ms c s found h was = fresh_still ms c s.tree found.tree (λ q i. file_alike s.tree found.tree q (h.alike q)) (λ q i. h.alike q) was
