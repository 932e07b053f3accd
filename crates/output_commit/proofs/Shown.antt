-- Which files there are after a change.
use Rattle.std.proofs.Common.{◌≡◌, ℕ, ◌+◌, Bool, true, false, cond, not, ◌&&◌, List, [], ◌∷◌, T, refl, sym, ap, ◌∙◌, subst}
use Rattle.std.specs.Prelude.{Option, Some, None}
use Rattle.std.specs.List.{AllByRecursion}
use Rattle.std.specs.Option.{option_or}
use Rattle.std.specs.Str.{bytes_eq}
use Rattle.std.specs.Cmp.Lexicographic.{bytes_decides}
use Rattle.std.specs.FinMap.{get}
use Rattle.std.specs.FinMap.Entries.{below_all}
use Rattle.res_path.specs.Paths.{Names, path_cmp}
use Rattle.ws_elem.specs.declared.element.Element.{Element}
use Rattle.ws_elem.specs.Elements.{file_bytes}
use Rattle.ws_elem.specs.Kinds.{is_file}
use Rattle.ws_elem.specs.Trees.{Tree}
use Rattle.ws_elem.proofs.Cuts.{same_at}
use Rattle.op_kind.specs.Entries.{Entries}
use Rattle.op_kind.specs.Effects.{new_file, new_folder, put_some}
use Rattle.op_kind.specs.Members.{put_all}
use Rattle.op_kind.proofs.Looks.{is_at, get-put, find_at, sorted, none_above}
use Rattle.output_commit.specs.Placed.{rewritten, fresh, nodes_of, stamps_of, placed}
use Rattle.output_commit.proofs.Counting.{put_first, still_all}

same_bytes : (a b : List ℕ) → bytes_eq a b ≡ true → a ≡ b
same_bytes a b h = (bytes_decides a b).0 h

-- whatever is put at a path or serves there, the file there is the one that is wanted
pub fresh_bytes : (n s : ℕ) (e : Element) (x : Option Element) → file_bytes (option_or (fresh n s e x) x) ≡ file_bytes (Some e)
fresh_bytes n s e None = by (is_file e.kind)
  where
    by : (b : Bool) → file_bytes (option_or (cond (cond b false false) None (cond (b && false) None (Some (cond b (new_file n s e.bytes) (new_folder n))))) None) ≡ cond b (Some e.bytes) None
    by true = refl
    by false = refl
fresh_bytes n s e (Some f) = by (is_file e.kind) (is_file f.kind) (bytes_eq f.bytes e.bytes) refl refl
  where
    by : (b k q : Bool) → is_file f.kind ≡ k → bytes_eq f.bytes e.bytes ≡ q
        → file_bytes (option_or (cond (cond b (k && q) (not k)) None (cond (b && k) (Some (rewritten s e.bytes f)) (Some (cond b (new_file n s e.bytes) (new_folder n))))) (Some f)) ≡ cond b (Some e.bytes) None
    by true true true h g = ap (λ z. cond z (Some f.bytes) None) h ∙ ap (λ z. Some z) (same_bytes f.bytes e.bytes g)
    by true true false h g = ap (λ z. cond z (Some e.bytes) None) h
    by true false q h g = refl
    by false true q h g = refl
    by false false q h g = ap (λ z. cond z (Some f.bytes) None) h

-- the file that is wanted, or the one that there is otherwise
abbrev pub pick : Option Element → Option (List ℕ) → Option (List ℕ)
pick None d = d
pick (Some e) d = file_bytes (Some e)

pub get-put_some : (u : Tree) (p : Names) (f : Option Element) (q : Names) → get (put_some u p f) q ≡ cond (is_at q p) (option_or f (get u q)) (get u q)
get-put_some u p None q = by (is_at q p)
  where
    by : (b : Bool) → get u q ≡ cond b (get u q) (get u q)
    by true = refl
    by false = refl
get-put_some u p (Some e) q = get-put u p e q

away : (t u : Tree) (p : Names) (f : Option Element) (q : Names) → is_at q p ≡ false → get u q ≡ get t q → get (put_some u p f) q ≡ get t q
away t u p f q other h = get-put_some u p f q ∙ ap (λ b. cond b (option_or f (get u q)) (get u q)) other ∙ h

first : (a b : Bool) → T (a && b) → T a
first true b h = tt
first false b h = h

second : (a b : Bool) → T (a && b) → T b
second true b h = h
second false b h = absurd h

-- the file at a path where elements are placed
pub file_placed : (t u : Tree) (n s : ℕ) (es : Entries) (q : Names) → T (sorted es) → AllByRecursion (λ e. get u e.0 ≡ get t e.0) es
    → file_bytes (get (put_all u (placed t n s es)) q) ≡ pick (find_at q es) (file_bytes (get u q))
file_placed t u n s [] q h all = refl
file_placed t u n s (e ∷ es) q h all =
    let x = get t e.0 in
    let f = fresh n s e.1 x in
    let rest = placed t (n + nodes_of e.1 x) (s + stamps_of e.1 x) es in
    let now = put_some u e.0 f in
    let later = file_placed t now (n + nodes_of e.1 x) (s + stamps_of e.1 x) es q (second _ _ h)
    (still_all (λ p. get u p ≡ get t p) (λ p. get now p ≡ get t p) e.0 (away t u e.0 f) es (first _ _ h) all.1) in
    ap (λ v. file_bytes (get v q)) (put_first u e.0 f rest) ∙ later ∙ here (is_at q e.0) refl
  where
    now : Tree
    now = put_some u e.0 (fresh n s e.1 (get t e.0))

    here : (b : Bool) → is_at q e.0 ≡ b → pick (find_at q es) (file_bytes (get now q)) ≡ pick (cond b (Some e.1) (find_at q es)) (file_bytes (get u q))
    here true at =
        let alone : find_at q es ≡ None = none_above q es (subst (λ p. T (below_all path_cmp p es)) (sym (same_at q e.0 at)) (first _ _ h)) in
        ap (λ y. pick y (file_bytes (get now q))) alone
        ∙ ap file_bytes (get-put_some u e.0 (fresh n s e.1 (get t e.0)) q ∙ ap (λ b. cond b (option_or (fresh n s e.1 (get t e.0)) (get u q)) (get u q)) at
        ∙ ap (λ p. option_or (fresh n s e.1 (get t e.0)) (get u p)) (same_at q e.0 at) ∙ ap (option_or (fresh n s e.1 (get t e.0))) all.0)
        ∙ fresh_bytes n s e.1 (get t e.0)
    here false at = ap (λ y. pick (find_at q es) (file_bytes y)) (get-put_some u e.0 (fresh n s e.1 (get t e.0)) q ∙ ap (λ b. cond b (option_or (fresh n s e.1 (get t e.0)) (get u q)) (get u q)) at)
