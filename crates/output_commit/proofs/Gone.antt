-- What isn't wanted is taken out.
use Rattle.std.proofs.Common.{◌≡◌, Bool, true, false, cond, not, ◌&&◌, ◌||◌, List, [], ◌∷◌, ◌++◌, map, length, refl, sym, ap, ◌∙◌, ◌+◌, subst, arith}
use Rattle.std.proofs.lemmas.List.{append_assoc}
use Rattle.std.specs.Prelude.{Option, Some, None, is_some, filter}
use Rattle.std.specs.List.{list_any, AllByRecursion}
use Rattle.std.specs.Ordering.{eq_by_cmp}
use Rattle.std.specs.FinMap.{get, remove, entries, keys, contains_key, get-remove, get-retain_keys, contains_key-keys, same_map}
use Rattle.res_path.specs.Paths.{Names, path_cmp, is_prefix}
use Rattle.res_path.specs.PathLaws.{path_cmp_total}
use Rattle.res_path.proofs.Prefixes.{path_cmp_exact}
use Rattle.ws_elem.specs.declared.element.Element.{Element}
use Rattle.ws_elem.specs.Trees.{Tree}
use Rattle.ws_elem.specs.Kinds.{is_file}
use Rattle.ws_elem.proofs.Cuts.{any_filter}
use Rattle.op_kind.specs.Entries.{Entries}
use Rattle.op_kind.specs.Effects.{put_some}
use Rattle.op_kind.specs.Members.{members, is_below, found_at, put_all}
use Rattle.op_kind.proofs.PathsBelow.{both}
use Rattle.op_plan.specs.Edits.{Edits, changed}
use Rattle.op_plan.specs.Inside.Lists.{taken, put}
use Rattle.op_plan.proofs.Effected.{changed-append, changed_put}
use Rattle.output_commit.specs.Placed.{cleared}
use Rattle.output_commit.specs.Touched.{unwanted, count_files}

turned : (a b : Bool) (x y : Option Element) → x ≡ cond b None y → cond a None x ≡ cond (b || a) None y
turned true true x y h = refl
turned true false x y h = refl
turned false true x y h = h
turned false false x y h = h

abbrev paths : Entries → List Names
paths = map (λ e. e.0)

get-taken : (t : Tree) (es : Entries) (q : Names) → get (changed t (taken es)) q ≡ cond (list_any (eq_by_cmp path_cmp q) (paths es)) None (get t q)
get-taken t [] q = refl
get-taken t (e ∷ es) q =
    get-taken (remove t e.0) es q ∙ swap (list_any (eq_by_cmp path_cmp q) (paths es)) (eq_by_cmp path_cmp q e.0) _ (get t q) (get-remove path_cmp_total t e.0 q)
  where
    swap : (a b : Bool) (x y : Option Element) → x ≡ cond b None y → cond a None x ≡ cond (b || a) None y
    swap = turned

paths_filter : (f : Names → Bool) (es : Entries) → paths (filter (λ e. f e.0) es) ≡ filter f (paths es)
paths_filter f [] = refl
paths_filter f (e ∷ es) = by (f e.0) (paths_filter f es)
  where
    by : (b : Bool) → paths (filter (λ e. f e.0) es) ≡ filter f (paths es) → paths (cond b (e ∷ filter (λ e. f e.0) es) (filter (λ e. f e.0) es)) ≡ cond b (e.0 ∷ filter f (paths es)) (filter f (paths es))
    by true h = ap (λ ps. e.0 ∷ ps) h
    by false h = h

-- the path is among those that aren't wanted
among : (t w : Tree) (o q : Names) → list_any (eq_by_cmp path_cmp q) (paths (unwanted w (members t o))) ≡ (not (contains_key w q) && (is_below o q && is_some (get t q)))
among t w o q =
    ap (list_any (eq_by_cmp path_cmp q)) (paths_filter (λ p. not (contains_key w p)) (members t o)) ∙ any_filter (λ p. not (contains_key w p)) q (paths (members t o))
    ∙ ap (λ b. not (contains_key w q) && b)
    (ap (list_any (eq_by_cmp path_cmp q)) (paths_filter (is_below o) (entries t)) ∙ any_filter (is_below o) q (keys t) ∙ ap (λ b. is_below o q && b) (sym (contains_key-keys t q)))

alike : (x w : Tree) (o q p : Names) → q ≡ p → not (is_below o p && not (contains_key w p)) ≡ not (is_below o q && not (contains_key w q))
alike x w o q p same = ap (λ (y : Names). not (is_below o y && not (contains_key w y))) (sym same)

pub get-cleared : (t : Tree) (o : Names) (w : Tree) (q : Names) → get (cleared t o w) q ≡ cond (not (is_below o q && not (contains_key w q))) (get t q) None
get-cleared t o w q = get-retain_keys t (λ p. not (is_below o p && not (contains_key w p))) q (λ x h. alike t w o q x (path_cmp_exact q x h))

-- what isn't wanted, taken out, leaves the rest
pub cleared_is : (t : Tree) (o : Names) (w : Tree) → changed t (taken (unwanted w (members t o))) ≡ cleared t o w
cleared_is t o w = same_map path_cmp_total path_cmp_exact _ _ (λ q.
    get-taken t (unwanted w (members t o)) q ∙ ap (λ b. cond b None (get t q)) (among t w o q) ∙ by (contains_key w q) (is_below o q) (get t q) ∙ sym (get-cleared t o w q))
  where
    by : (w b : Bool) (x : Option Element) → cond (not w && (b && is_some x)) None x ≡ cond (not (b && not w)) x None
    by true true x = refl
    by true false x = refl
    by false true None = refl
    by false true (Some e) = refl
    by false false x = refl

pub put_found : (t : Tree) (p : Names) (x : Option Element) → changed t (put (found_at p x)) ≡ put_some t p x
put_found t p None = refl
put_found t p (Some e) = refl

-- what goes, what is put, and what the project becomes
pub planned_is : (t : Tree) (o : Names) (w : Tree) (es : Entries) (p : Names) (x : Option Element)
    → changed t ((taken (unwanted w (members t o)) ++ put es) ++ put (found_at p x)) ≡ put_some (put_all (cleared t o w) es) p x
planned_is t o w es p x =
    changed-append t (taken (unwanted w (members t o)) ++ put es) (put (found_at p x)) ∙ put_found (changed t (taken (unwanted w (members t o)) ++ put es)) p x
    ∙ ap (λ u. put_some u p x) (changed-append t (taken (unwanted w (members t o))) (put es) ∙ ap (λ u. changed u (put es)) (cleared_is t o w) ∙ changed_put (cleared t o w) es)

-- ---- one by one

-- one more element that goes unless it is wanted
pub goes_step : (w : Tree) (cs : Edits) (e : Names × Element) (es : Entries)
    → (cs ++ taken (cond (not (contains_key w e.0)) (e ∷ []) [])) ++ taken (unwanted w es) ≡ cs ++ taken (unwanted w (e ∷ es))
goes_step w cs e es = append_assoc cs (taken (cond (not (contains_key w e.0)) (e ∷ []) [])) (taken (unwanted w es)) ∙ ap (λ ds. cs ++ ds) (by (not (contains_key w e.0)))
  where
    by : (b : Bool) → taken (cond b (e ∷ []) []) ++ taken (unwanted w es) ≡ taken (cond b (e ∷ unwanted w es) (unwanted w es))
    by true = refl
    by false = refl

pub files_step : (w : Tree) (e : Names × Element) (es : Entries)
    → count_files (cond (not (contains_key w e.0)) (e ∷ []) []) + count_files (unwanted w es) ≡ count_files (unwanted w (e ∷ es))
files_step w e es = by (not (contains_key w e.0)) (is_file e.1.kind)
  where
    files : Entries
    files = filter (λ x. is_file x.1.kind) (unwanted w es)

    inner : (f : Bool) → length (cond f (e ∷ []) []) + length files ≡ length (cond f (e ∷ files) files)
    inner true = omega arith
    inner false = omega arith

    by : (b f : Bool) → count_files (cond b (e ∷ []) []) + count_files (unwanted w es) ≡ count_files (cond b (e ∷ unwanted w es) (unwanted w es))
    by true f = inner (is_file e.1.kind)
    by false f = omega arith

-- each of what lies below o has o's path before its own
pub members_below : (t : Tree) (o : Names) (found : Entries) → found ≡ members t o → AllByRecursion (λ e. is_prefix o e.0 ≡ true) found
members_below t o found is = subst (AllByRecursion (λ e. is_prefix o e.0 ≡ true)) (sym is) (each (entries t))
  where
    each : (es : Entries) → AllByRecursion (λ e. is_prefix o e.0 ≡ true) (filter (λ e. is_below o e.0) es)
    each [] = tt
    each (e ∷ es) = by (is_below o e.0) refl (each es)
      where
        by : (b : Bool) → is_below o e.0 ≡ b → AllByRecursion (λ e. is_prefix o e.0 ≡ true) (filter (λ e. is_below o e.0) es)
            → AllByRecursion (λ e. is_prefix o e.0 ≡ true) (cond b (e ∷ filter (λ e. is_below o e.0) es) (filter (λ e. is_below o e.0) es))
        by true h rest = ((both (is_prefix o e.0) (not (is_prefix e.0 o)) h).0, rest)
        by false h rest = rest
