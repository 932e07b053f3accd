-- Edits at some paths, and what they come to.
use Rattle.std.proofs.Common.{◌≡◌, ℕ, ◌+◌, Bool, true, false, cond, not, ◌&&◌, ◌||◌, List, [], ◌∷◌, ◌++◌, map, refl, sym, ap, ◌∙◌}
use Rattle.std.specs.Prelude.{Option, Some, None, is_some, filter}
use Rattle.std.specs.List.{list_any}
use Rattle.std.specs.Option.{option_map}
use Rattle.std.specs.Ordering.{eq_by_cmp}
use Rattle.std.specs.FinMap.{get, insert, remove, entries, keys, retain_keys, get-remove, get-retain_keys, contains_key-keys, same_map}
use Rattle.res_path.specs.Paths.{Names, path_cmp, is_prefix}
use Rattle.res_path.specs.PathLaws.{path_cmp_total}
use Rattle.res_path.proofs.Prefixes.{path_cmp_exact}
use Rattle.ws_elem.specs.declared.element.Element.{Element}
use Rattle.ws_elem.specs.Trees.{Tree, set_at, without, branch}
use Rattle.ws_elem.proofs.Cuts.{any_filter, same_at}
use Rattle.ws_elem.proofs.Kept.{get-set_at}
use Rattle.op_kind.specs.Entries.{Entries}
use Rattle.op_kind.specs.Members.{members, without_members, is_below, put_all, carried, rebased}
use Rattle.op_kind.specs.Numbers.{stamps_of}
use Rattle.op_kind.specs.Effects.{change_at, put_some, copies, renumbered}
use Rattle.op_plan.specs.Edits.{Edits, changed}
use Rattle.op_plan.specs.Inside.Lists.{undoing, taken, put}

pub changed-append : (t : Tree) (cs ds : Edits) → changed t (cs ++ ds) ≡ changed (changed t cs) ds
changed-append t [] ds = refl
changed-append t (c ∷ cs) ds = changed-append (set_at t c.0 c.1) cs ds

-- what is put at paths stands there
pub changed_put : (t : Tree) (es : Entries) → changed t (put es) ≡ put_all t es
changed_put t [] = refl
changed_put t (e ∷ es) = changed_put (insert t e.0 e.1) es

-- ---- undone

-- what stood at a path, put back
back : (t : Tree) (p : Names) (x : Option Element) → set_at (set_at t p x) p (get t p) ≡ t
back t p x = same_map path_cmp_total path_cmp_exact _ _ (λ q.
    get-set_at (set_at t p x) p (get t p) q ∙ by q (eq_by_cmp path_cmp q p) refl)
  where
    by : (q : Names) (b : Bool) → eq_by_cmp path_cmp q p ≡ b → cond b (get t p) (get (set_at t p x) q) ≡ get t q
    by q true h = ap (get t) (sym (same_at q p h))
    by q false h = get-set_at t p x q ∙ ap (λ b. cond b x (get t q)) h

-- edits, undone in the other order
pub undone : (t : Tree) (cs : Edits) → changed (changed t cs) (undoing t cs) ≡ t
undone t [] = refl
undone t (c ∷ cs) =
    let next = set_at t c.0 c.1 in
    changed-append (changed next cs) (undoing next cs) ((c.0, get t c.0) ∷ [])
    ∙ ap (λ s. set_at s c.0 (get t c.0)) (undone next cs)
    ∙ back t c.0 c.1

-- ---- taken out

turned : (a b : Bool) (x y : Option Element) → x ≡ cond b None y → cond a None x ≡ cond (b || a) None y
turned true true x y h = refl
turned true false x y h = refl
turned false true x y h = h
turned false false x y h = h

paths : Entries → List Names
paths = map (λ e. e.0)

get-taken : (t : Tree) (es : Entries) (q : Names) → get (changed t (taken es)) q ≡ cond (list_any (eq_by_cmp path_cmp q) (paths es)) None (get t q)
unfolding paths
get-taken t [] q = refl
get-taken t (e ∷ es) q =
    get-taken (remove t e.0) es q ∙ swap (list_any (eq_by_cmp path_cmp q) (paths es)) (eq_by_cmp path_cmp q e.0) _ (get t q) (get-remove path_cmp_total t e.0 q)
  where
    swap : (a b : Bool) (x y : Option Element) → x ≡ cond b None y → cond a None x ≡ cond (b || a) None y
    swap = turned

paths_filter : (f : Names → Bool) (es : Entries) → paths (filter (λ e. f e.0) es) ≡ filter f (paths es)
unfolding paths
paths_filter f [] = refl
paths_filter f (e ∷ es) = by (f e.0) (paths_filter f es)
  where
    by : (b : Bool) → paths (filter (λ e. f e.0) es) ≡ filter f (paths es) → paths (cond b (e ∷ filter (λ e. f e.0) es) (filter (λ e. f e.0) es)) ≡ cond b (e.0 ∷ filter f (paths es)) (filter f (paths es))
    by true h = ap (λ ps. e.0 ∷ ps) h
    by false h = h

-- taking out the entries whose paths pass a test keeps the others
kept : (t : Tree) (f : Names → Bool) → changed t (taken (filter (λ e. f e.0) (entries t))) ≡ retain_keys t (λ q. not (f q))
unfolding paths
kept t f = same_map path_cmp_total path_cmp_exact _ _ (λ q.
    get-taken t (filter (λ e. f e.0) (entries t)) q
    ∙ ap (λ ps. cond (list_any (eq_by_cmp path_cmp q) ps) None (get t q)) (paths_filter f (entries t))
    ∙ ap (λ b. cond b None (get t q)) (any_filter f q (keys t) ∙ ap (λ b. f q && b) (sym (contains_key-keys t q)))
    ∙ by (f q) (get t q)
    ∙ sym (get-retain_keys t (λ x. not (f x)) q (λ x h. ap (λ y. not (f y)) (sym (path_cmp_exact q x h)))))
  where
    by : (b : Bool) (x : Option Element) → cond (b && is_some x) None x ≡ cond (not b) x None
    by true None = refl
    by true (Some e) = refl
    by false x = refl

pub taken_branch : (t : Tree) (p : Names) → changed t (taken (branch t p)) ≡ without t p
taken_branch t p = kept t (is_prefix p)

pub taken_members : (t : Tree) (p : Names) → changed t (taken (members t p)) ≡ without_members t p
taken_members t p = kept t (is_below p)

-- ---- what is changed where it is

pub change_there : (t : Tree) (p : Names) (f : Element → Element) (e : Element) → get t p ≡ Some e → change_at t p f ≡ insert t p (f e)
change_there t p f e h = ap (λ x. put_some t p (option_map f x)) h

-- ---- copies

pub copies_carried : (from to : Names) (node stamp : ℕ) (es : Entries) → copies node stamp (carried from to es) ≡ carried from to (copies node stamp es)
copies_carried from to node stamp [] = refl
copies_carried from to node stamp (e ∷ es) = ap (λ xs. (rebased from to e.0, renumbered node stamp e.1) ∷ xs) (copies_carried from to (node + 1) (stamp + stamps_of e.1) es)
