-- A tree in which what is at some paths is changed.
use Rattle.std.proofs.Common.{◌≡◌, Bool, true, false, cond, ◌&&◌, List, [], ◌∷◌, T, refl, sym, ap, ◌∙◌, subst}
use Rattle.std.specs.Prelude.{Option, Some, None, filter}
use Rattle.std.specs.Option.{option_map, option_or}
use Rattle.std.specs.FinMap.{get, entries, entries_sorted, get-entries}
use Rattle.std.specs.FinMap.Entries.{below_all, find-where_key, is_sorted-where_key}
use Rattle.res_path.specs.Paths.{Names, path_cmp}
use Rattle.res_path.proofs.Prefixes.{path_cmp_exact}
use Rattle.ws_elem.specs.declared.element.Element.{Element}
use Rattle.ws_elem.specs.Trees.{Tree}
use Rattle.ws_elem.proofs.Cuts.{same_at}
use Rattle.op_kind.specs.Entries.{Entries}
use Rattle.op_kind.specs.Marking.{change_all}
use Rattle.op_kind.specs.Members.{put_all}
use Rattle.op_kind.proofs.Looks.{is_at, find_at, sorted, get-put_all, last_is, none_above}

-- an element that is kept by a test
abbrev kept_if : (Element → Bool) → Option Element → Option Element
kept_if has None = None
kept_if has (Some e) = cond (has e) (Some e) None

first : (a b : Bool) → T (a && b) → T a
first true b h = tt
first false b h = h

second : (a b : Bool) → T (a && b) → T b
second true b h = h
second false b h = absurd h

both : (a b : Bool) → T a → T b → T (a && b)
both true b x y = y
both false b x y = x

below_changed : (change : Element → Element) (p : Names) (es : Entries) → T (below_all path_cmp p es) → T (below_all path_cmp p (change_all change es))
below_changed change p [] h = tt
below_changed change p (e ∷ es) h = both _ _ (first _ _ h) (below_changed change p es (second _ _ h))

sorted_changed : (change : Element → Element) (es : Entries) → T (sorted es) → T (sorted (change_all change es))
sorted_changed change [] h = tt
sorted_changed change (e ∷ es) h = both _ _ (below_changed change e.0 es (first _ _ h)) (sorted_changed change es (second _ _ h))

below_kept : (test : Names × Element → Bool) (p : Names) (es : Entries) → T (below_all path_cmp p es) → T (below_all path_cmp p (filter test es))
below_kept test p [] h = tt
below_kept test p (e ∷ es) h = by (test e) (below_kept test p es (second _ _ h))
  where
    by : (b : Bool) → T (below_all path_cmp p (filter test es)) → T (below_all path_cmp p (cond b (e ∷ filter test es) (filter test es)))
    by true rest = both _ _ (first _ _ h) rest
    by false rest = rest

sorted_kept : (test : Names × Element → Bool) (es : Entries) → T (sorted es) → T (sorted (filter test es))
sorted_kept test [] h = tt
sorted_kept test (e ∷ es) h = by (test e) (sorted_kept test es (second _ _ h))
  where
    by : (b : Bool) → T (sorted (filter test es)) → T (sorted (cond b (e ∷ filter test es) (filter test es)))
    by true rest = both _ _ (below_kept test e.0 es (first _ _ h)) rest
    by false rest = rest

find_changed : (change : Element → Element) (q : Names) (es : Entries) → find_at q (change_all change es) ≡ option_map change (find_at q es)
find_changed change q [] = refl
find_changed change q (e ∷ es) = by (is_at q e.0) (find_changed change q es)
  where
    by : (b : Bool) → find_at q (change_all change es) ≡ option_map change (find_at q es)
        → cond b (Some (change e.1)) (find_at q (change_all change es)) ≡ option_map change (cond b (Some e.1) (find_at q es))
    by true rest = refl
    by false rest = rest

find_kept : (has : Element → Bool) (q : Names) (es : Entries) → T (sorted es) → find_at q (filter (λ e. has e.1) es) ≡ kept_if has (find_at q es)
find_kept has q [] h = refl
find_kept has q (e ∷ es) h = by (has e.1) refl (is_at q e.0) refl (find_kept has q es (second _ _ h))
  where
    rest : Entries
    rest = filter (λ x. has x.1) es

    by : (b : Bool) → has e.1 ≡ b → (c : Bool) → is_at q e.0 ≡ c → find_at q rest ≡ kept_if has (find_at q es)
        → find_at q (cond b (e ∷ rest) rest) ≡ kept_if has (cond c (Some e.1) (find_at q es))
    by true i true j found = ap (λ c. cond c (Some e.1) (find_at q rest)) j ∙ sym (ap (λ b. cond b (Some e.1) None) i)
    by true i false j found = ap (λ c. cond c (Some e.1) (find_at q rest)) j ∙ found
    by false i true j found =
        found
        ∙ ap (kept_if has) (none_above q es (subst (λ p. T (below_all path_cmp p es)) (sym (same_at q e.0 j)) (first _ _ h)))
        ∙ sym (ap (λ b. cond b (Some e.1) None) i)
    by false i false j found = found

-- what is at some paths is changed, where it has something to lose
pub get-lost : (t : Tree) (test : Names → Bool) (has : Element → Bool) (change : Element → Element) → ((e : Element) → has e ≡ false → change e ≡ e) → (q : Names)
    → get (put_all t (change_all change (filter (λ e. has e.1) (filter (λ e. test e.0) (entries t))))) q ≡ cond (test q) (option_map change (get t q)) (get t q)
get-lost t test has change stays q =
    get-put_all t (change_all change some) q
    ∙ ap (λ x. option_or x (get t q)) (last_is q (change_all change some) in_order ∙ find_changed change q some ∙ ap (option_map change) (find_kept has q all all_order ∙ ap (kept_if has) found))
    ∙ by (test q) (get t q)
  where
    all : Entries
    all = filter (λ e. test e.0) (entries t)

    some : Entries
    some = filter (λ e. has e.1) all

    all_order : T (sorted all)
    all_order = is_sorted-where_key path_cmp test (entries t) (entries_sorted t)

    in_order : T (sorted (change_all change some))
    in_order = sorted_changed change some (sorted_kept (λ e. has e.1) all all_order)

    found : find_at q all ≡ cond (test q) (get t q) None
    found = find-where_key path_cmp test q (λ x h. ap test (sym (path_cmp_exact q x h))) (entries t)
        ∙ ap (λ y. cond (test q) y None) (sym (get-entries t q))

    one : (e : Element) (b : Bool) → has e ≡ b → option_or (option_map change (cond b (Some e) None)) (Some e) ≡ Some (change e)
    one e true h = refl
    one e false h = ap Some (sym (stays e h))

    by : (b : Bool) (x : Option Element) → option_or (option_map change (kept_if has (cond b x None))) x ≡ cond b (option_map change x) x
    by true None = refl
    by true (Some e) = one e (has e) refl
    by false None = refl
    by false (Some e) = refl

as_itself : {X : Type 0} (f : X → Bool) (xs : List X) → ((x : X) → f x ≡ true) → filter f xs ≡ xs
as_itself f [] h = refl
as_itself f (x ∷ xs) h = ap (λ b. cond b (x ∷ filter f xs) (filter f xs)) (h x) ∙ ap (λ ys. x ∷ ys) (as_itself f xs h)

-- the tree in which what is at some paths is changed
abbrev pub change_where : Tree → (Names → Bool) → (Element → Element) → Tree
change_where t test change = put_all t (change_all change (filter (λ e. test e.0) (entries t)))

pub get-change_where : (t : Tree) (test : Names → Bool) (change : Element → Element) (q : Names)
    → get (change_where t test change) q ≡ cond (test q) (option_map change (get t q)) (get t q)
get-change_where t test change q =
    ap (λ es. get (put_all t (change_all change es)) q) (sym (as_itself (λ _. true) (filter (λ e. test e.0) (entries t)) (λ _. refl)))
    ∙ get-lost t test (λ _. true) change (λ e h. cc) q
