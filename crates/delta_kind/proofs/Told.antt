-- The paths that one pass over rows tells.
use Rattle.std.proofs.Common.{◌≡◌, ℕ, Bool, true, false, cond, not, ◌&&◌, ◌||◌, List, [], ◌∷◌, ◌++◌, map, refl, sym, ap, ◌∙◌, subst}
use Rattle.std.specs.Prelude.{Option, Some, None, filter, unwrap_or}
use Rattle.std.specs.declared.cmp.Ordering.{Ordering}
use Rattle.std.specs.declared.cmp.Ordering.TheVariants.{Less, Equal, Greater}
use Rattle.std.specs.FinMap.{FinMap, empty, insert, get, keys, find, from_entries, get-empty, get-insert, get-from_entries, same_map}
use Rattle.std.specs.List.{AllByRecursion, list_any, flat_map}
use Rattle.std.specs.Ordering.{eq_by_cmp, is_eq, is_gt, ordering_reverse}
use Rattle.std.proofs.lemmas.List.Folds.{list_any-append}
use Rattle.res_path.specs.Paths.{Names, path_cmp, is_prefix}
use Rattle.res_path.specs.PathLaws.{path_cmp_total}
use Rattle.res_path.proofs.Prefixes.{path_cmp_exact, path_itself, prefix_between}
use Rattle.ws_elem.proofs.Cuts.{any_filter}
use Rattle.ws_elem.proofs.Ordered.{keys_is}
use Rattle.delta_kind.specs.declared.node.DeltaNode.{DeltaNode}
use Rattle.delta_kind.specs.Deltas.{above, put_paths, with_above, paths_of, InPathOrder}
use Rattle.delta_kind.specs.Rows.{Rows, Sides, row_paths, place_in, node_by, delta_of_rows}
use Rattle.delta_kind.specs.Inside.Passes.{is_above, new_above, untouched, nodes_from}
use Rattle.delta_kind.specs.declared.row.Turn.TheVariants.{Lost, Gained}
use Rattle.delta_kind.proofs.Above.{above_rises, above_less, above_prefix, prefix_is}
use Rattle.delta_kind.proofs.Rising.{Over, Rises, all_over, rises_sorted, sorted_rises, find_missing}

-- the paths of the nodes of a pass
abbrev pub told_from : Option Names → List Names → List Names
told_from last [] = []
told_from last (p ∷ ps) = new_above last p ++ p ∷ told_from (Some p) ps

-- ---- they rise

never : true ≡ false → ⊥
never h = cc

-- what is above p and not above a path before p comes after that path
between : (last : Option Names) (p q : Names) → Over last p → is_prefix q p ≡ true → not (is_above q last) ≡ true → Over last q
between None p q h g f = tt
between (Some l) p q h g f = by (path_cmp l q) refl
  where
    not_above : (o : Ordering) → path_cmp l q ≡ o → is_gt (ordering_reverse o) ≡ false → path_cmp l q ≡ Less
    not_above o e lower = absurd (
        let at_most : is_gt (path_cmp q l) ≡ false = ap is_gt (path_cmp_total.antisymm q l ∙ ap ordering_reverse e) ∙ lower in
        let found : is_prefix q l ≡ true = prefix_between q l p at_most (ap is_gt h) g in
        never (sym f ∙ ap not found))

    by : (o : Ordering) → path_cmp l q ≡ o → path_cmp l q ≡ Less
    by Less e = e
    by Equal e = not_above Equal e refl
    by Greater e = not_above Greater e refl

all_between : (last : Option Names) (p : Names) (qs : List Names) → Over last p → AllByRecursion (λ q. is_prefix q p ≡ true) qs → AllByRecursion (λ q. not (is_above q last) ≡ true → Over last q) qs
all_between last p [] h g = tt
all_between last p (q ∷ qs) h g = (between last p q h g.0, all_between last p qs h g.1)

all_hold : (P Q : Names → Type 0) (qs : List Names) → ((q : Names) → P q → Q q) → AllByRecursion P qs → AllByRecursion Q qs
all_hold P Q [] f h = tt
all_hold P Q (q ∷ qs) f h = (f q h.0, all_hold P Q qs f h.1)

-- some of what rises below p, and then p and what rises from it on
climb : (f : Names → Bool) (last : Option Names) (qs : List Names) (p : Names) (rest : List Names) (m : Option Names)
    → Rises m qs → AllByRecursion (λ q. f q ≡ true → Over last q) qs → AllByRecursion (λ q. path_cmp q p ≡ Less) qs → Over last p → Rises (Some p) rest
    → Rises last (filter f qs ++ p ∷ rest)
climb f last [] p rest m r k b u h = (u, h)
climb f last (q ∷ qs) p rest m r k b u h =
    by (f q) refl
    (climb f (Some q) qs p rest (Some q) r.1 (all_hold (λ x. path_cmp q x ≡ Less) (λ x. f x ≡ true → Over (Some q) x) qs (λ x less _. less) (all_over q qs r.1)) b.1 b.0 h)
    (climb f last qs p rest (Some q) r.1 k.1 b.1 u h)
  where
    by : (t : Bool) → f q ≡ t → Rises (Some q) (filter f qs ++ p ∷ rest) → Rises last (filter f qs ++ p ∷ rest) → Rises last (cond t (q ∷ filter f qs) (filter f qs) ++ p ∷ rest)
    by true e kept left = (k.0 e, kept)
    by false e kept left = left

pub told_rises : (ps : List Names) (last : Option Names) → Rises last ps → Rises last (told_from last ps)
told_rises [] last h = tt
told_rises (p ∷ ps) last h =
    climb (λ q. not (is_above q last)) last (above p) p (told_from (Some p) ps) None (above_rises p) (all_between last p (above p) h.0 (above_prefix p)) (above_less p) h.0
    (told_rises ps (Some p) h.1)

-- ---- they are the rows' paths and all above them

told_step : (a p e r s x : Bool) → x ≡ (p || e) → (x || r) ≡ (x || s) → (a || ((not a && p) || (e || r))) ≡ (a || (x || s))
told_step true p e r s x h g = refl
told_step false true e r s x h g = sym (ap (λ b. b || s) h)
told_step false false true r s x h g = sym (ap (λ b. b || s) h)
told_step false false false r s x h g = sym (ap (λ b. b || r) h) ∙ g

told_any : (q : Names) (ps : List Names) (last : Option Names) → (is_above q last || list_any (eq_by_cmp path_cmp q) (told_from last ps)) ≡ (is_above q last || list_any (is_prefix q) ps)
told_any q [] last = refl
told_any q (p ∷ ps) last =
    ap (λ b. is_above q last || b) (list_any-append (eq_by_cmp path_cmp q) (new_above last p) (p ∷ told_from (Some p) ps)
    ∙ ap (λ b. b || (eq_by_cmp path_cmp q p || list_any (eq_by_cmp path_cmp q) (told_from (Some p) ps))) (any_filter (λ x. not (is_above x last)) q (above p)))
    ∙ told_step (is_above q last) (list_any (eq_by_cmp path_cmp q) (above p)) (eq_by_cmp path_cmp q p) (list_any (eq_by_cmp path_cmp q) (told_from (Some p) ps))
    (list_any (is_prefix q) ps) (is_prefix q p) (prefix_is q p) (told_any q ps (Some p))

get-put_paths : (s : FinMap path_cmp (Unit {0})) (ps : List Names) (q : Names) → get (put_paths s ps) q ≡ cond (list_any (eq_by_cmp path_cmp q) ps) (Some tt) (get s q)
get-put_paths s [] q = refl
get-put_paths s (p ∷ ps) q =
    get-put_paths (insert s p tt) ps q ∙ ap (cond (list_any (eq_by_cmp path_cmp q) ps) (Some tt)) (get-insert path_cmp_total s p tt q)
    ∙ by (list_any (eq_by_cmp path_cmp q) ps) (eq_by_cmp path_cmp q p)
  where
    by : (a b : Bool) → cond a (Some tt) (cond b (Some tt) (get s q)) ≡ cond (b || a) (Some tt) (get s q)
    by true true = refl
    by true false = refl
    by false true = refl
    by false false = refl

or_false : (a : Bool) → (a || false) ≡ a
or_false true = refl
or_false false = refl

any_prefixes : (q : Names) (ps : List Names) → list_any (eq_by_cmp path_cmp q) (flat_map (λ p. above p ++ p ∷ []) ps) ≡ list_any (is_prefix q) ps
any_prefixes q [] = refl
any_prefixes q (p ∷ ps) =
    list_any-append (eq_by_cmp path_cmp q) (above p ++ p ∷ []) (flat_map (λ p. above p ++ p ∷ []) ps)
    ∙ (λ i. one i || any_prefixes q ps i)
  where
    one : list_any (eq_by_cmp path_cmp q) (above p ++ p ∷ []) ≡ is_prefix q p
    one =
        list_any-append (eq_by_cmp path_cmp q) (above p) (p ∷ []) ∙ ap (λ b. list_any (eq_by_cmp path_cmp q) (above p) || b) (or_false (eq_by_cmp path_cmp q p))
        ∙ sym (prefix_is q p)

-- the set that `with_above` lists
abbrev pub above_set : List Names → FinMap path_cmp (Unit {0})
above_set ps = put_paths empty (flat_map (λ p. above p ++ p ∷ []) ps)

pub get-above_set : (ps : List Names) (q : Names) → get (above_set ps) q ≡ cond (list_any (is_prefix q) ps) (Some tt) None
get-above_set ps q =
    get-put_paths empty (flat_map (λ p. above p ++ p ∷ []) ps) q
    ∙ (λ i. cond (any_prefixes q ps i) (Some tt) (get-empty path_cmp q i))

abbrev pub listed : List Names → List (Names × (Unit {0}))
listed ps = map {B = Names × (Unit {0})} (λ p. (p, tt)) ps

keys_listed : (ps : List Names) → map (λ e. e.0) (listed ps) ≡ ps
keys_listed [] = refl
keys_listed (p ∷ ps) = ap (λ qs. p ∷ qs) (keys_listed ps)

find_listed : (q : Names) (ps : List Names) → find path_cmp q (listed ps) ≡ cond (list_any (eq_by_cmp path_cmp q) ps) (Some tt) None
find_listed q [] = refl
find_listed q (p ∷ ps) = by (eq_by_cmp path_cmp q p) (find_listed q ps)
  where
    by : (b : Bool) → find path_cmp q (listed ps) ≡ cond (list_any (eq_by_cmp path_cmp q) ps) (Some tt) None
        → cond b (Some tt) (find path_cmp q (listed ps)) ≡ cond (b || list_any (eq_by_cmp path_cmp q) ps) (Some tt) None
    by true h = refl
    by false h = h

pub told_is : (ps : List Names) → Rises None ps → with_above ps ≡ told_from None ps
told_is ps h =
    ap keys (same_map path_cmp_total path_cmp_exact (above_set ps) (from_entries {R = path_cmp} (listed (told_from None ps))) (λ q.
    get-above_set ps q ∙ ap (λ b. cond b (Some tt) None) (sym (told_any q ps None)) ∙ sym (find_listed q (told_from None ps)) ∙ sym (get-from_entries path_cmp_total (listed (told_from None ps)) q)))
    ∙ keys_is (listed (told_from None ps)) (subst (λ qs. InPathOrder qs) (sym (keys_listed (told_from None ps))) (rises_sorted None (told_from None ps) (told_rises ps None h)))
    ∙ keys_listed (told_from None ps)

-- ---- and their nodes

all_kept : (P : Names → Type 0) (f : Names → Bool) (ps : List Names) → AllByRecursion P ps → AllByRecursion P (filter f ps)
all_kept P f [] h = tt
all_kept P f (p ∷ ps) h = by (f p) (all_kept P f ps h.1)
  where
    by : (b : Bool) → AllByRecursion P (filter f ps) → AllByRecursion P (cond b (p ∷ filter f ps) (filter f ps))
    by true g = (h.0, g)
    by false g = g

map_on : {Y : Type 0} (f g : Names → Y) (ps : List Names) → AllByRecursion (λ p. f p ≡ g p) ps → map f ps ≡ map g ps
map_on f g [] h = refl
map_on f g (p ∷ ps) h = λ i. h.0 i ∷ map_on f g ps h.1 i

map_append : {Y : Type 0} (f : Names → Y) (ps qs : List Names) → map f (ps ++ qs) ≡ map f ps ++ map f qs
map_append f [] qs = refl
map_append f (p ∷ ps) qs = ap (λ ys. f p ∷ ys) (map_append f ps qs)

-- the node of a path, by what was found there
abbrev pub node_found : (ℕ → Option Names) → (ℕ → Option Names) → Names → Option Sides → DeltaNode
node_found l g p found = node_by l g p (unwrap_or found (None, None))

abbrev pub node_in : (ℕ → Option Names) → (ℕ → Option Names) → Rows → Names → DeltaNode
node_in l g rows p = node_found l g p (find path_cmp p rows)

later_tie : (p q : Names) → path_cmp p q ≡ Less → eq_by_cmp path_cmp q p ≡ false
later_tie p q h = ap is_eq (path_cmp_total.antisymm q p ∙ ap ordering_reverse h)

-- by who lost and who gained each node
module _ (l g : ℕ → Option Names) where
  -- a path below all rows is none of theirs
  node_missing : (rows : Rows) (p : Names) → Rises (Some p) (row_paths rows) → untouched p ≡ node_in l g rows p
  node_missing rows p h = sym (ap (node_found l g p) (find_missing p rows h))

  pub nodes_told : (rows : Rows) (last : Option Names) → Rises last (row_paths rows) → nodes_from (node_by l g) last rows ≡ map (node_in l g rows) (told_from last (row_paths rows))
  nodes_told [] last h = refl
  nodes_told (r ∷ rows) last h =
      (λ i. before i ++ here i ∷ after (nodes_told rows (Some r.0) h.1) i) ∙ sym (map_append (node_in l g (r ∷ rows)) (new_above last r.0) (r.0 ∷ told_from (Some r.0) (row_paths rows)))
    where
      before : map untouched (new_above last r.0) ≡ map (node_in l g (r ∷ rows)) (new_above last r.0)
      before = map_on untouched (node_in l g (r ∷ rows)) (new_above last r.0)
          (all_kept (λ q. untouched q ≡ node_in l g (r ∷ rows) q) (λ q. not (is_above q last)) (above r.0)
          (all_hold (λ q. path_cmp q r.0 ≡ Less) (λ q. untouched q ≡ node_in l g (r ∷ rows) q) (above r.0) (λ q less. node_missing (r ∷ rows) q (less, h.1)) (above_less r.0)))

      here : node_by l g r.0 r.1 ≡ node_in l g (r ∷ rows) r.0
      here = sym (ap (λ b. node_found l g r.0 (cond b (Some r.1) (find path_cmp r.0 rows))) (ap is_eq (path_itself r.0)))

      after : nodes_from (node_by l g) (Some r.0) rows ≡ map (node_in l g rows) (told_from (Some r.0) (row_paths rows))
          → nodes_from (node_by l g) (Some r.0) rows ≡ map (node_in l g (r ∷ rows)) (told_from (Some r.0) (row_paths rows))
      after rest = rest
          ∙ map_on (node_in l g rows) (node_in l g (r ∷ rows)) (told_from (Some r.0) (row_paths rows))
          (all_hold (λ q. path_cmp r.0 q ≡ Less) (λ q. node_in l g rows q ≡ node_in l g (r ∷ rows) q) (told_from (Some r.0) (row_paths rows))
          (λ q less. sym (ap (λ b. node_found l g q (cond b (Some r.1) (find path_cmp q rows))) (later_tie r.0 q less)))
          (all_over r.0 (told_from (Some r.0) (row_paths rows)) (told_rises (row_paths rows) (Some r.0) h.1)))

  paths_nodes : (rows : Rows) (ps : List Names) → paths_of (map (node_in l g rows) ps) ≡ ps
  paths_nodes rows [] = refl
  paths_nodes rows (p ∷ ps) = ap (λ qs. p ∷ qs) (paths_nodes rows ps)

  pub pass_rises : (rows : Rows) → InPathOrder (row_paths rows) → InPathOrder (paths_of (nodes_from (node_by l g) None rows))
  pass_rises rows h =
      let up = sorted_rises (row_paths rows) h in
      subst (λ ps. InPathOrder ps) (sym (ap paths_of (nodes_told rows None up) ∙ paths_nodes rows (told_from None (row_paths rows))))
      (rises_sorted None (told_from None (row_paths rows)) (told_rises (row_paths rows) None up))

-- one pass makes the delta of the rows
pub pass_is : (rows : Rows) → InPathOrder (row_paths rows) → nodes_from (node_by (place_in Lost rows) (place_in Gained rows)) None rows ≡ delta_of_rows rows
pass_is rows h =
    let up = sorted_rises (row_paths rows) h in
    nodes_told (place_in Lost rows) (place_in Gained rows) rows None up
    ∙ ap (map (node_in (place_in Lost rows) (place_in Gained rows) rows)) (sym (told_is (row_paths rows) up))
