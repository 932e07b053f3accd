-- A walk over the files that are there tells exactly what differs.
use Rattle.std.proofs.Common.{◌≡◌, ◌≢◌, ℕ, zero, suc, ◌<◌, Bool, true, false, cond, ◌&&◌, List, [], ◌∷◌, ◌++◌, length, drop, map, T, refl, sym, ap, ◌∙◌, subst, arith}
use Rattle.std.specs.Prelude.{Option, Some, None, slice_index_or}
use Rattle.std.specs.declared.cmp.Ordering.{Ordering}
use Rattle.std.specs.declared.cmp.Ordering.TheVariants.{Less, Equal, Greater}
use Rattle.std.specs.FinMap.{get, remove, entries, find, entries_sorted, get-entries}
use Rattle.std.specs.FinMap.Entries.{below_all, is_sorted, is_sorted-where_key, find-where_key}
use Rattle.std.specs.List.{AllByRecursion, AllPairs}
use Rattle.std.specs.Ordering.{eq_by_cmp, is_lt, is_eq}
use Rattle.res_path.specs.Paths.{Names, path_cmp, is_prefix}
use Rattle.res_path.proofs.Prefixes.{path_cmp_exact}
use Rattle.builder_api.specs.Places.{is_below}
use Rattle.builder_api.specs.Files.{Files}
use Rattle.builder_api.specs.Edits.{Edit, edit_paths}
use Rattle.builder_api.proofs.Maps.{same_path, path_is, other_path, gone_here, gone_elsewhere}
use Rattle.builder_api.proofs.Places.{split, below_append, prefix_append, cancel}
use Rattle.std_kit.specs.Changes.{change_of, AreChanges}
use Rattle.std_kit.specs.Roots.{files_of_root}
use Rattle.std_kit.specs.Inside.Walks.{edit_if, puts, edits_along}

-- each path once
abbrev pub Once : List Names → Type 0
Once [] = Unit {0}
Once (p ∷ ps) = AllByRecursion (λ q. p ≢ q) ps × Once ps

at_place : (P : Names → Type 0) (ps : List Names) (j : ℕ) (d : Names) → AllByRecursion P ps → j < length ps → P (slice_index_or ps j d)
at_place P [] j d h lt = absurd (omega (arith, lt))
at_place P (p ∷ ps) zero d h lt = h.0
at_place P (p ∷ ps) (suc j) d h lt = at_place P ps j d h.1 (omega (arith, lt))

pub pairs : (ps : List Names) → Once ps → AllPairs (λ p q. p ≢ q) ps
pairs [] h i j d lt within = absurd (omega (arith, within))
pairs (p ∷ ps) h zero zero d lt within = absurd (omega (arith, lt))
pairs (p ∷ ps) h zero (suc j) d lt within = at_place (λ q. p ≢ q) ps j d h.0 (omega (arith, within))
pairs (p ∷ ps) h (suc i) zero d lt within = absurd (omega (arith, lt))
pairs (p ∷ ps) h (suc i) (suc j) d lt within = pairs ps h.1 i j d (omega (arith, lt)) (omega (arith, within))

everywhere : (P : Names → Type 0) (ps : List Names) → ((j : ℕ) (d : Names) → j < length ps → P (slice_index_or ps j d)) → AllByRecursion P ps
everywhere P [] h = tt
everywhere P (p ∷ ps) h = (h 0 p (omega arith), everywhere P ps (λ j d lt. h (suc j) d (omega (arith, lt))))

pub once_of : (ps : List Names) → AllPairs (λ p q. p ≢ q) ps → Once ps
once_of [] h = tt
once_of (p ∷ ps) h = (everywhere (λ q. p ≢ q) ps (λ j d lt. h 0 (suc j) d (omega arith) (omega (arith, lt))), once_of ps (λ i j d lt within. h (suc i) (suc j) d (omega (arith, lt)) (omega (arith, within))))

-- a path without an edit is none of theirs
pub absent : (p : Names) (edits : List Edit) → find path_cmp p edits ≡ None → AllByRecursion (λ q. p ≢ q) (edit_paths edits)
absent p [] h = tt
absent p (e ∷ es) h = by (eq_by_cmp path_cmp p e.0) refl h (λ h. absent p es h)
  where
    by : (b : Bool) → eq_by_cmp path_cmp p e.0 ≡ b → cond b (Some e.1) (find path_cmp p es) ≡ None → (find path_cmp p es ≡ None → AllByRecursion (λ q. p ≢ q) (edit_paths es))
        → AllByRecursion (λ q. p ≢ q) (edit_paths (e ∷ es))
    by true i h next = cc
    by false i h next = ((λ same. let yes : eq_by_cmp path_cmp p e.0 ≡ true = ap (eq_by_cmp path_cmp p) (sym same) ∙ path_is p in cc), next h)

pub named : (ps : List Names) → AllByRecursion (λ q. [] ≢ q) ps → AllByRecursion (λ q. q ≢ []) ps
named [] h = tt
named (p ∷ ps) h = ((λ e. h.0 (sym e)), named ps h.1)

-- ---- entries in path order

first : (a b : Bool) → T (a && b) → T a
first true b h = tt
first false b h = h

second : (a b : Bool) → T (a && b) → T b
second true b h = h
second false b h = absurd h

less : (o : Ordering) → T (is_lt o) → is_eq o ≡ false
less Less h = refl
less Equal h = absurd h
less Greater h = absurd h

missing : {X : Type 0} (p : Names) (es : List (Names × X)) → T (below_all path_cmp p es) → find path_cmp p es ≡ None
missing p [] h = refl
missing p (e ∷ es) h = ap (λ b. cond b (Some e.1) (find path_cmp p es)) (less (path_cmp p e.0) (first _ _ h)) ∙ missing p es (second _ _ h)

-- ---- the puts of what is left

abbrev put_edit : Names × List ℕ → Edit
put_edit e = (e.0, Some e.1)

puts_found : (es : List (Names × List ℕ)) (q : Names) → find path_cmp q (map put_edit es) ≡ change_of None (find path_cmp q es)
puts_found [] q = refl
puts_found (e ∷ es) q = by (eq_by_cmp path_cmp q e.0) (puts_found es q)
  where
    by : (b : Bool) → find path_cmp q (map put_edit es) ≡ change_of None (find path_cmp q es)
        → cond b (Some (Some e.1)) (find path_cmp q (map put_edit es)) ≡ change_of None (cond b (Some e.1) (find path_cmp q es))
    by true h = refl
    by false h = h

puts_once : (es : List (Names × List ℕ)) → T (is_sorted path_cmp es) → Once (edit_paths (map put_edit es))
puts_once [] h = tt
puts_once (e ∷ es) h = (absent e.0 (map put_edit es) (puts_found es e.0 ∙ ap (change_of None) (missing e.0 es (first _ _ h))), puts_once es (second _ _ h))

-- ---- the walk

-- what the entries have below o
abbrev below_of : Names → List (Names × List ℕ) → Names → Option (List ℕ)
below_of o es [] = None
below_of o es (n ∷ r) = find path_cmp (o ++ n ∷ r) es

record Walked (o : Names) (es : List (Names × List ℕ)) (left : Files) (edits : List Edit) : Type 0 where
  at : (q : Names) → find path_cmp q edits ≡ change_of (below_of o es q) (get left q)
  once : Once (edit_paths edits)

pub from_o : (o r : Names) → drop (length o) (o ++ r) ≡ r
from_o [] r = refl
from_o (n ∷ o) r = from_o o r

-- an entry that isn't below o
passed : (o : Names) (e : Names × List ℕ) (es : List (Names × List ℕ)) → is_below o e.0 ≡ false → (q : Names) → below_of o (e ∷ es) q ≡ below_of o es q
passed o e es h [] = refl
passed o e es h (n ∷ r) = ap (λ b. cond b (Some e.1) (find path_cmp (o ++ n ∷ r) es)) (other_path (o ++ n ∷ r) e.0 (λ same.
    let yes : is_below o e.0 ≡ true = ap (is_below o) (sym same) ∙ below_append o n r in
    let never : true ≡ false = sym yes ∙ h in cc))

-- an edit at k before others
pub one : (k : Names) (change : Option (Option (List ℕ))) (rest : List Edit) (q : Names) → (q ≡ k → find path_cmp q rest ≡ None)
    → find path_cmp q (edit_if k change ++ rest) ≡ cond (eq_by_cmp path_cmp q k) change (find path_cmp q rest)
one k (Some x) rest q h = refl
one k None rest q h = by (eq_by_cmp path_cmp q k) refl
  where
    by : (b : Bool) → eq_by_cmp path_cmp q k ≡ b → find path_cmp q rest ≡ cond b None (find path_cmp q rest)
    by true i = h (same_path q k i)
    by false i = refl

pub one_once : (k : Names) (change : Option (Option (List ℕ))) (rest : List Edit) → find path_cmp k rest ≡ None → Once (edit_paths rest) → Once (edit_paths (edit_if k change ++ rest))
one_once k None rest h g = g
one_once k (Some x) rest h g = (absent k rest h, g)

-- one that is, at k from o
module _ (o : Names) (n : List ℕ) (r : Names) (bytes : List ℕ) (es : List (Names × List ℕ)) (left : Files) where
  abbrev k : Names
  k = n ∷ r

  here : (q : Names) → q ≡ k → below_of o ((o ++ n ∷ r, bytes) ∷ es) q ≡ Some bytes
  here q same = ap (below_of o ((o ++ n ∷ r, bytes) ∷ es)) same ∙ ap (λ b. cond b (Some bytes) (find path_cmp (o ++ n ∷ r) es)) (path_is (o ++ n ∷ r))

  elsewhere : (q : Names) → (q ≡ k → ⊥) → below_of o ((o ++ n ∷ r, bytes) ∷ es) q ≡ below_of o es q
  elsewhere [] h = refl
  elsewhere (m ∷ q) h = ap (λ b. cond b (Some bytes) (find path_cmp (o ++ m ∷ q) es)) (other_path (o ++ m ∷ q) (o ++ n ∷ r) (λ same. h (cancel o (m ∷ q) (n ∷ r) same)))

  taken : find path_cmp (o ++ n ∷ r) es ≡ None → (rest : List Edit) → Walked o es (remove left k) rest → Walked o ((o ++ n ∷ r, bytes) ∷ es) left (edit_if k (change_of (Some bytes) (get left k)) ++ rest)
  taken new rest w = record { at = at; once = one_once k (change_of (Some bytes) (get left k)) rest gone w.once }
    where
      gone : find path_cmp k rest ≡ None
      gone = w.at k ∙ ap (λ x. change_of x (get (remove left k) k)) new ∙ ap (change_of None) (gone_here left k)

      at : (q : Names) → find path_cmp q (edit_if k (change_of (Some bytes) (get left k)) ++ rest) ≡ change_of (below_of o ((o ++ n ∷ r, bytes) ∷ es) q) (get left q)
      at q = one k (change_of (Some bytes) (get left k)) rest q (λ same. ap (λ q. find path_cmp q rest) same ∙ gone) ∙ by (eq_by_cmp path_cmp q k) refl
        where
          by : (b : Bool) → eq_by_cmp path_cmp q k ≡ b → cond b (change_of (Some bytes) (get left k)) (find path_cmp q rest) ≡ change_of (below_of o ((o ++ n ∷ r, bytes) ∷ es) q) (get left q)
          by true i = ap (λ q. change_of (Some bytes) (get left q)) (sym (same_path q k i)) ∙ ap (λ x. change_of x (get left q)) (sym (here q (same_path q k i)))
          by false i = w.at q ∙ ap (change_of (below_of o es q)) (gone_elsewhere left k q (apart i)) ∙ ap (λ x. change_of x (get left q)) (sym (elsewhere q (apart i)))
            where
              apart : eq_by_cmp path_cmp q k ≡ false → q ≡ k → ⊥
              apart i same = let yes : eq_by_cmp path_cmp q k ≡ true = ap (eq_by_cmp path_cmp q) (sym same) ∙ path_is q in let never : true ≡ false = sym yes ∙ i in cc

still : (left : Files) (k : Names) → get left [] ≡ None → get (remove left k) [] ≡ None
still left [] h = gone_here left []
still left (n ∷ k) h = gone_elsewhere left (n ∷ k) [] (λ e. cc) ∙ h

walked : (o : Names) (es : List (Names × List ℕ)) (left : Files) → T (is_sorted path_cmp es) → get left [] ≡ None → Walked o es left (edits_along o es left)
walked o [] left sorted h = record { at = at; once = puts_once (entries left) (entries_sorted left) }
  where
    at : (q : Names) → find path_cmp q (puts left) ≡ change_of (below_of o [] q) (get left q)
    at [] = puts_found (entries left) [] ∙ ap (change_of None) (sym (get-entries left []))
    at (n ∷ r) = puts_found (entries left) (n ∷ r) ∙ ap (change_of None) (sym (get-entries left (n ∷ r)))
walked o (e ∷ es) left sorted h = by (is_below o e.0) refl (λ k. walked o es (remove left k) (second _ _ sorted) (still left k h)) (walked o es left (second _ _ sorted) h)
  where
    by : (b : Bool) → is_below o e.0 ≡ b → ((k : Names) → Walked o es (remove left k) (edits_along o es (remove left k))) → Walked o es left (edits_along o es left)
        → Walked o (e ∷ es) left (cond b (edit_if (drop (length o) e.0) (change_of (Some e.1) (get left (drop (length o) e.0)))) [] ++ edits_along o es (cond b (remove left (drop (length o) e.0)) left))
    by false is next other = record { at = λ q. other.at q ∙ ap (λ x. change_of x (get left q)) (sym (passed o e es is q)); once = other.once }
    by true is next other = let s = split o e.0 is in
        subst (λ p. Walked o ((p, e.1) ∷ es) left (edit_if (drop (length o) p) (change_of (Some e.1) (get left (drop (length o) p))) ++ edits_along o es (remove left (drop (length o) p)))) (sym s.is)
        (subst (λ k. Walked o ((o ++ s.name ∷ s.rest, e.1) ∷ es) left (edit_if k (change_of (Some e.1) (get left k)) ++ edits_along o es (remove left k))) (sym (from_o o (s.name ∷ s.rest)))
        (taken o s.name s.rest e.1 es left (missing (o ++ s.name ∷ s.rest) es (subst (λ p. T (below_all path_cmp p es)) s.is (first _ _ sorted))) _ (next (s.name ∷ s.rest))))

-- the files of a root are those that lie there
pub seen : (o : Names) (view : Files) (r : Names) → find path_cmp (o ++ r) (files_of_root o view) ≡ get view (o ++ r)
seen o view r = find-where_key path_cmp (is_prefix o) (o ++ r) (λ x t. ap (is_prefix o) (sym (path_cmp_exact (o ++ r) x t))) (entries view)
    ∙ ap (λ b. cond b (find path_cmp (o ++ r) (entries view)) None) (prefix_append o r) ∙ sym (get-entries view (o ++ r))

pub root_sorted : (o : Names) (view : Files) → T (is_sorted path_cmp (files_of_root o view))
root_sorted o view = is_sorted-where_key path_cmp (is_prefix o) (entries view) (entries_sorted view)

-- along the files of the output the edits are exactly the changes
pub along : (o : Names) (view made : Files) → get made [] ≡ None → AreChanges o view made (edits_along o (files_of_root o view) made)
along o view made none = record {
  at = λ n r. w.at (n ∷ r) ∙ ap (λ x. change_of x (get made (n ∷ r))) (seen o view (n ∷ r));
  named = named (edit_paths (edits_along o (files_of_root o view) made)) (absent [] (edits_along o (files_of_root o view) made) (w.at [] ∙ ap (change_of None) none));
  once = pairs (edit_paths (edits_along o (files_of_root o view) made)) w.once;
}
  where
    w : Walked o (files_of_root o view) made (edits_along o (files_of_root o view) made)
    w = walked o (files_of_root o view) made (root_sorted o view) none
