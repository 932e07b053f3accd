-- Walking what is seen from entry to entry, and from root to root.
use Rattle.std.proofs.Common.{◌≡◌, ℕ, ◌≤◌, ◌<◌, Bool, true, false, cond, not, ◌&&◌, List, [], ◌∷◌, ◌++◌, length, T, refl, sym, ap, ◌∙◌, subst, arith, append_assoc}
use Rattle.std.specs.Prelude.{Option, Some, None, filter}
use Rattle.std.specs.declared.cmp.Ordering.{Ordering}
use Rattle.std.specs.declared.cmp.Ordering.TheVariants.{Less, Equal, Greater}
use Rattle.std.specs.List.{flat_map}
use Rattle.std.specs.Ordering.{is_eq, is_gt, is_lt, ordering_reverse}
use Rattle.std.specs.FinMap.{get, entries, entries_sorted, find, is_sorted, get-entries}
use Rattle.std.specs.FinMap.Entries.{below_all}
use Rattle.std.proofs.lemmas.Grind.{flat_map-append}
use Rattle.std.proofs.lemmas.List.Elements.{filter-append}
use Rattle.res_path.specs.Paths.{Names, path_cmp}
use Rattle.res_path.specs.PathLaws.{path_cmp_total}
use Rattle.res_path.proofs.Prefixes.{path_cmp_exact}
use Rattle.ws_elem.specs.declared.element.Element.{Element}
use Rattle.ws_elem.specs.Trees.{Tree, entry_after}
use Rattle.op_kind.specs.Entries.{Entries}
use Rattle.op_kind.specs.Members.{found_at}
use Rattle.op_plan.specs.Inside.Walks.{entries_after}
use Rattle.op_plan.proofs.Walked.{after_step, after_end, after_shorter}
use Rattle.builder_api.specs.Files.{file_entry}
use Rattle.builder_api.specs.Places.{is_within}
use Rattle.build_due.specs.Sights.{is_seen}
use Rattle.build_due.specs.Inside.Walks.{seen_files, roots, is_between, IsNextRoot, IsNext}
use Rattle.build_due.proofs.Roots.{never, less, not_above, at_most, at_most_lower, in_none, unseen}

abbrev above : Names → Entries → Entries
above p es = filter (λ e. is_lt (path_cmp p e.0)) es

-- the entries from r on
abbrev from : Names → Entries → Entries
from r es = filter (λ e. not (is_lt (path_cmp e.0 r))) es

-- ---- the entries from a path on are what is there, and those above it

first : (a b : Bool) → T (a && b) → T a
first true b h = tt
first false b h = h

second : (a b : Bool) → T (a && b) → T b
second true b h = h
second false b h = absurd h

as_less : (o : Ordering) → T (is_lt o) → o ≡ Less
as_less Less h = refl
as_less Equal h = absurd h
as_less Greater h = absurd h

-- nothing that comes later is at r
not_later : (r q : Names) (es : Entries) → is_gt (path_cmp r q) ≡ false → T (below_all path_cmp q es) → find path_cmp r es ≡ None
not_later r q [] g h = refl
not_later r q (e ∷ es) g h =
    let l : is_lt (path_cmp r e.0) ≡ true = at_most_lower r q e.0 g (ap is_lt (as_less _ (first _ _ h))) in
    ap (λ o. cond (is_eq o) (Some e.1) (find path_cmp r es)) (less _ l) ∙ not_later r q es g (second _ _ h)

from_split : (r : Names) (es : Entries) → T (is_sorted path_cmp es) → from r es ≡ found_at r (find path_cmp r es) ++ above r es
from_split r [] s = refl
from_split r (e ∷ es) s = by (path_cmp r e.0) refl (from_split r es (second _ _ s))
  where
    found : Ordering → Option Element
    found o = cond (is_eq o) (Some e.1) (find path_cmp r es)

    turned : path_cmp e.0 r ≡ ordering_reverse (path_cmp r e.0)
    turned = path_cmp_total.antisymm e.0 r

    by : (o : Ordering) → path_cmp r e.0 ≡ o → from r es ≡ found_at r (find path_cmp r es) ++ above r es
        → cond (not (is_lt (path_cmp e.0 r))) (e ∷ from r es) (from r es)
        ≡ found_at r (cond (is_eq (path_cmp r e.0)) (Some e.1) (find path_cmp r es)) ++ cond (is_lt (path_cmp r e.0)) (e ∷ above r es) (above r es)
    by Less i rest =
        let none : find path_cmp r es ≡ None = not_later r e.0 es (ap is_gt i) (first _ _ s) in
        ap (λ o. cond (not (is_lt o)) (e ∷ from r es) (from r es)) (turned ∙ ap ordering_reverse i)
        ∙ ap (λ xs. e ∷ xs) (rest ∙ ap (λ x. found_at r x ++ above r es) none)
        ∙ sym (ap (λ o. found_at r (cond (is_eq o) (Some e.1) (find path_cmp r es)) ++ cond (is_lt o) (e ∷ above r es) (above r es)) i
        ∙ ap (λ x. found_at r x ++ e ∷ above r es) none)
    by Equal i rest =
        let none : find path_cmp r es ≡ None = not_later r e.0 es (ap is_gt i) (first _ _ s) in
        let same : r ≡ e.0 = path_cmp_exact r e.0 i in
        let entry : e ≡ (r, e.1) = λ k. (sym same k, e.1) in
        ap (λ o. cond (not (is_lt o)) (e ∷ from r es) (from r es)) (turned ∙ ap ordering_reverse i)
        ∙ ap (λ xs. e ∷ xs) (rest ∙ ap (λ x. found_at r x ++ above r es) none)
        ∙ ap (λ x. x ∷ above r es) entry
        ∙ sym (ap (λ o. found_at r (cond (is_eq o) (Some e.1) (find path_cmp r es)) ++ cond (is_lt o) (e ∷ above r es) (above r es)) i)
    by Greater i rest =
        ap (λ o. cond (not (is_lt o)) (e ∷ from r es) (from r es)) (turned ∙ ap ordering_reverse i)
        ∙ rest
        ∙ sym (ap (λ o. found_at r (cond (is_eq o) (Some e.1) (find path_cmp r es)) ++ cond (is_lt o) (e ∷ above r es) (above r es)) i)

pub split_at : (t : Tree) (r : Names) → from r (entries t) ≡ found_at r (get t r) ++ entries_after t r
split_at t r = from_split r (entries t) (entries_sorted t) ∙ ap (λ x. found_at r x ++ entries_after t r) (sym (get-entries t r))

-- all is from the root on
not_before_root : (q : Names) → not (is_lt (path_cmp q [])) ≡ true
not_before_root [] = refl
not_before_root (n ∷ q) = refl

from_root : (es : Entries) → from [] es ≡ es
from_root [] = refl
from_root (e ∷ es) = ap (λ b. cond b (e ∷ from [] es) (from [] es)) (not_before_root e.0) ∙ ap (λ xs. e ∷ xs) (from_root es)

-- ---- no more is left

pub fewer_after : (p r : Names) → is_lt (path_cmp p r) ≡ true → (es : Entries) → length (above r es) ≤ length (above p es)
fewer_after p r l [] = omega arith
fewer_after p r l (e ∷ es) = by (is_lt (path_cmp r e.0)) refl (is_lt (path_cmp p e.0)) refl (fewer_after p r l es)
  where
    by : (b : Bool) → is_lt (path_cmp r e.0) ≡ b → (c : Bool) → is_lt (path_cmp p e.0) ≡ c → length (above r es) ≤ length (above p es)
        → length (cond b (e ∷ above r es) (above r es)) ≤ length (cond c (e ∷ above p es) (above p es))
    by true i true j rest = omega arith
    by true i false j rest = never (sym (at_most_lower p r e.0 (not_above (path_cmp p r) l) i) ∙ j)
    by false i true j rest = omega arith
    by false i false j rest = rest

-- ---- what is seen of entries

module _ (inputs : List Names) (output : Names) where
  abbrev kept : Entries → Entries
  kept es = filter (λ e. is_seen inputs output e.0) es

  pub seen_append : (es fs : Entries) → seen_files inputs output (es ++ fs) ≡ seen_files inputs output es ++ seen_files inputs output fs
  seen_append es fs = ap (flat_map file_entry) (filter-append (λ e. is_seen inputs output e.0) es fs) ∙ flat_map-append file_entry (kept es) (kept fs)

  drop_unseen : (e : Names × Element) (es : Entries) → is_seen inputs output e.0 ≡ false → kept (e ∷ es) ≡ kept es
  drop_unseen e es h = ap (λ b. cond b (e ∷ kept es) (kept es)) h

  -- tests that agree where something is seen keep the same of it
  kept_alike : (f g : Names → Bool) → ((q : Names) → is_seen inputs output q ≡ true → f q ≡ g q)
      → (es : Entries) → kept (filter (λ e. f e.0) es) ≡ kept (filter (λ e. g e.0) es)
  kept_alike f g alike [] = refl
  kept_alike f g alike (e ∷ es) = by (is_seen inputs output e.0) refl (kept_alike f g alike es)
    where
      one : (b : Bool) (xs ys : Entries) → kept xs ≡ kept ys → kept (cond b (e ∷ xs) xs) ≡ kept (cond b (e ∷ ys) ys)
      one true xs ys h = ap (λ zs. cond (is_seen inputs output e.0) (e ∷ zs) zs) h
      one false xs ys h = h

      none : (b : Bool) (xs : Entries) → is_seen inputs output e.0 ≡ false → kept (cond b (e ∷ xs) xs) ≡ kept xs
      none true xs h = drop_unseen e xs h
      none false xs h = refl

      by : (b : Bool) → is_seen inputs output e.0 ≡ b → kept (filter (λ e. f e.0) es) ≡ kept (filter (λ e. g e.0) es)
          → kept (cond (f e.0) (e ∷ filter (λ e. f e.0) es) (filter (λ e. f e.0) es)) ≡ kept (cond (g e.0) (e ∷ filter (λ e. g e.0) es) (filter (λ e. g e.0) es))
      by true h rest = one (f e.0) (filter (λ e. f e.0) es) (filter (λ e. g e.0) es) rest
          ∙ ap (λ b. kept (cond b (e ∷ filter (λ e. g e.0) es) (filter (λ e. g e.0) es))) (alike e.0 h)
      by false h rest = none (f e.0) (filter (λ e. f e.0) es) h ∙ rest ∙ sym (none (g e.0) (filter (λ e. g e.0) es) h)

  nothing : (es : Entries) → filter {X = Names × Element} (λ e. false) es ≡ []
  nothing [] = refl
  nothing (e ∷ es) = nothing es

  module _ (p : Names) (out : is_within (roots inputs output) p ≡ false) where
    not_seen : (place : Option Names) → IsNextRoot (roots inputs output) p place → (q : Names) → is_between p place q ≡ true → is_seen inputs output q ≡ false
    not_seen place next q h = unseen inputs output q (in_none (roots inputs output) p place out next.first q h)

    -- where a root comes next, what is seen above p is from there on
    kept_from : (r : Names) → IsNextRoot (roots inputs output) p (Some r) → (es : Entries) → kept (above p es) ≡ kept (from r es)
    kept_from r next es = kept_alike (λ q. is_lt (path_cmp p q)) (λ q. not (is_lt (path_cmp q r))) (λ q s. by q s (is_lt (path_cmp q r)) refl (is_lt (path_cmp p q)) refl) es
      where
        by : (q : Names) → is_seen inputs output q ≡ true → (b : Bool) → is_lt (path_cmp q r) ≡ b → (c : Bool) → is_lt (path_cmp p q) ≡ c → c ≡ not b
        by q s true i true j = never (sym s ∙ not_seen (Some r) next q (ap (λ c. c && is_lt (path_cmp q r)) j ∙ i))
        by q s true i false j = refl
        by q s false i true j = refl
        by q s false i false j =
            let l : is_lt (path_cmp q r) ≡ true = at_most_lower q p r (at_most p q j) next.above in
            never (sym l ∙ i)

    -- where none does, nothing is
    kept_none : IsNextRoot (roots inputs output) p None → (es : Entries) → kept (above p es) ≡ []
    kept_none next es = kept_alike (λ q. is_lt (path_cmp p q)) (λ q. false) (λ q s. by q s (is_lt (path_cmp p q)) refl) es ∙ ap kept (nothing es)
      where
        by : (q : Names) → is_seen inputs output q ≡ true → (c : Bool) → is_lt (path_cmp p q) ≡ c → c ≡ false
        by q s true j = never (sym s ∙ not_seen None next q (ap (λ c. c && true) j))
        by q s false j = refl

  -- ---- from place to place

  module _ (t : Tree) (p : Names) where
    pub none_left : entry_after t p ≡ None → seen_files inputs output (entries_after t p) ≡ []
    none_left h = ap (seen_files inputs output) (after_end t p h)

    pub next_entry : (x : Names × Element) → entry_after t p ≡ Some x → IsNext inputs output t p (x.0, Some x.1)
    next_entry x h = record { all = ap (seen_files inputs output) (after_step t p x h); fewer = after_shorter t p x h }

    module _ (x : Names × Element) (h : entry_after t p ≡ Some x) (out : is_within (roots inputs output) x.0 ≡ false) where
      passed : kept (entries_after t p) ≡ kept (entries_after t x.0)
      passed = ap kept (after_step t p x h) ∙ drop_unseen x (entries_after t x.0) (unseen inputs output x.0 out)

      pub none_further : IsNextRoot (roots inputs output) x.0 None → seen_files inputs output (entries_after t p) ≡ []
      none_further next = ap (flat_map file_entry) (passed ∙ kept_none x.0 out next (entries t))

      pub next_at_root : (r : Names) (e : Option Element) → IsNextRoot (roots inputs output) x.0 (Some r) → e ≡ get t r → IsNext inputs output t p (r, e)
      next_at_root r e next is = record {
        all = ap (flat_map file_entry) (passed ∙ kept_from x.0 out r next (entries t))
            ∙ ap (seen_files inputs output) (split_at t r)
            ∙ ap (λ y. seen_files inputs output (found_at r y ++ entries_after t r)) (sym is);
        fewer =
            let one : length (entries_after t r) ≤ length (entries_after t x.0) = fewer_after x.0 r next.above (entries t) in
            let two : length (entries_after t x.0) < length (entries_after t p) = after_shorter t p x h in
            omega arith;
      }

  -- ---- all of them

  pub seen_start : (t : Tree) (p : Names) (x : Option Element) (none files : List (Names × List ℕ)) → p ≡ [] → x ≡ get t p → none ≡ []
      → files ≡ none ++ seen_files inputs output (found_at p x) → files ++ seen_files inputs output (entries_after t p) ≡ seen_files inputs output (entries t)
  seen_start t p x none files at is empty all =
      ap (λ fs. fs ++ seen_files inputs output (entries_after t p)) (all ∙ ap (λ fs. fs ++ seen_files inputs output (found_at p x)) empty)
      ∙ sym (seen_append (found_at p x) (entries_after t p))
      ∙ ap (λ y. seen_files inputs output (found_at p y ++ entries_after t p)) is
      ∙ ap (seen_files inputs output) (sym (split_at t p))
      ∙ ap (λ q. seen_files inputs output (from q (entries t))) at
      ∙ ap (seen_files inputs output) (from_root (entries t))

  module _ (t : Tree) (p last : Names) (x : Names × Option Element) (next : IsNext inputs output t p x) (is : last ≡ x.0) where
    -- the files so far with those of the next place, and those above it
    pub seen_more : (files more all : List (Names × List ℕ)) → more ≡ files ++ seen_files inputs output (found_at x.0 x.1)
        → files ++ seen_files inputs output (entries_after t p) ≡ all → more ++ seen_files inputs output (entries_after t last) ≡ all
    seen_more files more all one rest =
        ap (λ fs. fs ++ seen_files inputs output (entries_after t last)) one
        ∙ ap (λ q. (files ++ seen_files inputs output (found_at x.0 x.1)) ++ seen_files inputs output (entries_after t q)) is
        ∙ append_assoc files (seen_files inputs output (found_at x.0 x.1)) (seen_files inputs output (entries_after t x.0))
        ∙ ap (λ es. files ++ es) (sym (seen_append (found_at x.0 x.1) (entries_after t x.0)) ∙ sym next.all)
        ∙ rest

    pub left_shorter : length (entries_after t last) < length (entries_after t p)
    left_shorter = subst (λ q. length (entries_after t q) < length (entries_after t p)) (sym is) next.fewer
