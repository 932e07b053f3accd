-- Copies of a root whose files are clear of each other.
use Rattle.std.proofs.Common.{◌≡◌, ℕ, Bool, true, false, cond, not, ◌&&◌, ◌||◌, List, [], ◌∷◌, ◌++◌, length, drop, T, refl, sym, ap, ◌∙◌, subst}
use Rattle.std.specs.Prelude.{Option, Some, None, is_some, IsSome, filter}
use Rattle.std.specs.declared.cmp.Ordering.{Ordering}
use Rattle.std.specs.declared.cmp.Ordering.TheVariants.{Less, Equal, Greater}
use Rattle.std.specs.FinMap.{get, insert, entries, find, empty, get-insert, get-empty}
use Rattle.std.specs.FinMap.Entries.{below_all, is_sorted}
use Rattle.std.specs.List.{AllByRecursion, fold}
use Rattle.std.specs.Ordering.{eq_by_cmp, is_lt, is_eq}
use Rattle.res_path.specs.Paths.{Names, path_cmp, path_eq, is_prefix, overlap, parent}
use Rattle.res_path.specs.PathLaws.{path_cmp_total}
use Rattle.builder_api.specs.Places.{is_below}
use Rattle.builder_api.specs.Files.{Files}
use Rattle.builder_api.specs.Meanings.{Made}
use Rattle.builder_api.proofs.Maps.{same_path, path_is, other_path}
use Rattle.std.specs.Str.{bytes_eq}
use Rattle.builder_api.proofs.Places.{split, both, cancel, itself, same_name, below_append}
use Rattle.std_kit.specs.Making.{nothing_made, with_problem, with_file, shadowed}
use Rattle.std_kit.specs.Roots.{IsClear, files_of_root, relative}
use Rattle.std_kit.proofs.Keys.{none_passes}
use Rattle.std_kit.proofs.Walks.{from_o, seen, root_sorted}
use Rattle.std_copy.specs.Copied.{with_copy, copied}

abbrev Entries : Type 0
Entries = List (Names × List ℕ)

first_part : (a b : Bool) → T (a && b) → T a
first_part true b h = tt
first_part false b h = h

second_part : (a b : Bool) → T (a && b) → T b
second_part true b h = h
second_part false b h = absurd h

less : (o : Ordering) → T (is_lt o) → is_eq o ≡ false
less Less h = refl
less Equal h = absurd h
less Greater h = absurd h

missing : (p : Names) (es : Entries) → T (below_all path_cmp p es) → find path_cmp p es ≡ None
missing p [] h = refl
missing p (e ∷ es) h = ap (λ b. cond b (Some e.1) (find path_cmp p es)) (less (path_cmp p e.0) (first_part _ _ h)) ∙ missing p es (second_part _ _ h)

-- what is found, or else what was there
abbrev or_else : Option (List ℕ) → Option (List ℕ) → Option (List ℕ)
or_else None y = y
or_else (Some x) y = Some x

-- a path below the root is another one
other : (root : Names) (n : List ℕ) (r : Names) → path_eq root (root ++ n ∷ r) ≡ false
other [] n r = refl
other (m ∷ root) n r = ap (λ b. b && path_eq root (root ++ n ∷ r)) (itself m) ∙ other root n r

below_root : (root : Names) (n : List ℕ) (r : Names) → relative root (root ++ n ∷ r) ≡ n ∷ r
below_root root n r = ap (λ b. cond b (drop (length (parent (root ++ n ∷ r))) (root ++ n ∷ r)) (drop (length root) (root ++ n ∷ r))) (other root n r) ∙ from_o root (n ∷ r)

module _ (root : Names) (f : Files) (clear : IsClear root f) where
  -- files that were placed lie below the root, and none of them is ahead
  record Placed (es : Entries) (m : Made) : Type 0 where
    quiet : m.problems ≡ []
    there : (q : Names) → IsSome (get m.files q) → IsSome (get f (root ++ q))
    behind : (q : Names) → IsSome (get m.files q) → find path_cmp (root ++ q) es ≡ None

  record Copies (es : Entries) (m after : Made) : Type 0 where
    quiet : after.problems ≡ []
    files : (q : Names) → get after.files q ≡ or_else (find path_cmp (root ++ q) es) (get m.files q)

  module _ (n : List ℕ) (r : Names) (bytes : List ℕ) (es : Entries) (m : Made) (new : find path_cmp (root ++ n ∷ r) es ≡ None) (is : IsSome (get f (root ++ n ∷ r)))
      (placed : Placed ((root ++ n ∷ r, bytes) ∷ es) m) where
    abbrev k : Names
    k = n ∷ r

    abbrev next : Made
    next = record { files = insert m.files k bytes; problems = m.problems }

    found_here : (q : Names) → k ≡ q → find path_cmp (root ++ q) ((root ++ k, bytes) ∷ es) ≡ Some bytes
    found_here q same = ap (λ b. cond b (Some bytes) (find path_cmp (root ++ q) es)) (ap (λ q. eq_by_cmp path_cmp (root ++ q) (root ++ k)) (sym same) ∙ path_is (root ++ k))

    found_later : (q : Names) → eq_by_cmp path_cmp q k ≡ false → find path_cmp (root ++ q) ((root ++ k, bytes) ∷ es) ≡ find path_cmp (root ++ q) es
    found_later q i = ap (λ b. cond b (Some bytes) (find path_cmp (root ++ q) es)) (other_path (root ++ q) (root ++ k) (λ same.
        let yes : eq_by_cmp path_cmp q k ≡ true = ap (λ q. eq_by_cmp path_cmp q k) (cancel root q k same) ∙ path_is k in
        let never : true ≡ false = sym yes ∙ i in cc))

    not_there : (q : Names) → overlap k q ≡ true → get m.files q ≡ None
    not_there q over = by (get m.files q) refl (is_prefix k q) refl over
      where
        gone : IsSome (get m.files q) → k ≡ q → ⊥
        gone h same = let twice : Some bytes ≡ None = sym (found_here q same) ∙ placed.behind q h in cc

        by : (o : Option (List ℕ)) → get m.files q ≡ o → (b : Bool) → is_prefix k q ≡ b → (b || is_prefix q k) ≡ true → o ≡ None
        by None o b p h = refl
        by (Some x) o true p h = let h : IsSome (get m.files q) = ap is_some o in absurd (gone h (clear.apart k q is (placed.there q h) p))
        by (Some x) o false p g = let h : IsSome (get m.files q) = ap is_some o in absurd (gone h (sym (clear.apart q k (placed.there q h) is g)))

    is_next : with_copy root m (root ++ k, bytes) ≡ next
    is_next = ap (λ p. with_file m (root ++ k) p bytes) (below_root root n r)
        ∙ ap (λ b. cond (not b) next (with_problem m (shadowed (root ++ k)))) (sym (none_passes m.files (overlap k) not_there))

    holds : (q : Names) → get (insert m.files k bytes) q ≡ cond (eq_by_cmp path_cmp q k) (Some bytes) (get m.files q)
    holds q = get-insert path_cmp_total m.files k bytes q

    placed_next : Placed es next
    placed_next = record {
      quiet = placed.quiet;
      there = λ q h. there q (eq_by_cmp path_cmp q k) refl (subst IsSome (holds q) h);
      behind = λ q h. behind q (eq_by_cmp path_cmp q k) refl (subst IsSome (holds q) h);
    }
      where
        there : (q : Names) (b : Bool) → eq_by_cmp path_cmp q k ≡ b → IsSome (cond b (Some bytes) (get m.files q)) → IsSome (get f (root ++ q))
        there q true i h = ap (λ p. is_some (get f (root ++ p))) (same_path q k i) ∙ is
        there q false i h = placed.there q h

        behind : (q : Names) (b : Bool) → eq_by_cmp path_cmp q k ≡ b → IsSome (cond b (Some bytes) (get m.files q)) → find path_cmp (root ++ q) es ≡ None
        behind q true i h = ap (λ p. find path_cmp (root ++ p) es) (same_path q k i) ∙ new
        behind q false i h = sym (found_later q i) ∙ placed.behind q h

    copies_next : (after : Made) → Copies es next after → Copies ((root ++ k, bytes) ∷ es) m after
    copies_next after c = record { quiet = c.quiet; files = λ q. c.files q ∙ by q (eq_by_cmp path_cmp q k) refl }
      where
        by : (q : Names) (b : Bool) → eq_by_cmp path_cmp q k ≡ b → or_else (find path_cmp (root ++ q) es) (get (insert m.files k bytes) q) ≡ or_else (find path_cmp (root ++ q) ((root ++ k, bytes) ∷ es)) (get m.files q)
        by q true i = let same : q ≡ k = same_path q k i in
            ap (λ x. or_else x (get (insert m.files k bytes) q)) (ap (λ p. find path_cmp (root ++ p) es) same ∙ new)
            ∙ holds q ∙ ap (λ b. cond b (Some bytes) (get m.files q)) i
            ∙ sym (ap (λ x. or_else x (get m.files q)) (found_here q (sym same)))
        by q false i = ap (or_else (find path_cmp (root ++ q) es)) (holds q ∙ ap (λ b. cond b (Some bytes) (get m.files q)) i)
            ∙ sym (ap (λ x. or_else x (get m.files q)) (found_later q i))

  place : (es : Entries) (m : Made) → T (is_sorted path_cmp es) → AllByRecursion (λ e. (is_below root e.0 ≡ true) × IsSome (get f e.0)) es → Placed es m → Copies es m (fold (with_copy root) m es)
  place [] m sorted all placed = record { quiet = placed.quiet; files = λ q. refl }
  place (e ∷ es) m sorted all placed =
      let s = split root e.0 all.0.0 in
      let new : find path_cmp (root ++ s.name ∷ s.rest) es ≡ None = subst (λ p. find path_cmp p es ≡ None) s.is (missing e.0 es (first_part _ _ sorted)) in
      let is : IsSome (get f (root ++ s.name ∷ s.rest)) = subst (λ p. IsSome (get f p)) s.is all.0.1 in
      let here : Placed ((root ++ s.name ∷ s.rest, e.1) ∷ es) m = subst (λ p. Placed ((p, e.1) ∷ es) m) s.is placed in
      let later = place es (next s.name s.rest e.1 es m new is here) (second_part _ _ sorted) all.1 (placed_next s.name s.rest e.1 es m new is here) in
      subst (λ p. Copies ((p, e.1) ∷ es) m (fold (with_copy root) (with_copy root m (p, e.1)) es)) (sym s.is)
      (subst (λ x. Copies ((root ++ s.name ∷ s.rest, e.1) ∷ es) m (fold (with_copy root) x es)) (sym (is_next s.name s.rest e.1 es m new is here))
      (copies_next s.name s.rest e.1 es m new is here _ later))

-- ---- the files of a root

still : (b : Bool) (v : List ℕ) (x : Option (List ℕ)) → IsSome x → IsSome (cond b (Some v) x)
still true v x h = refl
still false v x h = h

each : {X : Type 0} (P Q : X → Type 0) → ((x : X) → P x → Q x) → (xs : List X) → AllByRecursion P xs → AllByRecursion Q xs
each P Q f [] h = tt
each P Q f (x ∷ xs) h = (f x h.0, each P Q f xs h.1)

own : (es : Entries) → AllByRecursion (λ x. IsSome (find path_cmp x.0 es)) es
own [] = tt
own (e ∷ es) = (
  ap (λ b. is_some (cond b (Some e.1) (find path_cmp e.0 es))) (path_is e.0),
  each (λ x. IsSome (find path_cmp x.0 es)) (λ x. IsSome (find path_cmp x.0 (e ∷ es))) (λ x h. still (eq_by_cmp path_cmp x.0 e.0) e.1 (find path_cmp x.0 es) h) es (own es),
)

rooted_all : (root : Names) (es : Entries) → AllByRecursion (λ x. is_prefix root x.0 ≡ true) (filter (λ e. is_prefix root e.0) es)
rooted_all root [] = tt
rooted_all root (e ∷ es) = by (is_prefix root e.0) refl (rooted_all root es)
  where
    by : (b : Bool) → is_prefix root e.0 ≡ b → AllByRecursion (λ x. is_prefix root x.0 ≡ true) (filter (λ e. is_prefix root e.0) es)
        → AllByRecursion (λ x. is_prefix root x.0 ≡ true) (cond b (e ∷ filter (λ e. is_prefix root e.0) es) (filter (λ e. is_prefix root e.0) es))
    by true i h = (i, h)
    by false i h = h

two : {X : Type 0} (P Q : X → Type 0) (xs : List X) → AllByRecursion P xs → AllByRecursion Q xs → AllByRecursion (λ x. P x × Q x) xs
two P Q [] h g = tt
two P Q (x ∷ xs) h g = ((h.0, g.0), two P Q xs h.1 g.1)

record Rest (root q : Names) : Type 0 where
  rest : Names
  is : q ≡ root ++ rest

rest_of : (root q : Names) → is_prefix root q ≡ true → Rest root q
rest_of [] q h = record { rest = q; is = refl }
rest_of (n ∷ root) [] h = cc
rest_of (n ∷ root) (m ∷ q) h =
    let parts = both (bytes_eq n m) (is_prefix root q) h in
    let r = rest_of root q parts.1 in
    record { rest = r.rest; is = λ i. sym (same_name n m parts.0) i ∷ r.is i }

below_it : (root : Names) (f : Files) → IsClear root f → (e : Names × List ℕ) → (is_prefix root e.0 ≡ true) × IsSome (find path_cmp e.0 (files_of_root root f))
    → (is_below root e.0 ≡ true) × IsSome (get f e.0)
below_it root f clear e h =
    let r = rest_of root e.0 h.0 in
    let there : IsSome (get f (root ++ r.rest)) = subst IsSome (seen root f r.rest) (subst (λ p. IsSome (find path_cmp p (files_of_root root f))) r.is h.1) in
    subst (λ p. (is_below root p ≡ true) × IsSome (get f p)) (sym r.is) (below r.rest there, there)
  where
    nothing_more : (p : Names) → p ++ [] ≡ p
    nothing_more [] = refl
    nothing_more (n ∷ p) = ap (λ p. n ∷ p) (nothing_more p)

    below : (r : Names) → IsSome (get f (root ++ r)) → is_below root (root ++ r) ≡ true
    below [] there = let none : IsSome {T = List ℕ} None = subst IsSome (ap (get f) (nothing_more root) ∙ clear.none) there in cc
    below (n ∷ r) there = below_append root n r

nothing_placed : (root : Names) (f : Files) (clear : IsClear root f) (es : Entries) → Placed root f clear es nothing_made
nothing_placed root f clear es = record { quiet = refl; there = λ q h. absurd (nowhere q h); behind = λ q h. absurd (nowhere q h) }
  where
    nowhere : (q : Names) → IsSome (get {X = List ℕ} {R = path_cmp} empty q) → ⊥
    nowhere q h = let none : IsSome {T = List ℕ} None = subst IsSome (get-empty path_cmp q) h in cc

copies : (root : Names) (f : Files) (clear : IsClear root f) → Copies root f clear (files_of_root root f) nothing_made (copied ((root, files_of_root root f) ∷ []))
copies root f clear = place root f clear (files_of_root root f) nothing_made (root_sorted root f)
    (each (λ x. (is_prefix root x.0 ≡ true) × IsSome (find path_cmp x.0 (files_of_root root f))) (λ x. (is_below root x.0 ≡ true) × IsSome (get f x.0)) (below_it root f clear) (files_of_root root f)
    (two (λ x. is_prefix root x.0 ≡ true) (λ x. IsSome (find path_cmp x.0 (files_of_root root f))) (files_of_root root f) (rooted_all root (entries f)) (own (files_of_root root f))))
    (nothing_placed root f clear (files_of_root root f))

-- each file is copied to its path from the root
pub clear_files : (root : Names) (f : Files) → IsClear root f → (n : List ℕ) (r : Names) → get (copied ((root, files_of_root root f) ∷ [])).files (n ∷ r) ≡ get f (root ++ n ∷ r)
clear_files root f clear n r = (copies root f clear).files (n ∷ r)
    ∙ ap (λ x. or_else x (get {X = List ℕ} {R = path_cmp} empty (n ∷ r))) (seen root f (n ∷ r)) ∙ by (get f (root ++ n ∷ r))
  where
    by : (x : Option (List ℕ)) → or_else x (get {X = List ℕ} {R = path_cmp} empty (n ∷ r)) ≡ x
    by None = get-empty path_cmp (n ∷ r)
    by (Some b) = refl

pub clear_problems : (root : Names) (f : Files) → IsClear root f → (copied ((root, files_of_root root f) ∷ [])).problems ≡ []
clear_problems root f clear = (copies root f clear).quiet
