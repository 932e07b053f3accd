-- Trees of marks, where one mark is forgotten.
use Rattle.std.proofs.Common.{◌≡◌, ◌≢◌, ◌+◌, ◌≤◌, ℕ, suc, arith, rules, Bool, true, false, cond, nat_eq, if◌then◌else◌, List, [], ◌∷◌, length, refl, sym, ap, ◌∙◌, subst}
use Rattle.std.specs.Prelude.{Option, Some, None, is_some, IfSome}
use Rattle.std.specs.FinMap.{get, entries, find, get-entries, get-insert, same_map, len, len-entries, len-insert}
use Rattle.std.specs.Ordering.{eq_by_cmp}
use Rattle.res_path.specs.Paths.{Names, path_cmp}
use Rattle.res_path.specs.PathLaws.{path_cmp_total}
use Rattle.res_path.proofs.Prefixes.{path_cmp_exact}
use Rattle.ws_elem.specs.Trees.{Tree}
use Rattle.ws_elem.specs.declared.element.Element.{Element}
use Rattle.elem_tree.specs.Layers.{Befores, Layer, undone, tree_before, tree_of_first, from_mark, records, over, joined, joined_into, without_mark}
use Rattle.elem_tree.proofs.Gathers.{or_now, or_or, get-undone}

-- ---- two layers as one

first_of : (b : Bool) (x : Option Element) (k l : Option (Option Element)) → cond b (Some x) (if is_some k then k else l) ≡ (if is_some (cond b (Some x) k) then cond b (Some x) k else l)
first_of true x k l = refl
first_of false x k l = refl

get-over_in : (later : Befores) (es : List (Names × Option Element)) (q : Names) → get (over later es) q ≡ (if is_some (find path_cmp q es) then find path_cmp q es else get later q)
get-over_in later [] q = refl
get-over_in later (e ∷ es) q =
    get-insert path_cmp_total (over later es) e.0 e.1 q ∙ ap (cond (eq_by_cmp path_cmp q e.0) (Some e.1)) (get-over_in later es q)
    ∙ first_of (eq_by_cmp path_cmp q e.0) e.1 (find path_cmp q es) (get later q)

pub get-over : (later earlier : Befores) (q : Names) → get (over later (entries earlier)) q ≡ (if is_some (get earlier q) then get earlier q else get later q)
get-over later earlier q = get-over_in later (entries earlier) q ∙ ap (λ k. if is_some k then k else get later q) (sym (get-entries earlier q))

undone_joined : (t : Tree) (k l : Layer) → undone t (joined k l).befores ≡ undone (undone t l.befores) k.befores
undone_joined t k l = same_map path_cmp_total path_cmp_exact _ _ (λ q. get-undone t (joined k l).befores q ∙ ap (λ x. or_now x (get t q)) (get-over l.befores k.befores q)
    ∙ sym (or_or (get k.befores q) (get l.befores q) (get t q)) ∙ ap (or_now (get k.befores q)) (sym (get-undone t l.befores q)) ∙ sym (get-undone (undone t l.befores) k.befores q))

-- ---- the trees of the other marks

before_joined : (t : Tree) (g : ℕ) (k : Layer) (ls : List Layer) → tree_before t (joined_into k g ls) ≡ tree_before t (k ∷ ls)
before_joined t g k [] = refl
before_joined t g k (l ∷ ls) = by (nat_eq g l.mark) (before_joined t g l ls)
  where
    by : (b : Bool) → tree_before t (joined_into l g ls) ≡ tree_before t (l ∷ ls) → tree_before t (if b then joined k l ∷ ls else k ∷ joined_into l g ls) ≡ tree_before t (k ∷ l ∷ ls)
    by true h = undone_joined (tree_before t ls) k l
    by false h = ap (λ u. undone u k.befores) h

same_number : (n k : ℕ) → nat_eq n k ≡ true → n ≡ k
same_number n k h = search (rules, h)

pub other_number : (n k : ℕ) → (n ≡ k → ⊥) → nat_eq n k ≡ false
other_number n k h = elim (nat_eq n k) as (λ b. nat_eq n k ≡ b → b ≡ false) [
  | true ↦ λ e. absurd (h (same_number n k e))
  | false ↦ λ e. refl
] refl

-- the mark's own layer is passed on the way to another mark
passes : (m g : ℕ) (l : Layer) (ls : List Layer) → m ≢ g → nat_eq g l.mark ≡ true → from_mark m (l ∷ ls) ≡ from_mark m ls
passes m g l ls h e = ap (λ b. if b then l ∷ ls else from_mark m ls) (other_number m l.mark (λ i. h (i ∙ sym (same_number g l.mark e))))

same_joined : (t : Tree) (m g : ℕ) (k : Layer) (ls : List Layer) → m ≢ g → tree_of_first t (from_mark m (joined_into k g ls)) ≡ tree_of_first t (from_mark m (k ∷ ls))
same_joined t m g k [] h = refl
same_joined t m g k (l ∷ ls) h = by (nat_eq g l.mark) refl (nat_eq m k.mark) (same_joined t m g l ls h)
  where
    by : (b : Bool) → nat_eq g l.mark ≡ b → (c : Bool) → tree_of_first t (from_mark m (joined_into l g ls)) ≡ tree_of_first t (from_mark m (l ∷ ls))
        → tree_of_first t (from_mark m (if b then joined k l ∷ ls else k ∷ joined_into l g ls)) ≡ tree_of_first t (if nat_eq m k.mark then k ∷ l ∷ ls else from_mark m (l ∷ ls))
    by true e c i = own (nat_eq m k.mark)
      where
        own : (c : Bool) → tree_of_first t (if c then joined k l ∷ ls else from_mark m ls) ≡ tree_of_first t (if c then k ∷ l ∷ ls else from_mark m (l ∷ ls))
        own true = ap Some (undone_joined (tree_before t ls) k l)
        own false = ap (tree_of_first t) (sym (passes m g l ls h e))
    by false e c i = own (nat_eq m k.mark)
      where
        own : (c : Bool) → tree_of_first t (if c then k ∷ joined_into l g ls else from_mark m (joined_into l g ls)) ≡ tree_of_first t (if c then k ∷ l ∷ ls else from_mark m (l ∷ ls))
        own true = ap (λ u. Some (undone u k.befores)) (before_joined t g l ls)
        own false = i

pub same_without : (t : Tree) (m g : ℕ) (ls : List Layer) → m ≢ g → tree_of_first t (from_mark m (without_mark g ls)) ≡ tree_of_first t (from_mark m ls)
same_without t m g [] h = refl
same_without t m g (l ∷ ls) h = by (nat_eq g l.mark) refl
  where
    by : (b : Bool) → nat_eq g l.mark ≡ b → tree_of_first t (from_mark m (if b then ls else joined_into l g ls)) ≡ tree_of_first t (from_mark m (l ∷ ls))
    by true e = ap (tree_of_first t) (sym (passes m g l ls h e))
    by false e = same_joined t m g l ls h

-- ---- how many layers and records are left

plus_zero : (n : ℕ) → n + 1 ≡ suc n
plus_zero n = omega arith

one_joined : (t : Tree) (g : ℕ) (k : Layer) (ls : List Layer) → IfSome (tree_of_first t (from_mark g ls)) (λ _. length (joined_into k g ls) + 1 ≡ length (k ∷ ls))
one_joined t g k [] = tt
one_joined t g k (l ∷ ls) = by (nat_eq g l.mark) (one_joined t g l ls)
  where
    more : (x : Option Tree) → IfSome x (λ _. length (joined_into l g ls) + 1 ≡ length (l ∷ ls)) → IfSome x (λ _. length (k ∷ joined_into l g ls) + 1 ≡ length (k ∷ l ∷ ls))
    more None h = tt
    more (Some u) h = omega (arith, h)

    by : (b : Bool) → IfSome (tree_of_first t (from_mark g ls)) (λ _. length (joined_into l g ls) + 1 ≡ length (l ∷ ls))
        → IfSome (tree_of_first t (if b then l ∷ ls else from_mark g ls)) (λ _. length (if b then joined k l ∷ ls else k ∷ joined_into l g ls) + 1 ≡ length (k ∷ l ∷ ls))
    by true h = omega arith
    by false h = more (tree_of_first t (from_mark g ls)) h

pub one_fewer : (t : Tree) (g : ℕ) (ls : List Layer) → IfSome (tree_of_first t (from_mark g ls)) (λ _. length (without_mark g ls) + 1 ≡ length ls)
one_fewer t g [] = tt
one_fewer t g (l ∷ ls) = by (nat_eq g l.mark)
  where
    by : (b : Bool) → IfSome (tree_of_first t (if b then l ∷ ls else from_mark g ls)) (λ _. length (if b then ls else joined_into l g ls) + 1 ≡ length (l ∷ ls))
    by true = plus_zero (length ls)
    by false = one_joined t g l ls

one_most : (b : Bool) (n m k : ℕ) → n ≤ m + k → cond b n (n + 1) ≤ suc m + k
one_most true n m k h = omega (arith, h)
one_most false n m k h = omega (arith, h)

over_most : (later : Befores) (es : List (Names × Option Element)) → len (over later es) ≤ length es + len later
over_most later [] = omega arith
over_most later (e ∷ es) = subst (λ n. n ≤ length (e ∷ es) + len later) (sym (len-insert path_cmp_total (over later es) e.0 e.1)) (one_most (is_some (get (over later es) e.0)) (len (over later es)) (length es) (len later) (over_most later es))

joined_most : (g : ℕ) (k : Layer) (ls : List Layer) → records (joined_into k g ls) ≤ records (k ∷ ls)
joined_most g k [] = omega arith
joined_most g k (l ∷ ls) = by (nat_eq g l.mark) (joined_most g l ls)
  where
    by : (b : Bool) → records (joined_into l g ls) ≤ records (l ∷ ls) → records (if b then joined k l ∷ ls else k ∷ joined_into l g ls) ≤ records (k ∷ l ∷ ls)
    by true h =
        let most = over_most l.befores (entries k.befores) in
        let same = len-entries k.befores in
        omega (arith, most, same)
    by false h = omega (arith, h)

pub no_more_records : (g : ℕ) (ls : List Layer) → records (without_mark g ls) ≤ records ls
no_more_records g [] = omega arith
no_more_records g (l ∷ ls) = by (nat_eq g l.mark)
  where
    by : (b : Bool) → records (if b then ls else joined_into l g ls) ≤ records (l ∷ ls)
    by true = omega arith
    by false = joined_most g l ls
