-- Elements that are carried to another place, and copies of them.
use Rattle.std.proofs.Common.{◌≡◌, ℕ, ◌+◌, ◌≤◌, Bool, true, false, cond, ◌&&◌, [], ◌∷◌, ◌++◌, length, drop, T, refl, sym, ap, ◌∙◌, subst, arith}
use Rattle.std.specs.Prelude.{Some, None, IfSome, filter}
use Rattle.std.specs.Option.{option_map, option_or}
use Rattle.std.specs.FinMap.{get}
use Rattle.std.specs.FinMap.Entries.{below_all}
use Rattle.std.specs.Ordering.{is_lt}
use Rattle.std.proofs.Math.Seq.{drop-append_seam}
use Rattle.res_path.specs.Paths.{Names, path_cmp, is_prefix}
use Rattle.ws_elem.specs.Trees.{Tree, branch}
use Rattle.ws_elem.proofs.Cuts.{same_at}
use Rattle.op_kind.specs.Entries.{Entries}
use Rattle.op_kind.specs.Members.{put_all, rebased, carried}
use Rattle.op_kind.specs.Numbers.{stamps_of, stamps_of_all}
use Rattle.op_kind.specs.Effects.{renumbered, copies}
use Rattle.op_kind.proofs.PathsBelow.{never, not_true, prefix_is, prefix_front}
use Rattle.op_kind.proofs.Cases.{at_cond, or_none, if_map}
use Rattle.op_kind.proofs.Looks.{is_at, at_same, at_other, find_at, last_at, last_is, sorted, get-put_all}

-- ---- at another place

-- all are at or below p
abbrev pub AllBelow : Names → Entries → Type 0
AllBelow p [] = Unit {0}
AllBelow p (e ∷ es) = (is_prefix p e.0 ≡ true) × AllBelow p es

filter_below : (p : Names) (es : Entries) → AllBelow p (filter (λ e. is_prefix p e.0) es)
filter_below p [] = tt
filter_below p (e ∷ es) = at_cond (AllBelow p) (is_prefix p e.0) (e ∷ filter (λ g. is_prefix p g.0) es) (filter (λ g. is_prefix p g.0) es)
    (λ h. (h, filter_below p es)) (λ _. filter_below p es)

-- a path goes to `to` and back
pub rebased_back : (from to p : Names) → is_prefix from p ≡ true → rebased to from (rebased from to p) ≡ p
rebased_back from to p h = ap (λ s. from ++ s) (drop-append_seam to (drop (length from) p)) ∙ prefix_is from p h

same_test : (a b : Bool) → (a ≡ true → b ≡ true) → (b ≡ true → a ≡ true) → a ≡ b
same_test true b h g = sym (h refl)
same_test false b h g = sym (not_true b (λ e. never (sym (g e))))

meets : (from to q p : Names) → is_prefix from p ≡ true → is_prefix to q ≡ true → is_at q (rebased from to p) ≡ is_at (rebased to from q) p
meets from to q p h g = same_test (is_at q (rebased from to p)) (is_at (rebased to from q) p)
    (λ e. at_same (rebased to from q) p (ap (rebased to from) (same_at q (rebased from to p) e) ∙ rebased_back from to p h))
    (λ e. at_same q (rebased from to p) (sym (ap (rebased from to) (sym (same_at (rebased to from q) p e)) ∙ rebased_back to from q g)))

misses : (from to q p : Names) → is_prefix to q ≡ false → is_at q (rebased from to p) ≡ false
misses from to q p h = at_other q (rebased from to p) (λ e. never (sym (ap (is_prefix to) e ∙ prefix_front to (drop (length from) p)) ∙ h))

last_met : (from to q : Names) (es : Entries) → AllBelow from es → is_prefix to q ≡ true → last_at q (carried from to es) ≡ last_at (rebased to from q) es
last_met from to q [] h g = refl
last_met from to q (e ∷ es) h g = λ i. option_or (last_met from to q es h.1 g i) (cond (meets from to q e.0 h.0 g i) (Some e.1) None)

last_missed : (from to q : Names) (es : Entries) → is_prefix to q ≡ false → last_at q (carried from to es) ≡ None
last_missed from to q [] g = refl
last_missed from to q (e ∷ es) g = λ i. option_or (last_missed from to q es g i) (cond (misses from to q e.0 g i) (Some e.1) None)

-- what is put at `to` and below it, where nothing is, has come from `from`
pub get-carried : (t : Tree) (from to : Names) (es : Entries) → AllBelow from es → T (sorted es) → ((q : Names) → is_prefix to q ≡ true → get t q ≡ None) → (q : Names)
    → get (put_all t (carried from to es)) q ≡ cond (is_prefix to q) (find_at (rebased to from q) es) (get t q)
get-carried t from to es below order free q = get-put_all t (carried from to es) q
    ∙ at_cond (λ y. option_or (last_at q (carried from to es)) (get t q) ≡ y) (is_prefix to q) (find_at (rebased to from q) es) (get t q)
    (λ h. (λ i. option_or (last_met from to q es below h i) (free q h i)) ∙ or_none (last_at (rebased to from q) es) ∙ last_is (rebased to from q) es order)
    (λ h. ap (λ x. option_or x (get t q)) (last_missed from to q es h))

pub branch_below : (t : Tree) (p : Names) → AllBelow p (branch t p)
branch_below t p = filter_below p _

-- ---- copies

-- the node and the stamp that the copy of what is at q draws
abbrev pub node_at : ℕ → Entries → Names → ℕ
node_at n [] q = n
node_at n (e ∷ es) q = cond (is_at q e.0) n (node_at (n + 1) es q)

abbrev pub stamp_at : ℕ → Entries → Names → ℕ
stamp_at s [] q = s
stamp_at s (e ∷ es) q = cond (is_at q e.0) s (stamp_at (s + stamps_of e.1) es q)

pub find-copies : (n s : ℕ) (es : Entries) (q : Names) → find_at q (copies n s es) ≡ option_map (renumbered (node_at n es q) (stamp_at s es q)) (find_at q es)
find-copies n s [] q = refl
find-copies n s (e ∷ es) q = by (is_at q e.0) (find-copies (n + 1) (s + stamps_of e.1) es q)
  where
    by : (b : Bool)
        → find_at q (copies (n + 1) (s + stamps_of e.1) es) ≡ option_map (renumbered (node_at (n + 1) es q) (stamp_at (s + stamps_of e.1) es q)) (find_at q es)
        → cond b (Some (renumbered n s e.1)) (find_at q (copies (n + 1) (s + stamps_of e.1) es))
        ≡ option_map (renumbered (cond b n (node_at (n + 1) es q)) (cond b s (stamp_at (s + stamps_of e.1) es q))) (cond b (Some e.1) (find_at q es))
    by true h = refl
    by false h = h

pub copies_below : (p : Names) (n s : ℕ) (es : Entries) → AllBelow p es → AllBelow p (copies n s es)
copies_below p n s [] h = tt
copies_below p n s (e ∷ es) h = (h.0, copies_below p (n + 1) (s + stamps_of e.1) es h.1)

above_copies : (k : Names) (n s : ℕ) (es : Entries) → below_all path_cmp k es ≡ below_all path_cmp k (copies n s es)
above_copies k n s [] = refl
above_copies k n s (e ∷ es) = ap (λ b. is_lt (path_cmp k e.0) && b) (above_copies k (n + 1) (s + stamps_of e.1) es)

same_order : (n s : ℕ) (es : Entries) → sorted es ≡ sorted (copies n s es)
same_order n s [] = refl
same_order n s (e ∷ es) = λ i. above_copies e.0 (n + 1) (s + stamps_of e.1) es i && same_order (n + 1) (s + stamps_of e.1) es i

pub sorted-copies : (n s : ℕ) (es : Entries) → T (sorted es) → T (sorted (copies n s es))
sorted-copies n s es h = subst T (same_order n s es) h

-- so many numbers are drawn from n on, none below `low` and all below `high`
abbrev pub Draws : ℕ → ℕ → ℕ → ℕ → Type 0
Draws low n count high = (low ≤ n) × (n + count ≤ high)

-- nodes are drawn from n on, one for each element
pub node_range : (n : ℕ) (es : Entries) (q : Names) → IfSome (find_at q es) (λ _. Draws n (node_at n es q) 1 (n + length es))
node_range n [] q = tt
node_range n (e ∷ es) q = by (is_at q e.0) (node_range (n + 1) es q)
  where
    by : (b : Bool) → IfSome (find_at q es) (λ _. Draws (n + 1) (node_at (n + 1) es q) 1 (n + 1 + length es))
        → IfSome (cond b (Some e.1) (find_at q es)) (λ _. Draws n (cond b n (node_at (n + 1) es q)) 1 (n + length (e ∷ es)))
    by true h = (omega arith, omega arith)
    by false h = if_map (λ _. Draws (n + 1) (node_at (n + 1) es q) 1 (n + 1 + length es)) (λ _. Draws n (node_at (n + 1) es q) 1 (n + length (e ∷ es))) (find_at q es)
        (λ _ r. (omega arith, omega arith)) h

-- stamps are drawn from s on, as many for each element as it takes
pub stamp_range : (s : ℕ) (es : Entries) (q : Names) → IfSome (find_at q es) (λ g. Draws s (stamp_at s es q) (stamps_of g) (s + stamps_of_all es))
stamp_range s [] q = tt
stamp_range s (e ∷ es) q = by (is_at q e.0) (stamp_range (s + stamps_of e.1) es q)
  where
    by : (b : Bool) → IfSome (find_at q es) (λ g. Draws (s + stamps_of e.1) (stamp_at (s + stamps_of e.1) es q) (stamps_of g) (s + stamps_of e.1 + stamps_of_all es))
        → IfSome (cond b (Some e.1) (find_at q es)) (λ g. Draws s (cond b s (stamp_at (s + stamps_of e.1) es q)) (stamps_of g) (s + (stamps_of e.1 + stamps_of_all es)))
    by true h = (omega arith, omega arith)
    by false h = if_map (λ g. Draws (s + stamps_of e.1) (stamp_at (s + stamps_of e.1) es q) (stamps_of g) (s + stamps_of e.1 + stamps_of_all es))
        (λ g. Draws s (stamp_at (s + stamps_of e.1) es q) (stamps_of g) (s + (stamps_of e.1 + stamps_of_all es))) (find_at q es)
        (λ _ r. (omega arith, omega arith)) h

-- no two draw one node
pub node_apart : (n : ℕ) (es : Entries) (p q : Names) → IfSome (find_at p es) (λ _. IfSome (find_at q es) (λ _. node_at n es p ≡ node_at n es q → p ≡ q))
node_apart n [] p q = tt
node_apart n (e ∷ es) p q = by (is_at p e.0) refl (is_at q e.0) refl (node_apart (n + 1) es p q) (node_range (n + 1) es p) (node_range (n + 1) es q)
  where
    by : (b : Bool) → is_at p e.0 ≡ b → (c : Bool) → is_at q e.0 ≡ c
        → IfSome (find_at p es) (λ _. IfSome (find_at q es) (λ _. node_at (n + 1) es p ≡ node_at (n + 1) es q → p ≡ q))
        → IfSome (find_at p es) (λ _. Draws (n + 1) (node_at (n + 1) es p) 1 (n + 1 + length es))
        → IfSome (find_at q es) (λ _. Draws (n + 1) (node_at (n + 1) es q) 1 (n + 1 + length es))
        → IfSome (cond b (Some e.1) (find_at p es)) (λ _. IfSome (cond c (Some e.1) (find_at q es)) (λ _. cond b n (node_at (n + 1) es p) ≡ cond c n (node_at (n + 1) es q) → p ≡ q))
    by true h true g rest x y = λ _. same_at p e.0 h ∙ sym (same_at q e.0 g)
    by true h false g rest x y = if_map (λ _. Draws (n + 1) (node_at (n + 1) es q) 1 (n + 1 + length es)) (λ _. n ≡ node_at (n + 1) es q → p ≡ q) (find_at q es)
        (λ _ r same. absurd (omega arith)) y
    by false h true g rest x y = if_map (λ _. Draws (n + 1) (node_at (n + 1) es p) 1 (n + 1 + length es)) (λ _. node_at (n + 1) es p ≡ n → p ≡ q) (find_at p es)
        (λ _ r same. absurd (omega arith)) x
    by false h false g rest x y = rest

-- and no two that take stamps one stamp
pub stamp_apart : (s : ℕ) (es : Entries) (p q : Names)
    → IfSome (find_at p es) (λ e. IfSome (find_at q es) (λ g. 1 ≤ stamps_of e → 1 ≤ stamps_of g → stamp_at s es p ≡ stamp_at s es q → p ≡ q))
stamp_apart s [] p q = tt
stamp_apart s (e ∷ es) p q =
    by (s + stamps_of e.1) refl (is_at p e.0) refl (is_at q e.0) refl (stamp_apart (s + stamps_of e.1) es p q) (stamp_range (s + stamps_of e.1) es p) (stamp_range (s + stamps_of e.1) es q)
  where
    by : (t : ℕ) → s + stamps_of e.1 ≡ t → (b : Bool) → is_at p e.0 ≡ b → (c : Bool) → is_at q e.0 ≡ c
        → IfSome (find_at p es) (λ k. IfSome (find_at q es) (λ g. 1 ≤ stamps_of k → 1 ≤ stamps_of g → stamp_at t es p ≡ stamp_at t es q → p ≡ q))
        → IfSome (find_at p es) (λ k. Draws t (stamp_at t es p) (stamps_of k) (t + stamps_of_all es))
        → IfSome (find_at q es) (λ k. Draws t (stamp_at t es q) (stamps_of k) (t + stamps_of_all es))
        → IfSome (cond b (Some e.1) (find_at p es)) (λ k. IfSome (cond c (Some e.1) (find_at q es)) (λ g.
        1 ≤ stamps_of k → 1 ≤ stamps_of g → cond b s (stamp_at t es p) ≡ cond c s (stamp_at t es q) → p ≡ q))
    by t next true h true g rest x y = λ _ _ _. same_at p e.0 h ∙ sym (same_at q e.0 g)
    by t next true h false g rest x y = if_map (λ k. Draws t (stamp_at t es q) (stamps_of k) (t + stamps_of_all es))
        (λ k. 1 ≤ stamps_of e.1 → 1 ≤ stamps_of k → s ≡ stamp_at t es q → p ≡ q) (find_at q es) (λ _ r i _ same. absurd (omega arith)) y
    by t next false h true g rest x y = if_map (λ k. Draws t (stamp_at t es p) (stamps_of k) (t + stamps_of_all es))
        (λ k. 1 ≤ stamps_of k → 1 ≤ stamps_of e.1 → stamp_at t es p ≡ s → p ≡ q) (find_at p es) (λ _ r _ i same. absurd (omega arith)) x
    by t next false h false g rest x y = rest
