-- A table from node to path.
use Rattle.std.proofs.Common.{◌≡◌, ℕ, ◌+◌, ◌<◌, Bool, true, false, cond, List, [], ◌∷◌, ◌++◌, ◌||◌, map, length, drop, get_or, drop-cons, add-one, refl, sym, ap, ◌∙◌, subst, rules}
use Rattle.std.specs.Prelude.{Option, Some, None, is_some, ◌==◌}
use Rattle.std.specs.Option.{option_or, option_and_then}
use Rattle.std.specs.List.{AllByRecursion}
use Rattle.std.specs.FinMap.{FinMap, get, insert, empty, find, from_entries, get-insert, get-from_entries, get-empty, same_map, nat_cmp-IsAntisymmetric}
use Rattle.std.specs.Ordering.{nat_cmp, eq_by_cmp}
use Rattle.std.specs.Cmp.{nat_cmp_total, eq_by_cmp_equiv, unsigned_tied}
use Rattle.std.specs.BTreeMap.{is_at}
use Rattle.std.specs.Map.{lookup}
use Rattle.res_path.specs.Paths.{Names}
use Rattle.delta_kind.specs.declared.row.Row.{Row}
use Rattle.delta_kind.specs.declared.row.Turn.{Turn}
use Rattle.delta_kind.specs.Rows.{is_number}
use Rattle.delta_kind.specs.Rows.{Rows, Sides, shown, turned, place_in, node_by}
use Rattle.delta_kind.specs.Inside.Passes.{has_turn, new_above, untouched, nodes_from}
use Rattle.delta_kind.specs.Deltas.{node_of}
use Rattle.delta_kind.specs.declared.node.DeltaNode.{DeltaNode}
use Rattle.delta_kind.specs.declared.row.Turn.TheVariants.{Lost, Gained}
use Rattle.delta_kind.specs.Inside.Tables.{kept_node, kept_place, known, Serves}

find_is : (es : List (ℕ × Names)) (q : ℕ) → find nat_cmp q es ≡ lookup (is_at (nat_cmp q)) es
find_is [] q = refl
find_is (e ∷ es) q = ap (cond (is_at (nat_cmp q) e.0) (Some e.1)) (find_is es q)

pub get_is : (es : List (ℕ × Names)) (q : ℕ) → get (from_entries {R = nat_cmp} es) q ≡ lookup (is_at (nat_cmp q)) es
get_is es q = get-from_entries nat_cmp_total es q ∙ find_is es q

pub one_put : (es fs : List (ℕ × Names)) (n : ℕ) (p : Names) → ((q : ℕ) → lookup (is_at (nat_cmp q)) fs ≡ cond (is_at (nat_cmp n) q) (Some p) (lookup (is_at (nat_cmp q)) es))
    → from_entries {R = nat_cmp} fs ≡ insert (from_entries es) n p
one_put es fs n p h = same_map nat_cmp_total nat_cmp-IsAntisymmetric _ _ (λ q.
    get_is fs q ∙ h q ∙ ap (λ b. cond b (Some p) (lookup (is_at (nat_cmp q)) es)) ((eq_by_cmp_equiv nat_cmp_total).symm n q)
    ∙ sym (get-insert nat_cmp_total (from_entries es) n p q ∙ ap (cond (eq_by_cmp nat_cmp q n) (Some p)) (get_is es q)))

number_tie : (n k : ℕ) → eq_by_cmp nat_cmp n k ≡ (k == n)
number_tie n k = search (rules, unsigned_tied)

same_number : (k n : ℕ) → (k == n) ≡ true → k ≡ n
same_number k n h = search (rules, h)

equal_itself : (n : ℕ) → (n == n) ≡ true
equal_itself n = search rules

or_none : (x : Option Names) → x ≡ option_or x None
or_none None = refl
or_none (Some p) = refl

-- the table, and after it the rows that are left, give the first path of all rows
abbrev pub Keeping : Turn → Rows → Rows → FinMap nat_cmp Names → Type 0
Keeping turn all rest m = (n : ℕ) → option_or (get m n) (place_in turn rest n) ≡ place_in turn all n

by_test : (m : FinMap nat_cmp Names) (p : Names) (left all : Option Names) (k n : ℕ) → get m k ≡ None → (b : Bool) → (k == n) ≡ b
    → option_or (get m n) (cond b (Some p) left) ≡ all → option_or (cond b (Some p) (get m n)) left ≡ all
by_test m p left all k n is true t g = sym (ap (λ x. option_or x (Some p)) (ap (get m) (sym (same_number k n t)) ∙ is)) ∙ g
by_test m p left all k n is false t g = g

by_there : (m : FinMap nat_cmp Names) (p q : Names) (left all : Option Names) (k n : ℕ) → get m k ≡ Some q → (b : Bool) → (k == n) ≡ b
    → option_or (get m n) (cond b (Some p) left) ≡ all → option_or (get m n) left ≡ all
by_there m p q left all k n is true t g =
    let here : get m n ≡ Some q = ap (get m) (sym (same_number k n t)) ∙ is in
    ap (λ x. option_or x left) here ∙ sym (ap (λ x. option_or x (Some p)) here) ∙ g
by_there m p q left all k n is false t g = g

by_node : (m : FinMap nat_cmp Names) (p : Names) (left all : Option Names) (k n : ℕ) (was : Option Names) → get m k ≡ was
    → option_or (get m n) (cond (k == n) (Some p) left) ≡ all → option_or (get (kept_node was m p k) n) left ≡ all
by_node m p left all k n None is g =
    ap (λ x. option_or x left) (get-insert nat_cmp_total m k p n ∙ ap (λ b. cond b (Some p) (get m n)) (number_tie n k))
    ∙ by_test m p left all k n is (k == n) refl g
by_node m p left all k n (Some q) is g = by_there m p q left all k n is (k == n) refl g

by_turn : (m : FinMap nat_cmp Names) (p : Names) (left all : Option Names) (n : ℕ) (x : Option ℕ)
    → option_or (get m n) (cond (is_number n x) (Some p) left) ≡ all → option_or (get (kept_place m p x) n) left ≡ all
by_turn m p left all n None g = g
by_turn m p left all n (Some k) g = by_node m p left all k n (get m k) refl g

pub keeping_steps : (turn : Turn) (all : Rows) (row : Names × Sides) (rest : Rows) (m : FinMap nat_cmp Names) → Keeping turn all (row ∷ rest) m → Keeping turn all rest (kept_place m row.0 (turned turn row.1))
keeping_steps turn all row rest m h n = by_turn m row.0 (place_in turn rest n) (place_in turn all n) n (turned turn row.1) (h n)

pub keeping_begins : (turn : Turn) (all : Rows) → Keeping turn all all empty
keeping_begins turn all n = ap (λ x. option_or x (place_in turn all n)) (get-empty nat_cmp n)

pub keeping_ends : (turn : Turn) (all : Rows) (m : FinMap nat_cmp Names) → Keeping turn all [] m → (n : ℕ) → get m n ≡ place_in turn all n
keeping_ends turn all m h n = or_none (get m n) ∙ h n

-- the same of the numbers of another table
abbrev pub KeepingKnown : FinMap nat_cmp Names → Turn → Rows → Rows → FinMap nat_cmp Names → Type 0
KeepingKnown k turn all rest m = (n : ℕ) (p : Names) → get k n ≡ Some p → option_or (get m n) (place_in turn rest n) ≡ place_in turn all n

-- a number of the table is known
known_same : (k : FinMap nat_cmp Names) (n : ℕ) (p : Names) → get k n ≡ Some p → (x : Option ℕ) → is_number n (known k x) ≡ is_number n x
known_same k n p here None = refl
known_same k n p here (Some m) = by (get k m) refl (m == n) refl
  where
    by : (r : Option Names) → get k m ≡ r → (b : Bool) → (m == n) ≡ b → is_number n (cond (is_some r) (Some m) None) ≡ (m == n)
    by (Some q) i b j = refl
    by None i false j = sym j
    by None i true j = let gone : None ≡ Some p = sym i ∙ ap (get k) (same_number m n j) ∙ here in cc

pub known_steps : (k : FinMap nat_cmp Names) (turn : Turn) (all : Rows) (row : Names × Sides) (rest : Rows) (m : FinMap nat_cmp Names) → KeepingKnown k turn all (row ∷ rest) m
    → KeepingKnown k turn all rest (kept_place m row.0 (known k (turned turn row.1)))
known_steps k turn all row rest m h n p here = by_turn m row.0 (place_in turn rest n) (place_in turn all n) n (known k (turned turn row.1))
    (ap (λ b. option_or (get m n) (cond b (Some row.0) (place_in turn rest n))) (known_same k n p here (turned turn row.1)) ∙ h n p here)

pub known_begins : (k : FinMap nat_cmp Names) (turn : Turn) (all : Rows) → KeepingKnown k turn all all empty
known_begins k turn all n p here = keeping_begins turn all n

pub known_ends : (k : FinMap nat_cmp Names) (turn : Turn) (all : Rows) (m : FinMap nat_cmp Names) → KeepingKnown k turn all [] m → (n : ℕ) (p : Names) → get k n ≡ Some p → get m n ≡ place_in turn all n
known_ends k turn all m h n p here = or_none (get m n) ∙ h n p here

-- the rows from an index on
next_row : (rows : List Row) (i : ℕ) (row : Row) → i < length rows → row ≡ get_or rows i row → drop i rows ≡ row ∷ drop (i + 1) rows
next_row rows i row h is = drop-cons rows i row h ∙ (λ j. sym is j ∷ drop (sym (add-one i) j) rows)

pub keeping_row : (turn : Turn) (rows : List Row) (i : ℕ) (row : Row) (m new : FinMap nat_cmp Names) (number : Option ℕ) → i < length rows → row ≡ get_or rows i row
    → Keeping turn (map shown rows) (map shown (drop i rows)) m → new ≡ kept_place m (shown row).0 number → number ≡ turned turn (shown row).1
    → Keeping turn (map shown rows) (map shown (drop (i + 1) rows)) new
keeping_row turn rows i row m new number h is held made found =
    subst (Keeping turn (map shown rows) (map shown (drop (i + 1) rows))) (sym (made ∙ ap (kept_place m (shown row).0) found))
    (keeping_steps turn (map shown rows) (shown row) (map shown (drop (i + 1) rows)) m (subst (λ rs. Keeping turn (map shown rows) (map shown rs) m) (next_row rows i row h is) held))

pub known_row : (k : FinMap nat_cmp Names) (turn : Turn) (rows : List Row) (i : ℕ) (row : Row) (m new : FinMap nat_cmp Names) (number : Option ℕ) → i < length rows → row ≡ get_or rows i row
    → KeepingKnown k turn (map shown rows) (map shown (drop i rows)) m → new ≡ kept_place m (shown row).0 number → number ≡ known k (turned turn (shown row).1)
    → KeepingKnown k turn (map shown rows) (map shown (drop (i + 1) rows)) new
known_row k turn rows i row m new number h is held made found =
    subst (KeepingKnown k turn (map shown rows) (map shown (drop (i + 1) rows))) (sym (made ∙ ap (kept_place m (shown row).0) found))
    (known_steps k turn (map shown rows) (shown row) (map shown (drop (i + 1) rows)) m (subst (λ rs. KeepingKnown k turn (map shown rows) (map shown rs) m) (next_row rows i row h is) held))

-- ---- what serves a pass

all_rows : (P Q : Names × Sides → Type 0) (rows : Rows) → ((row : Names × Sides) → P row → Q row) → AllByRecursion P rows → AllByRecursion Q rows
all_rows P Q [] f h = tt
all_rows P Q (row ∷ rows) f h = (f row h.0, all_rows P Q rows f h.1)

-- a node that a row turns has a first place
abbrev HasPlace : Turn → Rows → Names × Sides → Type 0
HasPlace turn rows row = (n : ℕ) → turned turn row.1 ≡ Some n → (p : Names) × (place_in turn rows n ≡ Some p)

places_there : (turn : Turn) (rows : Rows) → AllByRecursion (HasPlace turn rows) rows
places_there turn [] = tt
places_there turn (r ∷ rows) = (first, all_rows (HasPlace turn rows) (HasPlace turn (r ∷ rows)) rows later (places_there turn rows))
  where
    first : HasPlace turn (r ∷ rows) r
    first n is = (r.0, ap (λ b. cond b (Some r.0) (place_in turn rows n)) (ap (is_number n) is ∙ equal_itself n))

    later : (row : Names × Sides) → HasPlace turn rows row → HasPlace turn (r ∷ rows) row
    later row h n is = by (is_number n (turned turn r.1)) (h n is)
      where
        by : (b : Bool) → (p : Names) × (place_in turn rows n ≡ Some p) → (p : Names) × (cond b (Some r.0) (place_in turn rows n) ≡ Some p)
        by true f = (r.0, refl)
        by false f = f

pub tables_serve : (l g : FinMap nat_cmp Names) (rows : Rows) → ((n : ℕ) → get l n ≡ place_in Lost rows n) → ((n : ℕ) (p : Names) → get l n ≡ Some p → get g n ≡ place_in Gained rows n) → Serves (get l) (get g) rows
tables_serve l g rows h k = all_rows (HasPlace Lost rows) _ rows each (places_there Lost rows)
  where
    gained : (row : Names × Sides) → HasPlace Lost rows row → (x : Option ℕ) → turned Lost row.1 ≡ x → option_and_then (get g) x ≡ option_and_then (place_in Gained rows) x
    gained row f None is = refl
    gained row f (Some n) is = let there = f n is in k n there.0 (h n ∙ there.1)

    each : (row : Names × Sides) → HasPlace Lost rows row → node_by (get l) (get g) row.0 row.1 ≡ node_by (place_in Lost rows) (place_in Gained rows) row.0 row.1
    each row f = λ i. node_of row.0 row.1.0 row.1.1 (option_and_then (λ n. h n i) (turned Gained row.1)) (gained row f (turned Lost row.1) refl i)

-- no path of the rows turns a node this way
none_turned : (turn : Turn) (rows : Rows) → has_turn turn rows ≡ false → (n : ℕ) → place_in turn rows n ≡ None
none_turned turn [] h n = refl
none_turned turn (row ∷ rows) h n = by (turned turn row.1) h (none_turned turn rows)
  where
    by : (x : Option ℕ) → (is_some x || has_turn turn rows) ≡ false → (has_turn turn rows ≡ false → (m : ℕ) → place_in turn rows m ≡ None) → cond (is_number n x) (Some row.0) (place_in turn rows n) ≡ None
    by None i more = more i n
    by (Some m) i more = cc

all_none : (turn : Turn) (rows : Rows) → has_turn turn rows ≡ false → AllByRecursion (λ row. turned turn row.1 ≡ None) rows
all_none turn [] h = tt
all_none turn (row ∷ rows) h = by (turned turn row.1) h (all_none turn rows)
  where
    by : (x : Option ℕ) → (is_some x || has_turn turn rows) ≡ false → (has_turn turn rows ≡ false → AllByRecursion (λ row. turned turn row.1 ≡ None) rows) → (x ≡ None) × AllByRecursion (λ row. turned turn row.1 ≡ None) rows
    by None i more = (refl, more i)
    by (Some m) i more = cc

abbrev pub nowhere : ℕ → Option Names
nowhere = get (empty {R = nat_cmp})

-- places of no node, and so none
of_none : (f g : ℕ → Option Names) (x : Option ℕ) → x ≡ None → option_and_then f x ≡ option_and_then g x
of_none f g None i = refl
of_none f g (Some n) i = cc

-- places that the rows haven't, and so none
not_there : (turn : Turn) (rows : Rows) → has_turn turn rows ≡ false → (x : Option ℕ) → option_and_then nowhere x ≡ option_and_then (place_in turn rows) x
not_there turn rows h x = λ i. option_and_then (λ n. (get-empty nat_cmp n ∙ sym (none_turned turn rows h n)) i) x

pub nothing_gained : (rows : Rows) → has_turn Gained rows ≡ false → Serves nowhere nowhere rows
nothing_gained rows h = all_rows (λ row. turned Gained row.1 ≡ None) _ rows each (all_none Gained rows h)
  where
    each : (row : Names × Sides) → turned Gained row.1 ≡ None → node_by nowhere nowhere row.0 row.1 ≡ node_by (place_in Lost rows) (place_in Gained rows) row.0 row.1
    each row none = λ i. node_of row.0 row.1.0 row.1.1 (of_none nowhere (place_in Lost rows) (turned Gained row.1) none i) (not_there Gained rows h (turned Lost row.1) i)

pub nothing_lost : (rows : Rows) → has_turn Lost rows ≡ false → Serves nowhere nowhere rows
nothing_lost rows h = all_rows (λ row. turned Lost row.1 ≡ None) _ rows each (all_none Lost rows h)
  where
    each : (row : Names × Sides) → turned Lost row.1 ≡ None → node_by nowhere nowhere row.0 row.1 ≡ node_by (place_in Lost rows) (place_in Gained rows) row.0 row.1
    each row none = λ i. node_of row.0 row.1.0 row.1.1 (not_there Lost rows h (turned Gained row.1) i) (of_none nowhere (place_in Gained rows) (turned Lost row.1) none i)

-- tables without paths serve as such
pub nothing_kept : (l g : FinMap nat_cmp Names) (rows : Rows) → l ≡ empty → g ≡ empty → Serves nowhere nowhere rows → Serves (get l) (get g) rows
nothing_kept l g rows el eg h =
    subst (λ (l : FinMap nat_cmp Names). Serves (get l) (get g) rows) (sym el)
    (subst (λ (g : FinMap nat_cmp Names). Serves nowhere (get g) rows) (sym eg) h)

-- the pass tells the same by either
pub pass_same : (f g : Names → Sides → DeltaNode) (last : Option Names) (rows : Rows) → AllByRecursion (λ row. f row.0 row.1 ≡ g row.0 row.1) rows → nodes_from f last rows ≡ nodes_from g last rows
pass_same f g last [] h = refl
pass_same f g last (row ∷ rows) h = λ i. map untouched (new_above last row.0) ++ h.0 i ∷ pass_same f g (Some row.0) rows h.1 i
