-- Whole trees, by what is tested of them.
use Rattle.std.proofs.Common.{◌≡◌, ◌≢◌, ◌↔◌, ℕ, zero, suc, ◌+◌, ◌<◌, Bool, true, false, cond, ◌&&◌, List, [], ◌∷◌, length, map, T, refl, sym, ap, ◌∙◌, subst, arith}
use Rattle.std.specs.Prelude.{Option, Some, None, IfSome, IsSomeAnd, IsTrue, Result, Ok, Err, IfOk, bytes_eq}
use Rattle.std.specs.declared.alloc.AllocError.{AllocError}
use Rattle.std.specs.declared.cmp.Ordering.{Ordering}
use Rattle.std.specs.declared.cmp.Ordering.TheVariants.{Less, Equal, Greater}
use Rattle.std.specs.List.{AllByRecursion}
use Rattle.std.specs.FinMap.{get, entries, find, get-entries, entries_sorted, is_sorted}
use Rattle.std.specs.FinMap.Entries.{below_all}
use Rattle.std.specs.Ordering.{is_eq, is_lt}
use Rattle.std.proofs.lemmas.Slice.Eq.{bytes_eq-Decides}
use Rattle.res_path.specs.Paths.{Names, path_cmp, parent, is_prefix}
use Rattle.res_path.specs.PathLaws.{path_cmp_total}
use Rattle.res_path.proofs.Prefixes.{path_cmp_exact, path_itself}
use Rattle.ws_elem.specs.declared.element.Element.{Element}
use Rattle.ws_elem.specs.declared.kind.Kind.TheVariants.{File, Project, Root}
use Rattle.ws_elem.specs.Trees.{Tree, Whole}
use Rattle.save_elem.proofs.Orders.{to_all}
use Rattle.save_valid.specs.Places.{IsOpen, IsPlaced}
use Rattle.save_valid.specs.Rules.{Each, AllDiffer, nodes_of}

abbrev Listed : Type 0
Listed = List (Names × Element)

abbrev nodes : Listed → List ℕ
nodes = map (λ e. e.1.node)

-- ---- node numbers

is_equal : (o : Ordering) → is_eq o ≡ true → o ≡ Equal
is_equal Less h = absurd cc
is_equal Equal h = refl
is_equal Greater h = absurd cc

same_path : (p q : Names) → is_eq (path_cmp p q) ≡ true → p ≡ q
same_path p q e = path_cmp_exact p q (is_equal _ e)

found_in : (P : ℕ → Type 0) (q : Names) (es : Listed) → AllByRecursion P (nodes es) → IfSome (find path_cmp q es) (λ f. P f.node)
found_in P q [] h = tt
found_in P q (x ∷ es) h = by (is_eq (path_cmp q x.0)) (found_in P q es h.1) where
  by : (b : Bool) → IfSome (find path_cmp q es) (λ f. P f.node) → IfSome (cond b (Some x.1) (find path_cmp q es)) (λ f. P f.node)
  by true g = h.0
  by false g = g

some_of : (x : Option Element) (P Q : Element → Type 0) → ((e : Element) → P e → Q e) → IfSome x P → IfSome x Q
some_of None P Q f h = tt
some_of (Some e) P Q f h = f e h

pairs : (p q : Names) (es : Listed) → AllDiffer (nodes es) → IfSome (find path_cmp p es) (λ e. IfSome (find path_cmp q es) (λ f. e.node ≡ f.node → p ≡ q))
pairs p q [] h = tt
pairs p q (x ∷ es) h = by (is_eq (path_cmp p x.0)) refl (is_eq (path_cmp q x.0)) refl (pairs p q es h.1)
  where
    by : (a : Bool) → is_eq (path_cmp p x.0) ≡ a → (b : Bool) → is_eq (path_cmp q x.0) ≡ b
        → IfSome (find path_cmp p es) (λ e. IfSome (find path_cmp q es) (λ f. e.node ≡ f.node → p ≡ q))
        → IfSome (cond a (Some x.1) (find path_cmp p es)) (λ e. IfSome (cond b (Some x.1) (find path_cmp q es)) (λ f. e.node ≡ f.node → p ≡ q))
    by true i true j g = λ _. same_path p x.0 i ∙ sym (same_path q x.0 j)
    by true i false j g = some_of (find path_cmp q es) (λ f. f.node ≢ x.1.node) (λ f. x.1.node ≡ f.node → p ≡ q) (λ f new same. absurd (new (sym same))) (found_in (λ n. n ≢ x.1.node) q es h.0)
    by false i true j g = some_of (find path_cmp p es) (λ e. e.node ≢ x.1.node) (λ e. e.node ≡ x.1.node → p ≡ q) (λ e new same. absurd (new same)) (found_in (λ n. n ≢ x.1.node) p es h.0)
    by false i false j g = g

abbrev NodesDiffer : Tree → Type 0
NodesDiffer t = (p q : Names) → IfSome (get t p) (λ e. IfSome (get t q) (λ f. e.node ≡ f.node → p ≡ q))

nodes_from : (t : Tree) → AllDiffer (nodes_of t) → NodesDiffer t
nodes_from t h p q =
    subst (λ (x : Option Element). IfSome x (λ e. IfSome (get t q) (λ f. e.node ≡ f.node → p ≡ q))) (sym (get-entries t p))
    (subst (λ (y : Option Element). IfSome (find path_cmp p (entries t)) (λ e. IfSome y (λ f. e.node ≡ f.node → p ≡ q))) (sym (get-entries t q)) (pairs p q (entries t) h))

one : (a b : Bool) → T (a && b) → T a
one true b h = tt
one false b h = h

two : (a b : Bool) → T (a && b) → T b
two true b h = h
two false b h = absurd h

never_below : (p q : Names) → T (is_lt (path_cmp p q)) → p ≡ q → ⊥
never_below p q low e = by (path_cmp p q) (ap (path_cmp p) (sym e) ∙ path_itself p) low where
  by : (o : Ordering) → o ≡ Equal → T (is_lt o) → ⊥
  by Less i h = let n : Less ≡ Equal = i in cc
  by Equal i h = h
  by Greater i h = h

abbrev Got : Tree → Listed → Type 0
Got t = AllByRecursion (λ e. get t e.0 ≡ Some e.1)

two_nodes : (t : Tree) → NodesDiffer t → (x y : Names × Element) → get t x.0 ≡ Some x.1 → get t y.0 ≡ Some y.1 → y.1.node ≡ x.1.node → x.0 ≡ y.0
two_nodes t h x y i j same =
    (subst (λ (o : Option Element). IfSome o (λ f. x.1.node ≡ f.node → x.0 ≡ y.0)) j
    (subst (λ (o : Option Element). IfSome o (λ e. IfSome (get t y.0) (λ f. e.node ≡ f.node → x.0 ≡ y.0))) i (h x.0 y.0))) (sym same)

later_differ : (t : Tree) → NodesDiffer t → (x : Names × Element) → get t x.0 ≡ Some x.1 → (es : Listed) → T (below_all path_cmp x.0 es) → Got t es → AllByRecursion (λ n. n ≢ x.1.node) (nodes es)
later_differ t h x i [] low g = tt
later_differ t h x i (y ∷ es) low g = ((λ same. never_below x.0 y.0 (one _ _ low) (two_nodes t h x y i g.0 same)), later_differ t h x i es (two _ _ low) g.1)

all_differ : (t : Tree) → NodesDiffer t → (es : Listed) → T (is_sorted path_cmp es) → Got t es → AllDiffer (nodes es)
all_differ t h [] s g = tt
all_differ t h (x ∷ es) s g = (later_differ t h x g.0 es (one _ _ s) g.1, all_differ t h es (two _ _ s) g.1)

itself_got : (t : Tree) (p : Names) (x : Option Element) → get t p ≡ x → IfSome x (λ e. get t p ≡ Some e)
itself_got t p None e = tt
itself_got t p (Some x) e = e

nodes_to : (t : Tree) → NodesDiffer t → AllDiffer (nodes_of t)
nodes_to t h = all_differ t h (entries t) (entries_sorted t) (to_all path_cmp_total (λ p e. get t p ≡ Some e) t (λ p. itself_got t p (get t p) refl))

-- ---- closed projects

some_and : (x : Option Element) (P : Element → Type 0) → IsSomeAnd x P → (e : Element) → x ≡ Some e → P e
some_and None P h e is = absurd h
some_and (Some x) P h e is = let same : x ≡ e = cc in subst P same h

some_if : (x : Option Element) (P : Element → Type 0) → IfSome x P → (e : Element) → x ≡ Some e → P e
some_if None P h e is = absurd (let n : None ≡ Some e = is in cc)
some_if (Some x) P h e is = let same : x ≡ e = cc in subst P same h

there : (x : Option Element) (P : Element → Type 0) → IsSomeAnd x P → (e : Element) × (x ≡ Some e) × P e
there None P h = absurd h
there (Some e) P h = (e, refl, h)

-- below a project's path, names more
short_parent : (name other : List ℕ) (p : Names) → length (parent (name ∷ other ∷ p)) < length (name ∷ other ∷ p)
short_parent name other [] = omega arith
short_parent name other (third ∷ p) = let h = short_parent other third p in omega (arith, h)

and_true : (a : Bool) → (a && true) ≡ true → a ≡ true
and_true true h = refl
and_true false h = absurd cc

named : (n m : List ℕ) → is_prefix (n ∷ []) (m ∷ []) ≡ true → n ≡ m
named n m h = (bytes_eq-Decides n m).0 (and_true (bytes_eq n m) h)

module _ (t : Tree) (placed : Each (IsPlaced t) t) (n : List ℕ) (closed : Element) (here : get t (n ∷ []) ≡ Some closed) (project : closed.kind ≡ Project) (shut : closed.opened ≡ false) where
  -- no parent is the closed project
  not_parent : (x : Option Element) → x ≡ Some closed → IsSomeAnd x IsOpen → ⊥
  not_parent x is h = let o = some_and x IsOpen h closed is in let f : false ≡ true = sym shut ∙ o.1 project in cc

  none_below : (len : ℕ) (q : Names) → length q < len → is_prefix (n ∷ []) q ≡ true → q ≢ n ∷ [] → (e : Element) → get t q ≡ Some e → ⊥
  none_below zero q lt pre ne e is = omega arith
  none_below (suc len) [] lt pre ne e is = let f : false ≡ true = pre in cc
  none_below (suc len) (m ∷ []) lt pre ne e is = ne (ap (λ (x : List ℕ). x ∷ []) (sym (named n m pre)))
  none_below (suc len) (m ∷ k ∷ []) lt pre ne e is =
      let h = some_if (get t (m ∷ k ∷ [])) (IsPlaced t (m ∷ k ∷ [])) (placed (m ∷ k ∷ [])) e is in
      not_parent (get t (m ∷ [])) (ap (λ (x : List ℕ). get t (x ∷ [])) (sym (named n m pre)) ∙ here) h.1
  none_below (suc len) (m ∷ k ∷ l ∷ q) lt pre ne e is =
      let h = some_if (get t (m ∷ k ∷ l ∷ q)) (IsPlaced t (m ∷ k ∷ l ∷ q)) (placed (m ∷ k ∷ l ∷ q)) e is in
      let up = there (get t (parent (m ∷ k ∷ l ∷ q))) IsOpen h.1 in
      let shorter = short_parent m k (l ∷ q) in
      none_below len (parent (m ∷ k ∷ l ∷ q)) (omega (arith, shorter)) pre (λ same. absurd (let no : m ∷ k ∷ parent (l ∷ q) ≡ n ∷ [] = same in cc)) up.0 up.1

  nothing_below : (q : Names) → is_prefix (n ∷ []) q ≡ true → q ≢ n ∷ [] → get t q ≡ None
  nothing_below q pre ne = by (get t q) refl where
    by : (x : Option Element) → get t q ≡ x → x ≡ None
    by None is = refl
    by (Some e) is = absurd (none_below (length q + 1) q (omega arith) pre ne e is)

-- ---- parents

same_name : (n : List ℕ) → bytes_eq n n ≡ true
same_name n = (bytes_eq-Decides n n).1 refl

above : (p : Names) → is_prefix (parent p) p ≡ true
above [] = refl
above (n ∷ []) = refl
above (n ∷ m ∷ p) = ap (λ (b : Bool). b && is_prefix (parent (m ∷ p)) (m ∷ p)) (same_name n) ∙ above (m ∷ p)

not_own : (n : List ℕ) (p : Names) → n ∷ p ≢ parent (n ∷ p)
not_own n [] e = cc
not_own n (m ∷ p) e = let h = short_parent n m p in omega (arith, ap length e, h)

no_names : (p : Names) → length p ≡ 0 → p ≡ []
no_names [] e = refl
no_names (n ∷ p) e = absurd (omega arith)

opened_or : (b : Bool) → (b ≡ false → ⊥) → b ≡ true
opened_or true h = refl
opened_or false h = absurd (h refl)

-- ---- all

abbrev IsRooted : Tree → Type 0
IsRooted t = IsSomeAnd (get t []) (λ e. e.kind ≡ Root)

closed_from : (t : Tree) → Each (IsPlaced t) t → (p q : Names) (e : Element) → get t p ≡ Some e → IsPlaced t p e → e.kind ≡ Project → e.opened ≡ false → is_prefix p q ≡ true → q ≢ p → get t q ≡ None
closed_from t h [] q e is placed kind shut pre ne = absurd (placed kind)
closed_from t h (n ∷ p) q e is placed kind shut pre ne =
    let alone : p ≡ [] = no_names p (let one = placed.2.0 kind in omega (arith, one)) in
    let path : n ∷ p ≡ n ∷ [] = ap (λ (x : Names). n ∷ x) alone in
    nothing_below t h n e (ap (get t) (sym path) ∙ is) kind shut q (subst (λ (x : Names). is_prefix x q ≡ true) path pre) (λ same. ne (same ∙ sym path))

if_got : (t : Tree) (p : Names) (x : Option Element) → get t p ≡ x → (Q : Element → Type 0) → ((e : Element) → get t p ≡ Some e → Q e) → IfSome x Q
if_got t p None is Q f = tt
if_got t p (Some e) is Q f = f e is

each_at : (is : Names → Element → Type 0) (t : Tree) → Each is t → (p : Names) (e : Element) → get t p ≡ Some e → is p e
each_at is t h p e got = some_if (get t p) (is p) (h p) e got

and_map : (x : Option Element) (P Q : Element → Type 0) → ((e : Element) → P e → Q e) → IsSomeAnd x P → IsSomeAnd x Q
and_map None P Q f h = h
and_map (Some e) P Q f h = f e h

root_only : (t : Tree) (p : Names) (e : Element) → IsPlaced t p e → e.kind ≡ Root → p ≡ []
root_only t [] e h kind = refl
root_only t (n ∷ p) e h kind = absurd (h.0 kind)

parent_there : (t : Tree) (p : Names) (e : Element) → IsPlaced t p e → p ≢ [] → IsSomeAnd (get t (parent p)) (λ f. f.kind ≢ File)
parent_there t [] e h ne = absurd (ne refl)
parent_there t (n ∷ p) e h ne = and_map (get t (parent (n ∷ p))) IsOpen (λ f. f.kind ≢ File) (λ f o. o.0) h.1

project_place : (t : Tree) (p : Names) (e : Element) → IsPlaced t p e → (e.kind ≡ Project) ↔ (length p ≡ 1)
project_place t [] e h = (λ kind. absurd (h kind), λ n. absurd (omega arith))
project_place t (n ∷ p) e h = h.2

pub whole_from : (t : Tree) → IsRooted t → Each (IsPlaced t) t → AllDiffer (nodes_of t) → Whole t
whole_from t root h differ = record {
  root = root;
  only_root = λ p. if_got t p (get t p) refl _ (λ e is. root_only t p e (each_at (IsPlaced t) t h p e is));
  parents = λ p ne. if_got t p (get t p) refl _ (λ e is. parent_there t p e (each_at (IsPlaced t) t h p e is) ne);
  projects = λ p. if_got t p (get t p) refl _ (λ e is. project_place t p e (each_at (IsPlaced t) t h p e is));
  closed = λ p q. if_got t p (get t p) refl _ (λ e is. closed_from t h p q e is (each_at (IsPlaced t) t h p e is));
  nodes = nodes_from t differ;
}

open_parent : (t : Tree) → Whole t → (n : List ℕ) (p : Names) (e : Element) → get t (n ∷ p) ≡ Some e → (x : Option Element) → get t (parent (n ∷ p)) ≡ x → IsSomeAnd x (λ f. f.kind ≢ File) → IsSomeAnd x IsOpen
open_parent t w n p e is None up h = h
open_parent t w n p e is (Some f) up h = (
  h,
  λ kind. opened_or f.opened (λ shut.
      let gone = some_if (get t (parent (n ∷ p))) (λ f. f.kind ≡ Project → f.opened ≡ false → is_prefix (parent (n ∷ p)) (n ∷ p) ≡ true → n ∷ p ≢ parent (n ∷ p) → get t (n ∷ p) ≡ None) (w.closed (parent (n ∷ p)) (n ∷ p)) f up in
      let none = gone kind shut (above (n ∷ p)) (not_own n p) in
      let no : None ≡ Some e = sym none ∙ is in cc),
)

placed_to : (t : Tree) → Whole t → (p : Names) (e : Element) → get t p ≡ Some e → IsPlaced t p e
placed_to t w [] e is = λ kind. let one = (some_if (get t []) (λ e. (e.kind ≡ Project) ↔ (length {A = List ℕ} [] ≡ 1)) (w.projects []) e is).0 kind in omega (arith, one)
placed_to t w (n ∷ p) e is = (
  λ kind. absurd (let top : n ∷ p ≡ [] = some_if (get t (n ∷ p)) (λ e. e.kind ≡ Root → n ∷ p ≡ []) (w.only_root (n ∷ p)) e is kind in cc),
  open_parent t w n p e is (get t (parent (n ∷ p))) refl (some_if (get t (n ∷ p)) (λ _. IsSomeAnd (get t (parent (n ∷ p))) (λ f. f.kind ≢ File)) (w.parents (n ∷ p) (λ top. absurd (let no : n ∷ p ≡ [] = top in cc))) e is),
  some_if (get t (n ∷ p)) (λ e. (e.kind ≡ Project) ↔ (length (n ∷ p) ≡ 1)) (w.projects (n ∷ p)) e is,
)

pub whole_placed : (t : Tree) → Whole t → Each (IsPlaced t) t
whole_placed t w p = if_got t p (get t p) refl (IsPlaced t p) (placed_to t w p)

pub whole_differ : (t : Tree) → Whole t → AllDiffer (nodes_of t)
whole_differ t w = nodes_to t w.nodes

pub whole_root : (t : Tree) → Whole t → IsRooted t
whole_root t w = w.root

pub no_whole : (t : Tree) (b : Bool) → b ≡ false → (IsTrue b ↔ Each (IsPlaced t) t) → IsTrue false ↔ Whole t
no_whole t b is h = (λ u. absurd (let f : false ≡ true = u in cc), λ w. absurd (let f : b ≡ true = h.1 (whole_placed t w) in cc))

pub decided : (t : Tree) (b c : Bool) (r : Result Bool AllocError) → b ≡ true → (IsTrue b ↔ IsRooted t) → c ≡ true → (IsTrue c ↔ Each (IsPlaced t) t) → IfOk r (λ d. IsTrue d ↔ AllDiffer (nodes_of t)) → IfOk r (λ d. IsTrue d ↔ Whole t)
decided t b c (Err e) one root two h r = tt
decided t b c (Ok d) one root two h r = (λ u. whole_from t (root.0 one) (h.0 two) (r.0 u), λ w. r.1 (whole_differ t w))
