-- The tree with every closed project opened with what the shelf has below it.
use Rattle.std.proofs.Common.{◌≡◌, ◌≢◌, ℕ, Bool, true, false, cond, List, [], ◌∷◌, ◌++◌, map, refl, sym, ap, ◌∙◌, subst}
use Rattle.std.specs.Prelude.{Option, Some, IfSome}
use Rattle.std.specs.Option.{option_map, option_or}
use Rattle.std.specs.List.{AllByRecursion}
use Rattle.std.specs.FinMap.{get, entries, find, from_entries, get-entries, get-from_entries}
use Rattle.res_path.specs.Paths.{Names, path_cmp}
use Rattle.res_path.specs.PathLaws.{path_cmp_total}
use Rattle.ws_elem.specs.declared.element.Element.{Element}
use Rattle.ws_elem.specs.Trees.{Tree}
use Rattle.ws_elem.proofs.Cuts.{same_at}
use Rattle.op_kind.specs.Entries.{Entries}
use Rattle.op_kind.specs.Sound.{opened}
use Rattle.op_kind.proofs.Cases.{if_map}
use Rattle.op_kind.proofs.Looks.{is_at}
use Rattle.op_sound.proofs.SoundParts.{opened_node}
use Rattle.save_valid.specs.Rules.{AllDiffer, nodes_of}

-- each of them open where it is a project
abbrev all_opened : Entries → Entries
all_opened = map (λ e. (e.0, opened e.1))

-- the tree with every project open, and what is on the shelf
abbrev pub joined : Tree → Tree → Tree
joined tree shelf = from_entries (all_opened (entries tree) ++ entries shelf)

-- ---- what stands at a path

find_append : (q : Names) (xs ys : Entries) → find path_cmp q (xs ++ ys) ≡ option_or (find path_cmp q xs) (find path_cmp q ys)
find_append q [] ys = refl
find_append q (e ∷ xs) ys = by (is_at q e.0) (find_append q xs ys)
  where
    by : (b : Bool) → find path_cmp q (xs ++ ys) ≡ option_or (find path_cmp q xs) (find path_cmp q ys)
        → cond b (Some e.1) (find path_cmp q (xs ++ ys)) ≡ option_or (cond b (Some e.1) (find path_cmp q xs)) (find path_cmp q ys)
    by true h = refl
    by false h = h

find_opened : (q : Names) (xs : Entries) → find path_cmp q (all_opened xs) ≡ option_map opened (find path_cmp q xs)
find_opened q [] = refl
find_opened q (e ∷ xs) = by (is_at q e.0) (find_opened q xs)
  where
    by : (b : Bool) → find path_cmp q (all_opened xs) ≡ option_map opened (find path_cmp q xs)
        → cond b (Some (opened e.1)) (find path_cmp q (all_opened xs)) ≡ option_map opened (cond b (Some e.1) (find path_cmp q xs))
    by true h = refl
    by false h = h

pub get-joined : (tree shelf : Tree) (q : Names) → get (joined tree shelf) q ≡ option_or (option_map opened (get tree q)) (get shelf q)
get-joined tree shelf q =
    get-from_entries path_cmp_total (all_opened (entries tree) ++ entries shelf) q
    ∙ find_append q (all_opened (entries tree)) (entries shelf)
    ∙ ap (λ x. option_or x (find path_cmp q (entries shelf))) (find_opened q (entries tree))
    ∙ (λ i. option_or (option_map opened (sym (get-entries tree q) i)) (sym (get-entries shelf q) i))

-- ---- node numbers

abbrev numbers : Entries → List ℕ
numbers = map (λ e. e.1.node)

found_in : (P : ℕ → Type 0) (q : Names) (es : Entries) → AllByRecursion P (numbers es) → IfSome (find path_cmp q es) (λ e. P e.node)
found_in P q [] h = tt
found_in P q (e ∷ es) h = by (is_at q e.0) (found_in P q es h.1)
  where
    by : (b : Bool) → IfSome (find path_cmp q es) (λ f. P f.node) → IfSome (cond b (Some e.1) (find path_cmp q es)) (λ f. P f.node)
    by true g = h.0
    by false g = g

-- elements with one number stand at one path
one_path : (p q : Names) (es : Entries) → AllDiffer (numbers es) → IfSome (find path_cmp p es) (λ e. IfSome (find path_cmp q es) (λ f. e.node ≡ f.node → p ≡ q))
one_path p q [] h = tt
one_path p q (x ∷ es) h = by (is_at p x.0) refl (is_at q x.0) refl (one_path p q es h.1)
  where
    by : (a : Bool) → is_at p x.0 ≡ a → (b : Bool) → is_at q x.0 ≡ b
        → IfSome (find path_cmp p es) (λ e. IfSome (find path_cmp q es) (λ f. e.node ≡ f.node → p ≡ q))
        → IfSome (cond a (Some x.1) (find path_cmp p es)) (λ e. IfSome (cond b (Some x.1) (find path_cmp q es)) (λ f. e.node ≡ f.node → p ≡ q))
    by true i true j g = λ _. same_at p x.0 i ∙ sym (same_at q x.0 j)
    by true i false j g = if_map (λ f. f.node ≢ x.1.node) (λ f. x.1.node ≡ f.node → p ≡ q) (find path_cmp q es) (λ f new same. absurd (new (sym same))) (found_in (λ n. n ≢ x.1.node) q es h.0)
    by false i true j g = if_map (λ e. e.node ≢ x.1.node) (λ e. e.node ≡ x.1.node → p ≡ q) (find path_cmp p es) (λ e new same. absurd (new same)) (found_in (λ n. n ≢ x.1.node) p es h.0)
    by false i false j g = g

numbers_joined : (xs ys : Entries) → numbers (all_opened xs ++ ys) ≡ numbers xs ++ numbers ys
numbers_joined [] ys = refl
numbers_joined (e ∷ xs) ys = λ i. opened_node e.1 i ∷ numbers_joined xs ys i

-- its node numbers differ where those of both do
pub nodes_joined : (tree shelf : Tree) → AllDiffer (nodes_of tree ++ nodes_of shelf)
    → (p q : Names) → IfSome (get (joined tree shelf) p) (λ e. IfSome (get (joined tree shelf) q) (λ f. e.node ≡ f.node → p ≡ q))
nodes_joined tree shelf differ p q =
    subst (λ (x : Option Element). IfSome x (λ e. IfSome (get (joined tree shelf) q) (λ f. e.node ≡ f.node → p ≡ q))) (sym (get-from_entries path_cmp_total all p))
    (subst (λ (y : Option Element). IfSome (find path_cmp p all) (λ e. IfSome y (λ f. e.node ≡ f.node → p ≡ q))) (sym (get-from_entries path_cmp_total all q))
    (one_path p q all (subst AllDiffer (sym (numbers_joined (entries tree) (entries shelf))) differ)))
  where
    all : Entries
    all = all_opened (entries tree) ++ entries shelf
