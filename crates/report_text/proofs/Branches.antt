-- What a tree has at or below a path.
use Rattle.std.proofs.Common.{◌≡◌, ℕ, Bool, true, false, cond, List, [], ◌∷◌, ◌++◌, map, refl, ap, ◌∙◌}
use Rattle.std.specs.Prelude.{Option, Some, None, filter}
use Rattle.std.specs.declared.cmp.Ordering.TheVariants.{Less}
use Rattle.std.specs.FinMap.{get, entries, find, get-entries}
use Rattle.std.specs.List.{AllByRecursion, flat_map}
use Rattle.std.specs.Ordering.{is_eq, ordering_reverse}
use Rattle.res_path.specs.Paths.{Names, path_cmp, is_prefix}
use Rattle.res_path.specs.PathLaws.{path_cmp_total}
use Rattle.res_path.proofs.Prefixes.{path_itself}
use Rattle.ws_elem.specs.Trees.{Tree, paths_below}
use Rattle.ws_elem.specs.declared.element.Element.{Element}
use Rattle.delta_kind.proofs.Rising.{Rises, all_over, keys_rise}
use Rattle.report_text.specs.Trees.{tree_line, found_line, tree_text}

abbrev Entries : Type 0
Entries = List (Names × Element)

-- each entry is found by its path
abbrev AllFound : Entries → Entries → Type 0
AllFound all es = AllByRecursion (λ e. find path_cmp e.0 all ≡ Some e.1) es

later : (e : Names × Element) (all es : Entries) → AllByRecursion (λ q. path_cmp e.0 q ≡ Less) (map (λ f. f.0) es) → AllFound all es → AllFound (e ∷ all) es
later e all [] over found = tt
later e all (f ∷ es) over found =
    (ap (λ o. cond (is_eq o) (Some e.1) (find path_cmp f.0 all)) (path_cmp_total.antisymm f.0 e.0 ∙ ap ordering_reverse over.0) ∙ found.0, later e all es over.1 found.1)

all_found : (l : Option Names) (es : Entries) → Rises l (map (λ e. e.0) es) → AllFound es es
all_found l [] up = tt
all_found l (e ∷ es) up =
    (ap (λ o. cond (is_eq o) (Some e.1) (find path_cmp e.0 es)) (path_itself e.0), later e es es (all_over e.0 (map (λ f. f.0) es) up.1) (all_found (Some e.0) es up.1))

lines_found : (base : Names) (all es : Entries) → AllFound all es
    → flat_map (λ q. found_line base q (find path_cmp q all)) (filter (is_prefix base) (map (λ e. e.0) es)) ≡ flat_map (tree_line base) (filter (λ e. is_prefix base e.0) es)
lines_found base all [] found = refl
lines_found base all (e ∷ es) found = by (is_prefix base e.0) (lines_found base all es found.1)
  where
    by : (b : Bool) → flat_map (λ q. found_line base q (find path_cmp q all)) (filter (is_prefix base) (map (λ e. e.0) es)) ≡ flat_map (tree_line base) (filter (λ e. is_prefix base e.0) es)
        → flat_map (λ q. found_line base q (find path_cmp q all)) (cond b (e.0 ∷ filter (is_prefix base) (map (λ e. e.0) es)) (filter (is_prefix base) (map (λ e. e.0) es)))
        ≡ flat_map (tree_line base) (cond b (e ∷ filter (λ e. is_prefix base e.0) es) (filter (λ e. is_prefix base e.0) es))
    by true rest = λ i. found_line base e.0 (found.0 i) ++ rest i
    by false rest = rest

same_lines : (f g : Names → List ℕ) → ((q : Names) → f q ≡ g q) → (ps : List Names) → flat_map f ps ≡ flat_map g ps
same_lines f g h [] = refl
same_lines f g h (p ∷ ps) = λ i. h p i ++ same_lines f g h ps i

pub branch_lines : (t : Tree) (base : Names) → flat_map (λ q. found_line base q (get t q)) (paths_below t base) ≡ tree_text t base
branch_lines t base =
    same_lines (λ q. found_line base q (get t q)) (λ q. found_line base q (find path_cmp q (entries t))) (λ q. ap (found_line base q) (get-entries t q)) (paths_below t base)
    ∙ lines_found base (entries t) (entries t) (all_found None (entries t) (keys_rise t))
