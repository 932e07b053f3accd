-- The fresh workspace's tree is whole.
use Rattle.std.proofs.Common.{◌≡◌, ℕ, arith, ◌≢◌, ◌↔◌, false, true, [], ◌∷◌, length, refl, sym, ◌∙◌, subst}
use Rattle.std.specs.Prelude.{Option, Some, None, IfSome, IsSomeAnd}
use Rattle.std.specs.FinMap.{empty, get, get-insert, get-empty}
use Rattle.res_path.specs.Paths.{Names, path_cmp, parent, is_prefix}
use Rattle.res_path.specs.PathLaws.{path_cmp_total}
use Rattle.ws_elem.specs.declared.element.Element.{Element}
use Rattle.ws_elem.specs.declared.kind.Kind.TheVariants.{File, Project, Root}
use Rattle.ws_elem.specs.Elements.{bare}
use Rattle.ws_elem.specs.Trees.{Whole, fresh_tree}

abbrev root_alone : Names → Option Element
root_alone [] = Some (bare Root 1)
root_alone (name ∷ p) = None

pub get-fresh_tree : (p : Names) → get fresh_tree p ≡ root_alone p
get-fresh_tree [] = get-insert path_cmp_total empty [] (bare Root 1) []
get-fresh_tree (name ∷ p) = get-insert path_cmp_total empty [] (bare Root 1) (name ∷ p) ∙ get-empty path_cmp (name ∷ p)

no_project : Root ≡ Project → ⊥
no_project h = cc

no_length : (n : ℕ) → n ≡ 0 → n ≡ 1 → ⊥
no_length n h g = absurd (omega arith)

only_root : (p : Names) → IfSome (root_alone p) (λ e. e.kind ≡ Root → p ≡ [])
only_root [] = λ _. refl
only_root (name ∷ p) = tt

parents : (p : Names) → p ≢ [] → IfSome (root_alone p) (λ _. IsSomeAnd (get fresh_tree (parent p)) (λ e. e.kind ≢ File))
parents [] h = absurd (h refl)
parents (name ∷ p) h = tt

projects : (p : Names) → IfSome (root_alone p) (λ e. (e.kind ≡ Project) ↔ (length p ≡ 1))
projects [] = (λ h. absurd (no_project h), λ h. absurd (no_length 0 refl h))
projects (name ∷ p) = tt

closed : (p q : Names) → IfSome (root_alone p) (λ e. e.kind ≡ Project → e.opened ≡ false → is_prefix p q ≡ true → q ≢ p → get fresh_tree q ≡ None)
closed [] q = λ h. absurd (no_project h)
closed (name ∷ p) q = tt

nodes : (p q : Names) → IfSome (root_alone p) (λ e. IfSome (root_alone q) (λ f. e.node ≡ f.node → p ≡ q))
nodes [] [] = λ _. refl
nodes [] (name ∷ q) = tt
nodes (name ∷ p) q = tt

pub whole-fresh_tree : Whole fresh_tree
whole-fresh_tree = record {
  root = subst (λ x. IsSomeAnd x (λ e. e.kind ≡ Root)) (sym (get-fresh_tree [])) refl;
  only_root = λ p. subst (λ x. IfSome x (λ e. e.kind ≡ Root → p ≡ [])) (sym (get-fresh_tree p)) (only_root p);
  parents = λ p h. subst (λ x. IfSome x (λ _. IsSomeAnd (get fresh_tree (parent p)) (λ e. e.kind ≢ File))) (sym (get-fresh_tree p)) (parents p h);
  projects = λ p. subst (λ x. IfSome x (λ e. (e.kind ≡ Project) ↔ (length p ≡ 1))) (sym (get-fresh_tree p)) (projects p);
  closed = λ p q. subst (λ x. IfSome x (λ e. e.kind ≡ Project → e.opened ≡ false → is_prefix p q ≡ true → q ≢ p → get fresh_tree q ≡ None)) (sym (get-fresh_tree p)) (closed p q);
  nodes = λ p q. subst (λ x. IfSome x (λ e. IfSome (get fresh_tree q) (λ f. e.node ≡ f.node → p ≡ q))) (sym (get-fresh_tree p))
      (subst (λ y. IfSome (root_alone p) (λ e. IfSome y (λ f. e.node ≡ f.node → p ≡ q))) (sym (get-fresh_tree q)) (nodes p q));
}
