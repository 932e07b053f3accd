-- Edits at nodes.
use Rattle.std.proofs.Common.{◌≡◌, ℕ, Bool, true, false, cond, ◌||◌, List, [], ◌∷◌, ◌++◌, length, drop, refl, sym, ap, ◌∙◌, subst}
use Rattle.std.specs.Prelude.{Option, Some, None, is_some}
use Rattle.std.specs.declared.cmp.Ordering.TheVariants.{Less}
use Rattle.std.specs.FinMap.{get, find}
use Rattle.std.specs.List.{AllByRecursion, list_any, flat_map}
use Rattle.std.specs.Ordering.{eq_by_cmp, is_eq}
use Rattle.res_path.specs.Paths.{Names, path_cmp, path_eq}
use Rattle.res_path.specs.PathLaws.{path_ties}
use Rattle.delta_kind.specs.declared.node.DeltaNode.{DeltaNode}
use Rattle.delta_kind.specs.Deltas.{InPathOrder, paths_of, node_with}
use Rattle.delta_kind.proofs.Rising.{Rises, all_over, sorted_rises}
use Rattle.builder_api.specs.Places.{is_below}
use Rattle.builder_api.specs.Files.{Files}
use Rattle.builder_api.specs.Edits.{Edit, edit_paths}
use Rattle.builder_api.proofs.Maps.{same_path, path_is, other_path}
use Rattle.builder_api.proofs.Places.{split, below_append, cancel}
use Rattle.std_kit.specs.Changes.{change_of, AreChangesAt}
use Rattle.std_kit.specs.Inside.Walks.{edit_if, edits_from, edits_at_nodes}
use Rattle.std_kit.proofs.Walks.{Once, absent, named, pairs, one, one_once, from_o}

paths_alone : (f : Names → List Edit) (nodes : List DeltaNode) → flat_map (λ node. f node.path) nodes ≡ flat_map f (paths_of nodes)
paths_alone f [] = refl
paths_alone f (node ∷ nodes) = ap (λ es. f node.path ++ es) (paths_alone f nodes)

has_node : (q : Names) (nodes : List DeltaNode) → list_any (path_eq q) (paths_of nodes) ≡ is_some (node_with q nodes)
has_node q [] = refl
has_node q (node ∷ nodes) = by (path_eq q node.path) (has_node q nodes)
  where
    by : (b : Bool) → list_any (path_eq q) (paths_of nodes) ≡ is_some (node_with q nodes) → (b || list_any (path_eq q) (paths_of nodes)) ≡ is_some (cond b (Some node) (node_with q nodes))
    by true h = refl
    by false h = h

none_here : (p : Names) (ps : List Names) → AllByRecursion (λ q. path_cmp p q ≡ Less) ps → list_any (path_eq p) ps ≡ false
none_here p [] h = refl
none_here p (q ∷ ps) h = ap (λ b. b || list_any (path_eq p) ps) (path_ties p q ∙ ap is_eq h.0) ∙ none_here p ps h.1

module _ (o root : Names) (view : Files) where
  abbrev change : Names → Option (Option (List ℕ))
  change k = change_of (get view (o ++ k)) (get view (root ++ k))

  record Along (ps : List Names) (edits : List Edit) : Type 0 where
    at : (n : List ℕ) (r : Names) → find path_cmp (n ∷ r) edits ≡ cond (list_any (path_eq (root ++ n ∷ r)) ps) (change (n ∷ r)) None
    empty : find path_cmp [] edits ≡ None
    once : Once (edit_paths edits)

  not_below : (p : Names) (ps : List Names) (rest : List Edit) → is_below root p ≡ false → Along ps rest → Along (p ∷ ps) rest
  not_below p ps rest h a = record {
    at = λ n r. a.at n r ∙ sym (ap (λ b. cond (b || list_any (path_eq (root ++ n ∷ r)) ps) (change (n ∷ r)) None)
        (path_ties (root ++ n ∷ r) p ∙ other_path (root ++ n ∷ r) p (λ same. let never : true ≡ false = sym (below_append root n r) ∙ ap (is_below root) same ∙ h in cc)));
    empty = a.empty;
    once = a.once;
  }

  at_path : (m : List ℕ) (s : Names) (ps : List Names) (rest : List Edit) → list_any (path_eq (root ++ m ∷ s)) ps ≡ false → Along ps rest
      → Along ((root ++ m ∷ s) ∷ ps) (edit_if (m ∷ s) (change (m ∷ s)) ++ rest)
  at_path m s ps rest new a = record { at = at; empty = one (m ∷ s) (change (m ∷ s)) rest [] (λ e. cc) ∙ a.empty; once = one_once (m ∷ s) (change (m ∷ s)) rest gone a.once }
    where
      gone : find path_cmp (m ∷ s) rest ≡ None
      gone = a.at m s ∙ ap (λ b. cond b (change (m ∷ s)) None) new

      at : (n : List ℕ) (r : Names) → find path_cmp (n ∷ r) (edit_if (m ∷ s) (change (m ∷ s)) ++ rest) ≡ cond (list_any (path_eq (root ++ n ∷ r)) ((root ++ m ∷ s) ∷ ps)) (change (n ∷ r)) None
      at n r = one (m ∷ s) (change (m ∷ s)) rest (n ∷ r) (λ same. ap (λ q. find path_cmp q rest) same ∙ gone) ∙ by (eq_by_cmp path_cmp (n ∷ r) (m ∷ s)) refl
        where
          by : (b : Bool) → eq_by_cmp path_cmp (n ∷ r) (m ∷ s) ≡ b
              → cond b (change (m ∷ s)) (find path_cmp (n ∷ r) rest) ≡ cond (path_eq (root ++ n ∷ r) (root ++ m ∷ s) || list_any (path_eq (root ++ n ∷ r)) ps) (change (n ∷ r)) None
          by true i = let here : n ∷ r ≡ m ∷ s = same_path (n ∷ r) (m ∷ s) i in
              ap change (sym here) ∙ sym (ap (λ b. cond (b || list_any (path_eq (root ++ n ∷ r)) ps) (change (n ∷ r)) None)
              (path_ties (root ++ n ∷ r) (root ++ m ∷ s) ∙ ap (λ k. eq_by_cmp path_cmp (root ++ k) (root ++ m ∷ s)) here ∙ path_is (root ++ m ∷ s)))
          by false i = a.at n r ∙ sym (ap (λ b. cond (b || list_any (path_eq (root ++ n ∷ r)) ps) (change (n ∷ r)) None)
              (path_ties (root ++ n ∷ r) (root ++ m ∷ s) ∙ other_path (root ++ n ∷ r) (root ++ m ∷ s) (λ same.
              let yes : eq_by_cmp path_cmp (n ∷ r) (m ∷ s) ≡ true = ap (λ k. eq_by_cmp path_cmp k (m ∷ s)) (cancel root (n ∷ r) (m ∷ s) same) ∙ path_is (m ∷ s) in
              let never : true ≡ false = sym yes ∙ i in cc)))

  along : (l : Option Names) (ps : List Names) → Rises l ps → Along ps (flat_map (edits_from o root view) ps)
  along l [] h = record { at = λ n r. refl; empty = refl; once = tt }
  along l (p ∷ ps) h = by (is_below root p) refl (along (Some p) ps h.1)
    where
      by : (b : Bool) → is_below root p ≡ b → Along ps (flat_map (edits_from o root view) ps)
          → Along (p ∷ ps) (cond b (edit_if (drop (length root) p) (change_of (get view (o ++ drop (length root) p)) (get view p))) [] ++ flat_map (edits_from o root view) ps)
      by false is next = not_below p ps _ is next
      by true is next = let s = split root p is in
          subst (λ q. Along (q ∷ ps) (edit_if (drop (length root) q) (change_of (get view (o ++ drop (length root) q)) (get view q)) ++ flat_map (edits_from o root view) ps)) (sym s.is)
          (subst (λ k. Along ((root ++ s.name ∷ s.rest) ∷ ps) (edit_if k (change_of (get view (o ++ k)) (get view (root ++ s.name ∷ s.rest))) ++ flat_map (edits_from o root view) ps)) (sym (from_o root (s.name ∷ s.rest)))
          (at_path s.name s.rest ps _ (subst (λ q. list_any (path_eq q) ps ≡ false) s.is (none_here p ps (all_over p ps h.1))) next))

  -- the edits at nodes in path order are the changes there
  pub at_nodes : (nodes : List DeltaNode) (edits : List Edit) → InPathOrder (paths_of nodes) → edits ≡ edits_at_nodes o root view nodes → AreChangesAt o root view nodes edits
  at_nodes nodes edits order is = subst (AreChangesAt o root view nodes) (sym (is ∙ paths_alone (edits_from o root view) nodes)) (record {
    at = λ n r. a.at n r ∙ ap (λ b. cond b (change (n ∷ r)) None) (has_node (root ++ n ∷ r) nodes);
    named = named (edit_paths (flat_map (edits_from o root view) (paths_of nodes))) (absent [] (flat_map (edits_from o root view) (paths_of nodes)) a.empty);
    once = pairs (edit_paths (flat_map (edits_from o root view) (paths_of nodes))) a.once;
  })
    where
      a : Along (paths_of nodes) (flat_map (edits_from o root view) (paths_of nodes))
      a = along None (paths_of nodes) (sorted_rises (paths_of nodes) order)
