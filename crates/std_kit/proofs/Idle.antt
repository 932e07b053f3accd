-- Edits that a delta tells are the changes to what is made.
use Rattle.std.proofs.Common.{◌≡◌, ◌⊎◌, inl, inr, ℕ, Bool, true, false, cond, not, ◌&&◌, ◌||◌, List, [], ◌∷◌, ◌++◌, refl, sym, ap, ◌∙◌, subst, arith}
use Rattle.std.specs.Prelude.{Option, Some, None, is_some, IsSome, IfSome, IsSomeAnd}
use Rattle.std.specs.FinMap.{get}
use Rattle.std.specs.Cmp.Lexicographic.{bytes_decides}
use Rattle.std.specs.Option.{option_eq}
use Rattle.std.specs.Str.{bytes_eq}
use Rattle.res_path.specs.Paths.{Names, path_cmp, is_prefix}
use Rattle.ws_elem.specs.Trees.{Tree}
use Rattle.delta_kind.specs.declared.node.DeltaNode.{DeltaNode}
use Rattle.delta_kind.specs.Deltas.{node_with}
use Rattle.builder_api.specs.Places.{is_within, is_below}
use Rattle.builder_api.specs.Files.{Files, files_of}
use Rattle.builder_api.specs.Tasks.{Task, inputs_of, view_of}
use Rattle.builder_api.specs.Edits.{Edit}
use Rattle.builder_api.specs.Meanings.{Meaning}
use Rattle.builder_api.specs.Lawful.{IsSince}
use Rattle.builder_api.proofs.Maps.{same_inputs, same_path, path_is, other_path}
use Rattle.res_path.specs.PathLaws.{path_ties}
use Rattle.std.specs.Ordering.{eq_by_cmp}
use Rattle.std_kit.proofs.Apart.{prefix_both}
use Rattle.std_kit.proofs.Losses.{below_other}
use Rattle.builder_api.proofs.Places.{or_true, below_append, prefix_append, below_then, cancel}
use Rattle.builder_api.proofs.Views.{view_within, view_below, view_inputs}
use Rattle.std.specs.List.{AllByRecursion}
use Rattle.std_kit.specs.Changes.{change_of, AreChanges, AreChangesAt}
use Rattle.std_kit.specs.Roots.{IsClear}
use Rattle.std_kit.specs.Since.{IsAsPromised, touches, loses, IsAlone, IsCalm}
use Rattle.std_kit.proofs.Told.{Found, found, none_pass, kept, stayed}

-- nothing is to be done where there is what is made
no_change : (x y : Option (List ℕ)) → x ≡ y → None ≡ change_of x y
no_change x y same = sym (ap (λ b. cond b None (Some y)) (ap (λ x. option_eq bytes_eq x y) same ∙ itself y))
  where
    itself : (y : Option (List ℕ)) → option_eq bytes_eq y y ≡ true
    itself None = refl
    itself (Some bytes) = (bytes_decides bytes bytes).1 refl

-- no node is found where none passes the test that such a node would
not_found : (test : DeltaNode → Bool) (q : Names) (nodes : List DeltaNode) → AllByRecursion (λ node. test node ≡ false) nodes
    → ((node : DeltaNode) → node.path ≡ q → test node ≡ true) → node_with q nodes ≡ None
not_found test q nodes h would = by (node_with q nodes) (found (λ node. test node ≡ false) q nodes h)
  where
    by : (o : Option DeltaNode) → IfSome o (Found q (λ node. test node ≡ false)) → o ≡ None
    by None it = refl
    by (Some node) it = let never : true ≡ false = sym (would node it.path) ∙ it.told in cc

below_too : (inputs : List Names) (o : Names) (n : List ℕ) (r : Names) → (is_within inputs (o ++ n ∷ r) || is_below o (o ++ n ∷ r)) ≡ true
below_too inputs o n r = ap (λ b. is_within inputs (o ++ n ∷ r) || b) (below_append o n r) ∙ or_true (is_within inputs (o ++ n ∷ r))

module _ (m : Meaning) (c : Task) (nodes : List DeltaNode) (last now : Tree) (view : Files) (sees : view ≡ view_of c (files_of now)) (since : IsSince m c nodes last now) where
  inputs_now : inputs_of c view ≡ inputs_of c (files_of now)
  inputs_now = ap (inputs_of c) sees ∙ view_inputs c (files_of now)

  -- what lies below the output is as it was made, where it has no node
  as_made : (n : List ℕ) (r : Names) → node_with (c.output ++ n ∷ r) nodes ≡ None → get view (c.output ++ n ∷ r) ≡ get (m c (inputs_of c (files_of last))).files (n ∷ r)
  as_made n r none =
      ap (λ v. get v (c.output ++ n ∷ r)) sees ∙ view_below c (files_of now) n r
      ∙ sym (kept m c nodes last now since (c.output ++ n ∷ r) (below_too c.inputs c.output n r) none) ∙ since.built.at n r

  -- where nothing changed nothing is to be done
  pub idle : touches c.inputs c.output nodes ≡ false → AreChanges c.output view (m c (inputs_of c view)).files []
  idle h = record {
    at = λ n r. no_change (get view (c.output ++ n ∷ r)) (get (m c (inputs_of c view)).files (n ∷ r))
        (as_made n r (silent (c.output ++ n ∷ r) (below_too c.inputs c.output n r)) ∙ ap (λ i. get (m c i).files (n ∷ r)) unchanged);
    named = tt;
    once = λ i j d lt within. absurd (omega (arith, within));
  }
    where
      silent : (q : Names) → (is_within c.inputs q || is_below c.output q) ≡ true → node_with q nodes ≡ None
      silent q at = not_found (λ node. is_within c.inputs node.path || is_below c.output node.path) q nodes
          (none_pass (λ node. is_within c.inputs node.path || is_below c.output node.path) nodes h)
          (λ node is. ap (λ p. is_within c.inputs p || is_below c.output p) is ∙ at)

      unchanged : inputs_of c (files_of last) ≡ inputs_of c view
      unchanged = same_inputs c.inputs (files_of last) (files_of now) (λ q at.
          let here : (is_within c.inputs q || is_below c.output q) ≡ true = ap (λ b. b || is_below c.output q) at in
          kept m c nodes last now since q here (silent q here)) ∙ sym inputs_now

  module _ (root : Names) (reads : (r : Names) → is_within c.inputs (root ++ r) ≡ true) (calm : IsCalm root c.output view nodes) where
    read : (r : Names) → (is_within c.inputs (root ++ r) || is_below c.output (root ++ r)) ≡ true
    read r = ap (λ b. b || is_below c.output (root ++ r)) (reads r)

    output_silent : (n : List ℕ) (r : Names) → node_with (c.output ++ n ∷ r) nodes ≡ None
    output_silent n r = not_found (λ node. is_below c.output node.path) (c.output ++ n ∷ r) nodes calm.output (λ node is. ap (is_below c.output) is ∙ below_append c.output n r)

    record Lost (r : Names) : Type 0 where
      node : DeltaNode
      is : node_with (root ++ r) nodes ≡ Some node
      alone : IsAlone root view nodes (root ++ r)

    -- a root's file that was there is there, or stood alone
    here_or_lost : (r : Names) → IsSome (get (files_of last) (root ++ r)) → IsSome (get view (root ++ r)) ⊎ Lost r
    here_or_lost r was = by (node_with (root ++ r) nodes) refl
        (found (λ node. (is_prefix root node.path && loses node) ≡ true → IsAlone root view nodes node.path) (root ++ r) nodes calm.losses)
      where
        in_view : IsSome (get (files_of now) (root ++ r)) → IsSome (get view (root ++ r))
        in_view h = subst IsSome (sym (ap (λ v. get v (root ++ r)) sees ∙ view_within c (files_of now) (root ++ r) (reads r))) h

        lost : (node : DeltaNode) → node_with (root ++ r) nodes ≡ Some node → Found (root ++ r) (λ node. (is_prefix root node.path && loses node) ≡ true → IsAlone root view nodes node.path) node
            → (b : Bool) → loses node ≡ b → IsSome (get view (root ++ r)) ⊎ Lost r
        lost node is it true l = inr (record {
          node = node;
          is = is;
          alone = subst (IsAlone root view nodes) it.path (it.told (ap (λ b. b && loses node) (ap (is_prefix root) it.path ∙ prefix_append root r) ∙ l));
        })
        lost node is it false l = inl (in_view (stayed m c nodes last now since (root ++ r) node (read r) is l was))

        by : (o : Option DeltaNode) → node_with (root ++ r) nodes ≡ o
            → IfSome o (Found (root ++ r) (λ node. (is_prefix root node.path && loses node) ≡ true → IsAlone root view nodes node.path)) → IsSome (get view (root ++ r)) ⊎ Lost r
        by None none it = inl (in_view (subst IsSome (kept m c nodes last now since (root ++ r) (read r) none) was))
        by (Some node) is it = lost node is it (loses node) refl

    -- edits at nodes are the changes, where each file of the root is made at its path from there
    pub at_nodes : (edits : List Edit) → AreChangesAt c.output root view nodes edits
        → ((n : List ℕ) (r : Names) → get (m c (inputs_of c (files_of last))).files (n ∷ r) ≡ get (files_of last) (root ++ n ∷ r))
        → ((n : List ℕ) (r : Names) → get (m c (inputs_of c view)).files (n ∷ r) ≡ get view (root ++ n ∷ r))
        → AreChanges c.output view (m c (inputs_of c view)).files edits
    at_nodes edits are before after = record { at = λ n r. are.at n r ∙ by n r (node_with (root ++ n ∷ r) nodes) refl ∙ ap (change_of (get view (c.output ++ n ∷ r))) (sym (after n r)); named = are.named; once = are.once }
      where
        by : (n : List ℕ) (r : Names) (o : Option DeltaNode) → node_with (root ++ n ∷ r) nodes ≡ o
            → cond (is_some o) (change_of (get view (c.output ++ n ∷ r)) (get view (root ++ n ∷ r))) None ≡ change_of (get view (c.output ++ n ∷ r)) (get view (root ++ n ∷ r))
        by n r None none = no_change (get view (c.output ++ n ∷ r)) (get view (root ++ n ∷ r))
            (as_made n r (output_silent n r) ∙ before n r ∙ kept m c nodes last now since (root ++ n ∷ r) (read (n ∷ r)) none
            ∙ sym (ap (λ v. get v (root ++ n ∷ r)) sees ∙ view_within c (files_of now) (root ++ n ∷ r) (reads (n ∷ r))))
        by n r (Some node) is = refl

    -- files that are clear of each other were so
    pub was_clear : IsClear root view → IsClear root (files_of last)
    was_clear clear = record { none = subst (λ q. get (files_of last) q ≡ None) (nothing_more root) (none (get (files_of last) (root ++ [])) refl); apart = apart }
      where
        nothing_more : (p : Names) → p ++ [] ≡ p
        nothing_more [] = refl
        nothing_more (n ∷ p) = ap (λ p. n ∷ p) (nothing_more p)

        there_not : (q : Names) → IsSome (get view q) → get view q ≡ None → ⊥
        there_not q h g = let never : true ≡ false = sym h ∙ ap is_some g in cc

        not_root : IsSome (get view (root ++ [])) ⊎ Lost [] → ⊥
        not_root (inl there) = there_not (root ++ []) there (ap (get view) (nothing_more root) ∙ clear.none)
        not_root (inr lost) = below_other root (root ++ []) lost.alone.inside (sym (nothing_more root))

        none : (o : Option (List ℕ)) → get (files_of last) (root ++ []) ≡ o → o ≡ None
        none None is = refl
        none (Some v) is = absurd (not_root (here_or_lost [] (ap is_some is)))

        below : (p q : Names) → is_prefix p q ≡ true → (b : Bool) → eq_by_cmp path_cmp p q ≡ b → (p ≡ q) ⊎ (is_below (root ++ p) (root ++ q) ≡ true)
        below p q f true i = inl (same_path p q i)
        below p q f false i = inr (sym (below_then (root ++ p) (root ++ q) (is_prefix (root ++ p) (root ++ q)) true refl (prefix_both root p q f)
            (sym (ap not (path_ties (root ++ p) (root ++ q) ∙ other_path (root ++ p) (root ++ q) (λ e.
            let yes : eq_by_cmp path_cmp p q ≡ true = ap (λ x. eq_by_cmp path_cmp x q) (cancel root p q e) ∙ path_is q in
            let never : true ≡ false = sym yes ∙ i in cc))))))

        by : (p q : Names) → is_prefix p q ≡ true → is_below (root ++ p) (root ++ q) ≡ true → IsSome (get view (root ++ p)) ⊎ Lost p → IsSome (get view (root ++ q)) ⊎ Lost q → p ≡ q
        by p q f b (inl h) (inl g) = clear.apart p q h g f
        by p q f b (inl h) (inr lost) = absurd (there_not (root ++ p) h (lost.alone.above (root ++ p) (prefix_append root p) b))
        by p q f b (inr lost) (inl g) = absurd (there_not (root ++ q) g (lost.alone.files (root ++ q) b))
        by p q f b (inr lost) (inr other) = let twice : Some other.node ≡ None = sym other.is ∙ lost.alone.changes (root ++ q) b in cc

        choose : (p q : Names) → is_prefix p q ≡ true → IsSome (get (files_of last) (root ++ p)) → IsSome (get (files_of last) (root ++ q)) → (p ≡ q) ⊎ (is_below (root ++ p) (root ++ q) ≡ true) → p ≡ q
        choose p q f h g (inl same) = same
        choose p q f h g (inr b) = by p q f b (here_or_lost p h) (here_or_lost q g)

        apart : (p q : Names) → IsSome (get (files_of last) (root ++ p)) → IsSome (get (files_of last) (root ++ q)) → is_prefix p q ≡ true → p ≡ q
        apart p q h g f = choose p q f h g (below p q f (eq_by_cmp path_cmp p q) refl)

-- so no edits are the changes where nothing changed by a delta that is handed
pub no_edits : (m : Meaning) (c : Task) (nodes : Option (List DeltaNode)) (view : Files) → IsSomeAnd nodes (λ nodes. touches c.inputs c.output nodes ≡ false)
    → IsAsPromised m c nodes view → AreChanges c.output view (m c (inputs_of c view)).files []
no_edits m c None view h promised = absurd h
no_edits m c (Some nodes) view h promised = idle m c nodes promised.0 promised.1 view promised.2 promised.3 h
