-- The tree with every closed project opened is whole.
use Rattle.std.proofs.Common.{◌≡◌, ◌≢◌, ◌↔◌, ◌⊎◌, inl, inr, ◌≤◌, ◌<◌, ◌+◌, ℕ, zero, suc, true, not, ◌&&◌, [], ◌++◌, length, refl, sym, ap, ◌∙◌, subst, arith}
use Rattle.std.proofs.lemmas.Bool.Decides.{nat_tests}
use Rattle.std.specs.Prelude.{Option, Some, None, IfSome, IsSomeAnd}
use Rattle.std.specs.Option.{option_map, option_or}
use Rattle.std.specs.FinMap.{get}
use Rattle.res_path.specs.Paths.{Names, parent, is_prefix}
use Rattle.ws_elem.specs.declared.element.Element.{Element}
use Rattle.ws_elem.specs.declared.kind.Kind.{Kind}
use Rattle.ws_elem.specs.declared.kind.Kind.TheVariants.{File, Folder, Project, Root}
use Rattle.ws_elem.specs.Trees.{Tree, Whole}
use Rattle.op_kind.specs.Places.{project_of, is_member_path, has_closed, is_in_shut}
use Rattle.op_kind.specs.Sound.{opened}
use Rattle.op_kind.proofs.PathsBelow.{both, prefix_itself, prefix_parent, parent_shorter, project_below, project_itself, project_prefix}
use Rattle.op_kind.proofs.Cases.{at_some, if_as, if_map, if_there, some_map}
use Rattle.op_sound.proofs.SoundParts.{IsOpen, fits_whole, opened_kind, opened_open, project_true, if_closed, long_path, longer}
use Rattle.save_valid.specs.Rules.{Each, AllDiffer, nodes_of}
use Rattle.save_valid.specs.Places.{IsClosed, IsShelved}
use Rattle.open_laws.proofs.Joined.{joined, get-joined, nodes_joined}

-- ---- kinds

is_member : (p : Names) → 2 ≤ length p → is_member_path p ≡ true
is_member p h = grind (arith, nat_tests)

no_root : (k : Kind) → (k ≡ File) ⊎ (k ≡ Folder) → k ≢ Root
no_root k (inl file) root = let no : File ≡ Root = sym file ∙ root in cc
no_root k (inr folder) root = let no : Folder ≡ Root = sym folder ∙ root in cc

no_project : (k : Kind) → (k ≡ File) ⊎ (k ≡ Folder) → k ≢ Project
no_project k (inl file) project = let no : File ≡ Project = sym file ∙ project in cc
no_project k (inr folder) project = let no : Folder ≡ Project = sym folder ∙ project in cc

there : (P : Element → Type 0) (x : Option Element) → IsSomeAnd x P → (e : Element) × (x ≡ Some e) × P e
there P None h = absurd h
there P (Some e) h = (e, refl, h)

closed_there : (x : Option Element) → IsSomeAnd x IsClosed → has_closed x ≡ true
closed_there None h = absurd h
closed_there (Some e) h = ap (λ b. b && not e.opened) (project_true e.kind h.0) ∙ ap not h.1

-- ---- of a tree, or of the shelf

if_either : (P : Element → Type 0) (x y : Option Element) → IfSome x (λ e. P (opened e)) → IfSome y P → IfSome (option_or (option_map opened x) y) P
if_either P None y h g = g
if_either P (Some e) y h g = h

some_first : (P : Element → Type 0) (x y : Option Element) → IsSomeAnd x (λ e. P (opened e)) → IsSomeAnd (option_or (option_map opened x) y) P
some_first P None y h = absurd h
some_first P (Some e) y h = h

module _ (tree shelf : Tree) (w : Whole tree) (s : Each (IsShelved tree shelf) shelf) where
  shelved_at : (p : Names) (e : Element) → get shelf p ≡ Some e → IsShelved tree shelf p e
  shelved_at p e h = at_some (IsShelved tree shelf p) (get shelf p) e h (s p)

  above : (p : Names) → length (parent p) ≢ 0 → project_of p ≡ project_of (parent p)
  above p h = project_below (parent p) p (λ e. h (ap length e)) (prefix_parent (parent p) p (prefix_itself (parent p)))

  -- what stands on the shelf is a member of a closed project
  in_shut : (n : ℕ) (p : Names) → length p < n → (e : Element) → get shelf p ≡ Some e → is_in_shut tree p ≡ true
  in_shut zero p less e h = absurd (omega arith)
  in_shut (suc n) p less e h =
      ap (λ b. b && has_closed (get tree (project_of p))) (is_member p (shelved_at p e h).deep)
      ∙ by (in_shut n (parent p) (shorter p less (shelved_at p e h).deep)) (shelved_at p e h).parent_there
    where
      shorter : (p : Names) → length p < suc n → 2 ≤ length p → length (parent p) < n
      shorter p less deep = let up = parent_shorter p (λ e. let none : length p ≡ 0 = ap length e in omega (arith, none, deep)) in omega (arith, up)

      by : ((f : Element) → get shelf (parent p) ≡ Some f → is_in_shut tree (parent p) ≡ true)
          → IsSomeAnd (get tree (parent p)) IsClosed ⊎ IsSomeAnd (get shelf (parent p)) (λ f. f.kind ≡ Folder) → has_closed (get tree (project_of p)) ≡ true
      by rest (inl closed) =
          let up = there IsClosed (get tree (parent p)) closed in
          let one : length (parent p) ≡ 1 = (at_some (λ f. (f.kind ≡ Project) ↔ (length (parent p) ≡ 1)) (get tree (parent p)) up.0 up.1 (w.projects (parent p))).0 up.2.0 in
          ap (λ q. has_closed (get tree q)) (above p (λ none. omega (arith, one, none)) ∙ project_itself (parent p) (omega (arith, one)))
          ∙ closed_there (get tree (parent p)) closed
      by rest (inr folder) =
          let up = there (λ f. f.kind ≡ Folder) (get shelf (parent p)) folder in
          let deep = (shelved_at (parent p) up.0 up.1).deep in
          ap (λ q. has_closed (get tree q)) (above p (λ none. omega (arith, deep, none)))
          ∙ (both (is_member_path (parent p)) (has_closed (get tree (project_of (parent p)))) (rest up.0 up.1)).1

  pub shelf_in_shut : (p : Names) → IfSome (get shelf p) (λ _. is_in_shut tree p ≡ true)
  shelf_in_shut p = if_there (λ _. is_in_shut tree p ≡ true) (get shelf p) (in_shut (length p + 1) p (omega arith))

  -- nothing of it stands in the tree
  away : (p : Names) (e : Element) → get shelf p ≡ Some e → get tree p ≡ None
  away p e h =
      let at = both (is_member_path p) (has_closed (get tree (project_of p))) (in_shut (length p + 1) p (omega arith) e h) in
      if_closed (is_prefix (project_of p) p ≡ true → p ≢ project_of p → get tree p ≡ None) (get tree (project_of p)) at.1 (w.closed (project_of p) p)
      (project_prefix p) (longer p (long_path p at.0))

  if_joined : (P : Element → Type 0) (p : Names) → IfSome (get tree p) (λ e. P (opened e)) → IfSome (get shelf p) P → IfSome (get (joined tree shelf) p) P
  if_joined P p h g = if_as P (get (joined tree shelf) p) (option_or (option_map opened (get tree p)) (get shelf p)) (get-joined tree shelf p) (if_either P (get tree p) (get shelf p) h g)

  in_tree : (P : Element → Type 0) (p : Names) → IsSomeAnd (get tree p) (λ e. P (opened e)) → IsSomeAnd (get (joined tree shelf) p) P
  in_tree P p h = subst (λ (x : Option Element). IsSomeAnd x P) (sym (get-joined tree shelf p)) (some_first P (get tree p) (get shelf p) h)

  on_shelf : (P : Element → Type 0) (p : Names) → IsSomeAnd (get shelf p) P → IsSomeAnd (get (joined tree shelf) p) P
  on_shelf P p h =
      let up = there P (get shelf p) h in
      subst (λ (x : Option Element). IsSomeAnd x P)
      (sym (get-joined tree shelf p ∙ ap (λ x. option_or (option_map opened x) (get shelf p)) (away p up.0 up.1))) h

  shelved : (P : Element → Type 0) (p : Names) → ((e : Element) → IsShelved tree shelf p e → P e) → IfSome (get shelf p) P
  shelved P p f = if_map (IsShelved tree shelf p) P (get shelf p) f (s p)

  -- the tree with every closed project opened is whole, where no two nodes have one number
  pub joined_whole : AllDiffer (nodes_of tree ++ nodes_of shelf) → Whole (joined tree shelf)
  joined_whole differ = fits_whole (joined tree shelf) record {
    root = in_tree (λ e. e.kind ≡ Root) [] (some_map (λ e. e.kind ≡ Root) (λ e. (opened e).kind ≡ Root) (get tree []) (λ e h. opened_kind e ∙ h) w.root);
    only_root = λ p. if_joined (λ e. e.kind ≡ Root → p ≡ []) p
        (if_map (λ e. e.kind ≡ Root → p ≡ []) (λ e. (opened e).kind ≡ Root → p ≡ []) (get tree p) (λ e h root. h (sym (opened_kind e) ∙ root)) (w.only_root p))
        (shelved (λ e. e.kind ≡ Root → p ≡ []) p (λ e is root. absurd (no_root e.kind is.kind root)));
    parents = λ p below. if_joined (λ _. IsSomeAnd (get (joined tree shelf) (parent p)) (λ f. f.kind ≢ File)) p
        (if_map (λ _. IsSomeAnd (get tree (parent p)) (λ f. f.kind ≢ File)) (λ _. IsSomeAnd (get (joined tree shelf) (parent p)) (λ f. f.kind ≢ File)) (get tree p) (λ _. parent_in p) (w.parents p below))
        (shelved (λ _. IsSomeAnd (get (joined tree shelf) (parent p)) (λ f. f.kind ≢ File)) p (λ e is. parent_of p is.parent_there));
    projects = λ p. if_joined (λ e. (e.kind ≡ Project) ↔ (length p ≡ 1)) p
        (if_map (λ e. (e.kind ≡ Project) ↔ (length p ≡ 1)) (λ e. ((opened e).kind ≡ Project) ↔ (length p ≡ 1)) (get tree p)
        (λ e h. (λ project. h.0 (sym (opened_kind e) ∙ project), λ one. opened_kind e ∙ h.1 one)) (w.projects p))
        (shelved (λ e. (e.kind ≡ Project) ↔ (length p ≡ 1)) p
        (λ e is. (λ project. absurd (no_project e.kind is.kind project), λ one. let deep = is.deep in absurd (omega (arith, deep, one)))));
    opened = λ p. if_joined IsOpen p (if_there (λ e. IsOpen (opened e)) (get tree p) (λ e _. opened_open e)) (shelved IsOpen p (λ e is project. absurd (no_project e.kind is.kind project)));
    nodes = nodes_joined tree shelf differ;
  }
    where
      parent_in : (p : Names) → IsSomeAnd (get tree (parent p)) (λ f. f.kind ≢ File) → IsSomeAnd (get (joined tree shelf) (parent p)) (λ f. f.kind ≢ File)
      parent_in p h = in_tree (λ f. f.kind ≢ File) (parent p)
          (some_map (λ f. f.kind ≢ File) (λ f. (opened f).kind ≢ File) (get tree (parent p)) (λ f no file. no (sym (opened_kind f) ∙ file)) h)

      parent_of : (p : Names) → IsSomeAnd (get tree (parent p)) IsClosed ⊎ IsSomeAnd (get shelf (parent p)) (λ f. f.kind ≡ Folder)
          → IsSomeAnd (get (joined tree shelf) (parent p)) (λ f. f.kind ≢ File)
      parent_of p (inl closed) = parent_in p (some_map IsClosed (λ f. f.kind ≢ File) (get tree (parent p)) (λ f is file. let no : Project ≡ File = sym is.0 ∙ file in cc) closed)
      parent_of p (inr folder) = on_shelf (λ f. f.kind ≢ File) (parent p)
          (some_map (λ f. f.kind ≡ Folder) (λ f. f.kind ≢ File) (get shelf (parent p)) (λ f is file. let no : Folder ≡ File = sym is ∙ file in cc) folder)
