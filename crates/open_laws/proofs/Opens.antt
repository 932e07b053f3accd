-- What may be kept is fit to be opened.
use Rattle.std.proofs.Common.{List, [], ◌∷◌, ◌++◌}
use Rattle.std.proofs.lemmas.List.Elements.{recursion_from_All}
use Rattle.std.specs.Prelude.{Option, Some, None, IfSome}
use Rattle.std.specs.List.{All, AllByRecursion}
use Rattle.ws_elem.specs.Stamps.{SameContents}
use Rattle.ws_elem.specs.Trees.{Tree}
use Rattle.proj_desc.specs.Canonical.{IsCommandText}
use Rattle.op_kind.specs.Sound.{IsConsistent}
use Rattle.op_kind.specs.Stamps.{IsKnown}
use Rattle.ws_durable.specs.Saved.{Saved, SavedBuilt, SavedKept, built_trees, kept_trees, maps, trees, with_tree}
use Rattle.save_form.specs.Laws.{FitEach}
use Rattle.save_build.specs.Told.{AreFit}
use Rattle.save_read.specs.Sayable.{IsSayableBuilt, IsSayableKept, IsSayableTree}
use Rattle.save_valid.specs.Descriptions.{IsBuiltIn}
use Rattle.save_format.specs.Valid.{Valid}
use Rattle.ws_core.specs.Opened.{IsOpenable, resources_of}
use Rattle.open_laws.proofs.Known.{known, all_known}
use Rattle.open_laws.proofs.Joined.{joined, get-joined}
use Rattle.open_laws.proofs.Unshelved.{joined_whole, shelf_in_shut}

-- ---- lists

all_both : {X : Type 0} (P : X → Type 0) (xs ys : List X) → AllByRecursion P xs → AllByRecursion P ys → AllByRecursion P (xs ++ ys)
all_both P [] ys h g = g
all_both P (x ∷ xs) ys h g = (h.0, all_both P xs ys h.1 g)

all_of : {X : Type 0} (P Q : X → Type 0) → ((x : X) → P x → Q x) → (xs : List X) → AllByRecursion P xs → AllByRecursion Q xs
all_of P Q f [] h = tt
all_of P Q f (x ∷ xs) h = (f x h.0, all_of P Q f xs h.1)

built_fit : (before : Option SavedBuilt) (bs : List SavedBuilt) → FitEach IsSayableBuilt before bs → AllByRecursion AreFit (built_trees bs)
built_fit before [] h = tt
built_fit before (b ∷ bs) h = (h.0.tree.0, built_fit (Some b) bs h.1)

kept_fit : (before : Option SavedKept) (ks : List SavedKept) → FitEach IsSayableKept before ks → AllByRecursion AreFit (kept_trees ks)
kept_fit before [] h = tt
kept_fit before (k ∷ ks) h = by k.tree h.0.tree (kept_fit (Some k) ks h.1)
  where
    by : (o : Option Tree) → IfSome o IsSayableTree → AllByRecursion AreFit (kept_trees ks) → AllByRecursion AreFit (with_tree o (kept_trees ks))
    by None g rest = rest
    by (Some t) g rest = (g.0, rest)

-- ---- what may be kept

module _ (d : Saved) (v : Valid d) where
  -- the elements of the trees that are remembered are fit
  past_fit : AllByRecursion AreFit (trees d)
  past_fit = (v.sayable.tree.0, all_both AreFit (built_trees d.built) (kept_trees d.kept) (built_fit None d.built v.sayable.built.1) (kept_fit None d.kept v.sayable.kept.1))

  -- equal stamps in a tree and in any that is kept mean equal contents
  agreeing : AllByRecursion (λ a. AllByRecursion (SameContents a) (maps d)) (maps d)
  agreeing = all_of (λ a. All (SameContents a) (maps d)) (λ a. AllByRecursion (SameContents a) (maps d)) (λ a. recursion_from_All (SameContents a) (maps d)) (maps d)
      (recursion_from_All (λ a. All (SameContents a) (maps d)) (maps d) v.lawful.stamps)

  past_known : AllByRecursion (IsKnown (resources_of d)) (trees d)
  past_known = all_known d (trees d) past_fit v.lawful.below.1 agreeing.1

  -- the resources are sound
  pub resources_sound : IsConsistent (resources_of d)
  resources_sound = record {
    tree = v.lawful.whole.0;
    unshelved = (joined d.tree d.shelf, get-joined d.tree d.shelf, joined_whole d.tree d.shelf v.lawful.whole.0 v.lawful.shelf v.lawful.nodes);
    shelf = shelf_in_shut d.tree d.shelf v.lawful.whole.0 v.lawful.shelf;
    tree_known = past_known.0;
    shelf_known = known d d.shelf v.sayable.shelf.0 v.lawful.below.0 agreeing.0;
  }

  -- a workspace can be opened from it
  pub valid_opens : IsOpenable d
  valid_opens = record {
    resources = resources_sound;
    whole = v.lawful.whole;
    known = past_known;
    alike = all_of (λ t. AllByRecursion (SameContents t) (maps d)) (λ t. AllByRecursion (SameContents t) (trees d)) (λ t h. h.1) (trees d) agreeing.1;
    commands = all_of (IsBuiltIn d.tree) (λ b. IsCommandText b.project b.command) (λ b h. h.command) d.built v.lawful.built;
  }
