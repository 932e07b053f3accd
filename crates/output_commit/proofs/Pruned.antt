-- Resources stay sound where a test leaves out some of what is there, and all below it.
use Rattle.std.proofs.Common.{◌≡◌, ◌≢◌, ◌↔◌, Bool, true, false, cond, ◌&&◌, [], length, refl, sym, ap, subst}
use Rattle.std.specs.Prelude.{Option, None, IfSome, IsSomeAnd}
use Rattle.std.specs.FinMap.{get, retain_keys, get-retain_keys}
use Rattle.res_path.specs.Paths.{Names, parent}
use Rattle.res_path.proofs.Prefixes.{path_cmp_exact}
use Rattle.ws_elem.specs.Trees.{Tree}
use Rattle.ws_elem.specs.declared.element.Element.{Element}
use Rattle.ws_elem.specs.declared.kind.Kind.TheVariants.{File, Project, Root}
use Rattle.op_kind.specs.Places.{project_of, is_member_path, has_closed}
use Rattle.op_kind.specs.Resources.{Resources}
use Rattle.op_kind.specs.Sound.{IsConsistent}
use Rattle.op_kind.specs.Stamps.{IsKnown}
use Rattle.op_kind.proofs.Cases.{if_as, at_cond, cond_true, if_map}
use Rattle.op_kind.proofs.Looks.{Look}
use Rattle.op_sound.proofs.SoundGrafts.{fits_as, parts_as}
use Rattle.op_sound.proofs.SoundParts.{IsOpen, Fits, Parts, Split, is_kept, split_false, open_split, whole_of, whole_parts, whole_fits}
use Rattle.op_sound.proofs.SoundStamps.{Comes, still, stays_tree, stays_shelf}
use Rattle.op_sound.proofs.SoundSteps.{Keeps, kept_sound, kept_known}

-- ---- one after another

-- what comes of sound resources is sound, and what was known stays known
pub record StaysSound (r after : Resources) : Type 0 where
  pub sound : IsConsistent after
  pub known : (t : Tree) → IsKnown r t → IsKnown after t

pub keeps_sound : (Fresh : Element → Type 0) (r after : Resources) → IsConsistent r → Keeps Fresh r after → StaysSound r after
keeps_sound Fresh r after x k = record { sound = kept_sound Fresh r after x k; known = λ t. kept_known Fresh r after t k }

pub sound_on : (r next after : Resources) → StaysSound r next → StaysSound next after → StaysSound r after
sound_on r next after a b = record { sound = b.sound; known = λ t k. b.known t (a.known t k) }

pub sound_same : (r after : Resources) → IsConsistent r → r ≡ after → StaysSound r after
sound_same r after x same = subst (StaysSound r) same record { sound = x; known = λ t k. k }

-- ---- what a test leaves out

-- what stands where the test says
abbrev pub chosen : Look → (Names → Bool) → Look
chosen f test q = cond (test q) (f q) None

-- the test keeps each project, keeps what lies above a path that it keeps, and leaves out no member of a closed project
pub record IsPruning (a : Look) (test : Names → Bool) : Type 0 where
  pub project : (q : Names) → test (project_of q) ≡ true
  pub parents : (q : Names) → test q ≡ true → test (parent q) ≡ true
  pub shown : (q : Names) → test q ≡ false → is_kept a q ≡ false

chosen_fits : (f : Look) (test : Names → Bool) → test [] ≡ true → ((q : Names) → test q ≡ true → test (parent q) ≡ true) → Fits f → Fits (chosen f test)
chosen_fits f test top above w = record {
  root = subst (λ x. IsSomeAnd x (λ e. e.kind ≡ Root)) (sym (cond_true (test []) (f []) None top)) w.root;
  only_root = λ q. at_cond (λ x. IfSome x (λ e. e.kind ≡ Root → q ≡ [])) (test q) (f q) None (λ _. w.only_root q) (λ _. tt);
  parents = λ q some. at_cond (λ x. IfSome x (λ _. IsSomeAnd (chosen f test (parent q)) (λ e. e.kind ≢ File))) (test q) (f q) None
      (λ kept. subst (λ y. IfSome (f q) (λ _. IsSomeAnd y (λ e. e.kind ≢ File))) (sym (cond_true (test (parent q)) (f (parent q)) None (above q kept))) (w.parents q some))
      (λ _. tt);
  projects = λ q. at_cond (λ x. IfSome x (λ e. (e.kind ≡ Project) ↔ (length q ≡ 1))) (test q) (f q) None (λ _. w.projects q) (λ _. tt);
  opened = λ q. at_cond (λ x. IfSome x IsOpen) (test q) (f q) None (λ _. w.opened q) (λ _. tt);
  nodes = λ q r. at_cond (λ x. IfSome x (λ e. IfSome (chosen f test r) (λ g. e.node ≡ g.node → q ≡ r))) (test q) (f q) None
      (λ _. if_map (λ e. IfSome (f r) (λ g. e.node ≡ g.node → q ≡ r)) (λ e. IfSome (chosen f test r) (λ g. e.node ≡ g.node → q ≡ r)) (f q)
      (λ e h. at_cond (λ x. IfSome x (λ g. e.node ≡ g.node → q ≡ r)) (test r) (f r) None (λ _. h) (λ _. tt))
      (w.nodes q r))
      (λ _. tt);
}

chosen_split : (c b : Bool) (x s y : Option Element) → (c ≡ false → b ≡ false) → Split b x s y → Split b (cond c x None) s (cond c y None)
chosen_split true b x s y shown h = h
chosen_split false b x s y shown h = open_split b None s None (shown refl) ((split_false b x s y (shown refl) h).0, refl)

chosen_parts : (a s f : Look) (test : Names → Bool) → IsPruning a test → Parts a s f → Parts (chosen a test) s (chosen f test)
chosen_parts a s f test p x q = subst (λ b. Split b (chosen a test q) (s q) (chosen f test q)) (sym same) (chosen_split (test q) (is_kept a q) (a q) (s q) (f q) (p.shown q) (x q))
  where
    same : is_kept (chosen a test) q ≡ is_kept a q
    same = ap (λ z. is_member_path q && has_closed z) (cond_true (test (project_of q)) (a (project_of q)) None (p.project q))

pub get-chosen : (t : Tree) (test : Names → Bool) (q : Names) → get (retain_keys t test) q ≡ chosen (get t) test q
get-chosen t test q = get-retain_keys t test q (λ x h. ap test (sym (path_cmp_exact q x h)))

-- the resources with what the test keeps
abbrev pub pruned : Resources → (Names → Bool) → Resources
pruned r test = record r { tree = retain_keys r.tree test }

prune_keeps : (r : Resources) (test : Names → Bool) → IsConsistent r → IsPruning (get r.tree) test → Keeps (λ _. ⊥) r (pruned r test)
prune_keeps r test x p = record {
  whole = retain_keys (whole_of r x) test;
  fits = fits_as (chosen (get (whole_of r x)) test) (get (retain_keys (whole_of r x) test)) (get-chosen (whole_of r x) test) (chosen_fits (get (whole_of r x)) test (p.project []) p.parents (whole_fits r x));
  parts = parts_as (chosen (get r.tree) test) (get (retain_keys r.tree test)) (get r.shelf) (get r.shelf) (chosen (get (whole_of r x)) test) (get (retain_keys (whole_of r x) test))
      (λ q. sym (get-chosen r.tree test q)) (λ _. refl) (λ q. sym (get-chosen (whole_of r x) test q))
      (chosen_parts (get r.tree) (get r.shelf) (get (whole_of r x)) test p (whole_parts r x));
  grows = record {
    later = still r;
    tree = λ q. if_as (Comes (λ _. ⊥) r (pruned r test)) (get (retain_keys r.tree test) q) (chosen (get r.tree) test q) (get-chosen r.tree test q)
        (at_cond (λ z. IfSome z (Comes (λ _. ⊥) r (pruned r test))) (test q) (get r.tree q) None (λ _. stays_tree (λ _. ⊥) r (pruned r test) (still r) x.tree_known q) (λ _. tt));
    shelf = stays_shelf (λ _. ⊥) r (pruned r test) (still r) x.shelf_known;
    late = λ _ none. absurd none;
    same = λ _ _ none. absurd none;
  };
}

-- what a test leaves out may go
pub prune_sound : (r : Resources) (test : Names → Bool) → IsConsistent r → IsPruning (get r.tree) test → StaysSound r (pruned r test)
prune_sound r test x p = keeps_sound (λ _. ⊥) r (pruned r test) x (prune_keeps r test x p)
