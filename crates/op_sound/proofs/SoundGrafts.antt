-- Whole trees of open projects stay so where parts are cut off, put on or changed in place.
use Rattle.std.proofs.Common.{◌≡◌, ◌≢◌, ◌↔◌, Bool, true, false, cond, ◌&&◌, [], length, refl, sym, ap, ◌∙◌, subst}
use Rattle.std.specs.Prelude.{Option, Some, None, IfSome, IsSomeAnd}
use Rattle.std.specs.Option.{option_map}
use Rattle.res_path.specs.Paths.{Names, parent, is_prefix}
use Rattle.ws_elem.specs.declared.element.Element.{Element}
use Rattle.ws_elem.specs.declared.kind.Kind.TheVariants.{File, Project, Root}
use Rattle.ws_elem.proofs.Cuts.{same_at}
use Rattle.op_kind.specs.Places.{project_of, is_member_path, has_closed}
use Rattle.op_kind.specs.Sound.{opened}
use Rattle.op_kind.proofs.PathsBelow.{never, root_above, not_true, prefix_parent, parent_below, parent_above, prefix_project, project_below}
use Rattle.op_kind.proofs.Cases.{at_cond, cond_false, if_map}
use Rattle.op_kind.proofs.Looks.{Look, is_at, not_at, cut}
use Rattle.op_sound.proofs.SoundParts.{IsOpen, opened_same, open_not_closed, Fits, Parts, Split, is_kept, open_kept, split_false, open_split}

pub same_look : (f g : Look) → ((q : Names) → f q ≡ g q) → f ≡ g
same_look f g h = λ i q. h q i

pub fits_as : (f g : Look) → ((q : Names) → g q ≡ f q) → Fits f → Fits g
fits_as f g h = subst Fits (sym (same_look g f h))

pub parts_as : (a b s u f g : Look) → ((q : Names) → a q ≡ b q) → ((q : Names) → s q ≡ u q) → ((q : Names) → f q ≡ g q) → Parts a s f → Parts b u g
parts_as a b s u f g h k l x = subst (λ z. Parts b u z) (same_look f g l) (subst (λ z. Parts b z f) (same_look s u k) (subst (λ z. Parts z s f) (same_look a b h) x))

pub other_side : (p q r : Names) → (is_prefix p r ≡ true → is_prefix p q ≡ true) → is_prefix p q ≡ false → is_prefix p r ≡ false
other_side p q r h g = not_true (is_prefix p r) (λ e. never (sym (h e) ∙ g))

-- ---- p and all below it are gone

pub cut_fits : (f : Look) (p : Names) → p ≢ [] → Fits f → Fits (cut f p)
cut_fits f p below w = record {
  root = at_cond (λ x. IsSomeAnd x (λ e. e.kind ≡ Root)) (is_prefix p []) None (f []) (λ h. absurd (below (root_above p h))) (λ _. w.root);
  only_root = λ q. at_cond (λ x. IfSome x (λ e. e.kind ≡ Root → q ≡ [])) (is_prefix p q) None (f q) (λ _. tt) (λ _. w.only_root q);
  parents = λ q h. at_cond (λ x. IfSome x (λ _. IsSomeAnd (cut f p (parent q)) (λ e. e.kind ≢ File))) (is_prefix p q) None (f q) (λ _. tt)
      (λ out. if_map (λ _. IsSomeAnd (f (parent q)) (λ e. e.kind ≢ File)) (λ _. IsSomeAnd (cut f p (parent q)) (λ e. e.kind ≢ File)) (f q)
      (λ _ given. subst (λ x. IsSomeAnd x (λ e. e.kind ≢ File)) (sym (cond_false (is_prefix p (parent q)) None (f (parent q)) (other_side p q (parent q) (prefix_parent p q) out))) given)
      (w.parents q h));
  projects = λ q. at_cond (λ x. IfSome x (λ e. (e.kind ≡ Project) ↔ (length q ≡ 1))) (is_prefix p q) None (f q) (λ _. tt) (λ _. w.projects q);
  opened = λ q. at_cond (λ x. IfSome x IsOpen) (is_prefix p q) None (f q) (λ _. tt) (λ _. w.opened q);
  nodes = λ q r. at_cond (λ x. IfSome x (λ e. IfSome (cut f p r) (λ g. e.node ≡ g.node → q ≡ r))) (is_prefix p q) None (f q) (λ _. tt)
      (λ _. if_map (λ e. IfSome (f r) (λ g. e.node ≡ g.node → q ≡ r)) (λ e. IfSome (cut f p r) (λ g. e.node ≡ g.node → q ≡ r)) (f q)
      (λ e h. at_cond (λ x. IfSome x (λ g. e.node ≡ g.node → q ≡ r)) (is_prefix p r) None (f r) (λ _. tt) (λ _. h))
      (w.nodes q r));
}

pub cut_split : (c b d : Bool) (x s y : Option Element) → (c ≡ false → d ≡ b) → Split b x s y → Split d (cond c None x) (cond c None s) (cond c None y)
cut_split true b true x s y same h = (refl, refl)
cut_split true b false x s y same h = (refl, refl)
cut_split false b d x s y same h = subst (λ z. Split z x s y) (sym (same refl)) h

pub cut_parts : (a s f : Look) (p : Names) → Parts a s f → Parts (cut a p) (cut s p) (cut f p)
cut_parts a s f p x q = cut_split (is_prefix p q) (is_kept a q) (is_kept (cut a p) q) (a q) (s q) (f q) (λ out.
    ap (λ z. is_member_path q && has_closed z) (cond_false (is_prefix p (project_of q)) None (a (project_of q)) (other_side p q (project_of q) (prefix_project p q) out))) (x q)

-- ---- something stands at `to` and below it

-- what g has at or below `to`, and what f has elsewhere
abbrev pub graft : Look → Look → Names → Look
graft f g to q = cond (is_prefix to q) (g q) (f q)

-- what g has at or below `to` has its place there
pub record IsGraft (f g : Look) (to : Names) : Type 0 where
  pub below : to ≢ []
  pub above : IsSomeAnd (f (parent to)) (λ e. e.kind ≢ File)
  pub within : (q : Names) → is_prefix to q ≡ true → q ≢ to → IfSome (g q) (λ _. IsSomeAnd (g (parent q)) (λ e. e.kind ≢ File))
  pub no_root : (q : Names) → IfSome (g q) (λ e. e.kind ≢ Root)
  pub projects : (q : Names) → is_prefix to q ≡ true → IfSome (g q) (λ e. (e.kind ≡ Project) ↔ (length q ≡ 1))
  pub opened : (q : Names) → IfSome (g q) IsOpen
  pub nodes : (q r : Names) → is_prefix to q ≡ true → is_prefix to r ≡ true → IfSome (g q) (λ e. IfSome (g r) (λ h. e.node ≡ h.node → q ≡ r))
  pub apart : (q r : Names) → is_prefix to q ≡ true → is_prefix to r ≡ false → IfSome (g q) (λ e. IfSome (f r) (λ h. e.node ≢ h.node))

pub differs : (P : Type 0) (x y : Option Element) → IfSome x (λ e. IfSome y (λ h. e.node ≢ h.node)) → IfSome x (λ e. IfSome y (λ h. e.node ≡ h.node → P))
differs P None y h = tt
differs P (Some e) None h = tt
differs P (Some e) (Some g) h = λ same. absurd (h same)

pub differs_turned : (P : Type 0) (x y : Option Element) → IfSome x (λ e. IfSome y (λ h. e.node ≢ h.node)) → IfSome y (λ e. IfSome x (λ h. e.node ≡ h.node → P))
differs_turned P None None h = tt
differs_turned P None (Some g) h = tt
differs_turned P (Some e) None h = tt
differs_turned P (Some e) (Some g) h = λ same. absurd (h (sym same))

pub graft_fits : (f g : Look) (to : Names) → Fits f → IsGraft f g to → Fits (graft f g to)
graft_fits f g to w x = record {
  root = at_cond (λ y. IsSomeAnd y (λ e. e.kind ≡ Root)) (is_prefix to []) (g []) (f []) (λ h. absurd (x.below (root_above to h))) (λ _. w.root);
  only_root = λ q. at_cond (λ y. IfSome y (λ e. e.kind ≡ Root → q ≡ [])) (is_prefix to q) (g q) (f q)
      (λ _. if_map (λ e. e.kind ≢ Root) (λ e. e.kind ≡ Root → q ≡ []) (g q) (λ e h k. absurd (h k)) (x.no_root q)) (λ _. w.only_root q);
  parents = λ q h. at_cond (λ y. IfSome y (λ _. IsSomeAnd (graft f g to (parent q)) (λ e. e.kind ≢ File))) (is_prefix to q) (g q) (f q)
      (λ in_g. by q in_g (is_at q to) refl)
      (λ out. if_map (λ _. IsSomeAnd (f (parent q)) (λ e. e.kind ≢ File)) (λ _. IsSomeAnd (graft f g to (parent q)) (λ e. e.kind ≢ File)) (f q)
      (λ _ given. kept (parent q) (other_side to q (parent q) (prefix_parent to q) out) given)
      (w.parents q h));
  projects = λ q. at_cond (λ y. IfSome y (λ e. (e.kind ≡ Project) ↔ (length q ≡ 1))) (is_prefix to q) (g q) (f q) (x.projects q) (λ _. w.projects q);
  opened = λ q. at_cond (λ y. IfSome y IsOpen) (is_prefix to q) (g q) (f q) (λ _. x.opened q) (λ _. w.opened q);
  nodes = λ q r. at_cond (λ y. IfSome y (λ e. IfSome (graft f g to r) (λ h. e.node ≡ h.node → q ≡ r))) (is_prefix to q) (g q) (f q)
      (λ in_q. at_cond (λ z. IfSome (g q) (λ e. IfSome z (λ h. e.node ≡ h.node → q ≡ r))) (is_prefix to r) (g r) (f r)
      (λ in_r. x.nodes q r in_q in_r)
      (λ out_r. differs (q ≡ r) (g q) (f r) (x.apart q r in_q out_r)))
      (λ out_q. at_cond (λ z. IfSome (f q) (λ e. IfSome z (λ h. e.node ≡ h.node → q ≡ r))) (is_prefix to r) (g r) (f r)
      (λ in_r. differs_turned (q ≡ r) (g r) (f q) (x.apart r q in_r out_q))
      (λ out_r. w.nodes q r));
}
  where
    kept : (q : Names) → is_prefix to q ≡ false → IsSomeAnd (f q) (λ e. e.kind ≢ File) → IsSomeAnd (graft f g to q) (λ e. e.kind ≢ File)
    kept q out given = subst (λ y. IsSomeAnd y (λ e. e.kind ≢ File)) (sym (cond_false (is_prefix to q) (g q) (f q) out)) given

    by : (q : Names) → is_prefix to q ≡ true → (b : Bool) → is_at q to ≡ b → IfSome (g q) (λ _. IsSomeAnd (graft f g to (parent q)) (λ e. e.kind ≢ File))
    by q in_g true h = if_map (λ e. e.kind ≢ Root) (λ _. IsSomeAnd (graft f g to (parent q)) (λ e. e.kind ≢ File)) (g q) (λ _ _.
        subst (λ z. IsSomeAnd (graft f g to (parent z)) (λ e. e.kind ≢ File)) (sym (same_at q to h)) (kept (parent to) (parent_above to x.below) x.above)) (x.no_root q)
    by q in_g false h = if_map (λ _. IsSomeAnd (g (parent q)) (λ e. e.kind ≢ File)) (λ _. IsSomeAnd (graft f g to (parent q)) (λ e. e.kind ≢ File)) (g q) (λ _ given.
        subst (λ y. IsSomeAnd y (λ e. e.kind ≢ File)) (sym (ap (λ b. cond b (g (parent q)) (f (parent q))) (parent_below to q in_g (not_at q to h)))) given)
        (x.within q in_g (not_at q to h))

pub graft_split : (c b d : Bool) (x s y z : Option Element) → (c ≡ true → (d ≡ false) × (s ≡ None) × (option_map opened z ≡ z)) → (c ≡ false → d ≡ b) → Split b x s y
    → Split d (cond c z x) s (cond c z y)
graft_split true b d x s y z on off h = let at = on refl in open_split d z s z at.0 (at.1, at.2)
graft_split false b d x s y z on off h = subst (λ e. Split e x s y) (sym (off refl)) h

pub opened_all : (z : Option Element) → IfSome z IsOpen → option_map opened z ≡ z
opened_all None h = refl
opened_all (Some e) h = ap (λ x. Some x) (opened_same e h)

pub graft_parts : (a s f g : Look) (to : Names) → to ≢ [] → has_closed (a (project_of to)) ≡ false → ((q : Names) → IfSome (g q) IsOpen) → Parts a s f
    → Parts (graft a g to) s (graft f g to)
graft_parts a s f g to below shown all x q = graft_split (is_prefix to q) (is_kept a q) (is_kept (graft a g to) q) (a q) (s q) (f q) (g q)
    (λ in_g.
    let one : project_of q ≡ project_of to = project_below to q below in_g in (
      open_kept (graft a g to) q (at_cond (λ y. has_closed y ≡ false) (is_prefix to (project_of q)) (g (project_of q)) (a (project_of q))
          (λ _. open_not_closed (g (project_of q)) (all (project_of q))) (λ _. ap (λ z. has_closed (a z)) one ∙ shown)),
      (split_false (is_kept a q) (a q) (s q) (f q) (open_kept a q (ap (λ z. has_closed (a z)) one ∙ shown)) (x q)).0,
      opened_all (g q) (all q),
    ))
    (λ out. ap (λ z. is_member_path q && has_closed z)
    (cond_false (is_prefix to (project_of q)) (g (project_of q)) (a (project_of q)) (other_side to q (project_of q) (prefix_project to q) out)))
    (x q)

-- ---- what stands at a path is changed, but not its kind, its node or whether it is open

pub record Alike (e g : Element) : Type 0 where
  pub kind : e.kind ≡ g.kind
  pub node : e.node ≡ g.node
  pub opened : e.opened ≡ g.opened

abbrev pub AllAlike : Option Element → Option Element → Type 0
AllAlike None None = Unit {0}
AllAlike None (Some g) = ⊥
AllAlike (Some e) None = ⊥
AllAlike (Some e) (Some g) = Alike e g

pub like_if : (A B : Element → Type 0) → ((e g : Element) → Alike e g → A e → B g) → (x y : Option Element) → AllAlike x y → IfSome x A → IfSome y B
like_if A B f None None l h = tt
like_if A B f None (Some g) l h = absurd l
like_if A B f (Some e) None l h = absurd l
like_if A B f (Some e) (Some g) l h = f e g l h

pub like_some : (A B : Element → Type 0) → ((e g : Element) → Alike e g → A e → B g) → (x y : Option Element) → AllAlike x y → IsSomeAnd x A → IsSomeAnd y B
like_some A B f None None l h = h
like_some A B f None (Some g) l h = absurd l
like_some A B f (Some e) None l h = absurd l
like_some A B f (Some e) (Some g) l h = f e g l h

pub like_fits : (f g : Look) → ((q : Names) → AllAlike (f q) (g q)) → Fits f → Fits g
like_fits f g l w = record {
  root = like_some (λ e. e.kind ≡ Root) (λ e. e.kind ≡ Root) (λ e h a k. sym a.kind ∙ k) (f []) (g []) (l []) w.root;
  only_root = λ p. like_if (λ e. e.kind ≡ Root → p ≡ []) (λ e. e.kind ≡ Root → p ≡ []) (λ e h a k i. k (a.kind ∙ i)) (f p) (g p) (l p) (w.only_root p);
  parents = λ p below. like_if (λ _. IsSomeAnd (f (parent p)) (λ e. e.kind ≢ File)) (λ _. IsSomeAnd (g (parent p)) (λ e. e.kind ≢ File))
      (λ _ _ _. like_some (λ e. e.kind ≢ File) (λ e. e.kind ≢ File) (λ e h a k i. k (a.kind ∙ i)) (f (parent p)) (g (parent p)) (l (parent p))) (f p) (g p) (l p) (w.parents p below);
  projects = λ p. like_if (λ e. (e.kind ≡ Project) ↔ (length p ≡ 1)) (λ e. (e.kind ≡ Project) ↔ (length p ≡ 1))
      (λ e h a k. (λ i. k.0 (a.kind ∙ i), λ i. sym a.kind ∙ k.1 i)) (f p) (g p) (l p) (w.projects p);
  opened = λ p. like_if IsOpen IsOpen (λ e h a k i. sym a.opened ∙ k (a.kind ∙ i)) (f p) (g p) (l p) (w.opened p);
  nodes = λ p q. like_if (λ e. IfSome (f q) (λ h. e.node ≡ h.node → p ≡ q)) (λ e. IfSome (g q) (λ h. e.node ≡ h.node → p ≡ q))
      (λ e h a. like_if (λ k. e.node ≡ k.node → p ≡ q) (λ k. h.node ≡ k.node → p ≡ q) (λ k m b i same. i (a.node ∙ same ∙ sym b.node)) (f q) (g q) (l q)) (f p) (g p) (l p) (w.nodes p q);
}

pub like_itself : (x : Option Element) → AllAlike x x
like_itself None = tt
like_itself (Some e) = record { kind = refl; node = refl; opened = refl }

pub like_map : (change : Element → Element) → ((e : Element) → Alike e (change e)) → (x : Option Element) → AllAlike x (option_map change x)
like_map change l None = tt
like_map change l (Some e) = l e

-- what is at some paths is changed so
abbrev pub changed_where : Look → (Names → Bool) → (Element → Element) → Look
changed_where f test change q = cond (test q) (option_map change (f q)) (f q)

pub changed_alike : (f : Look) (test : Names → Bool) (change : Element → Element) → ((e : Element) → Alike e (change e)) → (q : Names) → AllAlike (f q) (changed_where f test change q)
changed_alike f test change l q = at_cond (λ y. AllAlike (f q) y) (test q) (option_map change (f q)) (f q) (λ _. like_map change l (f q)) (λ _. like_itself (f q))

pub changed_fits : (f : Look) (test : Names → Bool) (change : Element → Element) → ((e : Element) → Alike e (change e)) → Fits f → Fits (changed_where f test change)
changed_fits f test change l = like_fits f (changed_where f test change) (changed_alike f test change l)

pub like_closed : (x y : Option Element) → AllAlike x y → has_closed x ≡ has_closed y
like_closed None None l = refl
like_closed None (Some g) l = absurd l
like_closed (Some e) None l = absurd l
like_closed (Some e) (Some g) l = λ i. has_closed (Some (record e { kind = l.kind i; opened = l.opened i }))

pub changed_split : (c b d : Bool) (x s y : Option Element) (change : Element → Element) → ((e : Element) → opened (change e) ≡ change (opened e)) → d ≡ b
    → (c ≡ true → b ≡ false) → Split b x s y
    → Split d (cond c (option_map change x) x) s (cond c (option_map change y) y)
changed_split false b d x s y change turns same shown h = subst (λ z. Split z x s y) (sym same) h
changed_split true b d x s y change turns same shown h =
    let at = split_false b x s y (shown refl) h in
    open_split d (option_map change x) s (option_map change y) (same ∙ shown refl) (at.0, both_ways x ∙ ap (option_map change) at.1)
  where
    both_ways : (z : Option Element) → option_map opened (option_map change z) ≡ option_map change (option_map opened z)
    both_ways None = refl
    both_ways (Some e) = ap (λ k. Some k) (turns e)

pub changed_parts : (a s f : Look) (test : Names → Bool) (change : Element → Element) → ((e : Element) → Alike e (change e))
    → ((e : Element) → opened (change e) ≡ change (opened e)) → ((q : Names) → test q ≡ true → is_kept a q ≡ false) → Parts a s f
    → Parts (changed_where a test change) s (changed_where f test change)
changed_parts a s f test change l turns shown x q = changed_split (test q) (is_kept a q) (is_kept (changed_where a test change) q) (a q) (s q) (f q) change turns
    (ap (λ b. is_member_path q && b) (sym (like_closed (a (project_of q)) (changed_where a test change (project_of q)) (changed_alike a test change l (project_of q)))))
    (shown q) (x q)
