-- Resources stay sound where what is wanted is put at one path.
use Rattle.std.proofs.Common.{◌≡◌, ◌≢◌, ℕ, zero, suc, ◌+◌, ◌<◌, ◌≤◌, Bool, true, false, cond, not, ◌&&◌, ◌||◌, List, [], ◌∷◌, length, refl, sym, ap, ◌∙◌, subst, arith, inr}
use Rattle.std.specs.Prelude.{Option, Some, None, IfSome, IsSomeAnd}
use Rattle.std.specs.Option.{option_map}
use Rattle.std.specs.FinMap.{get, insert, retain_keys, same_map}
use Rattle.res_path.specs.Paths.{Names, parent, is_prefix}
use Rattle.res_path.specs.PathLaws.{path_cmp_total}
use Rattle.res_path.proofs.Prefixes.{path_cmp_exact}
use Rattle.ws_elem.specs.Kinds.{is_file, is_project}
use Rattle.ws_elem.specs.Trees.{Tree}
use Rattle.ws_elem.specs.declared.element.Element.{Element}
use Rattle.ws_elem.specs.declared.kind.Kind.{Kind}
use Rattle.ws_elem.specs.declared.kind.Kind.TheVariants.{File, Folder, Project, Root}
use Rattle.ws_elem.proofs.Cuts.{same_at}
use Rattle.op_kind.specs.Effects.{create, new_file, new_folder, put_some}
use Rattle.op_kind.specs.Members.{is_below}
use Rattle.op_kind.specs.Places.{project_of, has_file, has_closed}
use Rattle.op_kind.specs.Resources.{Resources}
use Rattle.op_kind.specs.Sound.{opened, IsConsistent}
use Rattle.op_kind.specs.Stamps.{IsDrawn}
use Rattle.op_kind.proofs.Cases.{if_map, if_none, none_if, at_some, some_same}
use Rattle.op_kind.proofs.Looks.{Look, is_at, not_at, get-put}
use Rattle.op_kind.proofs.PathsBelow.{never, both, not_true, prefix_itself, prefix_length, prefix_parent, parent_above, parent_below, parent_shorter, project_below, project_length, root_above}
use Rattle.op_sound.proofs.SoundChange.{change_keeps, IsChanged, all_changed, rewrite_with}
use Rattle.op_sound.proofs.SoundCreate.{IsNew, create_keeps, some_stamp}
use Rattle.op_sound.proofs.SoundOpen.{below_prefix, is_below_of}
use Rattle.op_sound.proofs.SoundParts.{is_kept, open_kept}
use Rattle.op_sound.proofs.SoundStamps.{no_marks, no_bytes}
use Rattle.op_sound.proofs.SoundSteps.{Keeps, Place, is_there, names_at_least}
use Rattle.output_commit.specs.Placed.{has_bytes, is_container, serves, is_rewritten, rewritten, fresh, nodes_of, stamps_of}
use Rattle.output_commit.proofs.Pruned.{StaysSound, keeps_sound, sound_on, sound_same, IsPruning, get-chosen, pruned, prune_sound}

-- ---- what is below a file

-- nothing is below a file, and nothing below what isn't there
pub nothing_under : (f : Look) → ((q : Names) → q ≢ [] → IfSome (f q) (λ _. IsSomeAnd (f (parent q)) (λ e. e.kind ≢ File))) → (p : Names) → IfSome (f p) (λ e. e.kind ≡ File)
    → (q : Names) → is_below p q ≡ true → f q ≡ None
nothing_under f parents p empty q under = let parts = below_prefix p q under in by (length q) q (omega arith) parts.0 parts.1
  where
    clash : (x : Option Element) → IfSome x (λ e. e.kind ≡ File) → IsSomeAnd x (λ e. e.kind ≢ File) → ⊥
    clash None h g = g
    clash (Some e) h g = g h

    alone : (q : Names) → q ≢ [] → IfSome (f (parent q)) (λ e. e.kind ≡ File) → f q ≡ None
    alone q some h = if_none (f q) (if_map (λ _. IsSomeAnd (f (parent q)) (λ e. e.kind ≢ File)) (λ _. ⊥) (f q) (λ _ g. clash (f (parent q)) h g) (parents q some))

    some : (q : Names) → is_prefix p q ≡ true → q ≢ p → q ≢ []
    some q h other e = other (e ∙ sym (root_above p (subst (λ z. is_prefix p z ≡ true) e h)))

    by : (n : ℕ) (q : Names) → length q ≤ n → is_prefix p q ≡ true → q ≢ p → f q ≡ None
    by zero [] l h other = absurd (other (sym (root_above p h)))
    by zero (m ∷ q) l h other = absurd (omega arith)
    by (suc n) q l h other = at (is_at (parent q) p) refl (λ less apart. by n (parent q) less (parent_below p q h other) apart)
      where
        at : (b : Bool) → is_at (parent q) p ≡ b → (length (parent q) ≤ n → parent q ≢ p → f (parent q) ≡ None) → f q ≡ None
        at true g rest = alone q (some q h other) (subst (λ z. IfSome (f z) (λ e. e.kind ≡ File)) (sym (same_at (parent q) p g)) empty)
        at false g rest =
            let less : length (parent q) < length q = parent_shorter q (some q h other) in
            alone q (some q h other) (none_if (λ e. e.kind ≡ File) (f (parent q)) (rest (omega arith) (not_at (parent q) p g)))

pub file_only : (k : Kind) → is_file k ≡ true → k ≡ File
file_only File h = refl
file_only Folder h = absurd (never (sym h))
file_only Project h = absurd (never (sym h))
file_only Root h = absurd (never (sym h))

-- ---- a place for what is wanted

-- a path in an open project, whose parent is there and no file
pub record Spot (t : Tree) (p : Names) : Type 0 where
  pub long : 2 ≤ length p
  pub shown : has_closed (get t (project_of p)) ≡ false
  pub above : IsSomeAnd (get t (parent p)) (λ e. e.kind ≢ File)

spot_names : (t : Tree) (p : Names) → Spot t p → p ≢ []
spot_names t p at = let long : 2 ≤ length p = at.long in names_at_least p (omega arith)

-- all but p and what is below it
abbrev beside : Names → Names → Bool
beside p q = not (is_prefix p q)

above_all : (t : Tree) (p : Names) → Spot t p → (q : Names) → is_prefix p (project_of q) ≡ false
above_all t p at q = not_true (is_prefix p (project_of q)) (λ h.
    let long : 2 ≤ length p = at.long in
    let short : length (project_of q) ≤ 1 = project_length q in
    let less : length p ≤ length (project_of q) = prefix_length p (project_of q) h in
    absurd (omega arith))

cut_pruning : (t : Tree) (p : Names) → Spot t p → IsPruning (get t) (beside p)
cut_pruning t p at = record {
  project = λ q. ap not (above_all t p at q);
  parents = λ q h. ap not (not_true (is_prefix p (parent q)) (λ g. never (sym h ∙ ap not (prefix_parent p q g))));
  shown = λ q h. open_kept (get t) q (ap (λ z. has_closed (get t z)) (project_below p q (spot_names t p at) (is_there (is_prefix p q) h)) ∙ at.shown);
}

cut_place : (t : Tree) (p : Names) → Spot t p → Place (get (retain_keys t (beside p))) p
cut_place t p at = record {
  below = spot_names t p at;
  shown = ap has_closed (kept (project_of p) (above_all t p at p)) ∙ at.shown;
  above = subst (λ x. IsSomeAnd x (λ e. e.kind ≢ File)) (sym (kept (parent p) (parent_above p (spot_names t p at)))) at.above;
  absent = get-chosen t (beside p) p ∙ ap (λ b. cond (not b) (get t p) None) (prefix_itself p);
}
  where
    kept : (q : Names) → is_prefix p q ≡ false → get (retain_keys t (beside p)) q ≡ get t q
    kept q h = get-chosen t (beside p) q ∙ ap (λ b. cond (not b) (get t q) None) h

-- where nothing is below p, it is alike whether p was cleared first
put_anew : (t : Tree) (p : Names) (e : Element) → ((q : Names) → is_below p q ≡ true → get t q ≡ None) → insert (retain_keys t (beside p)) p e ≡ insert t p e
put_anew t p e clear = same_map path_cmp_total path_cmp_exact _ _ (λ q.
    get-put (retain_keys t (beside p)) p e q ∙ ap (λ x. cond (is_at q p) (Some e) x) (get-chosen t (beside p) q) ∙ by q (is_at q p) refl (is_prefix p q) refl ∙ sym (get-put t p e q))
  where
    by : (q : Names) (a : Bool) → is_at q p ≡ a → (b : Bool) → is_prefix p q ≡ b → cond a (Some e) (cond (not b) (get t q) None) ≡ cond a (Some e) (get t q)
    by q true at b h = refl
    by q false at false h = refl
    by q false at true h = sym (clear q (is_below_of p q h (not_at q p at)))

-- ---- what is put

-- a new element comes to stand at p
new_sound : (r : Resources) (p : Names) (e : Element) → IsConsistent r → Spot r.tree p → ((q : Names) → is_below p q ≡ true → get r.tree q ≡ None) → IsNew (pruned r (beside p)) p e
    → StaysSound r (create r p e)
new_sound r p e x at clear new =
    let cut : StaysSound r (pruned r (beside p)) = prune_sound r (beside p) x (cut_pruning r.tree p at) in
    let put : StaysSound (pruned r (beside p)) (create (pruned r (beside p)) p e) = keeps_sound (λ g. g ≡ e) (pruned r (beside p)) (create (pruned r (beside p)) p e) cut.sound
    (create_keeps (pruned r (beside p)) p e cut.sound (cut_place r.tree p at) new) in
    subst (StaysSound r) (λ i. record (create r p e) { tree = put_anew r.tree p e clear i }) (sound_on r (pruned r (beside p)) (create (pruned r (beside p)) p e) cut put)

file_new : (r : Resources) (p : Names) (bytes : List ℕ) → 2 ≤ length p → 1 ≤ r.next_stamp → IsNew r p (new_file r.next_node r.next_stamp bytes)
file_new r p bytes long some = record {
  project = (λ e. cc, λ one. absurd (omega arith));
  opened = λ e. cc;
  no_root = λ e. cc;
  node = refl;
  stamp = λ _. refl;
  drawn = record { node = omega arith; stamp = omega arith; desc_stamp = omega arith; marks = no_marks r.next_marker; syncs = no_bytes (length r.partners) };
}

folder_new : (r : Resources) (p : Names) → 2 ≤ length p → 1 ≤ r.next_stamp → IsNew r p (new_folder r.next_node)
folder_new r p long some = record {
  project = (λ e. cc, λ one. absurd (omega arith));
  opened = λ e. cc;
  no_root = λ e. cc;
  node = refl;
  stamp = λ e. cc;
  drawn = record { node = omega arith; stamp = omega arith; desc_stamp = omega arith; marks = no_marks r.next_marker; syncs = no_bytes (length r.partners) };
}

-- a file gets other contents
rewrite_keeps : (r : Resources) (p : Names) (bytes : List ℕ) (f : Element) → IsConsistent r → get r.tree p ≡ Some f → is_kept (get r.tree) p ≡ false
    → Keeps (IsChanged r p (rewrite_with r.next_stamp (λ _. bytes))) r (record r { tree = insert r.tree p (rewritten r.next_stamp bytes f); next_stamp = r.next_stamp + 1 })
rewrite_keeps r p bytes f x there shown = subst (λ y. Keeps (IsChanged r p change) r (record r { tree = put_some r.tree p (option_map change y); next_stamp = r.next_stamp + 1 })) there
    (change_keeps (IsChanged r p change) r p change (r.next_stamp + 1) x record { alike = λ e. record { kind = refl; node = refl; opened = refl }; turns = turns } shown (omega arith)
    (λ e is. record { drawn = later e (at_some (IsDrawn r) (get r.tree p) e is (x.tree_known.drawn p)); whence = inr (ap (option_map change) is) })
    (λ e is _. all_changed (λ g. r.next_stamp ≤ g.stamp) change (λ g. omega arith) (get r.tree p) e is)
    (λ e g is also _ _ _. ap (λ z. z.bytes) (some_same e g (sym is ∙ also))))
  where
    change : Element → Element
    change = rewrite_with r.next_stamp (λ _. bytes)

    turns : (e : Element) → opened (change e) ≡ change (opened e)
    turns e = elim (is_project e.kind) as (λ b.
        cond b (record (rewrite_with r.next_stamp (λ _. bytes) e) { opened = true }) (rewrite_with r.next_stamp (λ _. bytes) e)
        ≡ rewrite_with r.next_stamp (λ _. bytes) (cond b (record e { opened = true }) e)) [ true ↦ refl | false ↦ refl ]

    later : (e : Element) → IsDrawn r e → IsDrawn (record r { tree = put_some r.tree p (option_map change (get r.tree p)); next_stamp = r.next_stamp + 1 }) (rewrite_with r.next_stamp (λ _. bytes) e)
    later e d = record {
      node = d.node;
      stamp = omega arith;
      desc_stamp = let less : e.attached.desc_stamp < r.next_stamp = d.desc_stamp in omega arith;
      marks = d.marks;
      syncs = d.syncs;
    }

-- ---- what is wanted at one path

-- what is put where e is wanted and x is there, by what serves, is rewritten and is a file
abbrev put_by : Resources → Names → Bool → Bool → Bool → List ℕ → Option Element → Resources
put_by r p s w k bytes x = record r {
  tree = put_some r.tree p (cond s None (cond w (option_map (rewritten r.next_stamp bytes) x) (Some (cond k (new_file r.next_node r.next_stamp bytes) (new_folder r.next_node)))));
  next_node = r.next_node + cond (s || w) 0 1;
  next_stamp = r.next_stamp + cond (k && not s) 1 0;
}

-- the resources with what is wanted at p, where x is there
abbrev pub stepped : Resources → Names → Element → Option Element → Resources
stepped r p e x = record r {
  tree = put_some r.tree p (fresh r.next_node r.next_stamp e x);
  next_node = r.next_node + nodes_of e x;
  next_stamp = r.next_stamp + stamps_of e x;
}

no_container : (x : Option Element) → is_container x ≡ false → IfSome x (λ e. e.kind ≡ File)
no_container None h = tt
no_container (Some e) h = file_only e.kind (is_there (is_file e.kind) h)

and_false : (b : Bool) → (b && false) ≡ false
and_false true = refl
and_false false = refl

serves_still : (r : Resources) (p : Names) (w k : Bool) (bytes : List ℕ) (x : Option Element) → r ≡ put_by r p true w k bytes x
serves_still r p w k bytes x =
    let nodes : r.next_node ≡ r.next_node + 0 = omega arith in
    let stamps : r.next_stamp ≡ r.next_stamp + cond (k && false) 1 0 = plus_none r.next_stamp ∙ ap (λ b. r.next_stamp + cond b 1 0) (sym (and_false k)) in
    λ i. record r { next_node = nodes i; next_stamp = stamps i }
  where
    plus_none : (n : ℕ) → n ≡ n + 0
    plus_none n = omega arith

file_rewritten : (r : Resources) (p : Names) (bytes : List ℕ) (x : Option Element) → IsConsistent r → Spot r.tree p → get r.tree p ≡ x → has_file x ≡ true
    → StaysSound r (put_by r p false true true bytes x)
file_rewritten r p bytes None c at is file = absurd (never (sym file))
file_rewritten r p bytes (Some f) c at is file =
    let same : r.next_node ≡ r.next_node + 0 = omega arith in
    subst (StaysSound r) (λ i. record r { tree = insert r.tree p (rewritten r.next_stamp bytes f); next_node = same i; next_stamp = r.next_stamp + 1 })
    (keeps_sound (IsChanged r p (rewrite_with r.next_stamp (λ _. bytes))) r (record r { tree = insert r.tree p (rewritten r.next_stamp bytes f); next_stamp = r.next_stamp + 1 }) c
    (rewrite_keeps r p bytes f c is (open_kept (get r.tree) p at.shown)))

-- what is wanted may come to stand at p: nothing is below it where a file is wanted
pub step_sound : (r : Resources) (p : Names) (e : Element) (x : Option Element) → IsConsistent r → Spot r.tree p → get r.tree p ≡ x
    → (is_file e.kind ≡ true → (q : Names) → is_below p q ≡ true → get r.tree q ≡ None) → StaysSound r (stepped r p e x)
step_sound r p e x c at is clear = by (serves e x) refl (is_rewritten e x) refl (is_file e.kind) refl
  where
    by : (s : Bool) → serves e x ≡ s → (w : Bool) → is_rewritten e x ≡ w → (k : Bool) → is_file e.kind ≡ k → StaysSound r (put_by r p s w k e.bytes x)
    by true a w b k g = sound_same r (put_by r p true w k e.bytes x) c (serves_still r p w k e.bytes x)
    by false a true b true g = file_rewritten r p e.bytes x c at is (both (is_file e.kind) (has_file x) b).1
    by false a true b false g = absurd (never (sym (both (is_file e.kind) (has_file x) b).0 ∙ g))
    by false a false b true g = new_sound r p (new_file r.next_node r.next_stamp e.bytes) c at (clear g) (file_new (pruned r (beside p)) p e.bytes at.long (some_stamp r c))
    by false a false b false g = new_sound r p (new_folder r.next_node) c at
        (nothing_under (get r.tree) c.tree.parents p (subst (λ y. IfSome y (λ h. h.kind ≡ File)) (sym is) (no_container x (ap (λ k. cond k (has_bytes e.bytes x) (is_container x)) (sym g) ∙ a))))
        (folder_new (pruned r (beside p)) p at.long (some_stamp r c))
