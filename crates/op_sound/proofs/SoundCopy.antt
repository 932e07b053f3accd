-- Copying keeps resources sound.
use Rattle.std.proofs.Common.{◌≡◌, ◌≢◌, ℕ, ◌+◌, ◌<◌, ◌≤◌, Bool, true, false, cond, ◌||◌, ◌++◌, length, refl, sym, ap, ◌∙◌, subst, arith, inr}
use Rattle.std.specs.Prelude.{Some, None, IfSome}
use Rattle.std.specs.Option.{option_map}
use Rattle.std.specs.FinMap.{get}
use Rattle.res_path.specs.Paths.{Names, is_prefix}
use Rattle.ws_elem.specs.Kinds.{is_file, is_project}
use Rattle.ws_elem.specs.Trees.{Tree, branch}
use Rattle.ws_elem.specs.declared.element.Element.{Element}
use Rattle.ws_elem.specs.declared.kind.Kind.TheVariants.{File}
use Rattle.op_kind.specs.Resources.{Resources}
use Rattle.op_kind.specs.Entries.{Entries}
use Rattle.op_kind.specs.Members.{put_all, rebased, carried}
use Rattle.op_kind.specs.Numbers.{stamps_of, stamps_of_all}
use Rattle.proj_desc.specs.FirstCause.{first_cause}
use Rattle.op_kind.specs.Refusals.{copy_causes, fit_causes, number_causes}
use Rattle.op_kind.specs.Effects.{renumbered, copies, copy}
use Rattle.op_kind.specs.Sound.{IsConsistent}
use Rattle.op_kind.specs.Stamps.{IsDrawn}
use Rattle.op_kind.proofs.Cases.{if_as, at_two, some_same, at_cond, cond_true, if_map, if_there, at_some, map_if}
use Rattle.op_kind.proofs.Looks.{find_at, sorted-branch}
use Rattle.op_sound.proofs.SoundParts.{whole_of, whole_parts, whole_fits}
use Rattle.op_sound.proofs.SoundGrafts.{fits_as, parts_as, graft, IsGraft, graft_fits, graft_parts}
use Rattle.op_sound.proofs.SoundCarried.{Draws, get-carried, branch_below, node_at, stamp_at, find-copies, copies_below, sorted-copies, node_range, stamp_range, node_apart, stamp_apart}
use Rattle.op_sound.proofs.SoundStamps.{Same, Comes, IsLater, no_marks, no_bytes, stays_tree, stays_shelf}
use Rattle.op_sound.proofs.SoundSteps.{Keeps, whole_above, whole_free, tree_free, whole_nodes}
use Rattle.op_sound.proofs.SoundMove.{Transfer, transferred, rebased_one, brought, brought_graft, find-brought}

-- an element that is copied, with the numbers that its copy draws
pub record IsCopy (r : Resources) (copied : Entries) (e : Element) : Type 0 where
  pub path : Names
  pub from : Element
  pub there : find_at path copied ≡ Some from
  pub is : e ≡ renumbered (node_at r.next_node copied path) (stamp_at r.next_stamp copied path) from

-- a file draws a stamp
pub file_stamp : (n s : ℕ) (e : Element) → e.kind ≡ File → (renumbered n s e).stamp ≡ s
file_stamp n s e file = cond_true (is_file e.kind) s e.stamp (ap is_file file)

pub file_stamps : (e : Element) → is_file e.kind ≡ true → stamps_of e ≡ 1
file_stamps e h = ap (λ b. cond (b || is_project e.kind) 1 0) h

pub project_stamps : (e : Element) → is_project e.kind ≡ true → stamps_of e ≡ 1
project_stamps e h = ap (λ b. cond b 1 0) (by (is_file e.kind) (is_project e.kind) h)
  where
    by : (a b : Bool) → b ≡ true → (a || b) ≡ true
    by true b g = refl
    by false b g = g

-- the numbers of a copy are drawn
pub copy_drawn : (r after : Resources) (n s : ℕ) (e : Element) → IsDrawn r e → n + 1 ≤ after.next_node → s + stamps_of e ≤ after.next_stamp → r.next_stamp ≤ after.next_stamp
    → IsDrawn after (renumbered n s e)
copy_drawn r after n s e d less room more = record {
  node = omega arith;
  stamp = at_cond (λ z. z < after.next_stamp) (is_file e.kind) s e.stamp
      (λ h. let one : stamps_of e ≡ 1 = file_stamps e h in omega arith)
      (λ _. let drawn : e.stamp < r.next_stamp = d.stamp in omega arith);
  desc_stamp = at_cond (λ z. z < after.next_stamp) (is_project e.kind) s e.attached.desc_stamp
      (λ h. let one : stamps_of e ≡ 1 = project_stamps e h in omega arith)
      (λ _. let drawn : e.attached.desc_stamp < r.next_stamp = d.desc_stamp in omega arith);
  marks = no_marks after.next_marker;
  syncs = no_bytes (length after.partners);
}

-- a copied file's stamp is fresh
pub copy_late : (r : Resources) (copied : Entries) (e : Element) → IsCopy r copied e → e.kind ≡ File → r.next_stamp ≤ e.stamp
copy_late r copied e c file =
    let range : Draws r.next_stamp (stamp_at r.next_stamp copied c.path) (stamps_of c.from) (r.next_stamp + stamps_of_all copied) =
    at_some (λ g. Draws r.next_stamp (stamp_at r.next_stamp copied c.path) (stamps_of g) (r.next_stamp + stamps_of_all copied))
    (find_at c.path copied) c.from c.there (stamp_range r.next_stamp copied c.path) in
    let is : e.stamp ≡ stamp_at r.next_stamp copied c.path =
    ap (λ g. g.stamp) c.is ∙ file_stamp (node_at r.next_node copied c.path) (stamp_at r.next_stamp copied c.path) c.from (sym (ap (λ g. g.kind) c.is) ∙ file) in
    omega arith

-- copies with one stamp are copies of one file
pub copy_same : (r : Resources) (copied : Entries) (e f : Element) → IsCopy r copied e → IsCopy r copied f → Same e f
copy_same r copied e f c d k l same =
    let file : c.from.kind ≡ File = sym (ap (λ g. g.kind) c.is) ∙ k in
    let also : d.from.kind ≡ File = sym (ap (λ g. g.kind) d.is) ∙ l in
    let stamp : e.stamp ≡ stamp_at r.next_stamp copied c.path = ap (λ g. g.stamp) c.is ∙ file_stamp (node_at r.next_node copied c.path) (stamp_at r.next_stamp copied c.path) c.from file in
    let other : f.stamp ≡ stamp_at r.next_stamp copied d.path = ap (λ g. g.stamp) d.is ∙ file_stamp (node_at r.next_node copied d.path) (stamp_at r.next_stamp copied d.path) d.from also in
    let one : stamps_of c.from ≡ 1 = file_stamps c.from (ap is_file file) in
    let two : stamps_of d.from ≡ 1 = file_stamps d.from (ap is_file also) in
    let apart : 1 ≤ stamps_of c.from → 1 ≤ stamps_of d.from → stamp_at r.next_stamp copied c.path ≡ stamp_at r.next_stamp copied d.path → c.path ≡ d.path =
    at_two (λ g h. 1 ≤ stamps_of g → 1 ≤ stamps_of h → stamp_at r.next_stamp copied c.path ≡ stamp_at r.next_stamp copied d.path → c.path ≡ d.path)
    (find_at c.path copied) (find_at d.path copied) c.from d.from c.there d.there (stamp_apart r.next_stamp copied c.path d.path) in
    let path : c.path ≡ d.path = apart (omega arith) (omega arith) (sym stamp ∙ same ∙ other) in
    ap (λ g. g.bytes) c.is ∙ ap (λ g. g.bytes) (some_same c.from d.from (sym c.there ∙ ap (λ p. find_at p copied) path ∙ d.there)) ∙ sym (ap (λ g. g.bytes) d.is)

module _ (r : Resources) (from to : Names) (x : IsConsistent r) (at : Transfer r.tree from to) where
  abbrev copied : Entries
  copied = branch r.tree from

  -- the node, the stamp and the copy of what stood where q comes from
  abbrev node : Names → ℕ
  node q = node_at r.next_node (branch r.tree from) (rebased to from q)

  abbrev stamp : Names → ℕ
  stamp q = stamp_at r.next_stamp (branch r.tree from) (rebased to from q)

  abbrev copy_of : Names → Element → Element
  copy_of q = renumbered (node q) (stamp q)

  -- what stands once the copies were put at `to`, where nothing was
  get-copied : (t : Tree) → ((q : Names) → is_prefix to q ≡ true → get t q ≡ None) → (q : Names)
      → get (put_all t (carried from to (copies r.next_node r.next_stamp copied))) q ≡ graft (get t) (brought (get r.tree) from to copy_of) to q
  get-copied t free q =
      get-carried t from to (copies r.next_node r.next_stamp copied) (copies_below from r.next_node r.next_stamp copied (branch_below r.tree from))
      (sorted-copies r.next_node r.next_stamp copied (sorted-branch r.tree from)) free q
      ∙ ap (λ z. cond (is_prefix to q) z (get t q)) (find-copies r.next_node r.next_stamp copied (rebased to from q) ∙ ap (option_map (copy_of q)) (find-brought r.tree from to q))

  -- ---- a copy's numbers

  in_nodes : (q : Names) → IfSome (get r.tree (rebased to from q)) (λ _. Draws r.next_node (node q) 1 (r.next_node + length copied))
  in_nodes q = subst (λ z. IfSome z (λ _. Draws r.next_node (node q) 1 (r.next_node + length copied))) (find-brought r.tree from to q)
      (node_range r.next_node copied (rebased to from q))

  in_stamps : (q : Names) → IfSome (get r.tree (rebased to from q)) (λ e. Draws r.next_stamp (stamp q) (stamps_of e) (r.next_stamp + stamps_of_all copied))
  in_stamps q = subst (λ z. IfSome z (λ e. Draws r.next_stamp (stamp q) (stamps_of e) (r.next_stamp + stamps_of_all copied))) (find-brought r.tree from to q)
      (stamp_range r.next_stamp copied (rebased to from q))

  one_node : (q u : Names) → is_prefix to q ≡ true → is_prefix to u ≡ true
      → IfSome (get r.tree (rebased to from q)) (λ _. IfSome (get r.tree (rebased to from u)) (λ _. node q ≡ node u → q ≡ u))
  one_node q u in_q in_u =
      if_map (λ _. IfSome (get r.tree (rebased to from u)) (λ _. node q ≡ node u → rebased to from q ≡ rebased to from u))
      (λ _. IfSome (get r.tree (rebased to from u)) (λ _. node q ≡ node u → q ≡ u)) (get r.tree (rebased to from q))
      (λ _. if_map (λ _. node q ≡ node u → rebased to from q ≡ rebased to from u) (λ _. node q ≡ node u → q ≡ u) (get r.tree (rebased to from u))
      (λ _ h same. rebased_one from to q u in_q in_u (h same)))
      (subst (λ z. IfSome z (λ _. IfSome (get r.tree (rebased to from u)) (λ _. node q ≡ node u → rebased to from q ≡ rebased to from u))) (find-brought r.tree from to q)
      (subst (λ z. IfSome (find_at (rebased to from q) copied) (λ _. IfSome z (λ _. node q ≡ node u → rebased to from q ≡ rebased to from u))) (find-brought r.tree from to u)
      (node_apart r.next_node copied (rebased to from q) (rebased to from u))))

  new_node : (q u : Names) → IfSome (get r.tree (rebased to from q)) (λ _. IfSome (get (whole_of r x) u) (λ l. node q ≢ l.node))
  new_node q u = if_map (λ _. Draws r.next_node (node q) 1 (r.next_node + length copied)) (λ _. IfSome (get (whole_of r x) u) (λ l. node q ≢ l.node)) (get r.tree (rebased to from q))
      (λ _ range. if_map (λ l. l.node < r.next_node) (λ l. node q ≢ l.node) (get (whole_of r x) u) (λ l less same. absurd (omega arith)) (whole_nodes r x u)) (in_nodes q)

  copy_graft : IsGraft (get (whole_of r x)) (brought (get r.tree) from to copy_of) to
  copy_graft = brought_graft r.tree (get (whole_of r x)) from to copy_of x.tree record { kind = λ _ _. refl; opened = λ _ _. refl } at (whole_above r x to at.place)
      (λ q u in_q in_u. map_if (copy_of q) (λ e. IfSome (brought (get r.tree) from to copy_of u) (λ l. e.node ≡ l.node → q ≡ u)) (get r.tree (rebased to from q))
      (if_map (λ _. IfSome (get r.tree (rebased to from u)) (λ _. node q ≡ node u → q ≡ u))
      (λ _. IfSome (brought (get r.tree) from to copy_of u) (λ l. node q ≡ l.node → q ≡ u)) (get r.tree (rebased to from q))
      (λ _. map_if (copy_of u) (λ l. node q ≡ l.node → q ≡ u) (get r.tree (rebased to from u))) (one_node q u in_q in_u)))
      (λ q u _ _. map_if (copy_of q) (λ e. IfSome (get (whole_of r x) u) (λ l. e.node ≢ l.node)) (get r.tree (rebased to from q)) (new_node q u))

  copy_comes : (q : Names) → IfSome (brought (get r.tree) from to copy_of q) (Comes (IsCopy r copied) r (copy r from to))
  copy_comes q = map_if (copy_of q) (Comes (IsCopy r copied) r (copy r from to)) (get r.tree (rebased to from q))
      (if_there (λ e. Comes (IsCopy r copied) r (copy r from to) (copy_of q e)) (get r.tree (rebased to from q)) (λ e is.
      record {
        drawn = copy_drawn r (copy r from to) (node q) (stamp q) e
            (at_some (IsDrawn r) (get r.tree (rebased to from q)) e is (x.tree_known.drawn (rebased to from q)))
            (at_some (λ _. Draws r.next_node (node q) 1 (r.next_node + length copied)) (get r.tree (rebased to from q)) e is (in_nodes q)).1
            (at_some (λ g. Draws r.next_stamp (stamp q) (stamps_of g) (r.next_stamp + stamps_of_all copied)) (get r.tree (rebased to from q)) e is (in_stamps q)).1 (omega arith);
        whence = inr record { path = rebased to from q; from = e; there = find-brought r.tree from to q ∙ is; is = refl };
      }))

  later : IsLater r (copy r from to)
  later = (omega arith, omega arith, omega arith, omega arith)

  copied_keeps : Keeps (IsCopy r copied) r (copy r from to)
  copied_keeps = record {
    whole = put_all (whole_of r x) (carried from to (copies r.next_node r.next_stamp copied));
    fits = fits_as (graft (get (whole_of r x)) (brought (get r.tree) from to copy_of) to) (get (put_all (whole_of r x) (carried from to (copies r.next_node r.next_stamp copied))))
        (get-copied (whole_of r x) (whole_free r x to at.place))
        (graft_fits (get (whole_of r x)) (brought (get r.tree) from to copy_of) to (whole_fits r x) copy_graft);
    parts = parts_as (graft (get r.tree) (brought (get r.tree) from to copy_of) to) (get (copy r from to).tree) (get r.shelf) (get r.shelf)
        (graft (get (whole_of r x)) (brought (get r.tree) from to copy_of) to) (get (put_all (whole_of r x) (carried from to (copies r.next_node r.next_stamp copied))))
        (λ q. sym (get-copied r.tree (tree_free r x to at.place) q)) (λ _. refl) (λ q. sym (get-copied (whole_of r x) (whole_free r x to at.place) q))
        (graft_parts (get r.tree) (get r.shelf) (get (whole_of r x)) (brought (get r.tree) from to copy_of) to at.place.below at.place.shown copy_graft.opened (whole_parts r x));
    grows = record {
      later = later;
      tree = λ q. if_as (Comes (IsCopy r copied) r (copy r from to)) (get (copy r from to).tree q) (graft (get r.tree) (brought (get r.tree) from to copy_of) to q)
          (get-copied r.tree (tree_free r x to at.place) q)
          (at_cond (λ z. IfSome z (Comes (IsCopy r copied) r (copy r from to))) (is_prefix to q) (brought (get r.tree) from to copy_of q) (get r.tree q)
          (λ _. copy_comes q) (λ _. stays_tree (IsCopy r copied) r (copy r from to) later x.tree_known q));
      shelf = stays_shelf (IsCopy r copied) r (copy r from to) later x.shelf_known;
      late = copy_late r copied;
      same = copy_same r copied;
    };
  }

pub copy_keeps : (r : Resources) (from to : Names) → IsConsistent r → first_cause (copy_causes r from to) ≡ None → Keeps (IsCopy r (branch r.tree from)) r (copy r from to)
copy_keeps r from to x h = copied_keeps r from to x (transferred r.tree from to (fit_causes r.tree from to ++ number_causes r (length (branch r.tree from)) (stamps_of_all (branch r.tree from))) h)
