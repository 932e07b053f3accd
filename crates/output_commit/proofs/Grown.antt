-- Resources stay sound where all that is wanted is put, in path order.
use Rattle.std.proofs.Common.{◌≡◌, ◌≢◌, ℕ, ◌+◌, ◌≤◌, Bool, true, false, cond, not, ◌&&◌, [], ◌∷◌, length, T, refl, sym, ap, ◌∙◌, subst, arith}
use Rattle.std.specs.Prelude.{Option, Some, None, IfSome, IsSomeAnd}
use Rattle.std.specs.List.{AllByRecursion}
use Rattle.std.specs.Option.{option_or}
use Rattle.std.specs.Str.{bytes_eq}
use Rattle.std.specs.FinMap.{get}
use Rattle.res_path.specs.Paths.{Names, parent, is_prefix}
use Rattle.ws_elem.specs.Kinds.{is_file}
use Rattle.ws_elem.specs.Trees.{Tree}
use Rattle.ws_elem.specs.declared.element.Element.{Element}
use Rattle.ws_elem.specs.declared.kind.Kind.TheVariants.{File}
use Rattle.ws_elem.proofs.Cuts.{same_at}
use Rattle.op_kind.specs.Effects.{new_file, new_folder, put_some}
use Rattle.op_kind.specs.Entries.{Entries}
use Rattle.op_kind.specs.Members.{is_below, put_all}
use Rattle.op_kind.specs.Places.{project_of, has_closed}
use Rattle.op_kind.specs.Resources.{Resources}
use Rattle.op_kind.specs.Sound.{IsConsistent}
use Rattle.op_kind.proofs.Cases.{at_some, some_map}
use Rattle.op_kind.proofs.Looks.{is_at, at_itself, at_other, find_at, sorted}
use Rattle.op_kind.proofs.PathsBelow.{never, project_length}
use Rattle.op_sound.proofs.SoundSteps.{names_at_least}
use Rattle.output_commit.specs.Placed.{rewritten, fresh, nodes_of, stamps_of, placed, total}
use Rattle.output_commit.proofs.Counting.{put_first, still_all}
use Rattle.output_commit.proofs.Pruned.{StaysSound, sound_on, sound_same}
use Rattle.output_commit.proofs.Shown.{get-put_some}
use Rattle.output_commit.proofs.Spots.{Spot, stepped, step_sound}
use Rattle.output_commit.proofs.Under.{below_more, parent_passed}

first : (a b : Bool) → T (a && b) → T a
first true b h = tt
first false b h = h

second : (a b : Bool) → T (a && b) → T b
second true b h = h
second false b h = absurd h

-- ---- what may be wanted

-- what is wanted lies in o's project and there in folders, and files below o, with nothing below them
pub record MayBeWanted (o : Names) (w : Tree) : Type 0 where
  pub within : (q : Names) → IfSome (get w q) (λ _. (2 ≤ length q) × (project_of q ≡ project_of o))
  pub parents : (q : Names) → IfSome (get w q) (λ _. 3 ≤ length q → IsSomeAnd (get w (parent q)) (λ g. is_file g.kind ≡ false))
  pub below : (q : Names) → IfSome (get w q) (λ g. is_file g.kind ≡ true → is_prefix o q ≡ true)
  pub clear : (q r : Names) → IfSome (get w q) (λ g. is_file g.kind ≡ true → is_below q r ≡ true → get w r ≡ None)

-- whatever is put at a path or serves there, it is a file just where one is wanted
fresh_kind : (n s : ℕ) (e : Element) (x : Option Element) → IsSomeAnd (option_or (fresh n s e x) x) (λ g. is_file g.kind ≡ is_file e.kind)
fresh_kind n s e None = by (is_file e.kind)
  where
    by : (b : Bool) → IsSomeAnd (option_or (cond (cond b false false) None (cond (b && false) None (Some (cond b (new_file n s e.bytes) (new_folder n))))) None) (λ g. is_file g.kind ≡ b)
    by true = refl
    by false = refl
fresh_kind n s e (Some f) = by (is_file e.kind) (is_file f.kind) refl (bytes_eq f.bytes e.bytes)
  where
    by : (b k : Bool) → is_file f.kind ≡ k → (q : Bool)
        → IsSomeAnd (option_or (cond (cond b (k && q) (not k)) None (cond (b && k) (Some (rewritten s e.bytes f)) (Some (cond b (new_file n s e.bytes) (new_folder n))))) (Some f)) (λ g. is_file g.kind ≡ b)
    by true true h true = h
    by true true h false = h
    by true false h q = refl
    by false true h q = refl
    by false false h q = h

-- ---- while it is put

-- these are still to be put in u, which was t without what isn't wanted below o
pub record IsUnderway (o : Names) (t w u : Tree) (es : Entries) : Type 0 where
  pub ordered : T (sorted es)
  pub same : AllByRecursion (λ e. get u e.0 ≡ get t e.0) es
  pub each : AllByRecursion (λ e. get w e.0 ≡ Some e.1) es
  -- the others stand
  pub stands : (q : Names) → find_at q es ≡ None → IfSome (get w q) (λ g. IsSomeAnd (get u q) (λ e. is_file e.kind ≡ is_file g.kind))
  pub gone : (q : Names) → is_below o q ≡ true → get w q ≡ None → get u q ≡ None
  pub project : IsSomeAnd (get u (project_of o)) (λ e. e.kind ≢ File)
  pub shown : has_closed (get u (project_of o)) ≡ false

some_none : (e : Element) → Some e ≡ None → ⊥
some_none e h = cc

module _ (o : Names) (t w : Tree) (want : MayBeWanted o w) where
  -- the next path has a place
  next_spot : (u : Tree) (e : Names × Element) (es : Entries) → IsUnderway o t w u (e ∷ es) → Spot u e.0
  next_spot u e es h =
      let at = at_some (λ _. (2 ≤ length e.0) × (project_of e.0 ≡ project_of o)) (get w e.0) e.1 h.each.0 (want.within e.0) in
      record { long = at.0; shown = ap (λ p. has_closed (get u p)) at.1 ∙ h.shown; above = by e.0 refl at.0 at.1 }
    where
      inner : 3 ≤ length e.0 → e.0 ≢ [] → IsSomeAnd (get u (parent e.0)) (λ g. g.kind ≢ File)
      inner long some = folder (get w (parent e.0)) (get u (parent e.0))
          (at_some (λ _. 3 ≤ length e.0 → IsSomeAnd (get w (parent e.0)) (λ g. is_file g.kind ≡ false)) (get w e.0) e.1 h.each.0 (want.parents e.0) long)
          (h.stands (parent e.0) (parent_passed e es some h.ordered))
        where
          folder : (x y : Option Element) → IsSomeAnd x (λ g. is_file g.kind ≡ false) → IfSome x (λ g. IsSomeAnd y (λ k. is_file k.kind ≡ is_file g.kind)) → IsSomeAnd y (λ k. k.kind ≢ File)
          folder None y a b = absurd a
          folder (Some g) y a b = some_map (λ k. is_file k.kind ≡ is_file g.kind) (λ k. k.kind ≢ File) y (λ k same file. never (sym (ap is_file file) ∙ same ∙ a)) b

      by : (p : Names) → e.0 ≡ p → 2 ≤ length e.0 → project_of e.0 ≡ project_of o → IsSomeAnd (get u (parent e.0)) (λ g. g.kind ≢ File)
      by [] is long one = let none : length e.0 ≡ 0 = ap length is in absurd (omega arith)
      by (n ∷ []) is long one = let none : length e.0 ≡ 1 = ap length is in absurd (omega arith)
      by (n ∷ m ∷ []) is long one = subst (λ p. IsSomeAnd (get u p) (λ g. g.kind ≢ File)) (sym one ∙ ap project_of is ∙ sym (ap parent is)) h.project
      by (n ∷ m ∷ k ∷ p) is long one =
          let more : length e.0 ≡ length (n ∷ m ∷ k ∷ p) = ap length is in
          inner (omega arith) (names_at_least e.0 (omega arith))

  -- nothing is below a file that is wanted
  next_clear : (u : Tree) (e : Names × Element) (es : Entries) → IsUnderway o t w u (e ∷ es) → is_file e.1.kind ≡ true → (q : Names) → is_below e.0 q ≡ true → get u q ≡ None
  next_clear u e es h file q under = h.gone q (below_more o e.0 q (at_some (λ g. is_file g.kind ≡ true → is_prefix o e.0 ≡ true) (get w e.0) e.1 h.each.0 (want.below e.0) file) under)
      (at_some (λ g. is_file g.kind ≡ true → is_below e.0 q ≡ true → get w q ≡ None) (get w e.0) e.1 h.each.0 (want.clear e.0 q) file under)

  next_underway : (u : Tree) (n s : ℕ) (e : Names × Element) (es : Entries) → IsUnderway o t w u (e ∷ es) → IsUnderway o t w (put_some u e.0 (fresh n s e.1 (get t e.0))) es
  next_underway u n s e es h = record {
    ordered = second _ _ h.ordered;
    same = still_all (λ p. get u p ≡ get t p) (λ p. get now p ≡ get t p) e.0 (λ q other k. elsewhere q other ∙ k) es (first _ _ h.ordered) h.same.1;
    each = h.each.1;
    stands = λ q none. by q none (is_at q e.0) refl;
    gone = λ q under none. elsewhere q (at_other q e.0 (λ same. some_none e.1 (sym h.each.0 ∙ ap (get w) (sym same) ∙ none))) ∙ h.gone q under none;
    project = subst (λ x. IsSomeAnd x (λ g. g.kind ≢ File)) (sym aside) h.project;
    shown = ap has_closed aside ∙ h.shown;
  }
    where
      now : Tree
      now = put_some u e.0 (fresh n s e.1 (get t e.0))

      elsewhere : (q : Names) → is_at q e.0 ≡ false → get now q ≡ get u q
      elsewhere q other = get-put_some u e.0 (fresh n s e.1 (get t e.0)) q ∙ ap (λ b. cond b (option_or (fresh n s e.1 (get t e.0)) (get u q)) (get u q)) other

      aside : get now (project_of o) ≡ get u (project_of o)
      aside = elsewhere (project_of o) (at_other (project_of o) e.0 (λ same.
          let long : 2 ≤ length e.0 = (at_some (λ _. (2 ≤ length e.0) × (project_of e.0 ≡ project_of o)) (get w e.0) e.1 h.each.0 (want.within e.0)).0 in
          let short : length (project_of o) ≤ 1 = project_length o in
          let equal : length (project_of o) ≡ length e.0 = ap length same in
          absurd (omega arith)))

      by : (q : Names) → find_at q es ≡ None → (b : Bool) → is_at q e.0 ≡ b → IfSome (get w q) (λ g. IsSomeAnd (get now q) (λ k. is_file k.kind ≡ is_file g.kind))
      by q none false at = subst (λ x. IfSome (get w q) (λ g. IsSomeAnd x (λ k. is_file k.kind ≡ is_file g.kind))) (sym (elsewhere q at))
          (h.stands q (ap (λ b. cond b (Some e.1) (find_at q es)) at ∙ none))
      by q none true at = subst (λ p. IfSome (get w p) (λ g. IsSomeAnd (get now p) (λ k. is_file k.kind ≡ is_file g.kind))) (sym (same_at q e.0 at))
          (subst (λ x. IfSome x (λ g. IsSomeAnd (get now e.0) (λ k. is_file k.kind ≡ is_file g.kind))) (sym h.each.0)
          (subst (λ x. IsSomeAnd x (λ k. is_file k.kind ≡ is_file e.1.kind)) (sym here) (fresh_kind n s e.1 (get t e.0))))
        where
          here : get now e.0 ≡ option_or (fresh n s e.1 (get t e.0)) (get t e.0)
          here = get-put_some u e.0 (fresh n s e.1 (get t e.0)) e.0 ∙ ap (λ b. cond b (option_or (fresh n s e.1 (get t e.0)) (get u e.0)) (get u e.0)) (at_itself e.0)
              ∙ ap (option_or (fresh n s e.1 (get t e.0))) h.same.0

-- ---- all of it

-- the resources with these placed, where t is what was there
abbrev pub placing : Tree → Resources → Entries → Resources
placing t r es = record r {
  tree = put_all r.tree (placed t r.next_node r.next_stamp es);
  next_node = r.next_node + total nodes_of t es;
  next_stamp = r.next_stamp + total stamps_of t es;
}

place_first : (t : Tree) (r : Resources) (e : Names × Element) (es : Entries) → placing t (stepped r e.0 e.1 (get t e.0)) es ≡ placing t r (e ∷ es)
place_first t r e es =
    let x = get t e.0 in
    let tree = put_first r.tree e.0 (fresh r.next_node r.next_stamp e.1 x) (placed t (r.next_node + nodes_of e.1 x) (r.next_stamp + stamps_of e.1 x) es) in
    let nodes = sum r.next_node (nodes_of e.1 x) (total nodes_of t es) in
    let stamps = sum r.next_stamp (stamps_of e.1 x) (total stamps_of t es) in
    λ i. record r { tree = sym tree i; next_node = nodes i; next_stamp = stamps i }
  where
    sum : (a b c : ℕ) → (a + b) + c ≡ a + (b + c)
    sum a b c = omega arith

pub place_sound : (o : Names) (t w : Tree) (r : Resources) (es : Entries) → MayBeWanted o w → IsConsistent r → IsUnderway o t w r.tree es → StaysSound r (placing t r es)
place_sound o t w r [] want x h =
    let nodes : r.next_node ≡ r.next_node + 0 = omega arith in
    let stamps : r.next_stamp ≡ r.next_stamp + 0 = omega arith in
    sound_same r (placing t r []) x (λ i. record r { next_node = nodes i; next_stamp = stamps i })
place_sound o t w r (e ∷ es) want x h =
    let next : Resources = stepped r e.0 e.1 (get t e.0) in
    let one : StaysSound r next = step_sound r e.0 e.1 (get t e.0) x (next_spot o t w want r.tree e es h) h.same.0 (next_clear o t w want r.tree e es h) in
    subst (StaysSound r) (place_first t r e es) (sound_on r next (placing t next es) one
    (place_sound o t w next es want one.sound (next_underway o t w want r.tree r.next_node r.next_stamp e es h)))
