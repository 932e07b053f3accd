-- Whole texts.
use Rattle.std.proofs.Common.{◌≡◌, ℕ, List, [], ◌∷◌, ◌++◌, map, refl, sym, ap, ap₂, ◌∙◌, subst}
use Rattle.std.specs.Prelude.{Option, Some, None, IfSome, Ok, Err, MatchOption}
use Rattle.std.specs.Option.{option_map}
use Rattle.std.specs.List.{AllByRecursion}
use Rattle.std.specs.FinMap.{get}
use Rattle.ws_elem.specs.declared.element.Element.{Element}
use Rattle.ws_elem.specs.declared.elem_map.ElemMap.{ElemMap}
use Rattle.ws_elem.specs.Rooms.{no_room}
use Rattle.ws_elem.specs.Trees.{Tree}
use Rattle.res_path.specs.Paths.{Names}
use Rattle.ws_durable.specs.declared.built.Built.{Built}
use Rattle.ws_durable.specs.declared.kept.Kept.{Kept}
use Rattle.ws_durable.specs.declared.durable.Durable.{Durable}
use Rattle.ws_durable.specs.Saved.{Saved, SavedBuilt, SavedKept, saved, saved_built, saved_kept}
use Rattle.save_form.specs.Gives.{Fails}
use Rattle.save_form.proofs.Wholes.{no_prefix}
use Rattle.save_form.specs.Laws.{FitEach}
use Rattle.save_form.specs.declared.stop.Stuck.{Stuck}
use Rattle.save_form.specs.declared.stop.Stuck.TheVariants as stuck
use Rattle.save_elem.specs.Sound.{Finds}
use Rattle.save_elem.specs.Telling.{told, IsNarrow}
use Rattle.save_state.specs.declared.state.State.{State}
use Rattle.save_state.specs.Fits.{FitsState}
use Rattle.save_state.specs.States.{state}
use Rattle.save_state.proofs.StateLaws.{state_lawful}
use Rattle.save_text.specs.Telling.{nothing}
use Rattle.save_text.specs.Inside.Told.{told_state}
use Rattle.save_text.proofs.States.{state_same}
use Rattle.save_build.specs.Told.{told_tree, IsFit, AreFit, AllNarrow, IsTold}
use Rattle.save_build.proofs.Whole.{one_saved}
use Rattle.save_read.specs.declared.error.ReadError.{ReadError}
use Rattle.save_read.specs.declared.error.ReadError.TheVariants.{Memory}
use Rattle.save_read.specs.Sayable.{IsFew, AreFew, IsSayableTree, IsSayableBuilt, IsSayableKept, IsSayable}
use Rattle.save_read.specs.Texts.{IsText}
use Rattle.save_read.specs.Inside.Stops.{Becomes}
use Rattle.save_read.proofs.Narrow.{elem_narrow}
use Rattle.save_read.proofs.Sayables.{state_fits, state_told, sayable}

-- ---- bases

some_narrow : (p : Names) (x : Option Element) → IfSome x (IsFit p) → IfSome x (λ e. IsNarrow (told e))
some_narrow p None h = tt
some_narrow p (Some e) h = elem_narrow (told e) h.spelled

pub narrow_all : (t : Tree) → AreFit t → AllNarrow t
narrow_all t h p = some_narrow p (get t p) (h p)

-- ---- a state that is read

pub no_other : (bytes : List ℕ) (s : State) (why : Stuck) (e : ReadError) → Becomes bytes why e → Fails why (Ok s) → e ≡ Memory
no_other bytes s (stuck.At stop) e is fails = absurd (let n : Ok s ≡ Err stop = fails in cc)
no_other bytes s stuck.Memory e is fails = is

-- ---- what is kept, whatever room its trees have

abbrev built_from : SavedBuilt → Built
built_from b = record { project = b.project; index = b.index; command = b.command; references = b.references; tree = record { map = b.tree; room = no_room } }

abbrev kept_from : SavedKept → Kept
kept_from k = record { participant = k.participant; bytes = k.bytes; tree = option_map (λ (t : Tree). record { map = t; room = no_room }) k.tree }

abbrev durable_from : Saved → Durable
durable_from d = record {
  next_node = d.next_node;
  next_stamp = d.next_stamp;
  next_marker = d.next_marker;
  partners = d.partners;
  tree = record { map = d.tree; room = no_room };
  shelf = record { map = d.shelf; room = no_room };
  built = map built_from d.built;
  kept = map kept_from d.kept;
}

built_back : (bs : List SavedBuilt) → map saved_built (map built_from bs) ≡ bs
built_back [] = refl
built_back (b ∷ bs) = ap (λ (l : List SavedBuilt). b ∷ l) (built_back bs)

tree_back : (t : Option Tree) → option_map (λ (x : ElemMap). x.map) (option_map (λ (u : Tree). record { map = u; room = no_room }) t) ≡ t
tree_back None = refl
tree_back (Some t) = refl

one_kept : (k : SavedKept) → saved_kept (kept_from k) ≡ k
one_kept k = ap (λ (t : Option Tree). record { participant = k.participant; bytes = k.bytes; tree = t }) (tree_back k.tree)

kept_back : (ks : List SavedKept) → map saved_kept (map kept_from ks) ≡ ks
kept_back [] = refl
kept_back (k ∷ ks) = ap₂ ◌∷◌ (one_kept k) (kept_back ks)

durable_back : (d : Saved) → saved (durable_from d) ≡ d
durable_back d =
    let b = built_back d.built in
    let k = kept_back d.kept in
    λ i. record { next_node = d.next_node; next_stamp = d.next_stamp; next_marker = d.next_marker; partners = d.partners; tree = d.tree; shelf = d.shelf; built = b i; kept = k i }

-- ---- few elements

few_built : (before : Option SavedBuilt) (bs : List SavedBuilt) → FitEach IsSayableBuilt before bs → AllByRecursion (λ b. IsFew b.tree) bs
few_built before [] h = tt
few_built before (b ∷ bs) h = (h.0.tree.1, few_built (Some b) bs h.1)

few_tree : (t : Option Tree) → IfSome t IsSayableTree → IfSome t IsFew
few_tree None h = tt
few_tree (Some t) h = h.1

few_kept : (before : Option SavedKept) (ks : List SavedKept) → FitEach IsSayableKept before ks → AllByRecursion (λ k. IfSome k.tree IsFew) ks
few_kept before [] h = tt
few_kept before (k ∷ ks) h = (few_tree k.tree h.0.tree, few_kept (Some k) ks h.1)

few : (d : Saved) → IsSayable d → AreFew d
few d h = record { tree = h.tree.1; shelf = h.shelf.1; built = few_built None d.built h.built.1; kept = few_kept None d.kept h.kept.1 }

module _ (base shelf : Tree) (s : State) where
  abbrev IsFound : Durable → Type 0
  IsFound d = IsTold base shelf s (saved d) × AreFew (saved d)

  pub built_so : (d : Durable) (r : Option Durable) → IsTold base shelf s (saved d) → MatchOption r (AreFew (saved d) → ⊥) (λ x. (x ≡ d) × AreFew (saved x)) → Finds IsFound (Ok r)
  built_so d None told never = λ x h. never (subst AreFew (sym (one_saved base shelf s (saved d) told (saved x) h.0)) h.1)
  built_so d (Some x) told is = (subst (λ (y : Durable). IsTold base shelf s (saved y)) (sym is.0) told, is.1)

-- ---- a text that is written, and one that is read

pub written : (base shelf : Tree) (d : Durable) (bytes : List ℕ) → IsSayableTree base → IsSayableTree shelf → IsSayable (saved d) → bytes ≡ (state nothing nothing).spell (told_state base shelf d) → IsText base shelf (saved d) bytes
written base shelf d bytes one two h e =
    let s = told_state base shelf d in
    record { sayable = h; spelled = (s, (state_fits base shelf d one two h, state_told base shelf d one two h, e ∙ sym (state_same (told_tree base) (told_tree shelf) s))) }

module _ (base shelf : Tree) (bytes : List ℕ) (s : State) (fits : FitsState (told_tree base) (told_tree shelf) s) (spelled : bytes ≡ (state (told_tree base) (told_tree shelf)).spell s) where
  pub is_text : (d : Saved) → IsTold base shelf s d × AreFew d → IsText base shelf d bytes
  is_text d h = record { sayable = sayable base shelf s d fits h.0 h.1; spelled = (s, (fits, h.0, spelled)) }

  module _ (only : (t : State) → FitsState (told_tree base) (told_tree shelf) t → bytes ≡ (state (told_tree base) (told_tree shelf)).spell t → s ≡ t) where
    told_by : (d : Saved) → IsText base shelf d bytes → IsTold base shelf s d
    told_by d h = let x = h.spelled in subst (λ (t : State). IsTold base shelf t d) (sym (only x.0 x.1.0 x.1.2)) x.1.1

    pub one_text : (d e : Saved) → IsTold base shelf s d × AreFew d → IsText base shelf e bytes → d ≡ e
    one_text d e h text = one_saved base shelf s d h.0 e (told_by e text)

    pub no_text : ((x : Durable) → IsTold base shelf s (saved x) × AreFew (saved x) → ⊥) → (e : Saved) → IsText base shelf e bytes → ⊥
    no_text never e text =
        let back = sym (durable_back e) in
        never (durable_from e) (subst (λ (d : Saved). IsTold base shelf s d) back (told_by e text), subst AreFew back (few e text.sayable))

-- ---- no text is a proper prefix of another

pub one_prefix : (base shelf : Tree) (d e : Saved) (bytes rest : List ℕ) → IsText base shelf d bytes → IsText base shelf e (bytes ++ rest) → (rest ≡ []) × (e ≡ d)
one_prefix base shelf d e bytes rest f g =
    let x = f.spelled in
    let y = g.spelled in
    let form = state (told_tree base) (told_tree shelf) in
    let longer : form.spell y.0 ≡ form.spell x.0 ++ rest = sym y.1.2 ∙ ap (λ (b : List ℕ). b ++ rest) x.1.2 in
    let same = no_prefix (FitsState (told_tree base) (told_tree shelf)) form (state_lawful (told_tree base) (told_tree shelf)) x.0 y.0 rest x.1.0 y.1.0 longer in
    (same.1, one_saved base shelf x.0 e (subst (λ (t : State). IsTold base shelf t e) (sym same.0) y.1.1) d x.1.1)
