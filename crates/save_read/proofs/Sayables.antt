-- What can be told is told by a state that fits; and what a state that fits tells can be told.
use Rattle.std.proofs.Common.{◌≡◌, ℕ, suc, ◌<◌, ◌^◌, true, List, [], ◌∷◌, length, map, refl, sym, ap, ◌∙◌, subst, arith}
use Rattle.std.specs.Prelude.{Option, Some, None, IfSome}
use Rattle.std.specs.Option.{option_map}
use Rattle.std.specs.List.{AllByRecursion}
use Rattle.std.proofs.lemmas.List.{length-map}
use Rattle.res_path.specs.Names.{IsName}
use Rattle.ws_elem.specs.Trees.{Tree}
use Rattle.ws_elem.specs.declared.elem_map.ElemMap.{ElemMap}
use Rattle.ws_durable.specs.declared.built.Built.{Built as BuiltOf}
use Rattle.ws_durable.specs.declared.kept.Kept.{Kept as KeptOf}
use Rattle.ws_durable.specs.declared.durable.Durable.{Durable}
use Rattle.ws_durable.specs.Saved.{Saved, SavedBuilt, SavedKept, saved, saved_built, saved_kept}
use Rattle.save_form.specs.Laws.{FitEach}
use Rattle.save_form.specs.Lists.{is_above}
use Rattle.save_elem.specs.Elems.{is_name_below}
use Rattle.save_state.specs.declared.change.Change.{Change}
use Rattle.save_state.specs.declared.records.Built.{Built}
use Rattle.save_state.specs.declared.records.Kept.{Kept}
use Rattle.save_state.specs.declared.state.State.{State}
use Rattle.save_state.specs.Changed.{changed}
use Rattle.save_state.specs.Entries.{Entries}
use Rattle.save_state.specs.Fits.{FitsTexts, FitsChanges, FitsBuilt, FitsKept, FitsState}
use Rattle.save_state.specs.States.{is_project_from, is_built_above}
use Rattle.save_text.specs.Telling.{told_row}
use Rattle.save_text.specs.Inside.Between.{between}
use Rattle.save_text.specs.Inside.Told.{told_built, told_kept, told_state}
use Rattle.save_text.proofs.Names.{short}
use Rattle.save_build.specs.Told.{told_tree, Tells, AllTold, AreNames, IsBuiltOf, IsKeptTree, IsKeptOf, IsTold}
use Rattle.save_build.proofs.Whole.{built_fit, kept_fit}
use Rattle.save_read.specs.Sayable.{IsFew, AreFew, IsSayableTree, AreSayableNames, key_of, IsSayableBuilt, IsSayableKept, IsSayable}
use Rattle.save_read.proofs.Changes.{changes_fit, changes_tell}

-- ---- names

each_short : (before : Option (List ℕ)) (names : List (List ℕ)) → AllByRecursion IsName names → FitEach (λ _ t. length t < 2 ^ 32) before names
each_short before [] h = tt
each_short before (name ∷ names) h = (short name h.0, each_short (Some name) names h.1)

names_fit : (names : List (List ℕ)) → AreSayableNames names → FitsTexts names
names_fit names h = (h.0, each_short None names h.1)

names_sayable : (texts names : List (List ℕ)) → FitsTexts texts → AreNames texts names → AreSayableNames names
names_sayable texts names f h = (subst (λ (ns : List (List ℕ)). length ns < 2 ^ 32) (sym h.0) f.0, h.1)

-- ---- records that can be told are told

module _ (tree : Tree) (whole : IsSayableTree tree) where
  from_is : (before : Option BuiltOf) (project : List ℕ) → is_project_from (option_map key_of (option_map saved_built before)) project ≡ true → is_project_from (option_map (told_built tree) before) project ≡ true
  from_is None project h = h
  from_is (Some b) project h = h

  above_is : (before : Option BuiltOf) (key : List ℕ × ℕ) → is_built_above (option_map key_of (option_map saved_built before)) key ≡ true → is_built_above (option_map (told_built tree) before) key ≡ true
  above_is None key h = h
  above_is (Some b) key h = h

  built_fits : (before : Option BuiltOf) (bs : List BuiltOf) → FitEach IsSayableBuilt (option_map saved_built before) (map saved_built bs) → FitEach (FitsBuilt (told_tree tree)) (option_map (told_built tree) before) (map (told_built tree) bs)
  built_fits before [] h = tt
  built_fits before (b ∷ bs) h = (
    record {
      project = short b.project h.0.project;
      from = from_is before b.project h.0.from;
      index = h.0.index;
      above = above_is before (b.project, b.index) h.0.above;
      command = h.0.command;
      references = names_fit b.references h.0.references;
      changes = changes_fit tree b.tree.map whole h.0.tree;
    },
    built_fits (Some b) bs h.1,
  )

  built_told : (before : Option SavedBuilt) (bs : List BuiltOf) → FitEach IsSayableBuilt before (map saved_built bs) → AllTold (IsBuiltOf tree) (map saved_built bs) (map (told_built tree) bs)
  built_told before [] h = tt
  built_told before (b ∷ bs) h = (
    record { project = (refl, h.0.project); index = refl; command = refl; references = (refl, h.0.references.1); changes = changes_tell tree b.tree.map; fit = h.0.tree.0 },
    built_told (Some (saved_built b)) bs h.1,
  )

  kept_above : (before : Option KeptOf) (name : List ℕ) → is_above is_name_below (option_map (λ (x : SavedKept). x.participant) (option_map saved_kept before)) name ≡ true
      → is_above is_name_below (option_map (λ (x : Kept). x.participant) (option_map (told_kept tree) before)) name ≡ true
  kept_above None name h = h
  kept_above (Some k) name h = h

  kept_changes : (k : KeptOf) → IfSome (saved_kept k).tree IsSayableTree → IfSome (told_kept tree k).changes (FitsChanges (told_tree tree))
  kept_changes k h = by k.tree h where
    by : (t : Option ElemMap) → IfSome (option_map (λ t. t.map) t) IsSayableTree → IfSome (option_map (λ t. map told_row (between tree t.map)) t) (FitsChanges (told_tree tree))
    by None h = tt
    by (Some t) h = changes_fit tree t.map whole h

  kept_fits : (before : Option KeptOf) (ks : List KeptOf) → FitEach IsSayableKept (option_map saved_kept before) (map saved_kept ks) → FitEach (FitsKept (told_tree tree)) (option_map (told_kept tree) before) (map (told_kept tree) ks)
  kept_fits before [] h = tt
  kept_fits before (k ∷ ks) h = (
    record { participant = short k.participant h.0.participant; above = kept_above before k.participant h.0.above; bytes = h.0.bytes; changes = kept_changes k h.0.tree },
    kept_fits (Some k) ks h.1,
  )

  kept_tree : (t : Option ElemMap) → IfSome (option_map (λ t. t.map) t) IsSayableTree → IsKeptTree tree (option_map (λ t. map told_row (between tree t.map)) t) (option_map (λ t. t.map) t)
  kept_tree None h = tt
  kept_tree (Some t) h = (changes_tell tree t.map, h.0)

  kept_told : (before : Option SavedKept) (ks : List KeptOf) → FitEach IsSayableKept before (map saved_kept ks) → AllTold (IsKeptOf tree) (map saved_kept ks) (map (told_kept tree) ks)
  kept_told before [] h = tt
  kept_told before (k ∷ ks) h = (
    record { participant = (refl, h.0.participant); bytes = refl; tree_told = kept_tree k.tree h.0.tree },
    kept_told (Some (saved_kept k)) ks h.1,
  )

-- ---- the whole state

back_base : (base : Tree) (cs : List Change) (t : Tree) → Tells base cs t → told_tree t ≡ changed (told_tree base) cs
back_base base cs t tells = λ i p. tells p i

module _ (base shelf : Tree) (d : Durable) (one : IsSayableTree base) (two : IsSayableTree shelf) (h : IsSayable (saved d)) where
  tells : Tells base (map told_row (between base d.tree.map)) d.tree.map
  tells = changes_tell base d.tree.map

  bases : told_tree d.tree.map ≡ changed (told_tree base) (map told_row (between base d.tree.map))
  bases = back_base base (map told_row (between base d.tree.map)) d.tree.map tells

  built_short : length (map (told_built d.tree.map) d.built) < 2 ^ 32
  built_short = omega (arith, h.built.0, length-map d.built (told_built d.tree.map), length-map d.built saved_built)

  kept_short : length (map (told_kept d.tree.map) d.kept) < 2 ^ 32
  kept_short = omega (arith, h.kept.0, length-map d.kept (told_kept d.tree.map), length-map d.kept saved_kept)

  pub state_fits : FitsState (told_tree base) (told_tree shelf) (told_state base shelf d)
  state_fits = record {
    next_node = h.next_node;
    next_stamp = h.next_stamp;
    next_marker = h.next_marker;
    partners = names_fit d.partners h.partners;
    tree = changes_fit base d.tree.map one h.tree;
    shelf = changes_fit shelf d.shelf.map two h.shelf;
    built = (built_short, subst (λ (e : Entries). FitEach (FitsBuilt e) None (map (told_built d.tree.map) d.built)) bases (built_fits d.tree.map h.tree None d.built h.built.1));
    kept = (kept_short, subst (λ (e : Entries). FitEach (FitsKept e) None (map (told_kept d.tree.map) d.kept)) bases (kept_fits d.tree.map h.tree None d.kept h.kept.1));
  }

  pub state_told : IsTold base shelf (told_state base shelf d) (saved d)
  state_told = record {
    next_node = refl;
    next_stamp = refl;
    next_marker = refl;
    partners = (refl, h.partners.1);
    tree_told = (tells, h.tree.0);
    shelf_told = (changes_tell shelf d.shelf.map, h.shelf.0);
    built = built_told d.tree.map h.tree None d.built h.built.1;
    kept = kept_told d.tree.map h.tree None d.kept h.kept.1;
  }

-- ---- what is told can be told

abbrev same_key : Option Built → Option SavedBuilt → Type 0
same_key None None = Unit {0}
same_key None (Some b) = ⊥
same_key (Some c) None = ⊥
same_key (Some c) (Some b) = (b.project ≡ c.project) × (b.index ≡ c.index)

from_told : (x : Option Built) (y : Option SavedBuilt) → same_key x y → (project : List ℕ) → is_project_from x project ≡ true → is_project_from (option_map key_of y) project ≡ true
from_told None None s project h = h
from_told None (Some b) s project h = absurd s
from_told (Some c) None s project h = absurd s
from_told (Some c) (Some b) s project h = ap (λ (p : List ℕ). is_project_from (Some (record { project = p; index = b.index; command = []; references = []; changes = [] })) project) s.0 ∙ h

above_told : (x : Option Built) (y : Option SavedBuilt) → same_key x y → (key : List ℕ × ℕ) → is_built_above x key ≡ true → is_built_above (option_map key_of y) key ≡ true
above_told None None s key h = h
above_told None (Some b) s key h = absurd s
above_told (Some c) None s key h = absurd s
above_told (Some c) (Some b) s key h =
    ap (λ (p : List ℕ). is_built_above (Some (record { project = p; index = b.index; command = []; references = []; changes = [] })) key) s.0
    ∙ ap (λ (n : ℕ). is_built_above (Some (record { project = c.project; index = n; command = []; references = []; changes = [] })) key) s.1 ∙ h

built_sayable : (tree : Tree) (x : Option Built) (y : Option SavedBuilt) → same_key x y → (cs : List Built) (bs : List SavedBuilt) → FitEach (FitsBuilt (told_tree tree)) x cs → AllTold (IsBuiltOf tree) bs cs
    → AllByRecursion (λ b. IsFew b.tree) bs → FitEach IsSayableBuilt y bs
built_sayable tree x y s [] [] f h few = tt
built_sayable tree x y s [] (b ∷ bs) f h few = absurd h
built_sayable tree x y s (c ∷ cs) [] f h few = tt
built_sayable tree x y s (c ∷ cs) (b ∷ bs) f h few = (
  record {
    project = h.0.project.1;
    from = from_told x y s b.project (subst (λ (p : List ℕ). is_project_from x p ≡ true) (sym h.0.project.0) f.0.from);
    index = subst (λ (n : ℕ). n < 2 ^ 16) (sym h.0.index) f.0.index;
    above = above_told x y s (b.project, b.index)
        (subst (λ (p : List ℕ). is_built_above x (p, b.index) ≡ true) (sym h.0.project.0) (subst (λ (n : ℕ). is_built_above x (c.project, n) ≡ true) (sym h.0.index) f.0.above));
    command = subst (λ (t : List ℕ). length t < 2 ^ 32) (sym h.0.command) f.0.command;
    references = names_sayable c.references b.references f.0.references h.0.references;
    tree = (h.0.fit, few.0);
  },
  built_sayable tree (Some c) (Some b) (h.0.project.0, h.0.index) cs bs f.1 h.1 few.1,
)

abbrev same_name : Option Kept → Option SavedKept → Type 0
same_name None None = Unit {0}
same_name None (Some b) = ⊥
same_name (Some c) None = ⊥
same_name (Some c) (Some b) = b.participant ≡ c.participant

kept_above_told : (x : Option Kept) (y : Option SavedKept) → same_name x y → (name : List ℕ) → is_above is_name_below (option_map (λ (k : Kept). k.participant) x) name ≡ true
    → is_above is_name_below (option_map (λ (k : SavedKept). k.participant) y) name ≡ true
kept_above_told None None s name h = h
kept_above_told None (Some b) s name h = absurd s
kept_above_told (Some c) None s name h = absurd s
kept_above_told (Some c) (Some b) s name h = ap (λ (p : List ℕ). is_name_below p name) s ∙ h

kept_tree_sayable : (tree : Tree) (cs : Option (List Change)) (t : Option Tree) → IsKeptTree tree cs t → IfSome t IsFew → IfSome t IsSayableTree
kept_tree_sayable tree cs None h few = tt
kept_tree_sayable tree None (Some t) h few = absurd h
kept_tree_sayable tree (Some cs) (Some t) h few = (h.1, few)

kept_sayable : (tree : Tree) (x : Option Kept) (y : Option SavedKept) → same_name x y → (cs : List Kept) (ks : List SavedKept) → FitEach (FitsKept (told_tree tree)) x cs → AllTold (IsKeptOf tree) ks cs
    → AllByRecursion (λ k. IfSome k.tree IsFew) ks → FitEach IsSayableKept y ks
kept_sayable tree x y s [] [] f h few = tt
kept_sayable tree x y s [] (b ∷ bs) f h few = absurd h
kept_sayable tree x y s (c ∷ cs) [] f h few = tt
kept_sayable tree x y s (c ∷ cs) (b ∷ bs) f h few = (
  record {
    participant = h.0.participant.1;
    above = kept_above_told x y s b.participant (subst (λ (p : List ℕ). is_above is_name_below (option_map (λ (k : Kept). k.participant) x) p ≡ true) (sym h.0.participant.0) f.0.above);
    bytes = subst (λ (t : List ℕ). length t < 2 ^ 32) (sym h.0.bytes) f.0.bytes;
    tree = kept_tree_sayable tree c.changes b.tree h.0.tree_told few.0;
  },
  kept_sayable tree (Some c) (Some b) h.0.participant.0 cs bs f.1 h.1 few.1,
)

told_length : {A B : Type 0} (R : B → A → Type 0) (xs : List A) (ys : List B) → AllTold R xs ys → length xs ≡ length ys
told_length R [] [] h = refl
told_length R [] (y ∷ ys) h = absurd h
told_length R (x ∷ xs) [] h = absurd h
told_length R (x ∷ xs) (y ∷ ys) h = ap (λ (n : ℕ). suc n) (told_length R xs ys h.1)

pub sayable : (base shelf : Tree) (s : State) (d : Saved) → FitsState (told_tree base) (told_tree shelf) s → IsTold base shelf s d → AreFew d → IsSayable d
sayable base shelf s d f h few = record {
  next_node = subst (λ (n : ℕ). n < 2 ^ 64) (sym h.next_node) f.next_node;
  next_stamp = subst (λ (n : ℕ). n < 2 ^ 64) (sym h.next_stamp) f.next_stamp;
  next_marker = subst (λ (n : ℕ). n < 2 ^ 64) (sym h.next_marker) f.next_marker;
  partners = names_sayable s.partners d.partners f.partners h.partners;
  tree = (h.tree_told.1, few.tree);
  shelf = (h.shelf_told.1, few.shelf);
  built = (
    subst (λ (n : ℕ). n < 2 ^ 32) (sym (told_length (IsBuiltOf d.tree) d.built s.built h.built)) f.built.0,
    built_sayable d.tree None None tt s.built d.built (built_fit base s.tree d.tree h.tree_told.0 s.built f.built.1) h.built few.built,
  );
  kept = (
    subst (λ (n : ℕ). n < 2 ^ 32) (sym (told_length (IsKeptOf d.tree) d.kept s.kept h.kept)) f.kept.0,
    kept_sayable d.tree None None tt s.kept d.kept (kept_fit base s.tree d.tree h.tree_told.0 s.kept f.kept.1) h.kept few.kept,
  );
}
