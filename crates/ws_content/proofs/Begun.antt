-- What is remembered as a workspace is opened.
use Rattle.std.proofs.Common.{◌≡◌, ◌≢◌, ℕ, List, [], ◌∷◌, ◌++◌, map, length, arith, refl, sym, ap, ◌∙◌, subst}
use Rattle.std.specs.Prelude.{Option, Some, None, is_some, IsSome, true, false}
use Rattle.std.specs.Option.{option_map}
use Rattle.std.specs.FinMap.{empty, insert}
use Rattle.ws_elem.specs.declared.elem_map.ElemMap.{ElemMap}
use Rattle.ws_elem.specs.Trees.{Tree}
use Rattle.ws_marks.specs.declared.record.Record.{Record}
use Rattle.ws_marks.specs.Marked.{Marked}
use Rattle.ws_marks.specs.declared.state.State.{State}
use Rattle.ws_marks.specs.Places.{Records, States, place_of}
use Rattle.ws_content.specs.States.{Remembered, at_names, at_places, shown_built, shown_kept, with_built}
use Rattle.ws_content.specs.Saves.{state_of}
use Rattle.ws_content.specs.Inside.Held.{Holds, IsUsed, in_memory, retreed}
use Rattle.ws_content.specs.Inside.Slots.{AreApart, IsIn, AtStart, number_in}
use Rattle.ws_content.specs.Inside.Opened.{kept_onto, onto}
use Rattle.ws_content.proofs.Holding.{fresh_unused, stays}
use Rattle.ws_content.proofs.Numbers.{started_at}
use Rattle.ws_content.proofs.Slots.{set_apart, set_left}
use Rattle.ws_content.proofs.Steps.{grown}

module _ {M : Type 0} (number : M → ℕ) where
  -- the workspace was opened with another tree
  restarted : (s n : ℕ) (f : ℕ → Option Tree) (m : Marked M) (v : Remembered) (t : Tree) → f n ≡ Some t → (IsUsed number s m n → ⊥) → Holds number s f m v
      → Holds number n f m (record v { start = t })
  restarted s n f m v t is unused h = record {
    held = subst (AreApart f) (sym (started_at number s n m)) (set_apart (number_in number s m) AtStart (Some n) f (ap is_some is, unused) h.held);
    seen = λ i. record (h.seen i) { start = in_memory (is i) };
  }

  -- the one before isn't used any more
  start_left : (s n : ℕ) (f : ℕ → Option Tree) (m : Marked M) (v : Remembered) → (IsUsed number s m n → ⊥) → Holds number s f m v → IsUsed number n m s → ⊥
  start_left s n f m v unused h u = set_left (number_in number s m) AtStart (Some n) f unused h.held (subst (λ z. IsIn z s) (started_at number s n m) u)

  -- a tree is remembered as the one with which the workspace was opened, and the one before is given up
  pub restarts : (f g h : ℕ → Option Tree) (m : Marked M) (s n : ℕ) (t : Tree) → f n ≡ None → g n ≡ Some t → ((k : ℕ) → k ≢ n → g k ≡ f k) → ((k : ℕ) → k ≢ s → h k ≡ g k)
      → (v : Remembered) → Holds number s f m v → Holds number n h m (record v { start = t })
  restarts f g h m s n t none own others after v holds =
      let on : Holds number s g m v = grown number f g m n none others s v holds in
      let unused = fresh_unused number s f m v n holds none in
      stays number n g h m (record v { start = t }) (λ k u. after k (λ e. start_left s n g m v unused on (subst (IsUsed number n m) e u))) (restarted s n g m v t own unused on)

  -- what is remembered is with the records from the last one on, and with the rest it is with all of them
  abbrev pub PutsOn : (ℕ → Option Tree) → Marked M → (ℕ → Option Tree) → Marked M → List (Record ElemMap) → List (Record ElemMap) → Type 0
  PutsOn f m g n all rest = (start : ℕ) (v : Remembered) → Holds number start f m v
      → (b : Records Tree) × Holds number start g n (with_built v b) × (onto b rest ≡ onto v.built all)

  -- what is remembered is with what is kept from the last on, and with the rest it is with all of that
  abbrev pub KeepsOn : (ℕ → Option Tree) → Marked M → (ℕ → Option Tree) → Marked M → List (State ElemMap) → List (State ElemMap) → Type 0
  KeepsOn f m g n all rest = (start : ℕ) (v : Remembered) → Holds number start f m v
      → (k : States Tree) × Holds number start g n (record v { kept = k }) × (kept_onto k rest ≡ kept_onto v.kept all)

  -- the tree with which it was opened is still remembered where one more is
  pub start_there : (f g : ℕ → Option Tree) (m : Marked M) (s n : ℕ) → f n ≡ None → ((k : ℕ) → k ≢ n → g k ≡ f k) → (v : Remembered) → Holds number s f m v → IsSome (g s)
  start_there f g m s n none others v holds = (grown number f g m n none others s v holds).held.there s (AtStart, refl)

-- a record that says the same, with the record's tree
pub recorded_so : {M : Type 0} (r : Record M) (b : Record ElemMap) (t : Tree) (v : Remembered) → r.project ≡ b.project → r.index ≡ b.index → r.command ≡ b.command → r.references ≡ b.references → t ≡ b.tree.map
    → with_built v (insert v.built (place_of r) (retreed (λ _. t) r)) ≡ with_built v (insert v.built (place_of b) (shown_built b))
recorded_so r b t v p n c s e = λ i. with_built v (insert v.built (p i, n i) (record { project = p i; index = n i; command = c i; references = s i; tree = e i }))

-- ---- records, one after another

pub onto_last : (built : Records Tree) (rs : List (Record ElemMap)) (r : Record ElemMap) → onto built (rs ++ r ∷ []) ≡ onto (insert built (place_of r) (shown_built r)) rs
onto_last built [] r = refl
onto_last built (x ∷ rs) r = ap (λ (b : Records Tree). insert b (place_of x) (shown_built x)) (onto_last built rs r)

pub onto_places : (rs : List (Record ElemMap)) → onto empty rs ≡ at_places (map shown_built rs)
onto_places [] = refl
onto_places (r ∷ rs) = ap (λ (b : Records Tree). insert b (place_of r) (shown_built r)) (onto_places rs)

pub onto_none : (built : Records Tree) (rs : List (Record ElemMap)) → length rs ≡ 0 → onto built rs ≡ built
onto_none built [] e = refl
onto_none built (r ∷ rs) e = absurd (omega arith)

-- ---- states, one after another

pub kept_last : (kept : States Tree) (ss : List (State ElemMap)) (s : State ElemMap) → kept_onto kept (ss ++ s ∷ []) ≡ kept_onto (insert kept s.participant (shown_kept s)) ss
kept_last kept [] s = refl
kept_last kept (x ∷ ss) s = ap (λ (k : States Tree). insert k x.participant (shown_kept x)) (kept_last kept ss s)

pub kept_names : (ss : List (State ElemMap)) → kept_onto empty ss ≡ at_names (map shown_kept ss)
kept_names [] = refl
kept_names (s ∷ ss) = ap (λ (k : States Tree). insert k s.participant (shown_kept s)) (kept_names ss)

pub kept_none : (kept : States Tree) (ss : List (State ElemMap)) → length ss ≡ 0 → kept_onto kept ss ≡ kept
kept_none kept [] e = refl
kept_none kept (s ∷ ss) e = absurd (omega arith)

-- a state without a tree is as it is shown
pub shown_without : (s : State ElemMap) (t : Tree) → s.tree ≡ None → state_of t (s.participant, record { bytes = s.bytes; needs_delta = false }) ≡ shown_kept s
shown_without s t none = λ i. record { participant = s.participant; bytes = s.bytes; tree = option_map (λ (w : ElemMap). w.map) (sym none i) }

-- and one with the tree that is there
pub shown_with : (s : State ElemMap) (t : Tree) (w : ElemMap) → s.tree ≡ Some w → t ≡ w.map → state_of t (s.participant, record { bytes = s.bytes; needs_delta = true }) ≡ shown_kept s
shown_with s t w some same = λ i. record { participant = s.participant; bytes = s.bytes; tree = (ap Some same ∙ ap (option_map (λ (w : ElemMap). w.map)) (sym some)) i }
