-- What lasts of what is remembered, and what participants kept.
use Rattle.std.proofs.Common.{◌≡◌, ℕ, List, [], ◌∷◌, map, refl, sym, ap, ◌∙◌}
use Rattle.std.specs.Prelude.{Option, Some, None, IsSome, IfSome}
use Rattle.std.specs.List.{AllByRecursion}
use Rattle.std.specs.FinMap.{get, values}
use Rattle.ws_elem.specs.Trees.{Tree}
use Rattle.save_round.specs.declared.restoring.KeptState.{KeptState}
use Rattle.ws_durable.specs.Saved.{SavedBuilt, SavedKept}
use Rattle.ws_lasting.specs.Saved.{lasting_built, lasting_kept, lasting_record, lasting_state}
use Rattle.ws_marks.specs.declared.record.Record.{Record}
use Rattle.ws_marks.specs.declared.state.State.{State}
use Rattle.ws_marks.specs.Marked.{Marked}
use Rattle.ws_marks.proofs.Places.{name_cmp_exact, name_cmp_total, place_cmp_exact, place_cmp_total}
use Rattle.ws_content.specs.States.{Remembered}
use Rattle.ws_content.specs.Saves.{kept_since, state_since}
use Rattle.ws_content.specs.Inside.Held.{Holds, in_memory, restated, retreed}
use Rattle.ws_content.proofs.Holding.{built_used, kept_used}
use Rattle.ws_content.proofs.Listed.{all_values, values_mapped}

map_twice : {A B C : Type 0} (f : A → B) (g : B → C) (xs : List A) → map g (map f xs) ≡ map (λ x. g (f x)) xs
map_twice f g [] = refl
map_twice f g (x ∷ xs) = ap (λ ys. g (f x) ∷ ys) (map_twice f g xs)

module _ {M : Type 0} (number : M → ℕ) (f : ℕ → Option Tree) where
  -- the tree that is remembered
  abbrev pub tree_in : M → Tree
  tree_in x = in_memory (f (number x))

  -- the record's tree is remembered
  abbrev pub IsBuiltThere : Record M → Type 0
  IsBuiltThere r = IsSome (f (number r.tree))

  -- so is the state's, if it has one
  abbrev pub IsKeptThere : State M → Type 0
  IsKeptThere s = IfSome s.tree (λ x. IsSome (f (number x)))

  abbrev pub built_lasting : Record M → SavedBuilt
  built_lasting r = lasting_record (retreed tree_in r)

  abbrev pub kept_lasting : State M → SavedKept
  kept_lasting s = lasting_state (restated tree_in s)

  abbrev pub kept_now : Tree → State M → KeptState
  kept_now t s = state_since t (restated tree_in s)

  module _ (start : ℕ) (m : Marked M) (v : Remembered) (h : Holds number start f m v) where
    -- all records have their trees
    pub built_there : AllByRecursion IsBuiltThere (values m.built)
    built_there = all_values place_cmp_total IsBuiltThere m.built (λ place r e. h.held.there (number r.tree) (built_used number start m place r e))

    -- and all states
    pub kept_there : AllByRecursion IsKeptThere (values m.kept)
    kept_there = all_values name_cmp_total IsKeptThere m.kept (λ q s e. by q s e s.tree refl)
      where
        by : (q : List ℕ) (s : State M) → get m.kept q ≡ Some s → (o : Option M) → s.tree ≡ o → IfSome o (λ x. IsSome (f (number x)))
        by q s e None is = tt
        by q s e (Some x) is = h.held.there (number x) (kept_used number start m q s x e is)

    states_are : {A : Type 0} (g : State Tree → A) → map (λ s. g (restated tree_in s)) (values m.kept) ≡ map g (values v.kept)
    states_are g =
        sym (map_twice (restated tree_in) g (values m.kept)) ∙ ap (map g) (sym (values_mapped name_cmp_total name_cmp_exact (restated tree_in) m.kept))
        ∙ ap (λ (z : Remembered). map g (values z.kept)) h.seen

    pub built_is : map built_lasting (values m.built) ≡ lasting_built v.built
    built_is =
        sym (map_twice (retreed tree_in) lasting_record (values m.built)) ∙ ap (map lasting_record) (sym (values_mapped place_cmp_total place_cmp_exact (retreed tree_in) m.built))
        ∙ ap (λ (z : Remembered). lasting_built z.built) h.seen

    pub kept_is : map kept_lasting (values m.kept) ≡ lasting_kept v.kept
    kept_is = states_are lasting_state

    pub since_is : (t : Tree) → map (kept_now t) (values m.kept) ≡ kept_since v t
    since_is t = states_are (state_since t)
