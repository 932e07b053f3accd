-- Changes of which those are left out whose entries are equal.
use Rattle.std.proofs.Common.{◌≡◌, ◌≢◌, ◌↔◌, Bool, true, false, cond, List, [], ◌∷◌, T, refl, sym, ap, ◌∙◌, subst}
use Rattle.std.specs.Prelude.{Option, Some, None, IfSome}
use Rattle.std.specs.FinMap.{empty, get, get-empty, get-from_entries, from_entries, find, is_sorted}
use Rattle.std.specs.List.Sorted.{IsStrictlySortedBy}
use Rattle.std.specs.Map.{keys_of}
use Rattle.std.specs.Map.Calls.{RetainsPairs}
use Rattle.res_path.specs.Paths.{Names, path_cmp}
use Rattle.res_path.specs.PathLaws.{path_cmp_total}
use Rattle.ws_elem.proofs.Ordered.{sorted}
use Rattle.layer_log.specs.declared.change.Change.{Change}
use Rattle.layer_log.specs.Records.{Records, Settled}
use Rattle.layer_log.specs.Inside.Compositions.{Kept, Joined, Composed}
use Rattle.layer_log.proofs.Looks.{path_cases, find_first, find_later, sorted_tail, none_after}

-- settled changes are what they come to after none
pub already_settled : (a : Records) → Settled a → Composed empty a a
already_settled a h p = subst (λ x. Joined x (get a p) (get a p)) (sym (get-empty path_cmp p)) (by (get a p) (h p))
  where
    by : (x : Option Change) → IfSome x (λ r. r.before ≢ r.after) → Joined None x x
    by None g = refl
    by (Some r) g = (refl, g)

module _ {F : Type 0} (R : F → Names → Change → Bool → Change → F → Type 0) (f : F)
    (says : (p : Names) (r : Change) (b : Bool) (s : Change) (g : F) → R f p r b s g → ((b ≡ false) ↔ (r.before ≡ r.after)) × (s ≡ r) × (g ≡ f)) where
  differs : (r : Change) (b : Bool) → (b ≡ false) ↔ (r.before ≡ r.after) → b ≡ true → r.before ≢ r.after
  differs r b i h e = never (sym h ∙ i.1 e)
    where
      never : true ≡ false → ⊥
      never h = cc

  -- what is found at a path afterwards
  pub left_at : (es kept : List (Names × Change)) → T (is_sorted path_cmp es) → RetainsPairs R f es kept → (q : Names) → Joined None (find path_cmp q es) (find path_cmp q kept)
  left_at [] kept h g q = ap (find path_cmp q) g
  left_at (e ∷ es) kept h g q =
      let said = says e.0 e.1 g.0 g.1 g.2 g.4 in
      let rest = left_at es g.3 (sorted_tail e es h) (subst (λ k. RetainsPairs R k es g.3) said.2 g.5) q in
      subst (λ k. Joined None (find path_cmp q (e ∷ es)) (find path_cmp q k)) (sym g.6) (by g.0 g.1 g.3 said.0 said.1 rest)
    where
      here : (b : Bool) (s : Change) (rest : List (Names × Change)) → (b ≡ false) ↔ (e.1.before ≡ e.1.after) → s ≡ e.1 → Joined None (find path_cmp e.0 es) (find path_cmp e.0 rest)
          → Joined None (Some e.1) (find path_cmp e.0 (cond b ((e.0, s) ∷ rest) rest))
      here true s rest i is j = subst (Kept e.1) (sym (find_first (e.0, s) rest)) (is, differs e.1 true i refl)
      here false s rest i is j = subst (Kept e.1) (sym (subst (λ x. Joined None x (find path_cmp e.0 rest)) (none_after e es h) j)) (i.0 refl)

      there : (b : Bool) (s : Change) (rest : List (Names × Change)) → q ≢ e.0 → Joined None (find path_cmp q es) (find path_cmp q rest)
          → Joined None (find path_cmp q es) (find path_cmp q (cond b ((e.0, s) ∷ rest) rest))
      there true s rest other j = subst (Joined None (find path_cmp q es)) (sym (find_later q (e.0, s) rest other)) j
      there false s rest other j = j

      by : (b : Bool) (s : Change) (rest : List (Names × Change)) → (b ≡ false) ↔ (e.1.before ≡ e.1.after) → s ≡ e.1 → Joined None (find path_cmp q es) (find path_cmp q rest)
          → Joined None (find path_cmp q (e ∷ es)) (find path_cmp q (cond b ((e.0, s) ∷ rest) rest))
      by b s rest i is j = path_cases q e.0
          (λ same. subst (λ x. Joined None (find path_cmp x (e ∷ es)) (find path_cmp x (cond b ((e.0, s) ∷ rest) rest))) (sym same)
          (subst (λ y. Joined None y (find path_cmp e.0 (cond b ((e.0, s) ∷ rest) rest))) (sym (find_first e es))
          (here b s rest i is (subst (λ x. Joined None (find path_cmp x es) (find path_cmp x rest)) same j))))
          (λ other. subst (λ y. Joined None y (find path_cmp q (cond b ((e.0, s) ∷ rest) rest))) (sym (find_later q e es other)) (there b s rest other j))

  pub left_settled : (es kept : List (Names × Change)) → IsStrictlySortedBy path_cmp (keys_of es) → RetainsPairs R f es kept
      → Composed empty (from_entries {R = path_cmp} es) (from_entries {R = path_cmp} kept)
  left_settled es kept h g q =
      subst (λ x. Joined x (get (from_entries {R = path_cmp} es) q) (get (from_entries {R = path_cmp} kept) q)) (sym (get-empty path_cmp q))
      (subst (λ y. Joined None y (get (from_entries {R = path_cmp} kept) q)) (sym (get-from_entries path_cmp_total es q))
      (subst (Joined None (find path_cmp q es)) (sym (get-from_entries path_cmp_total kept q))
      (left_at es kept (sorted es h) g q)))
