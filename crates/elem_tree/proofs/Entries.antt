-- One slot that is set, as the map tells it.
use Rattle.std.proofs.Common.{◌≡◌, Bool, true, false, cond, List, refl, sym, ap, ◌∙◌, subst}
use Rattle.std.specs.Option.{option_map}
use Rattle.std.specs.Prelude.{Option, Some, None, IsSome}
use Rattle.std.specs.FinMap.{get, from_entries, same_map}
use Rattle.std.specs.BTreeMap.{is_at}
use Rattle.res_path.specs.Paths.{Names, path_cmp}
use Rattle.res_path.specs.PathLaws.{path_cmp_total}
use Rattle.res_path.proofs.Prefixes.{path_cmp_exact}
use Rattle.ws_elem.proofs.Cuts.{same_at}
use Rattle.ws_elem.proofs.Ordered.{get_is, one_put}
use Rattle.elem_tree.specs.declared.slot.Slot.{Slot}
use Rattle.elem_tree.specs.Inside.Entries.{found, SetsAt}
use Rattle.elem_tree.specs.Inside.Slots.{Slots, is_known, touched, touched_slot, touched_at}

-- nothing is set at a path without a slot
none_set : (old new : List (Names × Slot)) (p : Names) → found old p ≡ None → SetsAt old new p None → from_entries {R = path_cmp} new ≡ from_entries old
none_set old new p none sets = same_map path_cmp_total path_cmp_exact _ _ (λ q. get_is new q ∙ sets q ∙ by q (is_at (path_cmp p) q) refl ∙ sym (get_is old q))
  where
    by : (q : Names) (b : Bool) → is_at (path_cmp p) q ≡ b → cond b None (found old q) ≡ found old q
    by q true e = sym none ∙ ap (found old) (same_at p q e)
    by q false e = refl

pub touches : (old new : List (Names × Slot)) (p : Names) → SetsAt old new p (option_map touched (found old p)) → from_entries {R = path_cmp} new ≡ touched_at (from_entries old) p
touches old new p sets = by (found old p) refl
  where
    m : Slots
    m = from_entries old

    by : (k : Option Slot) → found old p ≡ k → from_entries {R = path_cmp} new ≡ touched_slot m p (get m p)
    by None e = none_set old new p e (λ q. sets q ∙ ap (λ k. cond (is_at (path_cmp p) q) (option_map touched k) (found old q)) e) ∙ sym (ap (touched_slot m p) (get_is old p ∙ e))
    by (Some x) e = one_put old new p (touched x) (λ q. sets q ∙ ap (λ k. cond (is_at (path_cmp p) q) (option_map touched k) (found old q)) e) ∙ sym (ap (touched_slot m p) (get_is old p ∙ e))

pub has_slot : (es : List (Names × Slot)) (m : Slots) (p : Names) → from_entries {R = path_cmp} es ≡ m → IsSome (get m p) → IsSome (found es p)
has_slot es m p is h = subst IsSome (ap (λ n. get n p) (sym is) ∙ get_is es p) h

pub known_slot : (es : List (Names × Slot)) (m : Slots) (p : Names) → from_entries {R = path_cmp} es ≡ m → is_known (get m p) ≡ true → IsSome (found es p)
known_slot es m p is h = has_slot es m p is (by (get m p) h)
  where
    by : (k : Option Slot) → is_known k ≡ true → IsSome k
    by None e = cc
    by (Some s) e = refl
