-- Changes that meet, entry by entry.
use Rattle.std.proofs.Common.{◌≡◌, Bool, true, false, cond, List, [], ◌∷◌, refl, sym, subst}
use Rattle.std.specs.Prelude.{Option, Some, None, IfSome}
use Rattle.std.specs.FinMap.{get, entries, find, get-entries}
use Rattle.std.specs.List.{AllByRecursion}
use Rattle.std.specs.Ordering.{eq_by_cmp}
use Rattle.res_path.specs.Paths.{Names, path_cmp}
use Rattle.ws_elem.proofs.Cuts.{same_at}
use Rattle.layer_log.specs.declared.change.Change.{Change}
use Rattle.layer_log.specs.Records.{Records, Meets}

-- the entry begins as the first changes end there
abbrev pub Follows : Records → Names × Change → Type 0
Follows first e = IfSome (get first e.0) (λ r. r.after ≡ e.1.before)

abbrev pub AllFollow : Records → List (Names × Change) → Type 0
AllFollow first = AllByRecursion (Follows first)

found_follows : (first : Records) (p : Names) (es : List (Names × Change)) → AllFollow first es → IfSome (find path_cmp p es) (λ s. IfSome (get first p) (λ r. r.after ≡ s.before))
found_follows first p [] h = tt
found_follows first p (e ∷ es) h = by (eq_by_cmp path_cmp p e.0) refl (found_follows first p es h.1)
  where
    by : (b : Bool) → eq_by_cmp path_cmp p e.0 ≡ b → IfSome (find path_cmp p es) (λ s. IfSome (get first p) (λ r. r.after ≡ s.before)) → IfSome (cond b (Some e.1) (find path_cmp p es)) (λ s. IfSome (get first p) (λ r. r.after ≡ s.before))
    by true i more = subst (λ q. IfSome (get first q) (λ r. r.after ≡ e.1.before)) (sym (same_at p e.0 i)) h.0
    by false i more = more

swapped : (x y : Option Change) → IfSome y (λ s. IfSome x (λ r. r.after ≡ s.before)) → IfSome x (λ r. IfSome y (λ s. r.after ≡ s.before))
swapped None y h = tt
swapped (Some r) None h = tt
swapped (Some r) (Some s) h = h

pub all_meet : (first next : Records) → AllFollow first (entries next) → Meets first next
all_meet first next h p = swapped (get first p) (get next p) (subst (λ y. IfSome y (λ s. IfSome (get first p) (λ r. r.after ≡ s.before))) (sym (get-entries next p)) (found_follows first p (entries next) h))
