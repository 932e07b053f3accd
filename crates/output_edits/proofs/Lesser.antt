-- The least of some paths, found one by one.
use Rattle.std.proofs.Common.{◌≡◌, Bool, true, false, cond, ◌||◌, List, [], ◌∷◌, ◌++◌, refl, ap, ◌∙◌}
use Rattle.std.specs.Prelude.{Option, Some, filter, is_some}
use Rattle.std.specs.Ordering.{eq_by_cmp}
use Rattle.std.specs.FinMap.{get, insert, contains_key, empty, get-insert, get-empty}
use Rattle.res_path.specs.Paths.{Names, path_cmp}
use Rattle.res_path.specs.PathLaws.{path_cmp_total}
use Rattle.ws_elem.specs.declared.element.Element.{Element}
use Rattle.ws_elem.specs.Trees.{Tree}
use Rattle.op_kind.specs.Effects.{new_folder}
use Rattle.output_edits.specs.Bad.{lesser, least_of, repeated}

pub least_append : (found : Option Names) (ps qs : List Names) → least_of found (ps ++ qs) ≡ least_of (least_of found ps) qs
least_append found [] qs = refl
least_append found (p ∷ ps) qs = least_append (lesser found p) ps qs

-- one more path that is kept where it passes a test
pub least_kept : (test : Names → Bool) (found : Option Names) (p : Names) (ps : List Names)
    → least_of (cond (test p) (lesser found p) found) (filter test ps) ≡ least_of found (filter test (p ∷ ps))
least_kept test found p ps = by (test p)
  where
    by : (b : Bool) → least_of (cond b (lesser found p) found) (filter test ps) ≡ least_of found (cond b (p ∷ filter test ps) (filter test ps))
    by true = refl
    by false = refl

-- where something is at a path, it was put there or was there before
seen_now : (t : Tree) (p : Names) (e : Element) → contains_key (insert t p e) ≡ (λ q. eq_by_cmp path_cmp q p || contains_key t q)
seen_now t p e = λ i q. at q i
  where
    by : (b : Bool) (x : Option Element) → is_some (cond b (Some e) x) ≡ (b || is_some x)
    by true x = refl
    by false x = refl

    at : (q : Names) → contains_key (insert t p e) q ≡ (eq_by_cmp path_cmp q p || contains_key t q)
    at q = ap is_some (get-insert path_cmp_total t p e q) ∙ by (eq_by_cmp path_cmp q p) (get t q)

-- one more path that may have been seen, and is from now on
pub least_seen : (t : Tree) (found : Option Names) (p : Names) (ps : List Names)
    → least_of (cond (contains_key t p) (lesser found p) found) (repeated (contains_key (insert t p (new_folder 0))) ps) ≡ least_of found (repeated (contains_key t) (p ∷ ps))
least_seen t found p ps = ap (λ seen. least_of (cond (contains_key t p) (lesser found p) found) (repeated seen ps)) (seen_now t p (new_folder 0)) ∙ by (contains_key t p)
  where
    later : List Names
    later = repeated (λ q. eq_by_cmp path_cmp q p || contains_key t q) ps

    by : (b : Bool) → least_of (cond b (lesser found p) found) later ≡ least_of found (cond b (p ∷ []) [] ++ later)
    by true = refl
    by false = refl

-- nothing was seen at first
pub none_seen : contains_key (empty {X = Element} {R = path_cmp}) ≡ (λ _. false)
none_seen = λ i q. ap (λ (x : Option Element). is_some x) (get-empty path_cmp q) i
