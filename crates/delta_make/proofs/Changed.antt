-- The rows of changes tell what became of the trees between which they lead.
use Rattle.std.proofs.Common.{◌≡◌, ◌↔◌, Bool, true, false, cond, List, [], ◌∷◌, map, refl, sym, ap, ◌∙◌}
use Rattle.std.specs.Prelude.{Option, Some, None, IfSome, filter, is_some}
use Rattle.std.specs.FinMap.{empty, get, entries, find, get-entries, contains_key-keys}
use Rattle.std.specs.List.{list_any}
use Rattle.std.specs.Ordering.{eq_by_cmp, is_eq}
use Rattle.res_path.specs.Paths.{Names, path_cmp}
use Rattle.res_path.proofs.Prefixes.{path_itself}
use Rattle.ws_elem.specs.declared.element.Element.{Element}
use Rattle.ws_elem.specs.Trees.{Tree}
use Rattle.ws_elem.proofs.Cuts.{same_at}
use Rattle.layer_log.specs.declared.change.Change.{Change}
use Rattle.layer_log.specs.Records.{Records, Turns, Leads}
use Rattle.delta_kind.specs.declared.node.DeltaNode.{DeltaNode}
use Rattle.delta_kind.specs.Flags.{differs}
use Rattle.delta_kind.specs.Deltas.{delta, with_above, InPathOrder}
use Rattle.delta_kind.specs.Rows.{Sides, Rows, row_paths, delta_of_rows}
use Rattle.delta_kind.proofs.Merged.{row_differs}
use Rattle.delta_kind.proofs.Rising.{Rises, rises_lower, rises_sorted, keys_rise, find_missing}
use Rattle.delta_kind.proofs.Same.{rows_delta, differs_same, tells_no_change}
use Rattle.delta_kind.proofs.Told.{above_set, get-above_set}
use Rattle.delta_make.specs.Inside.Changed.{row_of, changed_rows}

abbrev Entries : Type 0
Entries = List (Names × Change)

abbrev paths : Entries → List Names
paths = map (λ e. e.0)

abbrev pub rows_of : Entries → Rows
rows_of es = filter row_differs (map row_of es)

rows_rise : (l : Option Names) (es : Entries) → Rises l (paths es) → Rises l (row_paths (rows_of es))
rows_rise l [] h = tt
rows_rise l (e ∷ es) h = by (row_differs (row_of e)) (rows_rise (Some e.0) es h.1)
  where
    by : (b : Bool) → Rises (Some e.0) (row_paths (rows_of es)) → Rises l (row_paths (cond b (row_of e ∷ rows_of es) (rows_of es)))
    by true g = (h.0, g)
    by false g = rises_lower l e.0 _ h.0 g

-- the row of a path with this change
abbrev row_at : Option Change → Option Sides
row_at None = None
row_at (Some r) = cond (differs r.before r.after) (Some (r.before, r.after)) None

rows_found : (p : Names) (l : Option Names) (es : Entries) → Rises l (paths es) → find path_cmp p (rows_of es) ≡ row_at (find path_cmp p es)
rows_found p l [] h = refl
rows_found p l (e ∷ es) h = by (eq_by_cmp path_cmp p e.0) refl (row_differs (row_of e)) refl (rows_found p (Some e.0) es h.1)
  where
    by : (c : Bool) → eq_by_cmp path_cmp p e.0 ≡ c → (d : Bool) → row_differs (row_of e) ≡ d → find path_cmp p (rows_of es) ≡ row_at (find path_cmp p es)
        → find path_cmp p (cond d (row_of e ∷ rows_of es) (rows_of es)) ≡ row_at (cond c (Some e.1) (find path_cmp p es))
    by true i true j g = ap (λ c. cond c (Some (e.1.before, e.1.after)) (find path_cmp p (rows_of es))) i ∙ sym (ap (λ c. cond c (Some (e.1.before, e.1.after)) None) j)
    by true i false j g =
        g ∙ ap row_at (ap (λ q. find path_cmp q es) (same_at p e.0 i) ∙ find_missing e.0 es h.1)
        ∙ sym (ap (λ c. cond c (Some (e.1.before, e.1.after)) None) j)
    by false i true j g = ap (λ c. cond c (Some (e.1.before, e.1.after)) (find path_cmp p (rows_of es))) i ∙ g
    by false i false j g = g

changed_found : (c : Records) (p : Names) → find path_cmp p (changed_rows c) ≡ row_at (get c p)
changed_found c p = rows_found p None (entries c) (keys_rise c) ∙ ap row_at (sym (get-entries c p))

pub changed_order : (c : Records) → InPathOrder (row_paths (changed_rows c))
changed_order c = rises_sorted None _ (rows_rise None (entries c) (keys_rise c))

-- what the rows tell is the delta of all trees between which the changes lead
pub changes_delta : (c : Records) (a b : Tree) → Leads a c b → delta_of_rows (changed_rows c) ≡ delta a b
changes_delta c a b leads = rows_delta a b (changed_rows c) (λ p. changed_found c p ∙ by (get a p) (get b p) (get c p) (leads p)) (changed_order c)
  where
    by : (x y : Option Element) (r : Option Change) → Turns x r y → row_at r ≡ cond (differs x y) (Some (x, y)) None
    by x y None h = sym (ap (λ d. cond d (Some (x, y)) None) (ap (differs x) (sym h) ∙ differs_same x))
    by x y (Some r) h = λ i. cond (differs (h.0 i) (h.1 i)) (Some (h.0 i, h.1 i)) None

-- ---- when nothing is told

nothing_of_none : (t : Tree) → delta_of_rows [] ≡ []
nothing_of_none t =
    rows_delta t t [] (λ p. sym (ap (λ d. cond d (Some (get t p, get t p)) None) (differs_same (get t p)))) (rises_sorted None [] tt)
    ∙ tells_no_change t t refl

no_keys : (f : Names → DeltaNode) (ps : List Names) → map f ps ≡ [] → ps ≡ []
no_keys f [] h = refl
no_keys f (p ∷ ps) h = cc

never : true ≡ false → ⊥
never h = cc

-- the root is above every path
none_of_nothing : (rows : Rows) → with_above (row_paths rows) ≡ [] → rows ≡ []
none_of_nothing [] h = refl
none_of_nothing (row ∷ rows) h = absurd (never (
    sym (ap is_some (get-above_set (row_paths (row ∷ rows)) []))
    ∙ contains_key-keys (above_set (row_paths (row ∷ rows))) []
    ∙ ap (list_any (eq_by_cmp path_cmp [])) h))

none_found : (rows : Rows) → ((p : Names) → find path_cmp p rows ≡ None) → rows ≡ []
none_found [] h = refl
none_found (row ∷ rows) h = absurd (never_some (sym (ap (λ b. cond b (Some row.1) (find path_cmp row.0 rows)) (ap is_eq (path_itself row.0))) ∙ h row.0))
  where
    never_some : Some row.1 ≡ None → ⊥
    never_some h = cc

abbrev TellsNothing : Option Change → Type 0
TellsNothing r = IfSome r (λ r. differs r.before r.after ≡ false)

idle : (r : Option Change) → TellsNothing r → row_at r ≡ None
idle None h = refl
idle (Some r) h = ap (λ d. cond d (Some (r.before, r.after)) None) h

told : (r : Option Change) → row_at r ≡ None → TellsNothing r
told None h = tt
told (Some r) h = by (r.before, r.after) (differs r.before r.after) h
  where
    by : (s : Sides) (d : Bool) → cond d (Some s) None ≡ None → d ≡ false
    by s true g = cc
    by s false g = refl

pub tells_nothing : (c : Records) → (delta_of_rows (changed_rows c) ≡ []) ↔ ((p : Names) → TellsNothing (get c p))
tells_nothing c = (
  λ h p. told (get c p) (sym (changed_found c p) ∙ ap (find path_cmp p) (none_of_nothing (changed_rows c) (no_keys _ (with_above (row_paths (changed_rows c))) h))),
  λ h. ap delta_of_rows (none_found (changed_rows c) (λ p. changed_found c p ∙ idle (get c p) (h p))) ∙ nothing_of_none empty,
)

pub equal_entries : (r : Option Change) → IfSome r (λ r. r.before ≡ r.after) → TellsNothing r
equal_entries None h = tt
equal_entries (Some r) h = ap (differs r.before) (sym h) ∙ differs_same r.before
