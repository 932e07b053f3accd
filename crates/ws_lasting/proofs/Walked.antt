-- A tree without transient markers, made from entry to entry.
use Rattle.std.proofs.Common.{◌≡◌, ◌<◌, ℕ, Bool, true, false, ◌&&◌, List, [], ◌∷◌, ◌++◌, map, length, T, refl, sym, ap, ◌∙◌, subst, append-nil, append_assoc}
use Rattle.std.specs.Prelude.{Option, Some, None}
use Rattle.std.specs.Option.{option_map}
use Rattle.std.specs.Ordering.{is_lt}
use Rattle.std.specs.FinMap.{empty, entries, entries_sorted, entries-insert, find, get, get-entries, get-from_entries, insert, is_sorted, same_map}
use Rattle.std.specs.FinMap.Entries.{below_all, put}
use Rattle.std.proofs.lemmas.List.{map-append}
use Rattle.mark_set.proofs.Maps.{entries-empty}
use Rattle.res_path.specs.Paths.{Names, path_cmp}
use Rattle.res_path.specs.PathLaws.{path_cmp_total}
use Rattle.res_path.proofs.Prefixes.{path_cmp_exact}
use Rattle.ws_elem.specs.declared.element.Element.{Element}
use Rattle.ws_elem.specs.Trees.{Tree, entry_after}
use Rattle.ws_lasting.specs.Lasting.{lasting, lasting_element, lasting_entry}
use Rattle.ws_lasting.specs.Inside.{with_some}
use Rattle.ws_lasting.proofs.Above.{above, fewer_above, next_above, none_above, put_last}

abbrev Entries : Type 0
Entries = List (Names × Element)

-- what the tree has above the path
abbrev pub entries_after : Tree → Names → Entries
entries_after t p = above path_cmp p (entries t)

-- what was found and what lasts of the entries above the path are what lasts of the tree
abbrev pub IsFound : Tree → Tree → Names → Type 0
IsFound t found at = entries found ++ map lasting_entry (entries_after t at) ≡ map lasting_entry (entries t)

below_mapped : (p : Names) (es : Entries) → below_all path_cmp p (map lasting_entry es) ≡ below_all path_cmp p es
below_mapped p [] = refl
below_mapped p (e ∷ es) = ap (λ b. is_lt (path_cmp p e.0) && b) (below_mapped p es)

sorted_mapped : (es : Entries) → is_sorted path_cmp (map lasting_entry es) ≡ is_sorted path_cmp es
sorted_mapped [] = refl
sorted_mapped (e ∷ es) = λ i. below_mapped e.0 es i && sorted_mapped es i

all_sorted : (t : Tree) → T (is_sorted path_cmp (map lasting_entry (entries t)))
all_sorted t = subst T (sym (sorted_mapped (entries t))) (entries_sorted t)

-- ---- the root

abbrev entry_if : Option Element → Entries
entry_if None = []
entry_if (Some e) = ([], e) ∷ []

first : (a b : Bool) → T (a && b) → T a
first true b h = tt
first false b h = h

second : (a b : Bool) → T (a && b) → T b
second true b h = h
second false b h = absurd h

none_in : entries (empty {X = Element} {R = path_cmp}) ≡ []
none_in = entries-empty path_cmp_total path_cmp_exact

-- all but the root is above it
above_names : (n : List ℕ) (p : Names) (es : Entries) → T (below_all path_cmp (n ∷ p) es) → (above path_cmp [] es ≡ es) × (find path_cmp [] es ≡ None)
above_names n p [] h = (refl, refl)
above_names n p (([], e) ∷ es) h = absurd h
above_names n p ((m ∷ q, e) ∷ es) h =
    let rest = above_names n p es (second (is_lt (path_cmp (n ∷ p) (m ∷ q))) (below_all path_cmp (n ∷ p) es) h) in
    (ap (λ xs. (m ∷ q, e) ∷ xs) rest.0, rest.1)

above_root : (es : Entries) → T (below_all path_cmp [] es) → above path_cmp [] es ≡ es
above_root [] h = refl
above_root (([], e) ∷ es) h = absurd h
above_root ((m ∷ q, e) ∷ es) h = ap (λ xs. (m ∷ q, e) ∷ xs) (above_root es h)

split_root : (es : Entries) → T (is_sorted path_cmp es) → entry_if (find path_cmp [] es) ++ above path_cmp [] es ≡ es
split_root [] s = refl
split_root (([], e) ∷ es) s = ap (λ xs. ([], e) ∷ xs) (above_root es (first (below_all path_cmp [] es) (is_sorted path_cmp es) s))
split_root ((n ∷ p, e) ∷ es) s =
    let rest = above_names n p es (first (below_all path_cmp (n ∷ p) es) (is_sorted path_cmp es) s) in
    ap (λ o. entry_if o ++ (n ∷ p, e) ∷ above path_cmp [] es) rest.1 ∙ ap (λ xs. (n ∷ p, e) ∷ xs) rest.0

root_entries : (o : Option Element) → entries (with_some empty [] (option_map lasting_element o)) ≡ map lasting_entry (entry_if o)
root_entries None = none_in
root_entries (Some e) = entries-insert path_cmp_total empty [] (lasting_element e) ∙ ap (put path_cmp [] (lasting_element e)) none_in

-- at first the root is found
pub found_root : (t found : Tree) (at : Names) → at ≡ [] → found ≡ with_some empty [] (option_map lasting_element (get t [])) → IsFound t found at
found_root t found at root is =
    (λ i. entries (is i) ++ map lasting_entry (entries_after t (root i)))
    ∙ ap (λ es. es ++ map lasting_entry (entries_after t [])) (root_entries (get t []))
    ∙ sym (map-append lasting_entry (entry_if (get t [])) (entries_after t []))
    ∙ ap (map lasting_entry) (ap (λ o. entry_if o ++ entries_after t []) (get-entries t []) ∙ split_root (entries t) (entries_sorted t))

-- ---- one more

pub found_more : (t found new : Tree) (p q : Names) (x : Names × Element) → Some x ≡ entry_after t p → q ≡ x.0 → new ≡ insert found x.0 (lasting_element x.1)
    → IsFound t found p → IsFound t new q
found_more t found new p q x next at is h =
    (λ i. entries (is i) ++ map lasting_entry (entries_after t (at i)))
    ∙ ap (λ es. es ++ rest) (entries-insert path_cmp_total found x.0 (lasting_element x.1) ∙ put_last path_cmp path_cmp_total (entries found) rest x.0 (lasting_element x.1) order)
    ∙ append_assoc (entries found) (lasting_entry x ∷ []) rest ∙ split
  where
    rest : Entries
    rest = map lasting_entry (entries_after t x.0)

    split : entries found ++ lasting_entry x ∷ rest ≡ map lasting_entry (entries t)
    split = ap (λ es. entries found ++ map lasting_entry es) (sym (next_above path_cmp path_cmp_total p (entries t) x (entries_sorted t) (sym next))) ∙ h

    order : T (is_sorted path_cmp (entries found ++ lasting_entry x ∷ rest))
    order = subst (λ es. T (is_sorted path_cmp es)) (sym split) (all_sorted t)

pub fewer_next : (t : Tree) (p q : Names) (x : Names × Element) → Some x ≡ entry_after t p → q ≡ x.0 → length (entries_after t q) < length (entries_after t p)
fewer_next t p q x next at = subst (λ r. length (entries_after t r) < length (entries_after t p)) (sym at) (fewer_above path_cmp path_cmp_total p (entries t) x (entries_sorted t) (sym next))

-- ---- at last

pub found_all : (t found : Tree) (p : Names) → None ≡ entry_after t p → IsFound t found p → found ≡ lasting t
unfolding lasting
found_all t found p none h = same_map path_cmp_total path_cmp_exact _ _ (λ q.
    get-entries found q ∙ ap (find path_cmp q) all ∙ sym (get-from_entries path_cmp_total (map lasting_entry (entries t)) q))
  where
    all : entries found ≡ map lasting_entry (entries t)
    all = sym (append-nil (entries found)) ∙ ap (λ es. entries found ++ map lasting_entry es) (sym (none_above path_cmp p (entries t) (sym none))) ∙ h
