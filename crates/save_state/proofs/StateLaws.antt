-- Laws of the forms of a state text.
use Rattle.std.proofs.Common.{◌≡◌, ℕ, ◌-◌, ◌^◌, ◌<◌, ◌≤◌, List, length, take, Option, Ok, true, refl, ap, ◌∙◌, arith, length-append, lit<}
use Rattle.std.specs.Prelude.{IfSome}
use Rattle.std.proofs.lemmas.List.{take_at}
use Rattle.res_path.specs.Paths.{Names, IsPath, path_text}
use Rattle.ws_wire.specs.Fields.{Input}
use Rattle.save_form.specs.Forms.{number, text, pair, checked, optional}
use Rattle.save_form.specs.Laws.{Lawful, StopsFirst, TakesBytes}
use Rattle.save_form.specs.Lists.{list}
use Rattle.save_form.proofs.Fields.{number_lawful, text_lawful}
use Rattle.save_form.proofs.Combined.{lawful_as, pair_lawful, checked_lawful, seen_lawful, optional_lawful, rising_lawful}
use Rattle.save_form.proofs.Sequences.{list_lawful}
use Rattle.save_form.proofs.Stops.{number_stops, text_bytes, text_stops, pair_bytes, pair_stops, checked_bytes, checked_stops, made_bytes, made_stops, seen_stops, optional_bytes, optional_stops, list_stops, rising_stops}
use Rattle.save_elem.specs.declared.elem.Elem.{Elem}
use Rattle.save_elem.specs.Elems.{elem, is_name_below}
use Rattle.save_elem.specs.Fits.{FitsElem}
use Rattle.save_elem.proofs.ElemLaws.{elem_lawful, elem_stops}
use Rattle.save_state.specs.declared.change.Change.{Change}
use Rattle.save_state.specs.declared.records.Built.{Built}
use Rattle.save_state.specs.declared.records.Kept.{Kept}
use Rattle.save_state.specs.Entries.{Entries, spell_entry}
use Rattle.save_state.specs.Changed.{changed, is_path_below}
use Rattle.save_state.specs.Paths.{path, path_of}
use Rattle.save_state.specs.States.{is_new, change, is_project_from, is_built_above, built_key, built, kept, state}
use Rattle.save_state.specs.Fits.{FitsTexts, FitsChange, FitsChanges, FitsBuilt, FitsKept, FitsState}
use Rattle.save_state.proofs.PathForm.{path_lawful}

-- ---- entries

pub entry_lawful : Lawful (λ (e : Option Elem). IfSome e FitsElem) (optional elem)
entry_lawful = optional_lawful elem FitsElem elem_lawful

entry_stops : StopsFirst (optional elem)
entry_stops = optional_stops elem elem_stops

-- the bytes that were read are the entry's spelling
pub taken : (i j : Input) (e : Option Elem) → (optional elem).read i ≡ Ok (e, j) → take (length i.left - length j.left) i.left ≡ spell_entry e
taken i j e read =
    let p = (entry_lawful.takes i j e read).0.bytes in
    let n : length i.left - length j.left ≡ length (spell_entry e) = omega (arith, ap length p, length-append (spell_entry e) j.left) in
    rw n (ap (take (length (spell_entry e))) p ∙ take_at (spell_entry e) j.left (length (spell_entry e)) refl)

pub left_over : (i j : Input) (e : Option Elem) → (optional elem).read i ≡ Ok (e, j) → length j.left ≤ length i.left
left_over i j e read = let p = (entry_lawful.takes i j e read).0.bytes in omega (arith, ap length p, length-append (spell_entry e) j.left)

-- ---- changes

path_bytes : TakesBytes path
unfolding path
path_bytes = made_bytes path_of path_text text text_bytes

path_stops : StopsFirst path
unfolding path
path_stops = made_stops (λ t. length t < 2 ^ 32) path_of path_text text text_lawful text_bytes text_stops

new_lawful : (base : Entries) (p : Names) → Lawful (λ (e : Option Elem). IfSome e FitsElem × (is_new (base p) e ≡ true)) (checked (is_new (base p)) (optional elem))
new_lawful base p = checked_lawful (is_new (base p)) (optional elem) (λ (e : Option Elem). IfSome e FitsElem) entry_lawful

new_stops : (base : Entries) (p : Names) → StopsFirst (checked (is_new (base p)) (optional elem))
new_stops base p = checked_stops (λ (e : Option Elem). IfSome e FitsElem) (is_new (base p)) (optional elem) entry_lawful (optional_bytes elem) entry_stops

pub change_lawful : (base : Entries) (before : Option Change) → Lawful (FitsChange base before) (change base before)
unfolding change
change_lawful base before = lawful_as _ _ _ (λ c p. record { path = p.0.0; above = p.0.1; entry = p.1.0; new = p.1.1 }) (λ c p. ((p.path, p.above), (p.entry, p.new)))
    (seen_lawful _ _ _ _ (λ a. refl) (λ b. refl) (rising_lawful is_path_below (λ (c : Change). c.path) path (λ p. checked (is_new (base p)) (optional elem)) IsPath (λ p e. IfSome e FitsElem × (is_new (base p) e ≡ true)) path_lawful (new_lawful base) before))

pub change_stops : (base : Entries) (before : Option Change) → StopsFirst (change base before)
unfolding change
change_stops base before = seen_stops _ _ _ (rising_stops IsPath is_path_below (λ (c : Change). c.path) path (λ p. checked (is_new (base p)) (optional elem)) path_lawful path_bytes path_stops (new_stops base) before)

pub changes_lawful : (base : Entries) → Lawful (FitsChanges base) (list (change base))
changes_lawful base = list_lawful (change base) (FitsChange base) (change_lawful base)

pub changes_stop : (base : Entries) → StopsFirst (list (change base))
changes_stop base = list_stops (change base) (FitsChange base) (change_lawful base) (change_stops base)

texts_lawful : Lawful FitsTexts (list λ _. text)
texts_lawful = list_lawful (λ _. text) (λ _ t. length t < 2 ^ 32) (λ _. text_lawful)

texts_stop : StopsFirst (list λ _. text)
texts_stop = list_stops (λ _. text) (λ _ t. length t < 2 ^ 32) (λ _. text_lawful) (λ _. text_stops)

-- ---- built records

from_lawful : (before : Option Built) → Lawful (λ (t : List ℕ). (length t < 2 ^ 32) × (is_project_from before t ≡ true)) (checked (is_project_from before) text)
from_lawful before = checked_lawful (is_project_from before) text (λ t. length t < 2 ^ 32) text_lawful

from_stops : (before : Option Built) → StopsFirst (checked (is_project_from before) text)
from_stops before = checked_stops (λ t. length t < 2 ^ 32) (is_project_from before) text text_lawful text_bytes text_stops

place_lawful : (before : Option Built) → Lawful (λ (x : List ℕ × ℕ). ((length x.0 < 2 ^ 32) × (is_project_from before x.0 ≡ true)) × (x.1 < 2 ^ 16)) (pair (checked (is_project_from before) text) λ _. number 2)
place_lawful before = pair_lawful (checked (is_project_from before) text) (λ _. number 2) _ (λ _ n. n < 2 ^ 16) (from_lawful before) (λ _. number_lawful 2)

key_lawful : (before : Option Built) → Lawful (λ (x : List ℕ × ℕ). (((length x.0 < 2 ^ 32) × (is_project_from before x.0 ≡ true)) × (x.1 < 2 ^ 16)) × (is_built_above before x ≡ true)) (built_key before)
key_lawful before = checked_lawful (is_built_above before) (pair (checked (is_project_from before) text) λ _. number 2) _ (place_lawful before)

key_stops : (before : Option Built) → StopsFirst (built_key before)
key_stops before = checked_stops _ (is_built_above before) (pair (checked (is_project_from before) text) λ _. number 2) (place_lawful before)
    (pair_bytes (checked (is_project_from before) text) (λ _. number 2) (checked_bytes (is_project_from before) text text_bytes))
    (pair_stops _ (checked (is_project_from before) text) (λ _. number 2) (from_lawful before) (from_stops before) (λ _. number_stops 2 (lit< tt)))

pub built_lawful : (tree : Entries) (before : Option Built) → Lawful (FitsBuilt tree before) (built tree before)
unfolding built
built_lawful tree before = lawful_as _ _ _
    (λ b p. record { project = p.0.0.0.0; from = p.0.0.0.1; index = p.0.0.1; above = p.0.1; command = p.1.0; references = p.1.1.0; changes = p.1.1.1 })
    (λ b p. ((((p.project, p.from), p.index), p.above), (p.command, (p.references, p.changes))))
    (seen_lawful _ _ _ _ (λ a. refl) (λ b. refl) (pair_lawful _ _ _ _ (key_lawful before) λ _. pair_lawful _ _ _ _ text_lawful λ _. pair_lawful _ _ _ _ texts_lawful λ _. changes_lawful tree))

pub built_stops : (tree : Entries) (before : Option Built) → StopsFirst (built tree before)
unfolding built
built_stops tree before = seen_stops _ _ _
    (pair_stops _ _ _ (key_lawful before) (key_stops before) λ _. pair_stops _ _ _ text_lawful text_stops λ _. pair_stops _ _ _ texts_lawful texts_stop λ _. changes_stop tree)

-- ---- kept states

pub kept_lawful : (tree : Entries) (before : Option Kept) → Lawful (FitsKept tree before) (kept tree before)
unfolding kept
kept_lawful tree before = lawful_as _ _ _
    (λ k p. record { participant = p.0.0; above = p.0.1; bytes = p.1.0; changes = p.1.1 })
    (λ k p. ((p.participant, p.above), (p.bytes, p.changes)))
    (seen_lawful _ _ _ _ (λ a. refl) (λ b. refl) (rising_lawful is_name_below (λ (k : Kept). k.participant) text (λ _. pair text λ _. optional (list (change tree))) _ _ text_lawful
    (λ _. pair_lawful _ _ _ _ text_lawful λ _. optional_lawful (list (change tree)) _ (changes_lawful tree)) before))

kept_rest : (tree : Entries) → StopsFirst (pair text λ _. optional (list (change tree)))
kept_rest tree = pair_stops (λ t. length t < 2 ^ 32) text (λ _. optional (list (change tree))) text_lawful text_stops (λ _. optional_stops (list (change tree)) (changes_stop tree))

pub kept_stops : (tree : Entries) (before : Option Kept) → StopsFirst (kept tree before)
unfolding kept
kept_stops tree before = seen_stops _ _ _ (rising_stops (λ t. length t < 2 ^ 32) is_name_below (λ (k : Kept). k.participant) text (λ _. pair text λ _. optional (list (change tree))) text_lawful text_bytes text_stops (λ _. kept_rest tree) before)

-- ---- states

pub state_lawful : (tree shelf : Entries) → Lawful (FitsState tree shelf) (state tree shelf)
unfolding state
state_lawful tree shelf = lawful_as _ _ _
    (λ s p. record { next_node = p.0; next_stamp = p.1.0; next_marker = p.1.1.0; partners = p.1.1.1.0; tree = p.1.1.1.1.0; shelf = p.1.1.1.1.1.0; built = p.1.1.1.1.1.1.0; kept = p.1.1.1.1.1.1.1 })
    (λ s p. (p.next_node, (p.next_stamp, (p.next_marker, (p.partners, (p.tree, (p.shelf, (p.built, p.kept))))))))
    (seen_lawful _ _ _ _ (λ a. refl) (λ b. refl)
    (pair_lawful _ _ _ _ (number_lawful 8) λ _. pair_lawful _ _ _ _ (number_lawful 8) λ _. pair_lawful _ _ _ _ (number_lawful 8) λ _. pair_lawful _ _ _ _ texts_lawful λ _.
    pair_lawful _ _ _ _ (changes_lawful tree) λ cs. pair_lawful _ _ _ _ (changes_lawful shelf) λ _.
    pair_lawful _ _ _ _ (list_lawful (built (changed tree cs)) (FitsBuilt (changed tree cs)) (built_lawful (changed tree cs))) λ _.
    list_lawful (kept (changed tree cs)) (FitsKept (changed tree cs)) (kept_lawful (changed tree cs))))

pub state_stops : (tree shelf : Entries) → StopsFirst (state tree shelf)
unfolding state
state_stops tree shelf = seen_stops _ _ _
    (pair_stops _ _ _ (number_lawful 8) (number_stops 8 (lit< tt)) λ _. pair_stops _ _ _ (number_lawful 8) (number_stops 8 (lit< tt)) λ _. pair_stops _ _ _ (number_lawful 8) (number_stops 8 (lit< tt)) λ _.
    pair_stops _ _ _ texts_lawful texts_stop λ _. pair_stops _ _ _ (changes_lawful tree) (changes_stop tree) λ cs. pair_stops _ _ _ (changes_lawful shelf) (changes_stop shelf) λ _.
    pair_stops _ _ _ (list_lawful (built (changed tree cs)) (FitsBuilt (changed tree cs)) (built_lawful (changed tree cs))) (list_stops (built (changed tree cs)) (FitsBuilt (changed tree cs)) (built_lawful (changed tree cs)) (built_stops (changed tree cs))) λ _.
    list_stops (kept (changed tree cs)) (FitsKept (changed tree cs)) (kept_lawful (changed tree cs)) (kept_stops (changed tree cs)))
