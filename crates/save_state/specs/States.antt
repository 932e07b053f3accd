-- The forms of a state text and of its parts.
use Rattle.std.specs.Prelude.{ℕ, Bool, true, not, ◌&&◌, ◌||◌, List, Option, Some, None, nat_lt, bytes_eq}
use Rattle.save_form.specs.Forms.{Form, number, text, pair, checked, seen_as, optional}
use Rattle.save_form.specs.Lists.{list, rising}
use Rattle.save_elem.specs.declared.elem.Elem.{Elem}
use Rattle.save_elem.specs.Elems.{elem, is_name_below}
use Rattle.save_state.specs.declared.change.Change.{Change}
use Rattle.save_state.specs.declared.records.Built.{Built}
use Rattle.save_state.specs.declared.records.Kept.{Kept}
use Rattle.save_state.specs.declared.state.State.{State}
use Rattle.save_state.specs.Entries.{Entries, spell_entry}
use Rattle.save_state.specs.Changed.{is_path_below, changed}
use Rattle.save_state.specs.Paths.{path}

-- ---- changes

-- an entry that isn't the base's own
abbrev pub is_new : Option Elem → Option Elem → Bool
is_new old entry = not (bytes_eq (spell_entry old) (spell_entry entry))

-- a path, and what stands there after the change; an entry that is the base's own can't stand there
unfoldable pub change : Entries → Option Change → Form Change
change base before = seen_as (λ x. record { path = x.0; entry = x.1 }) (λ c. (c.path, c.entry))
    (rising is_path_below (λ (c : Change). c.path) path (λ p. checked (is_new (base p)) (optional elem)) before)

-- ---- built records, by project and index

-- a project below the one before can't be mended by an index
abbrev pub is_project_from : Option Built → List ℕ → Bool
is_project_from None project = true
is_project_from (Some before) project = not (is_name_below project before.project)

abbrev pub is_built_above : Option Built → List ℕ × ℕ → Bool
is_built_above None key = true
is_built_above (Some before) key = is_name_below before.project key.0 || (bytes_eq before.project key.0 && nat_lt before.index key.1)

abbrev pub built_key : Option Built → Form (List ℕ × ℕ)
built_key before = checked (is_built_above before) (pair (checked (is_project_from before) text) λ _. number 2)

-- project and index, the command, the references, and the changes from the tree to the last built one
unfoldable pub built : Entries → Option Built → Form Built
built tree before = seen_as (λ x. record { project = x.0.0; index = x.0.1; command = x.1.0; references = x.1.1.0; changes = x.1.1.1 })
    (λ b. ((b.project, b.index), (b.command, (b.references, b.changes))))
    (pair (built_key before) λ _. pair text λ _. pair (list λ _. text) λ _. list (change tree))

-- ---- kept states, by participant

-- the participant, its bytes, and where it asked for them the changes from the tree to the kept one
unfoldable pub kept : Entries → Option Kept → Form Kept
kept tree before = seen_as (λ x. record { participant = x.0; bytes = x.1.0; changes = x.1.1 }) (λ k. (k.participant, (k.bytes, k.changes)))
    (rising is_name_below (λ (k : Kept). k.participant) text (λ _. pair text λ _. optional (list (change tree))) before)

-- ---- a state against a base tree and a base shelf: the three counters, the partners, the changes of tree and shelf, the
-- built records and the kept states

unfoldable pub state : Entries → Entries → Form State
state tree shelf = seen_as
    (λ x. record { next_node = x.0; next_stamp = x.1.0; next_marker = x.1.1.0; partners = x.1.1.1.0; tree = x.1.1.1.1.0; shelf = x.1.1.1.1.1.0; built = x.1.1.1.1.1.1.0; kept = x.1.1.1.1.1.1.1 })
    (λ s. (s.next_node, (s.next_stamp, (s.next_marker, (s.partners, (s.tree, (s.shelf, (s.built, s.kept))))))))
    (pair (number 8) λ _. pair (number 8) λ _. pair (number 8) λ _. pair (list λ _. text) λ _. pair (list (change tree)) λ changes. pair (list (change shelf)) λ _.
    pair (list (built (changed tree changes))) λ _. list (kept (changed tree changes)))
