-- A whole text, part by part.
use Rattle.std.proofs.Common.{◌≡◌, ℕ, List, [], ◌∷◌, ◌++◌, length, map, Option, Some, refl, sym, ap, ap₂, ◌∙◌, append_assoc}
use Rattle.std.specs.Prelude.{None}
use Rattle.std.specs.List.{flat_map}
use Rattle.std.proofs.lemmas.List.{length-map}
use Rattle.std.proofs.lemmas.List.Concat.{flat_map-cons}
use Rattle.ws_elem.specs.Trees.{Tree}
use Rattle.save_form.specs.Forms.{number, text, optional}
use Rattle.save_form.specs.Lists.{spell_each, list}
use Rattle.save_state.specs.declared.change.Change.{Change}
use Rattle.save_state.specs.declared.records.Built.{Built}
use Rattle.save_state.specs.declared.records.Kept.{Kept}
use Rattle.save_state.specs.declared.state.State.{State}
use Rattle.save_state.specs.Changed.{changed}
use Rattle.save_state.specs.Entries.{Entries}
use Rattle.save_state.specs.States.{change, built, kept, state}
use Rattle.save_state.proofs.Spellings.{change_spelled}
use Rattle.ws_durable.specs.declared.built.Built.{Built as BuiltOf}
use Rattle.ws_durable.specs.declared.kept.Kept.{Kept as KeptOf}
use Rattle.save_text.specs.Telling.{nothing}
use Rattle.save_text.specs.Inside.Spellings.{spell_built, spell_kept, spell_state}
use Rattle.save_text.specs.Inside.Told.{told_built, told_kept}

pub built_counted : (tree : Tree) (bs : List BuiltOf) → length (map (told_built tree) bs) ≡ length bs
built_counted tree bs = length-map bs (told_built tree)

pub kept_counted : (tree : Tree) (ks : List KeptOf) → length (map (told_kept tree) ks) ≡ length ks
kept_counted tree ks = length-map ks (told_kept tree)

pub ruleset lengths = (built_counted, kept_counted)

-- ---- no spelling rests on a base

each_change : (base : Entries) (before : Option Change) (cs : List Change) → spell_each (change base) before cs ≡ spell_each (change nothing) before cs
each_change base before [] = refl
each_change base before (c ∷ cs) = ap₂ ◌++◌ (change_spelled base before c ∙ sym (change_spelled nothing before c)) (each_change base (Some c) cs)

changes_same : (base : Entries) (cs : List Change) → (list (change base)).spell cs ≡ (list (change nothing)).spell cs
changes_same base cs = ap (λ (bytes : List ℕ). (number 4).spell (length cs) ++ bytes) (each_change base None cs)

built_is : (tree : Entries) (before : Option Built) (b : Built) → (built tree before).spell b ≡ spell_built b
unfolding built
built_is tree before b =
    append_assoc (text.spell b.project) ((number 2).spell b.index) (text.spell b.command ++ ((list λ _. text).spell b.references ++ (list (change tree)).spell b.changes))
    ∙ ap (λ (bytes : List ℕ). text.spell b.project ++ ((number 2).spell b.index ++ (text.spell b.command ++ ((list λ _. text).spell b.references ++ bytes)))) (changes_same tree b.changes)

optional_same : (tree : Entries) (cs : Option (List Change)) → (optional (list (change tree))).spell cs ≡ (optional (list (change nothing))).spell cs
optional_same tree None = refl
optional_same tree (Some cs) = ap (λ (bytes : List ℕ). (number 1).spell 1 ++ bytes) (changes_same tree cs)

kept_is : (tree : Entries) (before : Option Kept) (k : Kept) → (kept tree before).spell k ≡ spell_kept k
unfolding kept
kept_is tree before k = ap (λ (bytes : List ℕ). text.spell k.participant ++ (text.spell k.bytes ++ bytes)) (optional_same tree k.changes)

each_built : (tree : Entries) (before : Option Built) (bs : List Built) → spell_each (built tree) before bs ≡ flat_map spell_built bs
each_built tree before [] = refl
each_built tree before (b ∷ bs) = ap₂ ◌++◌ (built_is tree before b) (each_built tree (Some b) bs) ∙ sym (flat_map-cons spell_built b bs)

each_kept : (tree : Entries) (before : Option Kept) (ks : List Kept) → spell_each (kept tree) before ks ≡ flat_map spell_kept ks
each_kept tree before [] = refl
each_kept tree before (k ∷ ks) = ap₂ ◌++◌ (kept_is tree before k) (each_kept tree (Some k) ks) ∙ sym (flat_map-cons spell_kept k ks)

pub state_is : (base shelf : Entries) (s : State) → (state base shelf).spell s ≡ spell_state s
unfolding state
state_is base shelf s =
    ap (λ (rest : List ℕ). (number 8).spell s.next_node ++ ((number 8).spell s.next_stamp ++ ((number 8).spell s.next_marker ++ ((list λ _. text).spell s.partners ++ rest))))
    (ap₂ ◌++◌ (changes_same base s.tree)
    (ap₂ ◌++◌ (changes_same shelf s.shelf)
    (ap₂ ◌++◌ (ap (λ (bytes : List ℕ). (number 4).spell (length s.built) ++ bytes) (each_built (changed base s.tree) None s.built))
    (ap (λ (bytes : List ℕ). (number 4).spell (length s.kept) ++ bytes) (each_kept (changed base s.tree) None s.kept)))))

pub spelled_so : (s : State) → spell_state s ≡ (state nothing nothing).spell s
spelled_so s = sym (state_is nothing nothing s)

pub state_same : (base shelf : Entries) (s : State) → (state base shelf).spell s ≡ (state nothing nothing).spell s
state_same base shelf s = state_is base shelf s ∙ spelled_so s
