-- What stands in a list is spelled one after the other.
use Rattle.std.proofs.Common.{◌≡◌, ℕ, ◌+◌, ◌≤◌, Bool, true, false, List, [], ◌∷◌, ◌++◌, length, map, Option, Some, None, refl, sym, ap, ap₂, ◌∙◌, arith, subst, length-append}
use Rattle.std.specs.Prelude.{not, cond}
use Rattle.std.specs.List.{flat_map, AllByRecursion}
use Rattle.std.specs.FinMap.{entries, len, len-entries, values}
use Rattle.std.proofs.lemmas.List.Concat.{flat_map-cons, flat_map-append}
use Rattle.std.proofs.lemmas.List.{length-map}
use Rattle.save_form.specs.Forms.{Form}
use Rattle.save_form.specs.Lists.{spell_each}
use Rattle.mark_set.specs.declared.value.Value.{Value}
use Rattle.mark_set.specs.declared.marker.Marker.{Marker}
use Rattle.mark_set.specs.Attributes.{Attributes}
use Rattle.mark_set.specs.Markers.{Marks, is_transient}
use Rattle.sync_set.specs.Syncs.{Syncs}
use Rattle.save_elem.specs.declared.elem.Attr.{Attr}
use Rattle.save_elem.specs.declared.elem.Mark.{Mark}
use Rattle.save_elem.specs.declared.elem.Sync.{Sync}
use Rattle.save_elem.specs.Elems.{attribute, marker, sync}
use Rattle.save_elem.specs.Telling.{told_attr, told_mark, told_sync, saved, IsNarrowMark}
use Rattle.save_elem.specs.Inside.Spellings.{spell_attr, spell_mark, spell_sync}

-- where the spelling of an item doesn't rest on the one before
each_is : {A X : Type 0} (item : Option A → Form A) (of : X → A) (spell : X → List ℕ) → ((before : Option A) (x : X) → (item before).spell (of x) ≡ spell x)
    → (before : Option A) (xs : List X) → spell_each item before (map of xs) ≡ flat_map spell xs
each_is item of spell same before [] = refl
each_is item of spell same before (x ∷ xs) = ap₂ ◌++◌ (same before x) (each_is item of spell same (Some (of x)) xs) ∙ sym (flat_map-cons spell x xs)

attribute_spelled : (before : Option Attr) (x : List ℕ × Value) → (attribute before).spell (told_attr x) ≡ spell_attr x
unfolding attribute
attribute_spelled before x = refl

mark_spelled : (before : Option Mark) (m : Marker) → (marker before).spell (told_mark m) ≡ spell_mark m
unfolding marker
mark_spelled before m = refl

sync_spelled : (before : Option Sync) (x : ℕ × List ℕ) → (sync before).spell (told_sync x) ≡ spell_sync x
unfolding sync
sync_spelled before x = refl

pub attributes_spelled : (es : List (List ℕ × Value)) → spell_each attribute None (map told_attr es) ≡ flat_map spell_attr es
attributes_spelled es = each_is attribute told_attr spell_attr attribute_spelled None es

pub marks_spelled : (ms : List Marker) → spell_each marker None (map told_mark ms) ≡ flat_map spell_mark ms
marks_spelled ms = each_is marker told_mark spell_mark mark_spelled None ms

pub syncs_spelled : (es : List (ℕ × List ℕ)) → spell_each sync None (map told_sync es) ≡ flat_map spell_sync es
syncs_spelled es = each_is sync told_sync spell_sync sync_spelled None es

pub attributes_counted : (attrs : Attributes) → length (map told_attr (entries attrs)) ≡ len attrs
attributes_counted attrs = length-map (entries attrs) told_attr ∙ sym (len-entries attrs)

pub marks_counted : (ms : List Marker) → length (map told_mark ms) ≡ length ms
marks_counted ms = length-map ms told_mark

pub syncs_counted : (syncs : Syncs) → length (map told_sync (entries syncs)) ≡ len syncs
syncs_counted syncs = length-map (entries syncs) told_sync ∙ sym (len-entries syncs)

pub ruleset spelled_lists = (attributes_spelled, marks_spelled, syncs_spelled, attributes_counted, marks_counted, syncs_counted)

-- ---- one marker, and those that are left

pub saved_next : (m : Marker) (ms : List Marker) → saved (m ∷ ms) ≡ saved (m ∷ []) ++ saved ms
saved_next m ms = go (not (is_transient m)) where
  go : (b : Bool) → cond b (m ∷ saved ms) (saved ms) ≡ cond b (m ∷ []) [] ++ saved ms
  go true = refl
  go false = refl

pub spelled_next : (m : Marker) (ms : List Marker) → flat_map spell_mark (saved (m ∷ ms)) ≡ flat_map spell_mark (saved (m ∷ [])) ++ flat_map spell_mark (saved ms)
spelled_next m ms = ap (λ (xs : List Marker). flat_map spell_mark xs) (saved_next m ms) ∙ flat_map-append spell_mark (saved (m ∷ [])) (saved ms)

narrow_parts : (xs ys : List Marker) → AllByRecursion IsNarrowMark (map told_mark (xs ++ ys)) → AllByRecursion IsNarrowMark (map told_mark xs) × AllByRecursion IsNarrowMark (map told_mark ys)
narrow_parts [] ys a = (tt, a)
narrow_parts (x ∷ xs) ys a = let p = narrow_parts xs ys a.1 in ((a.0, p.0), p.1)

pub narrow_next : (m : Marker) (ms : List Marker) → AllByRecursion IsNarrowMark (map told_mark (saved (m ∷ ms))) → AllByRecursion IsNarrowMark (map told_mark (saved (m ∷ []))) × AllByRecursion IsNarrowMark (map told_mark (saved ms))
narrow_next m ms a = narrow_parts (saved (m ∷ [])) (saved ms) (subst (λ (xs : List Marker). AllByRecursion IsNarrowMark (map told_mark xs)) (saved_next m ms) a)

pub counted_next : (m : Marker) (ms : List Marker) → length (saved (m ∷ ms)) ≡ length (saved (m ∷ [])) + length (saved ms)
counted_next m ms = ap length (saved_next m ms) ∙ length-append (saved (m ∷ [])) (saved ms)

pub counts_one : (m : Marker) → length (saved (m ∷ [])) ≤ 1
counts_one m = go (not (is_transient m)) where
  go : (b : Bool) → length (cond b (m ∷ []) []) ≤ 1
  go true = omega arith
  go false = omega arith

pub all_counted : (marks : Marks) → length (values marks) ≡ len marks
all_counted marks = length-map (entries marks) (λ (e : ℕ × Marker). e.1) ∙ sym (len-entries marks)
