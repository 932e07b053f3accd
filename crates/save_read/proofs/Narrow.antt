-- What fits can be written.
use Rattle.std.proofs.Common.{List, [], ◌∷◌}
use Rattle.std.specs.Prelude.{Option, Some, None, IfSome}
use Rattle.std.specs.List.{AllByRecursion}
use Rattle.save_form.specs.Laws.{FitEach}
use Rattle.save_elem.specs.declared.elem.Elem.{Elem}
use Rattle.save_elem.specs.declared.elem.Told.{Told}
use Rattle.save_elem.specs.declared.elem.Told.TheVariants.{Int, Bool as Truth, Text}
use Rattle.save_elem.specs.Fits.{FitsValue, FitsAttr, FitsMark, FitsSync, FitsElem}
use Rattle.save_elem.specs.Telling.{IsNarrowValue, IsNarrowAttr, IsNarrowMark, IsNarrowSync, IsNarrow}
use Rattle.save_state.specs.declared.change.Change.{Change}
use Rattle.save_state.specs.declared.state.State.{State}
use Rattle.save_state.specs.Entries.{Entries}
use Rattle.save_state.specs.Fits.{FitsChange, FitsChanges, FitsBuilt, FitsKept, FitsState}
use Rattle.save_text.specs.Telling.{IsNarrowChange, AreNarrow, IsNarrowBuilt, IsNarrowKept, IsNarrowState}

-- what holds of each that fits holds of all
each : {A : Type 0} (fits : Option A → A → Type 0) (P : A → Type 0) → ((before : Option A) (a : A) → fits before a → P a) → (before : Option A) (xs : List A) → FitEach fits before xs → AllByRecursion P xs
each fits P f before [] h = tt
each fits P f before (x ∷ xs) h = (f before x h.0, each fits P f (Some x) xs h.1)

value_narrow : (v : Told) → FitsValue v → IsNarrowValue v
value_narrow (Int n) h = tt
value_narrow (Truth b) h = tt
value_narrow (Text t) h = h

pub elem_narrow : (e : Elem) → FitsElem e → IsNarrow e
elem_narrow e h = record {
  desc = h.desc;
  bytes = h.bytes;
  marks = (h.marks.0, each FitsMark IsNarrowMark (λ before m f. (f.mark_type, f.attrs.0, each FitsAttr IsNarrowAttr (λ b a g. (g.name, value_narrow a.value g.value)) None m.attrs f.attrs.1)) None e.marks h.marks.1);
  syncs = (h.syncs.0, each FitsSync IsNarrowSync (λ before s f. f.bytes) None e.syncs h.syncs.1);
}

entry_narrow : (o : Option Elem) → IfSome o FitsElem → IfSome o IsNarrow
entry_narrow None h = tt
entry_narrow (Some e) h = elem_narrow e h

changes_narrow : (base : Entries) (cs : List Change) → FitsChanges base cs → AreNarrow cs
changes_narrow base cs h = (h.0, each (FitsChange base) IsNarrowChange (λ before c f. entry_narrow c.entry f.entry) None cs h.1)

some_narrow : (base : Entries) (o : Option (List Change)) → IfSome o (FitsChanges base) → IfSome o AreNarrow
some_narrow base None h = tt
some_narrow base (Some cs) h = changes_narrow base cs h

pub state_narrow : (base shelf : Entries) (s : State) → FitsState base shelf s → IsNarrowState s
state_narrow base shelf s h = record {
  partners = h.partners.0;
  tree = changes_narrow base s.tree h.tree;
  shelf = changes_narrow shelf s.shelf h.shelf;
  built = (h.built.0, each (FitsBuilt _) IsNarrowBuilt (λ before b f. (f.command, f.references.0, changes_narrow _ b.changes f.changes)) None s.built h.built.1);
  kept = (h.kept.0, each (FitsKept _) IsNarrowKept (λ before k f. (f.bytes, some_narrow _ k.changes f.changes)) None s.kept h.kept.1);
}
