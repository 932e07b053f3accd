-- How an element of a tree is told in a text.
use Rattle.std.specs.Prelude.{ℕ, not, List, length, ◌<◌, ◌^◌, map, filter}
use Rattle.std.specs.Int.{cast_unsigned, w32}
use Rattle.std.specs.List.{AllByRecursion}
use Rattle.std.specs.FinMap.{entries, values}
use Rattle.mark_set.specs.Markers.{Marks, is_transient}
use Rattle.mark_set.specs.declared.marker.Marker.{Marker}
use Rattle.mark_set.specs.declared.value.Value.{Value}
use Rattle.mark_set.specs.declared.value.Value.TheVariants as kept
use Rattle.ws_elem.specs.declared.element.Element.{Element}
use Rattle.save_elem.specs.declared.elem.Told.{Told}
use Rattle.save_elem.specs.declared.elem.Told.TheVariants.{Int, Bool as Truth, Text}
use Rattle.save_elem.specs.declared.elem.Attr.{Attr}
use Rattle.save_elem.specs.declared.elem.Mark.{Mark}
use Rattle.save_elem.specs.declared.elem.Sync.{Sync}
use Rattle.save_elem.specs.declared.elem.Elem.{Elem}

-- a whole number by its 32 bits, in two's complement
abbrev pub told_value : Value → Told
told_value (kept.Int n) = Int (cast_unsigned w32 n)
told_value (kept.Bool b) = Truth b
told_value (kept.Text t) = Text t

abbrev pub told_attr : List ℕ × Value → Attr
told_attr attribute = record { name = attribute.0; value = told_value attribute.1 }

abbrev pub told_mark : Marker → Mark
told_mark m = record { id = m.id; mark_type = m.mark_type; attrs = map told_attr (entries m.attrs) }

-- those of some markers that are saved: all but the transient ones
abbrev pub saved : List Marker → List Marker
saved = filter (λ m. not (is_transient m))

-- the markers that are saved, by id
abbrev pub lasting : Marks → List Marker
lasting marks = saved (values marks)

abbrev pub told_sync : ℕ × List ℕ → Sync
told_sync entry = record { partner = entry.0; bytes = entry.1 }

-- the element, without its transient markers
abbrev pub told : Element → Elem
told e = record {
  kind = e.kind;
  node = e.node;
  stamp = e.stamp;
  opened = e.opened;
  derived = e.derived;
  desc_stamp = e.attached.desc_stamp;
  desc = e.attached.desc;
  bytes = e.bytes;
  marks = map told_mark (lasting e.attached.marks);
  syncs = map told_sync (entries e.attached.syncs);
}

-- ---- every text has fewer than 2^32 bytes, and every list fewer than 2^32 items

abbrev pub IsNarrowValue : Told → Type 0
IsNarrowValue (Int n) = Unit {0}
IsNarrowValue (Truth b) = Unit {0}
IsNarrowValue (Text t) = length t < 2 ^ 32

abbrev pub IsNarrowAttr : Attr → Type 0
IsNarrowAttr a = (length a.name < 2 ^ 32) × IsNarrowValue a.value

abbrev pub IsNarrowMark : Mark → Type 0
IsNarrowMark m = (length m.mark_type < 2 ^ 32) × (length m.attrs < 2 ^ 32) × AllByRecursion IsNarrowAttr m.attrs

abbrev pub IsNarrowSync : Sync → Type 0
IsNarrowSync s = length s.bytes < 2 ^ 32

pub record IsNarrow (e : Elem) : Type 0 where
  pub desc : length e.desc < 2 ^ 32
  pub bytes : length e.bytes < 2 ^ 32
  pub marks : (length e.marks < 2 ^ 32) × AllByRecursion IsNarrowMark e.marks
  pub syncs : (length e.syncs < 2 ^ 32) × AllByRecursion IsNarrowSync e.syncs
