-- The text of an element.
use Rattle.std.specs.Prelude.{ℕ, Bool as Truth, if◌then◌else◌, List, [], ◌++◌, length, slice_get, unwrap_or, Option, Some, None, codes, decimal}
use Rattle.std.specs.Fmt.{signed_decimal}
use Rattle.std.specs.FinMap.{len, get, keys, entries}
use Rattle.std.specs.List.{flat_map}
use Rattle.mark_set.specs.Markers.{Marks}
use Rattle.mark_set.specs.declared.marker.Marker.{Marker}
use Rattle.mark_set.specs.declared.value.Value.{Value}
use Rattle.mark_set.specs.declared.value.Value.TheVariants.{Int, Bool, Text}
use Rattle.sync_set.specs.Syncs.{Syncs}
use Rattle.ws_elem.specs.Kinds.{kind_word}
use Rattle.ws_elem.specs.declared.element.Element.{Element}
use Rattle.script_words.specs.Words.{word_text}

abbrev pub switch : Truth → List ℕ
switch on = if on then codes "on" else codes "off"

-- an element's kind, its node, and its contents' stamp and length
abbrev pub contents_text : Element → List ℕ
contents_text e = kind_word e.kind ++ codes " node " ++ decimal e.node ++ codes " stamp " ++ decimal e.stamp ++ codes " len " ++ decimal (length e.bytes)

-- whether it is derived, and whether it is open
abbrev pub switches_text : Element → List ℕ
switches_text e = codes " derived " ++ switch e.derived ++ codes " open " ++ switch e.opened

-- its description's stamp, and how many markers it has and how many partners keep bytes with it
abbrev pub counts_text : Element → List ℕ
counts_text e = codes " desc " ++ decimal e.attached.desc_stamp ++ codes " marks " ++ decimal (len e.attached.marks) ++ codes " syncs " ++ decimal (len e.attached.syncs)

-- a value as a script has it
abbrev pub value_text : Value → List ℕ
value_text (Int n) = codes "int " ++ signed_decimal n
value_text (Bool b) = if b then codes "bool true" else codes "bool false"
value_text (Text text) = codes "text " ++ word_text text

-- an attribute's name and its value, a space before each
abbrev pub attribute_text : List ℕ × Value → List ℕ
attribute_text a = codes " " ++ word_text a.0 ++ codes " " ++ value_text a.1

-- on a line of its own a marker's id, its type and its attributes by name
abbrev pub marker_text : ℕ → Option Marker → List ℕ
marker_text id None = []
marker_text id (Some m) = codes "\n  mark " ++ decimal id ++ codes " " ++ word_text m.mark_type ++ flat_map attribute_text (entries m.attrs)

-- each marker, by id
abbrev pub marks_text : Marks → List ℕ
marks_text marks = flat_map (λ id. marker_text id (get marks id)) (keys marks)

-- a partner's name, by its place among the names; empty past the last
abbrev pub partner_name : List (List ℕ) → ℕ → List ℕ
partner_name names partner = unwrap_or (slice_get names partner) []

-- on a line of its own a partner's name and its bytes
abbrev pub sync_text : List (List ℕ) → ℕ × List ℕ → List ℕ
sync_text names s = codes "\n  sync " ++ word_text (partner_name names s.0) ++ codes " " ++ word_text s.1

-- each partner's bytes, by partner number
abbrev pub syncs_text : List (List ℕ) → Syncs → List ℕ
syncs_text names syncs = flat_map (sync_text names) (entries syncs)

-- what is shown of an element, where the partners have these names
abbrev pub shown_text : List (List ℕ) → Element → List ℕ
shown_text names e = contents_text e ++ switches_text e ++ counts_text e ++ marks_text e.attached.marks ++ syncs_text names e.attached.syncs
