-- The forms of an element and of its parts.
use Rattle.std.specs.Prelude.{ℕ, zero, suc, Bool, List, Option, Some, None, nat_lt}
use Rattle.std.specs.Ordering.{is_lt, nat_cmp}
use Rattle.std.specs.Cmp.Lexicographic.{slice_cmp}
use Rattle.save_form.specs.Forms.{Form, number, flag, text, pair, made, seen_as, as_case, one_of}
use Rattle.save_form.specs.Lists.{list, rising}
use Rattle.ws_elem.specs.declared.kind.Kind.{Kind}
use Rattle.ws_elem.specs.declared.kind.Kind.TheVariants.{File, Folder, Project, Root}
use Rattle.ws_elem.specs.Kinds.{kind_number}
use Rattle.save_elem.specs.declared.elem.Sort.{Sort}
use Rattle.save_elem.specs.declared.elem.Sort.TheVariants as sorts
use Rattle.save_elem.specs.declared.elem.Told.{Told}
use Rattle.save_elem.specs.declared.elem.Told.TheVariants.{Int, Bool as Truth, Text}
use Rattle.save_elem.specs.declared.elem.Attr.{Attr}
use Rattle.save_elem.specs.declared.elem.Mark.{Mark}
use Rattle.save_elem.specs.declared.elem.Sync.{Sync}
use Rattle.save_elem.specs.declared.elem.Elem.{Elem}

-- ---- kinds: one byte, the platform's number

abbrev pub kind_of : ℕ → Option Kind
kind_of (suc zero) = Some File
kind_of (suc (suc zero)) = Some Folder
kind_of (suc (suc (suc (suc zero)))) = Some Project
kind_of (suc (suc (suc (suc (suc (suc (suc (suc zero)))))))) = Some Root
kind_of _ = None

abbrev pub kind : Form Kind
kind = made kind_of kind_number (number 1)

-- ---- values of attributes: a byte for the sort, and the value

abbrev pub sort_of : ℕ → Option Sort
sort_of zero = Some sorts.Int
sort_of (suc zero) = Some sorts.Bool
sort_of (suc (suc zero)) = Some sorts.Text
sort_of (suc (suc (suc n))) = None

abbrev pub sort_number : Sort → ℕ
sort_number sorts.Int = 0
sort_number sorts.Bool = 1
sort_number sorts.Text = 2

abbrev pub sort : Form Sort
sort = made sort_of sort_number (number 1)

abbrev pub sort_told : Told → Sort
sort_told (Int n) = sorts.Int
sort_told (Truth b) = sorts.Bool
sort_told (Text t) = sorts.Text

abbrev pub int_told : Told → Option ℕ
int_told (Int n) = Some n
int_told (Truth b) = None
int_told (Text t) = None

abbrev pub truth_told : Told → Option Bool
truth_told (Int n) = None
truth_told (Truth b) = Some b
truth_told (Text t) = None

abbrev pub text_told : Told → Option (List ℕ)
text_told (Int n) = None
text_told (Truth b) = None
text_told (Text t) = Some t

abbrev pub value_by : Sort → Form Told
value_by sorts.Int = as_case Int int_told (number 4)
value_by sorts.Bool = as_case Truth truth_told flag
value_by sorts.Text = as_case Text text_told text

unfoldable pub value : Form Told
value = one_of sort sort_told value_by

-- ---- lists whose keys rise

-- names by their bytes
abbrev pub is_name_below : List ℕ → List ℕ → Bool
is_name_below a b = is_lt (slice_cmp nat_cmp a b)

-- an attribute: its name and its value
unfoldable pub attribute : Option Attr → Form Attr
attribute before = seen_as (λ x. record { name = x.0; value = x.1 }) (λ a. (a.name, a.value))
    (rising is_name_below (λ (a : Attr). a.name) text (λ _. value) before)

-- a marker: its id, its type and its attributes
unfoldable pub marker : Option Mark → Form Mark
marker before = seen_as (λ x. record { id = x.0; mark_type = x.1.0; attrs = x.1.1 }) (λ m. (m.id, (m.mark_type, m.attrs)))
    (rising nat_lt (λ (m : Mark). m.id) (number 8) (λ _. pair text λ _. list attribute) before)

-- synchronisation bytes: the partner's number and the bytes
unfoldable pub sync : Option Sync → Form Sync
sync before = seen_as (λ x. record { partner = x.0; bytes = x.1 }) (λ s. (s.partner, s.bytes))
    (rising nat_lt (λ (s : Sync). s.partner) (number 4) (λ _. text) before)

-- ---- an element: kind, node, content stamp, whether open, whether derived, description stamp, description, contents,
-- markers, synchronisation bytes

unfoldable pub elem : Form Elem
elem = seen_as
    (λ x. record {
      kind = x.0;
      node = x.1.0;
      stamp = x.1.1.0;
      opened = x.1.1.1.0;
      derived = x.1.1.1.1.0;
      desc_stamp = x.1.1.1.1.1.0;
      desc = x.1.1.1.1.1.1.0;
      bytes = x.1.1.1.1.1.1.1.0;
      marks = x.1.1.1.1.1.1.1.1.0;
      syncs = x.1.1.1.1.1.1.1.1.1;
    })
    (λ e. (e.kind, (e.node, (e.stamp, (e.opened, (e.derived, (e.desc_stamp, (e.desc, (e.bytes, (e.marks, e.syncs))))))))))
    (pair kind λ _. pair (number 8) λ _. pair (number 8) λ _. pair flag λ _. pair flag λ _. pair (number 8) λ _. pair text λ _. pair text λ _. pair (list marker) λ _. list sync)
