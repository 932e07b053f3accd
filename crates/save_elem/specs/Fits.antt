-- What has a spelling, from which it is read back.
use Rattle.std.specs.Prelude.{◌≡◌, ◌<◌, ◌^◌, length, true, Option, None, nat_lt}
use Rattle.std.specs.Option.{option_map}
use Rattle.std.specs.List.{AllByRecursion}
use Rattle.save_form.specs.Laws.{FitEach}
use Rattle.save_form.specs.Lists.{is_above}
use Rattle.save_elem.specs.Elems.{is_name_below}
use Rattle.save_elem.specs.declared.elem.Told.{Told}
use Rattle.save_elem.specs.declared.elem.Told.TheVariants.{Int, Bool as Truth, Text}
use Rattle.save_elem.specs.declared.elem.Attr.{Attr}
use Rattle.save_elem.specs.declared.elem.Mark.{Mark}
use Rattle.save_elem.specs.declared.elem.Sync.{Sync}
use Rattle.save_elem.specs.declared.elem.Elem.{Elem}

abbrev pub FitsValue : Told → Type 0
FitsValue (Int n) = n < 2 ^ 32
FitsValue (Truth b) = Unit {0}
FitsValue (Text t) = length t < 2 ^ 32

-- an attribute behind the one before it
pub record FitsAttr (before : Option Attr) (a : Attr) : Type 0 where
  pub name : length a.name < 2 ^ 32
  pub above : is_above is_name_below (option_map (λ (x : Attr). x.name) before) a.name ≡ true
  pub value : FitsValue a.value

-- a marker behind the one before it
pub record FitsMark (before : Option Mark) (m : Mark) : Type 0 where
  pub id : m.id < 2 ^ 64
  pub above : is_above nat_lt (option_map (λ (x : Mark). x.id) before) m.id ≡ true
  pub mark_type : length m.mark_type < 2 ^ 32
  pub attrs : (length m.attrs < 2 ^ 32) × FitEach FitsAttr None m.attrs

-- synchronisation bytes behind those before them
pub record FitsSync (before : Option Sync) (s : Sync) : Type 0 where
  pub partner : s.partner < 2 ^ 32
  pub above : is_above nat_lt (option_map (λ (x : Sync). x.partner) before) s.partner ≡ true
  pub bytes : length s.bytes < 2 ^ 32

pub record FitsElem (e : Elem) : Type 0 where
  pub node : e.node < 2 ^ 64
  pub stamp : e.stamp < 2 ^ 64
  pub desc_stamp : e.desc_stamp < 2 ^ 64
  pub desc : length e.desc < 2 ^ 32
  pub bytes : length e.bytes < 2 ^ 32
  pub marks : (length e.marks < 2 ^ 32) × FitEach FitsMark None e.marks
  pub syncs : (length e.syncs < 2 ^ 32) × FitEach FitsSync None e.syncs

-- numbers that have room in their fields
pub record InRange (e : Elem) : Type 0 where
  pub node : e.node < 2 ^ 64
  pub stamp : e.stamp < 2 ^ 64
  pub desc_stamp : e.desc_stamp < 2 ^ 64
  pub marks : AllByRecursion (λ m. m.id < 2 ^ 64) e.marks
  pub syncs : AllByRecursion (λ s. s.partner < 2 ^ 32) e.syncs
