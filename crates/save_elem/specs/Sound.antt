-- What an element is by itself, whatever stands beside it.
use Rattle.std.specs.Prelude.{◌≡◌, ℕ, false, List, [], Option, Some, None, IfSome, Result, Ok, Err}
use Rattle.std.specs.declared.alloc.AllocError.{AllocError}
use Rattle.std.specs.FinMap.{get}
use Rattle.mark_set.specs.Attributes.{AreAttributes}
use Rattle.mark_set.specs.Forms.{IsName, IsValue}
use Rattle.mark_set.specs.Markers.{Marks, is_transient}
use Rattle.mark_set.specs.declared.marker.Marker.{Marker}
use Rattle.mark_set.specs.declared.value.Value.{Value}
use Rattle.ws_elem.specs.declared.kind.Kind.{Kind}
use Rattle.ws_elem.specs.declared.kind.Kind.TheVariants.{File, Folder, Project, Root}
use Rattle.ws_elem.specs.declared.element.Element.{Element}
use Rattle.save_elem.specs.declared.elem.Elem.{Elem}
use Rattle.save_elem.specs.Telling.{told}

-- ---- fields that a kind doesn't use are empty, 0 or off

abbrev pub HasNoContents : Elem → Type 0
HasNoContents e = (e.stamp ≡ 0) × (e.bytes ≡ [])

abbrev pub IsUndescribed : Elem → Type 0
IsUndescribed e = (e.opened ≡ false) × (e.desc_stamp ≡ 0) × (e.desc ≡ [])

-- only files have contents, only projects are open and described, and neither projects nor the root are derived
abbrev pub FitsKind : Kind → Elem → Type 0
FitsKind File e = IsUndescribed e
FitsKind Folder e = HasNoContents e × IsUndescribed e
FitsKind Project e = HasNoContents e × (e.derived ≡ false)
FitsKind Root e = HasNoContents e × (IsUndescribed e × (e.derived ≡ false))

-- ---- attributes and markers

-- a name and a value that have their form
abbrev pub IsAttr : List ℕ × Value → Type 0
IsAttr attribute = IsName attribute.0 × IsValue attribute.1

-- a marker that is saved under an id: its type, names and values have their form, and it isn't transient
pub record IsSaved (id : ℕ) (m : Marker) : Type 0 where
  pub own : m.id ≡ id
  pub named : IsName m.mark_type
  pub attributes : AreAttributes m.attrs
  pub lasting : is_transient m ≡ false

abbrev pub AreSaved : Marks → Type 0
AreSaved marks = (id : ℕ) → IfSome (get marks id) (IsSaved id)

-- ---- an element

pub record IsSound (e : Element) : Type 0 where
  pub fields : FitsKind e.kind (told e)
  pub marks : AreSaved e.attached.marks

-- ---- a search: what is found is so, and where nothing is found nothing is so. Want of memory tells nothing.

abbrev pub Finds : {X : Type 0} → (X → Type 0) → Result (Option X) AllocError → Type 0
Finds is (Ok (Some x)) = is x
Finds {X = X} is (Ok None) = (x : X) → is x → ⊥
Finds is (Err e) = Unit {0}
