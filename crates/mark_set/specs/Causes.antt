-- What is refused in a type, a name or a value. The first cause counts.
use Rattle.std.specs.Prelude.{ℕ, nat_lt, ◌==◌, List, [], ◌∷◌, length, Option, Some, None, option_and_then, if◌then◌else◌}
use Rattle.mark_set.specs.declared.error.ValueCause.{ValueCause}
use Rattle.mark_set.specs.declared.error.ValueCause.TheVariants.{EmptyName, LongName, LongText}
use Rattle.mark_set.specs.declared.value.RawValue.{RawValue}
use Rattle.mark_set.specs.declared.value.RawValue.TheVariants.{Int, Bool, Text}

-- the first cause, else the second
abbrev pub or_else : Option ValueCause → Option ValueCause → Option ValueCause
or_else (Some cause) other = Some cause
or_else None other = other

-- types and names of attributes have 1 to 255 bytes
abbrev pub name_cause : List ℕ → Option ValueCause
name_cause name = if length name == 0 then Some EmptyName else if nat_lt 255 (length name) then Some LongName else None

-- texts have fewer than 65,536 bytes
abbrev pub text_cause : List ℕ → Option ValueCause
text_cause text = if nat_lt (length text) 65536 then None else Some LongText

-- of a value, only a text is refused
abbrev pub value_cause : RawValue → Option ValueCause
value_cause (Int _) = None
value_cause (Bool _) = None
value_cause (Text text) = text_cause text

-- attribute by attribute, the name before the value
abbrev pub attributes_cause : List (List ℕ × RawValue) → Option ValueCause
attributes_cause [] = None
attributes_cause (a ∷ attributes) = or_else (or_else (name_cause a.0) (value_cause a.1)) (attributes_cause attributes)

-- of a new marker: the type before the attributes
abbrev pub marker_cause : List ℕ → List (List ℕ × RawValue) → Option ValueCause
marker_cause mark_type attributes = or_else (name_cause mark_type) (attributes_cause attributes)

-- of one attribute's new value, or none
abbrev pub change_cause : List ℕ → Option RawValue → Option ValueCause
change_cause name value = or_else (name_cause name) (option_and_then value_cause value)
