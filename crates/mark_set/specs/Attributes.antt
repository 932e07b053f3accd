-- Attributes: a finite map from names to values, in the order of the names' bytes.
use Rattle.std.specs.Prelude.{◌≡◌, ℕ, List, [], ◌∷◌, Option, Some, None, Bool as Truth, false, nat_eq, ◌&&◌, refl, IfSome, T}
use Rattle.std.specs.Bool.{Decides, beq}
use Rattle.std.specs.Ordering.{nat_cmp, int_eq}
use Rattle.std.specs.declared.cmp.Ordering.{Ordering}
use Rattle.std.specs.Cmp.{IsEquivalence, signed_Decides, booleans_Decides}
use Rattle.std.specs.Cmp.Lexicographic.{pointwise, slice_cmp}
use Rattle.std.specs.FinMap.{FinMap, get, insert, remove, entries, is_sorted, same_entries_map}
use Rattle.std.proofs.Common.{ap}
use Rattle.std.proofs.lemmas.Bool.Decides.{Decides-and}
use Rattle.std.proofs.lemmas.Slice.Eq.{slice_eq-Decides, bytes_eq-Decides}
use Rattle.mark_set.specs.Equivalences.{decided-IsEquivalence}
use Rattle.mark_set.specs.Forms.{IsName, IsValue}
use Rattle.mark_set.specs.declared.value.Value.{Value}
use Rattle.mark_set.specs.declared.value.Value.TheVariants.{Int, Bool, Text}
use Rattle.mark_set.specs.declared.value.RawValue.{RawValue}
use Rattle.mark_set.specs.declared.value.RawValue.TheVariants.{Int as RawInt, Bool as RawBool, Text as RawText}

-- texts by their bytes
abbrev pub text_cmp : List ℕ → List ℕ → Ordering
text_cmp = slice_cmp nat_cmp

-- the attributes of one marker, by name
abbrev pub Attributes : Type 0
Attributes = FinMap text_cmp Value

-- names with their values, in the order of the names' bytes, none twice
abbrev pub InNameOrder : List (List ℕ × Value) → Type 0
InNameOrder attributes = T (is_sorted text_cmp attributes)

-- the value that a raw one stands for
abbrev pub value_of : RawValue → Value
value_of (RawInt n) = Int n
value_of (RawBool b) = Bool b
value_of (RawText text) = Text text

-- one attribute gets this value, or goes where there is none
abbrev pub with_value : Attributes → List ℕ → Option RawValue → Attributes
with_value attributes name (Some value) = insert attributes name (value_of value)
with_value attributes name None = remove attributes name

-- each of these in turn gets its value, so that of two of one name the last counts
abbrev pub with_values : Attributes → List (List ℕ × RawValue) → Attributes
with_values attributes [] = attributes
with_values attributes (a ∷ others) = with_values (insert attributes a.0 (value_of a.1)) others

-- every name and every value has its form
abbrev pub AreAttributes : Attributes → Type 0
AreAttributes attributes = (name : List ℕ) → IfSome (get attributes name) (λ value. IsName name × IsValue value)

-- whether two values are the same
abbrev pub same_value : Value → Value → Truth
same_value (Int m) (Int n) = int_eq m n
same_value (Int m) (Bool c) = false
same_value (Int m) (Text t) = false
same_value (Bool b) (Int n) = false
same_value (Bool b) (Bool c) = beq b c
same_value (Bool b) (Text t) = false
same_value (Text s) (Int n) = false
same_value (Text s) (Bool c) = false
same_value (Text s) (Text t) = pointwise nat_eq s t

-- whether two attributes have the same name and the same value
abbrev pub same_attribute : List ℕ × Value → List ℕ × Value → Truth
same_attribute a b = pointwise nat_eq a.0 b.0 && same_value a.1 b.1

-- whether the same names have the same values
unfoldable pub same_attributes : Attributes → Attributes → Truth
same_attributes a b = pointwise same_attribute (entries a) (entries b)

-- it is equality
pub same_value-Decides : (a b : Value) → Decides (same_value a b) (a ≡ b)
same_value-Decides (Int m) (Int n) = let d = signed_Decides m n in (λ t. ap Int (d.0 t), λ e. d.1 cc)
same_value-Decides (Int m) (Bool c) = (λ t. cc, λ e. cc)
same_value-Decides (Int m) (Text t) = (λ t. cc, λ e. cc)
same_value-Decides (Bool b) (Int n) = (λ t. cc, λ e. cc)
same_value-Decides (Bool b) (Bool c) = let d = booleans_Decides b c in (λ t. ap Bool (d.0 t), λ e. d.1 cc)
same_value-Decides (Bool b) (Text t) = (λ t. cc, λ e. cc)
same_value-Decides (Text s) (Int n) = (λ t. cc, λ e. cc)
same_value-Decides (Text s) (Bool c) = (λ t. cc, λ e. cc)
same_value-Decides (Text s) (Text t) = let d = bytes_eq-Decides s t in (λ h. ap Text (d.0 h), λ e. d.1 cc)

pub same_value-IsEquivalence : IsEquivalence same_value
same_value-IsEquivalence = decided-IsEquivalence same_value-Decides

pub same_attribute-Decides : (a b : List ℕ × Value) → Decides (same_attribute a b) (a ≡ b)
same_attribute-Decides a b =
    let both = Decides-and _ _ (bytes_eq-Decides a.0 b.0) (same_value-Decides a.1 b.1) in
    (λ t. let parts = both.0 t in λ i. (parts.0 i, parts.1 i), λ e. both.1 (ap (λ (p : List ℕ × Value). p.0) e, ap (λ (p : List ℕ × Value). p.1) e))

-- it is equality
pub same_attributes-Decides : (a b : Attributes) → Decides (same_attributes a b) (a ≡ b)
unfolding same_attributes
same_attributes-Decides a b =
    let lists = slice_eq-Decides same_attribute-Decides (entries a) (entries b) (same_attributes a b) refl in
    (λ t. same_entries_map a b (lists.0 t), λ e. lists.1 (ap entries e))

pub same_attributes-IsEquivalence : IsEquivalence same_attributes
same_attributes-IsEquivalence = decided-IsEquivalence same_attributes-Decides
