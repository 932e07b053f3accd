-- Elements by hand, and what their form makes of them.
use Rattle.std.specs.Prelude.{◌≡◌, ℕ, true, false, List, [], ◌∷◌, ◌++◌, Ok, Err, refl}
use Rattle.ws_wire.specs.Fields.{number_field, text_field}
use Rattle.save_form.specs.declared.stop.Stop.TheVariants.{Short, Bad}
use Rattle.save_form.specs.Forms.{number, text, read_all}
use Rattle.save_form.specs.Lists.{read_each}
use Rattle.ws_elem.specs.declared.kind.Kind.TheVariants.{Root}
use Rattle.save_elem.specs.Elems.{value, attribute, marker, sync, elem}
use Rattle.save_elem.specs.declared.elem.Elem.{Elem}
use Rattle.save_elem.specs.declared.elem.Mark.{Mark}
use Rattle.save_elem.specs.declared.elem.Told.TheVariants.{Int, Bool as Truth, Text}

abbrev eight : ℕ → List ℕ
eight n = 0 ∷ 0 ∷ 0 ∷ 0 ∷ 0 ∷ 0 ∷ 0 ∷ n ∷ []

abbrev four : ℕ → List ℕ
four n = 0 ∷ 0 ∷ 0 ∷ n ∷ []

-- kind, node and stamp; two flags; description stamp, description, contents; markers and synchronisation bytes
abbrev fields : ℕ → ℕ → ℕ → List ℕ → List ℕ
fields kind node opened more = (kind ∷ eight node) ++ eight 0 ++ (opened ∷ 0 ∷ []) ++ eight 0 ++ four 0 ++ four 0 ++ more

abbrev root : Elem
root = record { kind = Root; node = 1; stamp = 0; opened = false; derived = false; desc_stamp = 0; desc = []; bytes = []; marks = []; syncs = [] }

-- ---- the root of the fresh workspace

root_spelled : elem.spell root ≡ fields 8 1 0 (four 0 ++ four 0)
unfolding elem number number_field text text_field
root_spelled = refl

root_read : read_all elem (fields 8 1 0 (four 0 ++ four 0)) ≡ Ok root
unfolding elem number number_field text text_field read_each
root_read = refl

-- a number that no kind has, and a flag of two
kind_of_three : read_all elem (fields 3 1 0 (four 0 ++ four 0)) ≡ Err (Bad 0)
unfolding elem number number_field text text_field read_each
kind_of_three = refl

flag_of_two : read_all elem (fields 8 1 2 (four 0 ++ four 0)) ≡ Err (Bad 17)
unfolding elem number number_field text text_field read_each
flag_of_two = refl

-- a text that is cut short
cut_short : read_all elem (fields 8 1 0 (four 0)) ≡ Err (Short 39)
unfolding elem number number_field text text_field read_each
cut_short = refl

-- ---- markers

-- a type and a name of one letter, and the value behind its sort
abbrev one_mark : ℕ → ℕ → List ℕ → List ℕ
one_mark id count attributes = eight id ++ (four 1 ++ 109 ∷ []) ++ four count ++ attributes

abbrev one_attr : ℕ → List ℕ → List ℕ
one_attr name value = (four 1 ++ name ∷ []) ++ value

abbrev marks_of : List Mark → Elem
marks_of marks = record root { marks = marks }

-- -1 by its 32 bits, a truth value and a text, in the order of names
three_values : read_all elem (fields 8 1 0 (four 1 ++ one_mark 7 3 (one_attr 97 (0 ∷ 255 ∷ 255 ∷ 255 ∷ 255 ∷ []) ++ one_attr 98 (1 ∷ 1 ∷ []) ++ one_attr 99 (2 ∷ four 1 ++ 120 ∷ [])) ++ four 0))
    ≡ Ok (marks_of (record { id = 7; mark_type = 109 ∷ []; attrs = record { name = 97 ∷ []; value = Int 4294967295 } ∷ record { name = 98 ∷ []; value = Truth true } ∷ record { name = 99 ∷ []; value = Text (120 ∷ []) } ∷ [] } ∷ []))
unfolding elem marker attribute value number number_field text text_field read_each
three_values = refl

-- a sort that no value has
sort_of_three : read_all elem (fields 8 1 0 (four 1 ++ one_mark 7 1 (one_attr 97 (3 ∷ [])) ++ four 0)) ≡ Err (Bad 61)
unfolding elem marker attribute value number number_field text text_field read_each
sort_of_three = refl

-- an equal name stops at the first byte of its length, an equal id at its first byte
equal_name : read_all elem (fields 8 1 0 (four 1 ++ one_mark 7 2 (one_attr 97 (1 ∷ 1 ∷ []) ++ one_attr 97 (1 ∷ 0 ∷ [])) ++ four 0)) ≡ Err (Bad 63)
unfolding elem marker attribute value number number_field text text_field read_each
equal_name = refl

equal_id : read_all elem (fields 8 1 0 (four 2 ++ one_mark 7 0 [] ++ one_mark 7 0 [] ++ four 0)) ≡ Err (Bad 56)
unfolding elem marker attribute value number number_field text text_field read_each
equal_id = refl

-- ---- synchronisation bytes

low_partner : read_all elem (fields 8 1 0 (four 0 ++ four 2 ++ (four 1 ++ four 0) ++ four 0 ++ four 0)) ≡ Err (Bad 51)
unfolding elem sync number number_field text text_field read_each
low_partner = refl
