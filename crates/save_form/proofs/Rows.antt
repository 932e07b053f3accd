-- Bytes by hand, and what the forms make of them.
use Rattle.std.specs.Prelude.{◌≡◌, ℕ, Bool, true, false, List, [], ◌∷◌, ◌++◌, Option, Some, Ok, Err, refl, nat_lt}
use Rattle.ws_wire.specs.Fields.{Input, number_field, text_field}
use Rattle.save_form.specs.declared.stop.Stop.TheVariants.{Short, Bad}
use Rattle.save_form.specs.Forms.{Form, number, text, pair, flag, optional, read_all}
use Rattle.save_form.specs.Lists.{read_each, list, rising}

abbrev at_place : ℕ → List ℕ → Input
at_place at left = record { at = at; left = left }

-- ---- fields

number_spelled : (number 8).spell 258 ≡ 0 ∷ 0 ∷ 0 ∷ 0 ∷ 0 ∷ 0 ∷ 1 ∷ 2 ∷ []
unfolding number number_field
number_spelled = refl

number_read : (number 2).read (at_place 7 (1 ∷ 2 ∷ 9 ∷ [])) ≡ Ok (258, at_place 9 (9 ∷ []))
unfolding number number_field
number_read = refl

number_cut : (number 2).read (at_place 7 (1 ∷ [])) ≡ Err (Short 7)
unfolding number number_field
number_cut = refl

text_spelled : text.spell (47 ∷ []) ≡ 0 ∷ 0 ∷ 0 ∷ 1 ∷ 47 ∷ []
unfolding text text_field number_field
text_spelled = refl

-- a text that says more than there is stops at its length
text_cut : text.read (at_place 7 (0 ∷ 0 ∷ 0 ∷ 2 ∷ 47 ∷ [])) ≡ Err (Short 7)
unfolding text text_field number_field
text_cut = refl

text_of_any_length : text.read (at_place 7 (255 ∷ 255 ∷ 255 ∷ 255 ∷ 47 ∷ [])) ≡ Err (Short 7)
unfolding text text_field number_field
text_of_any_length = refl

flag_of_two : flag.read (at_place 55 (2 ∷ [])) ≡ Err (Bad 55)
unfolding number number_field
flag_of_two = refl

-- ---- lists

abbrev numbers : Form (List (ℕ × Bool))
numbers = list (rising nat_lt (λ (x : ℕ × Bool). x.0) (number 1) (λ _. flag))

rising_read : numbers.read (at_place 0 (0 ∷ 0 ∷ 0 ∷ 2 ∷ 5 ∷ 1 ∷ 6 ∷ 0 ∷ [])) ≡ Ok ((5, true) ∷ (6, false) ∷ [], at_place 8 [])
unfolding number number_field read_each
rising_read = refl

-- an equal key stops at its first byte, also where what stands behind it is wanting
equal_key : numbers.read (at_place 0 (0 ∷ 0 ∷ 0 ∷ 2 ∷ 5 ∷ 1 ∷ 5 ∷ [])) ≡ Err (Bad 6)
unfolding number number_field read_each
equal_key = refl

-- a count that no bytes follow stops behind it
many : numbers.read (at_place 0 (255 ∷ 255 ∷ 255 ∷ 255 ∷ [])) ≡ Err (Short 4)
unfolding number number_field read_each
many = refl

-- ---- a whole text: three numbers, an empty list, a list of one element below its path, and four bytes of 0 four times

abbrev element : Form (ℕ × (ℕ × (ℕ × (Bool × (Bool × (ℕ × (List ℕ × (List ℕ × (List (List ℕ) × List (List ℕ))))))))))
element =
    pair (number 1) λ _. pair (number 8) λ _. pair (number 8) λ _. pair flag λ _. pair flag λ _. pair (number 8) λ _. pair text λ _. pair text λ _. pair (list λ _. text) λ _. list λ _. text

abbrev texts : Form (List (List ℕ))
texts = list λ _. text

abbrev state : Form (ℕ × (ℕ × (ℕ × (List (List ℕ) × (List (List ℕ × Option (ℕ × (ℕ × (ℕ × (Bool × (Bool × (ℕ × (List ℕ × (List ℕ × (List (List ℕ) × List (List ℕ))))))))))) × (List (List ℕ) × (List (List ℕ) × List (List ℕ))))))))
state =
    pair (number 8) λ _. pair (number 8) λ _. pair (number 8) λ _. pair texts λ _. pair (list λ _. pair text λ _. optional element) λ _. pair texts λ _. pair texts λ _. texts

abbrev eight : ℕ → List ℕ
eight n = 0 ∷ 0 ∷ 0 ∷ 0 ∷ 0 ∷ 0 ∷ 0 ∷ n ∷ []

abbrev none : List ℕ
none = 0 ∷ 0 ∷ 0 ∷ 0 ∷ []

abbrev image : ℕ → List ℕ → List ℕ
image opened end =
    eight 2 ++ eight 1 ++ eight 1 ++ none ++ (0 ∷ 0 ∷ 0 ∷ 1 ∷ 0 ∷ 0 ∷ 0 ∷ 1 ∷ 47 ∷ 1 ∷ 8 ∷ []) ++ eight 1 ++ eight 0 ++ (opened ∷ 0 ∷ []) ++ eight 0 ++ none ++ none ++ none ++ none ++ none ++ none ++ none ++ end

image_read : read_all state (image 0 []) ≡ Ok (2, (1, (1, ([], ((47 ∷ [], Some (8, (1, (0, (false, (false, (0, ([], ([], ([], [])))))))))) ∷ [], ([], ([], [])))))))
unfolding number number_field text text_field read_each
image_read = refl

-- a flag of two stands at its place
image_flag : read_all state (image 2 []) ≡ Err (Bad 55)
unfolding number number_field text text_field read_each
image_flag = refl

-- a byte more stands behind the last
image_longer : read_all state (image 0 (0 ∷ [])) ≡ Err (Bad 93)
unfolding number number_field text text_field read_each
image_longer = refl
