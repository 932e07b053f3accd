-- The lines of what both areas hold.
use Rattle.std.specs.Prelude.{ℕ, List, ◌++◌, Option, Some, None, codes, decimal}
use Rattle.ws_outside.specs.declared.contents.Which.{Which}
use Rattle.ws_outside.specs.declared.contents.Which.TheVariants.{Left, Right}
use Rattle.save_store.specs.declared.look.Found.{Found}
use Rattle.area_text.specs.Areas.{area_word}

-- of an open area its save number, and how many records were read
abbrev pub held_words : Option (ℕ × ℕ) → List ℕ
held_words None = codes " closed"
held_words (Some held) = codes " open " ++ decimal held.0 ++ codes " " ++ decimal held.1

abbrev pub area_line : Which → Option (ℕ × ℕ) → List ℕ
area_line area held = area_word area ++ held_words held ++ codes "\n"

abbrev pub chosen_word : Option Which → List ℕ
chosen_word None = codes "none"
chosen_word (Some area) = area_word area

-- the area that decides
abbrev pub chosen_line : Option Which → List ℕ
chosen_line chosen = codes "chosen " ++ chosen_word chosen ++ codes "\n"

-- how many elements the tree has
abbrev pub elements_line : ℕ → List ℕ
elements_line n = codes "elements " ++ decimal n ++ codes "\n"

-- what is told of both areas, before the status
abbrev pub found_text : Found → List ℕ
found_text found = area_line Left found.left ++ area_line Right found.right ++ chosen_line found.chosen ++ elements_line found.elements
