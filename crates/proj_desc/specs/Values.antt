-- What is looked up in a JSON value.
use Rattle.std.specs.Prelude.{ℕ, Bool, false, ◌&&◌, List, [], ◌∷◌, Option, Some, None, is_some, option_map, unwrap_or, if◌then◌else◌}
use Rattle.std.specs.List.{list_all}
use Rattle.std.specs.Str.{is_utf8}
use Rattle.serde_json.specs.Data.{Data, Items, no_items, item, Members, no_members, member}
use Rattle.serde_json.specs.Read.{read}
use Rattle.serde_json.specs.Find.{get, as_str, as_array, as_object}

-- the value that a text is: none where it isn't UTF-8, and where it has no reading that is at most 127 deep
abbrev pub value_of : List ℕ → Option Data
value_of text = if is_utf8 text then read text else None

abbrev pub is_text : Data → Bool
is_text d = is_some (as_str d)

abbrev pub is_list : Data → Bool
is_list d = is_some (as_array d)

abbrev pub is_object : Data → Bool
is_object d = is_some (as_object d)

-- the text, empty where the value is none
abbrev pub text : Data → List ℕ
text d = unwrap_or (as_str d) []

abbrev pub list_of : Items → List Data
list_of no_items = []
list_of (item d ds) = d ∷ list_of ds

-- the values in a list, none where the value isn't one
abbrev pub items : Data → List Data
items d = unwrap_or (option_map list_of (as_array d)) []

abbrev pub keys_of : Members → List (List ℕ)
keys_of no_members = []
keys_of (member k d ms) = k ∷ keys_of ms

-- the names of an object's members, none where the value isn't one
abbrev pub keys : Data → List (List ℕ)
keys d = unwrap_or (option_map keys_of (as_object d)) []

-- a list of texts
abbrev pub is_list_of_texts : Data → Bool
is_list_of_texts d = is_list d && list_all is_text (items d)

-- there is a value, and it passes
abbrev pub is_such : (Data → Bool) → Option Data → Bool
is_such test None = false
is_such test (Some d) = test d

-- the text and the values of the member of a name
abbrev pub text_at : List ℕ → Data → List ℕ
text_at name d = unwrap_or (option_map text (get name d)) []

abbrev pub items_at : List ℕ → Data → List Data
items_at name d = unwrap_or (option_map items (get name d)) []
