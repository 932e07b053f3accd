-- JSON values behind the code's own.
use Rattle.std.proofs.Common.{◌≡◌, ℕ, Bool, true, false, not, ◌&&◌, String, string_bytes, List, [], ◌∷◌, map, Some, None, cond, refl, sym, ap, ◌∙◌, rules}
use Rattle.std.specs.Prelude.{IsUtf8, unwrap_or, option_map}
use Rattle.std.specs.declared.alloc.Global.{Global}
use Rattle.std.specs.Borrow.{Bor}
use Rattle.std.specs.Map.Iter.{deref_pair}
use Rattle.std.specs.List.{list_all}
use Rattle.std.specs.Str.{is_utf8}
use Rattle.std.proofs.lemmas.Str.{IsUtf8-from_is_utf8, is_utf8-from_IsUtf8}
use Rattle.serde_json.specs.Data.{Data, string}
use Rattle.serde_json.specs.Read.{read}
use Rattle.serde_json.specs.Find.{as_array, as_object}
use Rattle.serde_json.specs.View.{items_of, items_view, members_view, view}
use Rattle.serde_json.specs.declared.value.Value as json
use Rattle.serde_json.specs.declared.value.Value.{Value, the_lemmas}
use Rattle.serde_json.proofs.Views.{Entry}
use Rattle.proj_desc.specs.Values.{value_of, list_of, items, is_list, is_text, is_object, is_list_of_texts, keys, keys_of}
use Rattle.proj_desc.specs.Causes.{is_no_object, command_values}
use Rattle.proj_desc.proofs.Lists.{list_all-map}

pub list_of-items_of : (ds : List Data) → list_of (items_of ds) ≡ ds
list_of-items_of [] = refl
list_of-items_of (d ∷ ds) = ap (λ es. d ∷ es) (list_of-items_of ds)

pub items_are : (d : Data) (vs : List Value) → Some (items_view vs) ≡ as_array d → map view vs ≡ items d
items_are d vs e = sym (list_of-items_of (map view vs)) ∙ ap (λ o. unwrap_or (option_map list_of o) []) e

pub value_read : (text : List ℕ) (d : Data) → IsUtf8 text → read text ≡ Some d → value_of text ≡ Some d
value_read text d u e = ap (λ b. cond b (read text) None) (is_utf8-from_IsUtf8 text u) ∙ e

pub value_unread : (text : List ℕ) → (IsUtf8 text → read text ≡ None) → value_of text ≡ None
value_unread text h = by (is_utf8 text) refl
  where
    by : (b : Bool) → is_utf8 text ≡ b → cond b (read text) None ≡ None
    by true e = h (IsUtf8-from_is_utf8 text e)
    by false e = refl

pub texts_are : (d : Data) (vs : List Value) → is_list d ≡ true → map view vs ≡ items d → list_all (λ v. is_text (view v)) vs ≡ is_list_of_texts d
texts_are d vs h e = list_all-map is_text view vs ∙ ap (list_all is_text) e ∙ sym (ap (λ b. b && list_all is_text (items d)) h)

pub objects_are : (d : Data) (vs : List Value) → is_object d ≡ true → map view vs ≡ command_values d → not (list_all (λ v. is_object (view v)) vs) ≡ is_no_object d
objects_are d vs h e =
    ap not (list_all-map is_object view vs ∙ ap (list_all is_object) e ∙ sym (ap (λ b. b && list_all is_object (command_values d)) h))

keys_of-members_view : (es : List Entry) → keys_of (members_view es) ≡ map (λ m. string_bytes m.0) es
keys_of-members_view [] = refl
keys_of-members_view (e ∷ es) = ap (λ ks. string_bytes e.0 ∷ ks) (keys_of-members_view es)

pub keys_are : (d : Data) (es : List Entry) → Some (members_view es) ≡ as_object d → map (λ m. string_bytes m.0) es ≡ keys d
keys_are d es e = sym (keys_of-members_view es) ∙ ap (λ o. unwrap_or (option_map keys_of o) []) e

pub bytes_of_pairs : {V : Type 0} (xs : List (Bor (String Global) × Bor V)) → map (λ p. string_bytes p.0.now) xs ≡ map (λ m. string_bytes m.0) (map deref_pair xs)
bytes_of_pairs [] = refl
bytes_of_pairs (x ∷ xs) = ap (λ ys. string_bytes x.0.now ∷ ys) (bytes_of_pairs xs)

pub view_text : (s : String Global) → view (json.String s) ≡ string (string_bytes s)
view_text s = search (rules, the_lemmas)
