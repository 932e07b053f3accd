-- The canonical text of a command tells that command again.
use Rattle.std.proofs.Common.{◌≡◌, ℕ, ◌≤◌, Bool, true, false, cond, List, [], ◌∷◌, map, Option, Some, None, refl, sym, ap, ◌∙◌, subst, arith, append-nil}
use Rattle.std.specs.Prelude.{IsUtf8, IsSome, IsSomeAnd, codes, option_map, option_and_then}
use Rattle.std.specs.Str.{is_utf8}
use Rattle.std.proofs.lemmas.Str.{IsUtf8-from_is_utf8}
use Rattle.json.specs.Json as json
use Rattle.json.specs.Lex.{tokens}
use Rattle.json.specs.Tree.{json_tokens, ItemsHaveNumbers}
use Rattle.json.specs.Tree as tree
use Rattle.json.proofs.Printed.Tokens.{tokens-print}
use Rattle.json.proofs.Printed.Trees.{value-json_tokens, ArePrintable-json_tokens}
use Rattle.serde_json.specs.Data.{string, array, object, item, member, no_members, put}
use Rattle.serde_json.specs.Read.{read, max_depth, of_json, of_items, of_members}
use Rattle.serde_json.specs.View.{items_of}
use Rattle.serde_json.specs.Written.{outline, items_outline}
use Rattle.serde_json.proofs.Texts.{print-outline}
use Rattle.proj_desc.specs.declared.command.Command.{Command}
use Rattle.proj_desc.specs.Canonical.{command_data, command_text, commanded, inner_text, input_text, IsCommandText, IsTextOf}
use Rattle.proj_desc.specs.Causes.{command_cause, command_word_cause, has_places}
use Rattle.proj_desc.specs.Described.{command_of}
use Rattle.proj_desc.specs.declared.cause.DescCause.TheVariants.{BadPath}
use Rattle.proj_desc.proofs.Back.{applied, command_back, first_none, second_none}
use Rattle.proj_desc.proofs.Values.{value_read}

-- ---- lists of texts

texts_read : (ts : List (List ℕ)) → of_items (items_outline (items_of (map string ts))) ≡ Some (items_of (map string ts))
texts_read [] = refl
texts_read (t ∷ ts) = ap (option_map (item (string t))) (texts_read ts)

texts_shallow : (ts : List (List ℕ)) → tree.items_depth (items_outline (items_of (map string ts))) ≤ 0
texts_shallow [] = omega arith
texts_shallow (t ∷ ts) = let rest = texts_shallow ts in omega (arith, rest)

texts_plain : (ts : List (List ℕ)) → ItemsHaveNumbers (items_outline (items_of (map string ts)))
texts_plain [] = tt
texts_plain (t ∷ ts) = (tt, texts_plain ts)

-- ---- a command

text_tokens : (c : Command) → tokens (command_text c) ≡ json_tokens (outline (command_data c))
text_tokens c =
    ap tokens (sym (print-outline (command_data c)))
    ∙ tokens-print (json_tokens (outline (command_data c))) (ArePrintable-json_tokens (outline (command_data c)) (tt, (texts_plain (map input_text c.inputs), (tt, tt))))

data_read : (c : Command) → of_json (outline (command_data c)) ≡ Some (command_data c)
data_read c = ap (λ o. option_map object (option_and_then (λ d. of_members (json.member (codes "output") (json.string (inner_text c.output)) json.no_members)
    (put (codes "inputs") d (member (codes "builder") (string c.builder) no_members))) (option_map array o))) (texts_read (map input_text c.inputs))

text_read : (c : Command) → read (command_text c) ≡ Some (command_data c)
text_read c =
    let shallow = texts_shallow (map input_text c.inputs) in
    let value = ap (json.value max_depth) (text_tokens c ∙ sym (append-nil _)) ∙ value-json_tokens (outline (command_data c)) max_depth [] (omega (arith, shallow)) in
    ap (λ r. option_and_then of_json (option_and_then (λ p. json.if_last p.0 p.1) r)) value ∙ data_read c

placed : (project : List ℕ) (c : Command) → command_cause project c ≡ None → has_places project c ≡ true
placed project c h =
    let words = first_none (command_word_cause project c) _ h in
    applied (has_places project c) BadPath (first_none _ _ (second_none _ _ (second_none _ _ words)))

-- a text of characters that is the canonical one of a command of the project tells the command
pub told_by_text : (project : List ℕ) (c : Command) → command_cause project c ≡ None → IsUtf8 (command_text c) → commanded (command_text c) ≡ Some c
told_by_text project c h u = ap (option_map command_of) (value_read (command_text c) (command_data c) u (text_read c)) ∙ ap Some (command_back project c (placed project c h))

has_characters : (text : List ℕ) → IsSome (commanded text) → IsUtf8 text
has_characters text h = by (is_utf8 text) refl h
  where
    by : (b : Bool) → is_utf8 text ≡ b → IsSome (option_map command_of (cond b (read text) None)) → IsUtf8 text
    by true e g = IsUtf8-from_is_utf8 text e
    by false e g = cc

is_there : (o : Option Command) (P : Command → Type 0) → IsSomeAnd o P → IsSome o
is_there None P h = absurd h
is_there (Some c) P h = refl

-- so it does where it is the canonical text of any command of the project
pub told_again : (project text : List ℕ) (c : Command) → text ≡ command_text c → command_cause project c ≡ None → IsCommandText project text → commanded text ≡ Some c
told_again project text c is h t =
    let u = has_characters text (is_there (commanded text) (IsTextOf project text) t) in
    ap commanded is ∙ told_by_text project c h (subst IsUtf8 is u)
