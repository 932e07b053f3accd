-- The tokens of a line.
use Rattle.std.proofs.Common.{◌≡◌, ◌≢◌, ℕ, suc, ◌<◌, Bool, true, false, nat_le, ◌==◌, List, [], ◌∷◌, ◌++◌, length, take, drop, get_or, Option, Some, None, refl, sym, ◌∙◌, ap, subst, append_assoc, append-nil, arith, length-append}
use Rattle.std.specs.Prelude.{◌+◌, MatchBool}
use Rattle.std.specs.List.{slice_split, onto_first, list_all, flat_map, join_with_byte, AllByRecursion}
use Rattle.std.specs.Char.{encode_utf8}
use Rattle.std.proofs.lemmas.Bool.{and_parts}
use Rattle.std.proofs.lemmas.Bool.Decides.{nat_tests}
use Rattle.std.proofs.Math.Seq.{drop-cons}
use Rattle.std.proofs.lemmas.List.{take-append-drop}
use Rattle.std.proofs.lemmas.List.Splits.{slice_split-cons_no, join_with_byte-slice_split}
use Rattle.script_words.specs.declared.quoted.State.TheVariants.{Between}
use Rattle.script_words.specs.Words.{Word, Token, Item, character, escape, hexadecimal, IsItem, item_text, is_plain, is_hex, is_bare_byte, is_bare, SpellsQuoted, Spells, SpellsTokens, SpellsLine}
use Rattle.script_words.specs.Inside.Quoted.{quote_from, denoted}
use Rattle.script_words.specs.Inside.Tokens.{starts_quoted, after_token, left_after, StartsWith, StartsWithNone, TakesToken}
use Rattle.script_words.proofs.Items.{plain_char, quoted_denoted}

-- ---- where the closing quote is

same_place : (escaped : Bool) (i j : ℕ) (bytes : List ℕ) → i ≡ j → quote_from escaped i bytes ≡ quote_from escaped j bytes
same_place escaped i j bytes e = ap (λ at. quote_from escaped at bytes) e

plain_place : (xs rest : List ℕ) (at : ℕ) → list_all is_plain xs ≡ true → quote_from false at (xs ++ rest) ≡ quote_from false (at + length xs) rest
plain_place [] rest at h = same_place false at (at + 0) rest (omega arith)
plain_place (x ∷ xs) rest at h =
    let parts = and_parts (is_plain x) (list_all is_plain xs) h in
    let quote : (x == 34) ≡ false = grind (arith, nat_tests) in
    let slash : (x == 92) ≡ false = grind (arith, nat_tests) in
    rw (quote, slash) (plain_place xs rest (at + 1) parts.1 ∙ same_place false (at + 1 + length xs) (at + length (x ∷ xs)) rest (omega arith))

hex_plain : (d : ℕ) → is_hex d ≡ true → is_plain d ≡ true
hex_plain d h = grind (arith, nat_tests)

digits_plain : (high low : ℕ) → is_hex high ≡ true → is_hex low ≡ true → list_all is_plain (high ∷ low ∷ []) ≡ true
digits_plain high low h g = rw (hex_plain high h, hex_plain low g)

item_place : (item : Item) → IsItem item → (rest : List ℕ) (at : ℕ) → quote_from false at (item_text item ++ rest) ≡ quote_from false (at + length (item_text item)) rest
item_place (character c) h rest at = plain_place (encode_utf8 c) rest at (plain_char c h.1)
item_place (escape letter) h rest at = same_place false (at + 1 + 1) (at + 2) rest (omega arith)
item_place (hexadecimal high low) h rest at =
    plain_place (high ∷ low ∷ []) rest (at + 1 + 1) (digits_plain high low h.0 h.1) ∙ same_place false (at + 1 + 1 + 2) (at + 4) rest (omega arith)

items_place : (items : List Item) → AllByRecursion IsItem items → (rest : List ℕ) (at : ℕ) → quote_from false at (flat_map item_text items ++ rest) ≡ quote_from false (at + length (flat_map item_text items)) rest
items_place [] h rest at = same_place false at (at + 0) rest (omega arith)
items_place (item ∷ items) h rest at =
    ap (quote_from false at) (append_assoc (item_text item) (flat_map item_text items) rest)
    ∙ item_place item h.0 (flat_map item_text items ++ rest) at
    ∙ items_place items h.1 rest (at + length (item_text item))
    ∙ same_place false (at + length (item_text item) + length (flat_map item_text items)) (at + length (item_text item ++ flat_map item_text items)) rest (omega (arith, length-append (item_text item) (flat_map item_text items)))

-- what stands between the quotes ends at the first quote that closes
pub inner_place : (inner : List ℕ) (word : Word) (rest : List ℕ) → SpellsQuoted inner word → quote_from false 0 (inner ++ 34 ∷ rest) ≡ Some (length inner)
inner_place inner word rest s = rw s.inner_is (items_place s.items s.each (34 ∷ rest) 0 ∙ ap (λ n. Some n) (let none : 0 + length (flat_map item_text s.items) ≡ length (flat_map item_text s.items) = omega arith in none))

-- ---- two ways in which a line begins are one

pub append_same : (xs ys us vs : List ℕ) → length xs ≡ length ys → xs ++ us ≡ ys ++ vs → (xs ≡ ys) × (us ≡ vs)
append_same [] [] us vs n e = (refl, e)
append_same [] (y ∷ ys) us vs n e = absurd (omega arith)
append_same (x ∷ xs) [] us vs n e = absurd (omega arith)
append_same (x ∷ xs) (y ∷ ys) us vs n e =
    let first : x ≡ y = cc in
    let more : xs ++ us ≡ ys ++ vs = cc in
    let rest = append_same xs ys us vs (omega arith) more in ((λ i. first i ∷ rest.0 i), rest.1)

same_after : (r s : Option (List ℕ)) → after_token r ≡ after_token s → r ≡ s
same_after None None e = refl
same_after None (Some more) e = cc
same_after (Some more) None e = cc
same_after (Some more) (Some other) e = let same : more ≡ other = cc in ap (λ m. Some m) same

no_space : (b : ℕ) → is_bare_byte b ≡ true → (b == 32) ≡ false
no_space b h = grind (arith, nat_tests)

not_space : (b : ℕ) → is_bare_byte b ≡ true → 32 ≡ b → ⊥
not_space b h e = let no : (b == 32) ≡ false = no_space b h in grind (arith, nat_tests)

bare_same : (xs ys : List ℕ) (r s : Option (List ℕ)) → list_all is_bare_byte xs ≡ true → list_all is_bare_byte ys ≡ true → xs ++ after_token r ≡ ys ++ after_token s → (xs ≡ ys) × (r ≡ s)
bare_same [] [] r s h g e = (refl, same_after r s e)
bare_same [] (y ∷ ys) None s h g e = cc
bare_same [] (y ∷ ys) (Some more) s h g e =
    let parts = and_parts (is_bare_byte y) (list_all is_bare_byte ys) g in
    let same : 32 ≡ y = cc in absurd (not_space y parts.0 same)
bare_same (x ∷ xs) [] r None h g e = cc
bare_same (x ∷ xs) [] r (Some more) h g e =
    let parts = and_parts (is_bare_byte x) (list_all is_bare_byte xs) h in
    let same : 32 ≡ x = cc in absurd (not_space x parts.0 same)
bare_same (x ∷ xs) (y ∷ ys) r s h g e =
    let one = and_parts (is_bare_byte x) (list_all is_bare_byte xs) h in
    let two = and_parts (is_bare_byte y) (list_all is_bare_byte ys) g in
    let first : x ≡ y = cc in
    let more : xs ++ after_token r ≡ ys ++ after_token s = cc in
    let rest = bare_same xs ys r s one.1 two.1 more in ((λ i. first i ∷ rest.0 i), rest.1)

bare_bytes : (text : List ℕ) → is_bare text ≡ true → list_all is_bare_byte text ≡ true
bare_bytes text h = (and_parts (nat_le 1 (length text)) (list_all is_bare_byte text) h).1

-- a bare text doesn't begin with a quote
pub bare_first : (text rest : List ℕ) → is_bare text ≡ true → starts_quoted (text ++ rest) ≡ false
bare_first [] rest h = cc
bare_first (b ∷ bytes) rest h = let parts = and_parts (is_bare_byte b) (list_all is_bare_byte bytes) (bare_bytes (b ∷ bytes) h) in grind (arith, nat_tests)

quoted_parts : (inner rest : List ℕ) → (34 ∷ (inner ++ 34 ∷ [])) ++ rest ≡ 34 ∷ (inner ++ 34 ∷ rest)
quoted_parts inner rest = ap (λ more. 34 ∷ more) (append_assoc inner (34 ∷ []) rest)

-- the inner part, the place and the rest of a line that begins with a quoted word
pub record Quotes (line : List ℕ) (word : Word) (more : Option (List ℕ)) : Type 0 where
  pub inner : List ℕ
  pub line_is : line ≡ 34 ∷ (inner ++ 34 ∷ after_token more)
  pub place : quote_from false 0 (drop 1 line) ≡ Some (length inner)
  pub spelled : SpellsQuoted inner word

pub quotes : (line text : List ℕ) (word : Word) (more : Option (List ℕ)) → line ≡ text ++ after_token more → Spells false text word → Quotes line word more
quotes line text word more e s =
    let whole : line ≡ 34 ∷ (s.0 ++ 34 ∷ after_token more) = e ∙ ap (λ t. t ++ after_token more) s.1 ∙ quoted_parts s.0 (after_token more) in
    record { inner = s.0; line_is = whole; place = ap (λ l. quote_from false 0 (drop 1 l)) whole ∙ inner_place s.0 word (after_token more) s.2; spelled = s.2 }

quoted_same : (line : List ℕ) (w v : Word) (r s : Option (List ℕ)) → Quotes line w r → Quotes line v s → (w ≡ v) × (r ≡ s)
quoted_same line w v r s h g =
    let places = sym h.place ∙ g.place in
    let lengths : length h.inner ≡ length g.inner = cc places in
    let lines = sym h.line_is ∙ g.line_is in
    let parts = append_same h.inner g.inner (34 ∷ after_token r) (34 ∷ after_token s) lengths (ap (drop 1) lines) in
    let words = sym (quoted_denoted h.inner w h.spelled) ∙ ap (λ xs. denoted xs Between) parts.0 ∙ quoted_denoted g.inner v g.spelled in
    ((cc words), same_after r s (ap (drop 1) parts.1))

-- how a line begins, by whether the word stands bare
abbrev Front : List ℕ → Bool → Word → Option (List ℕ) → Type 0
Front line bare word more = (text : List ℕ) × (line ≡ text ++ after_token more) × Spells bare text word

front_of : (line : List ℕ) (token : Token) (more : Option (List ℕ)) → StartsWith line token more → Front line token.bare token.word more
front_of line token more s = (s.text, s.line_is, s.spelled)

mixed : (line : List ℕ) (w v : Word) (r s : Option (List ℕ)) → Front line true w r → Front line false v s → ⊥
mixed line w v r s h g =
    let bare : starts_quoted line ≡ false = ap starts_quoted h.1 ∙ bare_first h.0 (after_token r) h.2.0 in
    let quoted : starts_quoted line ≡ true = ap starts_quoted (quotes line g.0 v s g.1 g.2).line_is in
    let wrong : true ≡ false = sym quoted ∙ bare in cc

front_same : (line : List ℕ) (a b : Bool) (w v : Word) (r s : Option (List ℕ)) → Front line a w r → Front line b v s → (a ≡ b) × (w ≡ v) × (r ≡ s)
front_same line true true w v r s h g =
    let parts = bare_same h.0 g.0 r s (bare_bytes h.0 h.2.0) (bare_bytes g.0 g.2.0) (sym h.1 ∙ g.1) in
    (refl, sym h.2.1 ∙ parts.0 ∙ g.2.1, parts.1)
front_same line true false w v r s h g = absurd (mixed line w v r s h g)
front_same line false true w v r s h g = absurd (mixed line v w s r g h)
front_same line false false w v r s h g =
    let parts = quoted_same line w v r s (quotes line h.0 w r h.1 h.2) (quotes line g.0 v s g.1 g.2) in (refl, parts.0, parts.1)

pub one_token : (line : List ℕ) (t u : Token) (r s : Option (List ℕ)) → StartsWith line t r → StartsWith line u s → (t ≡ u) × (r ≡ s)
one_token line t u r s h g =
    let same = front_same line t.bare u.bare t.word u.word r s (front_of line t r h) (front_of line u s g) in
    ((λ i. record { bare = same.0 i; word = same.1 i }), same.2)

-- ---- a line, token by token

abbrev pub SpellsRest : List ℕ → List Token → Type 0
SpellsRest line [] = ⊥
SpellsRest line (token ∷ []) = StartsWith line token None
SpellsRest line (token ∷ next ∷ tokens) = (rest : List ℕ) × StartsWith line token (Some rest) × SpellsRest rest (next ∷ tokens)

line_texts : (texts : List (List ℕ)) (tokens : List Token) (line : List ℕ) → line ≡ join_with_byte 32 texts → SpellsTokens texts tokens → tokens ≢ [] → SpellsRest line tokens
line_texts [] [] line e s n = absurd (n refl)
line_texts [] (token ∷ tokens) line e s n = absurd s
line_texts (text ∷ texts) [] line e s n = absurd s
line_texts (text ∷ []) (token ∷ []) line e s n = record { text = text; line_is = e ∙ sym (append-nil text); spelled = s.0 }
line_texts (text ∷ []) (token ∷ next ∷ tokens) line e s n = absurd s.1
line_texts (text ∷ other ∷ texts) (token ∷ []) line e s n = absurd s.1
line_texts (text ∷ other ∷ texts) (token ∷ next ∷ tokens) line e s n = (
  join_with_byte 32 (other ∷ texts),
  record { text = text; line_is = e; spelled = s.0 },
  line_texts (other ∷ texts) (next ∷ tokens) (join_with_byte 32 (other ∷ texts)) refl s.1 (λ h. cc),
)

pub line_rest : (line : List ℕ) (tokens : List Token) → SpellsLine line tokens → SpellsRest line tokens
line_rest line tokens s = line_texts s.texts tokens line s.line_is s.spelled s.some

-- the texts of a line that is spelled token by token
pub rest_line : (line : List ℕ) (tokens : List Token) → SpellsRest line tokens → SpellsLine line tokens
rest_line line [] s = absurd s
rest_line line (token ∷ []) s = record { texts = s.text ∷ []; line_is = s.line_is ∙ append-nil s.text; spelled = (s.spelled, tt); some = λ h. cc }
rest_line line (token ∷ next ∷ tokens) s =
    let more = rest_line s.0 (next ∷ tokens) s.2 in
    by more.texts more.line_is more.spelled
  where
    by : (texts : List (List ℕ)) → s.0 ≡ join_with_byte 32 texts → SpellsTokens texts (next ∷ tokens) → SpellsLine line (token ∷ next ∷ tokens)
    by [] e h = absurd h
    by (text ∷ texts) e h = record { texts = s.1.text ∷ text ∷ texts; line_is = s.1.line_is ∙ ap (λ rest. s.1.text ++ 32 ∷ rest) e; spelled = (s.1.spelled, h); some = λ h. cc }

pub rest_same : (line : List ℕ) (a b : List Token) → SpellsRest line a → SpellsRest line b → a ≡ b
rest_same line [] b h g = absurd h
rest_same line (t ∷ a) [] h g = absurd g
rest_same line (t ∷ []) (u ∷ []) h g = ap (λ x. x ∷ []) (one_token line t u None None h g).0
rest_same line (t ∷ []) (u ∷ v ∷ b) h g = let same = (one_token line t u None (Some g.0) h g.1).1 in cc
rest_same line (t ∷ x ∷ a) (u ∷ []) h g = let same = (one_token line t u (Some h.0) None h.1 g).1 in cc
rest_same line (t ∷ x ∷ a) (u ∷ v ∷ b) h g =
    let same = one_token line t u (Some h.0) (Some g.0) h.1 g.1 in
    let rest : h.0 ≡ g.0 = cc (same.1) in
    let more = rest_same g.0 (x ∷ a) (v ∷ b) (subst (λ l. SpellsRest l (x ∷ a)) rest h.2) g.2 in
    (λ i. same.0 i ∷ more i)

-- a line spells at most one list of tokens
pub spells_once : (line : List ℕ) (a b : List Token) → SpellsLine line a → SpellsLine line b → a ≡ b
spells_once line a b h g = rest_same line a b (line_rest line a h) (line_rest line b g)

-- ---- a line of which some tokens were read

-- what the line spells, where these were read and this is left
pub record Ahead (line rest : List ℕ) (read : List Token) : Type 0 where
  pub spelled : (others : List Token) → SpellsRest rest others → SpellsRest line (read ++ others)
  pub left : (all : List Token) → SpellsRest line all → (others : List Token) × (all ≡ read ++ others) × SpellsRest rest others

pub ahead_none : (line : List ℕ) → Ahead line line []
ahead_none line = record { spelled = λ others s. s; left = λ all s. (all, refl, s) }

more_spelled : (rest more : List ℕ) (token : Token) (others : List Token) → StartsWith rest token (Some more) → SpellsRest more others → SpellsRest rest (token ∷ others)
more_spelled rest more token [] h s = absurd s
more_spelled rest more token (next ∷ others) h s = (more, h, s)

more_left : (rest more : List ℕ) (token : Token) (read all others : List Token) → StartsWith rest token (Some more) → all ≡ read ++ others → SpellsRest rest others
    → (left : List Token) × (all ≡ (read ++ token ∷ []) ++ left) × SpellsRest more left
more_left rest more token read all [] h e s = absurd s
more_left rest more token read all (u ∷ []) h e s = let same = (one_token rest token u (Some more) None h s).1 in cc
more_left rest more token read all (u ∷ next ∷ others) h e s =
    let same = one_token rest token u (Some more) (Some s.0) h s.1 in
    let is : s.0 ≡ more = cc (same.1) in
    (next ∷ others, e ∙ ap (λ x. read ++ x ∷ next ∷ others) (sym same.0) ∙ sym (append_assoc read (token ∷ []) (next ∷ others)), subst (λ l. SpellsRest l (next ∷ others)) is s.2)

pub ahead_more : (line rest more : List ℕ) (read : List Token) (token : Token) → Ahead line rest read → StartsWith rest token (Some more) → Ahead line more (read ++ token ∷ [])
ahead_more line rest more read token h s = record {
  spelled = λ others t. subst (SpellsRest line) (sym (append_assoc read (token ∷ []) others)) (h.spelled (token ∷ others) (more_spelled rest more token others s t));
  left = λ all t. let before = h.left all t in more_left rest more token read all before.0 s before.1 before.2;
}

pub ahead_last : (line rest : List ℕ) (read : List Token) (token : Token) → Ahead line rest read → StartsWith rest token None → SpellsLine line (read ++ token ∷ [])
ahead_last line rest read token h s = rest_line line (read ++ token ∷ []) (h.spelled (token ∷ []) s)

pub shorter : (rest more : List ℕ) (token : Token) → StartsWith rest token (Some more) → length more < length rest
shorter rest more token s = omega (arith, ap length s.line_is, length-append s.text (32 ∷ more))

-- one more token was taken, with more or nothing after it
pub ahead_taken : (line rest left : List ℕ) (read all : List Token) → Ahead line rest read → TakesToken rest left read all true → Ahead line left all
ahead_taken line rest left read all h t = subst (Ahead line left) (sym t.all_are) (ahead_more line rest left read t.token h t.starts)

pub all_taken : (line rest left : List ℕ) (read all : List Token) → Ahead line rest read → TakesToken rest left read all false → SpellsLine line all
all_taken line rest left read all h t = subst (SpellsLine line) (sym t.all_are) (ahead_last line rest read t.token h t.starts)

pub taken_shorter : (rest left : List ℕ) (read all : List Token) → TakesToken rest left read all true → length left < length rest
taken_shorter rest left read all t = shorter rest left t.token t.starts

none_rest : (rest : List ℕ) (others : List Token) → StartsWithNone rest → SpellsRest rest others → ⊥
none_rest rest [] n s = s
none_rest rest (token ∷ []) n s = n token None s
none_rest rest (token ∷ next ∷ others) n s = n token (Some s.0) s.1

pub ahead_bad : (line rest : List ℕ) (read : List Token) → Ahead line rest read → StartsWithNone rest → (tokens : List Token) → SpellsLine line tokens → ⊥
ahead_bad line rest read h n tokens s = let left = h.left tokens (line_rest line tokens s) in none_rest rest left.0 n left.2

-- ---- what is in front

cut_whole : (line part rest : List ℕ) → slice_split (λ b. b == 32) line ≡ part ∷ slice_split (λ b. b == 32) rest → line ≡ part ++ 32 ∷ rest
cut_whole line part rest e =
    sym (join_with_byte-slice_split 32 line) ∙ ap (join_with_byte 32) e ∙ by (slice_split (λ b. b == 32) rest) (join_with_byte-slice_split 32 rest) refl
  where
    by : (parts : List (List ℕ)) → join_with_byte 32 parts ≡ rest → slice_split (λ b. b == 32) rest ≡ parts → join_with_byte 32 (part ∷ parts) ≡ part ++ 32 ∷ rest
    by [] h g = let empty : [] ≡ rest = h in let none : slice_split (λ b. b == 32) [] ≡ [] = ap (slice_split (λ b. b == 32)) empty ∙ g in cc
    by (next ∷ parts) h g = ap (λ l. part ++ 32 ∷ l) h

pub bare_more : (line part rest : List ℕ) → slice_split (λ b. b == 32) line ≡ part ∷ slice_split (λ b. b == 32) rest → is_bare part ≡ true → StartsWith line (record { bare = true; word = part }) (Some rest)
bare_more line part rest e h = record { text = part; line_is = cut_whole line part rest e; spelled = (h, refl) }

pub bare_last : (line part : List ℕ) → part ≡ line → is_bare part ≡ true → StartsWith line (record { bare = true; word = part }) None
bare_last line part e h = record { text = part; line_is = sym e ∙ sym (append-nil part); spelled = (h, refl) }

-- a bare text is what stands before the first space
split_bare : (text : List ℕ) (more : Option (List ℕ)) → list_all is_bare_byte text ≡ true → (parts : List (List ℕ)) × (slice_split (λ b. b == 32) (text ++ after_token more) ≡ text ∷ parts)
split_bare [] None h = ([], refl)
split_bare [] (Some more) h = (slice_split (λ b. b == 32) more, refl)
split_bare (b ∷ bytes) more h =
    let parts = and_parts (is_bare_byte b) (list_all is_bare_byte bytes) h in
    let rest = split_bare bytes more parts.1 in
    (rest.0, slice_split-cons_no (λ b. b == 32) b (bytes ++ after_token more) (no_space b parts.0) ∙ ap (onto_first b) rest.1)

front_none : (line part : List ℕ) (parts : List (List ℕ)) → starts_quoted line ≡ false → slice_split (λ b. b == 32) line ≡ part ∷ parts → is_bare part ≡ false → (bare : Bool) (word : Word) (more : Option (List ℕ)) → Front line bare word more → ⊥
front_none line part parts q e n true word more f =
    let split = split_bare f.0 more (bare_bytes f.0 f.2.0) in
    let all = sym e ∙ ap (slice_split (λ b. b == 32)) f.1 ∙ split.1 in
    let same : part ≡ f.0 = cc (all) in
    let wrong : false ≡ true = sym n ∙ ap is_bare same ∙ f.2.0 in cc
front_none line part parts q e n false word more f =
    let quoted : starts_quoted line ≡ true = ap starts_quoted (quotes line f.0 word more f.1 f.2).line_is in
    let wrong : false ≡ true = sym q ∙ quoted in cc

pub bare_none : (line part : List ℕ) (parts : List (List ℕ)) → starts_quoted line ≡ false → slice_split (λ b. b == 32) line ≡ part ∷ parts → is_bare part ≡ false → StartsWithNone line
bare_none line part parts q e n = λ token more s. front_none line part parts q e n token.bare token.word more (front_of line token more s)

pub bare_found : (line part rest : List ℕ) (goes_on : Bool) → MatchBool goes_on (slice_split (λ b. b == 32) line ≡ part ∷ slice_split (λ b. b == 32) rest) (slice_split (λ b. b == 32) line ≡ part ∷ [])
    → is_bare part ≡ true → StartsWith line (record { bare = true; word = part }) (left_after goes_on rest)
bare_found line part rest false e h = bare_last line part (sym (ap (join_with_byte 32) e) ∙ join_with_byte-slice_split 32 line) h
bare_found line part rest true e h = bare_more line part rest e h

pub bare_unfound : (line part rest : List ℕ) (goes_on : Bool) → MatchBool goes_on (slice_split (λ b. b == 32) line ≡ part ∷ slice_split (λ b. b == 32) rest) (slice_split (λ b. b == 32) line ≡ part ∷ [])
    → starts_quoted line ≡ false → is_bare part ≡ false → StartsWithNone line
bare_unfound line part rest false e q h = bare_none line part [] q e h
bare_unfound line part rest true e q h = bare_none line part (slice_split (λ b. b == 32) rest) q e h

-- a line with a quote in front begins with a quoted word
quoted_front : (line : List ℕ) (bare : Bool) (word : Word) (more : Option (List ℕ)) → starts_quoted line ≡ true → Front line bare word more → Quotes line word more
quoted_front line true word more q f =
    let bare : starts_quoted line ≡ false = ap starts_quoted f.1 ∙ bare_first f.0 (after_token more) f.2.0 in
    let wrong : true ≡ false = sym q ∙ bare in absurd (let no : ⊥ = cc in no)
quoted_front line false word more q f = quotes line f.0 word more f.1 f.2

pub unclosed : (line : List ℕ) → starts_quoted line ≡ true → quote_from false 0 (drop 1 line) ≡ None → StartsWithNone line
unclosed line q n = λ token more s.
    let front = quoted_front line token.bare token.word more q (front_of line token more s) in
    let wrong = sym n ∙ front.place in cc

-- the parts of a line that begins with a quoted word
pub parts_are : (line inner rest : List ℕ) (word : Word) (more : Option (List ℕ)) → quote_from false 0 (drop 1 line) ≡ Some (length inner) → line ≡ 34 ∷ (inner ++ 34 ∷ rest) → Quotes line word more
    → SpellsQuoted inner word × (rest ≡ after_token more)
parts_are line inner rest word more p e h =
    let places = sym h.place ∙ p in
    let lengths : length h.inner ≡ length inner = cc (places) in
    let lines = sym h.line_is ∙ e in
    let parts = append_same h.inner inner (34 ∷ after_token more) (34 ∷ rest) lengths (ap (drop 1) lines) in
    (subst (λ xs. SpellsQuoted xs word) parts.0 h.spelled, sym (ap (drop 1) parts.1))

pub no_space_after : (line inner rest : List ℕ) → starts_quoted line ≡ true → quote_from false 0 (drop 1 line) ≡ Some (length inner) → line ≡ 34 ∷ (inner ++ 34 ∷ rest)
    → ((more : Option (List ℕ)) → rest ≡ after_token more → ⊥) → StartsWithNone line
no_space_after line inner rest q p e n = λ token more s.
    n more (parts_are line inner rest token.word more p e (quoted_front line token.bare token.word more q (front_of line token more s))).1

pub no_word : (line inner rest : List ℕ) → starts_quoted line ≡ true → quote_from false 0 (drop 1 line) ≡ Some (length inner) → line ≡ 34 ∷ (inner ++ 34 ∷ rest)
    → ((word : Word) → SpellsQuoted inner word → ⊥) → StartsWithNone line
no_word line inner rest q p e n = λ token more s.
    n token.word (parts_are line inner rest token.word more p e (quoted_front line token.bare token.word more q (front_of line token more s))).0

pub quoted_starts : (line inner rest : List ℕ) (word : Word) (more : Option (List ℕ)) → line ≡ 34 ∷ (inner ++ 34 ∷ rest) → rest ≡ after_token more → SpellsQuoted inner word → StartsWith line (record { bare = false; word = word }) more
quoted_starts line inner rest word more e f s = record {
  text = 34 ∷ (inner ++ 34 ∷ []);
  line_is = e ∙ ap (λ left. 34 ∷ (inner ++ 34 ∷ left)) f ∙ sym (quoted_parts inner (after_token more));
  spelled = (inner, refl, s);
}

pub quote_first : (line : List ℕ) → starts_quoted line ≡ true → line ≡ 34 ∷ drop 1 line
quote_first [] h = cc
quote_first (b ∷ bytes) h = let same : b ≡ 34 = grind (arith, nat_tests) in ap (λ x. x ∷ bytes) same

-- a quoted word's parts, by the place of the quote that closes it
pub between : (line : List ℕ) (at : ℕ) → starts_quoted line ≡ true → at < length (drop 1 line) → get_or (drop 1 line) at 0 ≡ 34
    → line ≡ 34 ∷ (take at (drop 1 line) ++ 34 ∷ drop 1 (drop at (drop 1 line)))
between line at q h e =
    let bytes = drop 1 line in
    let cons = drop-cons bytes at 0 h in
    let closing : drop at bytes ≡ 34 ∷ drop 1 (drop at bytes) = cons ∙ ap (λ b. b ∷ drop (suc at) bytes) e ∙ ap (λ l. 34 ∷ drop 1 l) (sym cons) in
    quote_first line q ∙ ap (λ l. 34 ∷ l) (sym (take-append-drop at bytes) ∙ ap (λ l. take at bytes ++ l) closing)
