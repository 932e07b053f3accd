-- What stands between quotes, as items and byte by byte.
use Rattle.std.proofs.Common.{◌≡◌, inl, inr, ℕ, suc, ◌<◌, ◌≤◌, Bool, true, false, ◌&&◌, ◌==◌, nat_le, List, [], ◌∷◌, ◌++◌, length, get_or, Option, Some, None, IsUtf8, refl, sym, ◌∙◌, ap, subst, append_assoc, append-nil, arith}
use Rattle.std.specs.Prelude.{◌+◌, ◌*◌}
use Rattle.std.specs.List.{list_all, flat_map, AllByRecursion}
use Rattle.std.specs.Option.{option_map}
use Rattle.std.specs.Char.{IsScalar, digit_value}
use Rattle.std.proofs.lemmas.Bool.{and_parts, cases_lt}
use Rattle.std.proofs.lemmas.Bool.Decides.{nat_tests}
use Rattle.std.proofs.lemmas.Str.{IsUtf8-append, IsUtf8-nil, IsUtf8-encode, encode_ascii, inside_one, length-encode, len_utf8_bounds}
use lib.Utf8.{scalar, scalars, encode, encodes, low_scalar}
use Rattle.script_words.specs.declared.quoted.State.{State}
use Rattle.script_words.specs.declared.quoted.State.TheVariants.{Between, Escape, FirstDigit, SecondDigit}
use Rattle.script_words.specs.Words.{Word, Item, character, escape, hexadecimal, IsItem, item_text, item_bytes, is_plain, is_letter, letter_byte, is_hex, SpellsQuoted}
use Rattle.script_words.specs.Inside.Quoted.{step, then_denoted, denoted}

-- ---- bytes past ASCII

abbrev pub is_high : ℕ → Bool
is_high b = nat_le 128 b

all_high : (xs : List ℕ) → ((k : ℕ) → k < length xs → 128 ≤ get_or xs k 0) → list_all is_high xs ≡ true
all_high [] h = refl
all_high (x ∷ xs) h =
    let first : 128 ≤ x = h 0 (omega arith) in
    let rest = all_high xs (λ k below. h (suc k) (omega arith)) in grind (arith, nat_tests)

-- no byte of a character past ASCII is ASCII
pub high_char : (c : ℕ) → 128 ≤ c → list_all is_high (encode c) ≡ true
high_char c big = all_high (encode c) (λ k below. elim (cases_lt (get_or (encode c) k 0) 128) [
  | inl low ↦ absurd (omega (arith, inside_one c [] (encode c) k (sym (append-nil _)) below low))
  | inr h ↦ h
])

-- such a character has a first byte
pub high_first : (c : ℕ) → 128 ≤ c → (b : ℕ) × (more : List ℕ) × (encode c ≡ b ∷ more) × (128 ≤ b)
high_first c big = by (encode c) refl (high_char c big)
  where
    by : (xs : List ℕ) → encode c ≡ xs → list_all is_high xs ≡ true → (b : ℕ) × (more : List ℕ) × (encode c ≡ b ∷ more) × (128 ≤ b)
    by [] e h = absurd (omega (arith, length-encode c, (len_utf8_bounds c).0, ap length e))
    by (b ∷ more) e h = let first = (and_parts (is_high b) (list_all is_high more) h).0 in (b, more, e, grind (arith, nat_tests))

pub high_plain : (b : ℕ) → 128 ≤ b → is_plain b ≡ true
high_plain b h = grind (arith, nat_tests)

-- ---- items are read as what they denote

-- these bytes in front of what is denoted
abbrev pub join : List ℕ → Option (List ℕ) → Option (List ℕ)
join front found = option_map (λ word. front ++ word) found

pub join_nil : (found : Option (List ℕ)) → join [] found ≡ found
join_nil None = refl
join_nil (Some word) = refl

join_cons : (b : ℕ) (front : List ℕ) (found : Option (List ℕ)) → join (b ∷ []) (join front found) ≡ join (b ∷ front) found
join_cons b front None = refl
join_cons b front (Some word) = refl

plain_step : (b : ℕ) → is_plain b ≡ true → step Between b ≡ Some (Between, Some b)
plain_step b h = let no : (b == 92) ≡ false = grind (arith, nat_tests) in rw (h, no)

pub plain_denoted : (xs rest : List ℕ) → list_all is_plain xs ≡ true → denoted (xs ++ rest) Between ≡ join xs (denoted rest Between)
plain_denoted [] rest h = sym (join_nil (denoted rest Between))
plain_denoted (x ∷ xs) rest h =
    let parts = and_parts (is_plain x) (list_all is_plain xs) h in
    ap (λ after. then_denoted after (denoted (xs ++ rest))) (plain_step x parts.0)
    ∙ ap (join (x ∷ [])) (plain_denoted xs rest parts.1) ∙ join_cons x xs (denoted rest Between)

plain_high : (xs : List ℕ) → list_all is_high xs ≡ true → list_all is_plain xs ≡ true
plain_high [] h = refl
plain_high (x ∷ xs) h =
    let parts = and_parts (is_high x) (list_all is_high xs) h in
    let first : is_plain x ≡ true = high_plain x (grind (arith, nat_tests)) in
    let rest = plain_high xs parts.1 in rw (first, rest)

-- the bytes of a plain character are plain
pub plain_char : (c : ℕ) → is_plain c ≡ true → list_all is_plain (encode c) ≡ true
plain_char c h = elim (cases_lt c 128) [
  | inl small ↦ rw (encode_ascii c small, h)
  | inr big ↦ plain_high (encode c) (high_char c big)
]

letter_step : (e : ℕ) → is_letter e ≡ true → step Escape e ≡ Some (Between, Some (letter_byte e))
letter_step e h = let no : (e == 120) ≡ false = grind (arith, nat_tests) in rw (no, h)

digits_step : (high low : ℕ) → is_hex high ≡ true → is_hex low ≡ true → step (SecondDigit high) low ≡ Some (Between, Some (digit_value high * 16 + digit_value low))
digits_step high low h g = rw (h, g)

item_denoted : (item : Item) → IsItem item → (rest : List ℕ) → denoted (item_text item ++ rest) Between ≡ join (item_bytes item) (denoted rest Between)
item_denoted (character c) h rest = plain_denoted (encode c) rest (plain_char c h.1)
item_denoted (escape letter) h rest =
    join_nil (denoted (letter ∷ rest) Escape) ∙ ap (λ after. then_denoted after (denoted rest)) (letter_step letter h)
item_denoted (hexadecimal high low) h rest =
    join_nil (denoted (120 ∷ high ∷ low ∷ rest) Escape) ∙ join_nil (denoted (high ∷ low ∷ rest) FirstDigit) ∙ join_nil (denoted (low ∷ rest) (SecondDigit high))
    ∙ ap (λ after. then_denoted after (denoted rest)) (digits_step high low h.0 h.1)

join_all : (front word : List ℕ) → join front (Some word) ≡ Some (front ++ word)
join_all front word = refl

pub items_denoted : (items : List Item) → AllByRecursion IsItem items → denoted (flat_map item_text items) Between ≡ Some (flat_map item_bytes items)
items_denoted [] h = refl
items_denoted (item ∷ items) h =
    item_denoted item h.0 (flat_map item_text items) ∙ ap (join (item_bytes item)) (items_denoted items h.1)

-- ---- items are UTF-8

ascii_utf8 : (x : ℕ) (xs : List ℕ) → x < 128 → IsUtf8 xs → IsUtf8 (x ∷ xs)
ascii_utf8 x xs small u = IsUtf8-append (x ∷ []) xs (subst IsUtf8 (encode_ascii x small) (IsUtf8-encode x (low_scalar x (omega arith)))) u

letter_ascii : (e : ℕ) → is_letter e ≡ true → e < 128
letter_ascii e h = grind (arith, nat_tests)

pub hex_ascii : (d : ℕ) → is_hex d ≡ true → d < 128
hex_ascii d h = grind (arith, nat_tests)

item_utf8 : (item : Item) → IsItem item → IsUtf8 (item_text item)
item_utf8 (character c) h = IsUtf8-encode c h.0
item_utf8 (escape letter) h = ascii_utf8 92 (letter ∷ []) (omega arith) (ascii_utf8 letter [] (letter_ascii letter h) IsUtf8-nil)
item_utf8 (hexadecimal high low) h =
    ascii_utf8 92 (120 ∷ high ∷ low ∷ []) (omega arith) (ascii_utf8 120 (high ∷ low ∷ []) (omega arith)
    (ascii_utf8 high (low ∷ []) (hex_ascii high h.0) (ascii_utf8 low [] (hex_ascii low h.1) IsUtf8-nil)))

pub items_utf8 : (items : List Item) → AllByRecursion IsItem items → IsUtf8 (flat_map item_text items)
items_utf8 [] h = IsUtf8-nil
items_utf8 (item ∷ items) h = IsUtf8-append (item_text item) (flat_map item_text items) (item_utf8 item h.0) (items_utf8 items h.1)

-- ---- what is read is items

pub no_items : SpellsQuoted [] []
no_items = record { items = []; each = tt; inner_is = refl; word_is = refl }

pub more_items : (item : Item) (inner : List ℕ) (word : Word) → IsItem item → SpellsQuoted inner word → SpellsQuoted (item_text item ++ inner) (item_bytes item ++ word)
more_items item inner word h s = record {
  items = item ∷ s.items;
  each = (h, s.each);
  inner_is = ap (λ rest. item_text item ++ rest) s.inner_is;
  word_is = ap (λ rest. item_bytes item ++ rest) s.word_is;
}

-- the bytes of an item that was begun
abbrev begun : State → List ℕ
begun Between = []
begun Escape = 92 ∷ []
begun FirstDigit = 92 ∷ 120 ∷ []
begun (SecondDigit high) = 92 ∷ 120 ∷ high ∷ []

abbrev Read : List ℕ → State → Type 0
Read bytes state = (word : Word) → denoted bytes state ≡ Some word → SpellsQuoted (begun state ++ bytes) word

-- what was read in front of more
joined : (front : List ℕ) (found : Option (List ℕ)) (word : Word) → join front found ≡ Some word → (rest : List ℕ) × (found ≡ Some rest) × (word ≡ front ++ rest)
joined front None word e = cc
joined front (Some rest) word e = (rest, refl, cc)

none_left : (found : Option (State × Option ℕ)) (rest : State → Option (List ℕ)) (word : Word) → found ≡ None → then_denoted found rest ≡ Some word → ⊥
none_left None rest word e h = cc
none_left (Some after) rest word e h = cc

-- a byte that ends an item
ended : (state : State) (b : ℕ) (bytes : List ℕ) (item : Item) (byte : ℕ) → step state b ≡ Some (Between, Some byte) → IsItem item → item_text item ≡ begun state ++ b ∷ [] → item_bytes item ≡ byte ∷ []
    → Read bytes Between → Read (b ∷ bytes) state
ended state b bytes item byte s i t u ih word e =
    let parts = joined (byte ∷ []) (denoted bytes Between) word (ap (λ after. then_denoted after (denoted bytes)) (sym s) ∙ e) in
    let all = more_items item bytes parts.0 i (ih parts.0 parts.1) in
    subst (λ w. SpellsQuoted (begun state ++ b ∷ bytes) w) (ap (λ front. front ++ parts.0) u ∙ sym parts.2)
    (subst (λ inner. SpellsQuoted inner (item_bytes item ++ parts.0)) (ap (λ front. front ++ bytes) t ∙ append_assoc (begun state) (b ∷ []) bytes) all)

-- a byte within an item
continued : (state next : State) (b : ℕ) (bytes : List ℕ) → step state b ≡ Some (next, None) → begun next ≡ begun state ++ b ∷ [] → Read bytes next → Read (b ∷ bytes) state
continued state next b bytes s t ih word e =
    let rest : denoted bytes next ≡ Some word = sym (join_nil (denoted bytes next)) ∙ ap (λ after. then_denoted after (denoted bytes)) (sym s) ∙ e in
    subst (λ inner. SpellsQuoted inner word) (ap (λ front. front ++ bytes) t ∙ append_assoc (begun state) (b ∷ []) bytes) (ih word rest)

-- a byte that is out of place
refused : (state : State) (b : ℕ) (bytes : List ℕ) → step state b ≡ None → Read (b ∷ bytes) state
refused state b bytes s word e = absurd (none_left (step state b) (denoted bytes) word s e)

state_ascii : (state : State) (c : ℕ) (bytes : List ℕ) → c < 128 → Read (c ∷ bytes) state → Read (encode c ++ bytes) state
state_ascii state c bytes small h = subst (λ xs. Read (xs ++ bytes) state) (sym (encode_ascii c small)) h

-- a character past ASCII stands for itself, and is no part of an escape
high_between : (c : ℕ) (bytes : List ℕ) → IsScalar c → 128 ≤ c → Read bytes Between → Read (encode c ++ bytes) Between
high_between c bytes s big ih word e =
    let parts = joined (encode c) (denoted bytes Between) word (sym (plain_denoted (encode c) bytes (plain_high (encode c) (high_char c big))) ∙ e) in
    subst (λ w. SpellsQuoted (encode c ++ bytes) w) (sym parts.2) (more_items (character c) bytes parts.0 (s, high_plain c big) (ih parts.0 parts.1))

high_escape : (b : ℕ) → 128 ≤ b → step Escape b ≡ None
high_escape b h =
    let no : (b == 120) ≡ false = grind (arith, nat_tests) in
    let none : is_letter b ≡ false = grind (arith, nat_tests) in rw (no, none)

high_hex : (b : ℕ) → 128 ≤ b → is_hex b ≡ false
high_hex b h = grind (arith, nat_tests)

not_hex : (high b : ℕ) → (is_hex high && is_hex b) ≡ false → step (SecondDigit high) b ≡ None
not_hex high b h = rw h

-- no byte past ASCII is a digit
no_digit : (b : ℕ) (bytes : List ℕ) → 128 ≤ b → Read (b ∷ bytes) FirstDigit
no_digit b [] h word e = cc
no_digit b (d ∷ bytes) h word e =
    let second : denoted (d ∷ bytes) (SecondDigit b) ≡ Some word = sym (join_nil (denoted (d ∷ bytes) (SecondDigit b))) ∙ e in
    absurd (none_left (step (SecondDigit b) d) (denoted bytes) word (not_hex b d (ap (λ t. t && is_hex d) (high_hex b h))) second)

and_false : (t : Bool) → (t && false) ≡ false
and_false true = refl
and_false false = refl

high_other : (state : State) (c : ℕ) (bytes : List ℕ) → (state ≡ Between → ⊥) → 128 ≤ c → Read (encode c ++ bytes) state
high_other state c bytes n big =
    let first = high_first c big in
    subst (λ xs. Read (xs ++ bytes) state) (sym first.2) (by state n first.0 (first.1 ++ bytes) first.3)
  where
    by : (state : State) → (state ≡ Between → ⊥) → (b : ℕ) (more : List ℕ) → 128 ≤ b → Read (b ∷ more) state
    by Between n b more h = absurd (n refl)
    by Escape n b more h = refused Escape b more (high_escape b h)
    by FirstDigit n b more h = no_digit b more h
    by (SecondDigit high) n b more h = refused (SecondDigit high) b more (not_hex high b (ap (λ t. is_hex high && t) (high_hex b h) ∙ and_false (is_hex high)))

-- a character of ASCII
low_between : (c : ℕ) (bytes : List ℕ) → IsScalar c → c < 128 → Read bytes Between → Read bytes Escape → Read (c ∷ bytes) Between
low_between c bytes s small ih ie = by (c == 92) refl (is_plain c) refl
  where
    by : (t : Bool) → (c == 92) ≡ t → (u : Bool) → is_plain c ≡ u → Read (c ∷ bytes) Between
    by true e u f = let is : 92 ≡ c = grind (arith, nat_tests) in continued Between Escape c bytes (rw e) (ap (λ b. b ∷ []) is) ie
    by false e true f = ended Between c bytes (character c) c (plain_step c f) (s, f) (encode_ascii c small) (encode_ascii c small) ih
    by false e false f = refused Between c bytes (rw (f, e))

low_escape : (c : ℕ) (bytes : List ℕ) → Read bytes Between → Read bytes FirstDigit → Read (c ∷ bytes) Escape
low_escape c bytes ih id = by (c == 120) refl (is_letter c) refl
  where
    by : (t : Bool) → (c == 120) ≡ t → (u : Bool) → is_letter c ≡ u → Read (c ∷ bytes) Escape
    by true e u f = let is : 120 ≡ c = grind (arith, nat_tests) in continued Escape FirstDigit c bytes (rw e) (ap (λ b. 92 ∷ b ∷ []) is) id
    by false e true f = ended Escape c bytes (escape c) (letter_byte c) (letter_step c f) f refl refl ih
    by false e false f = refused Escape c bytes (rw (e, f))

low_second : (high c : ℕ) (bytes : List ℕ) → Read bytes Between → Read (c ∷ bytes) (SecondDigit high)
low_second high c bytes ih = by (is_hex high) refl (is_hex c) refl
  where
    by : (t : Bool) → is_hex high ≡ t → (u : Bool) → is_hex c ≡ u → Read (c ∷ bytes) (SecondDigit high)
    by true e true f = ended (SecondDigit high) c bytes (hexadecimal high c) (digit_value high * 16 + digit_value c) (digits_step high c e f) (e, f) refl refl ih
    by true e false f = refused (SecondDigit high) c bytes (not_hex high c (rw (e, f)))
    by false e u f = refused (SecondDigit high) c bytes (not_hex high c (rw e))

low_all : (state : State) (c : ℕ) (bytes : List ℕ) → IsScalar c → c < 128 → ((next : State) → Read bytes next) → Read (c ∷ bytes) state
low_all Between c bytes s small ih = low_between c bytes s small (ih Between) (ih Escape)
low_all Escape c bytes s small ih = low_escape c bytes (ih Between) (ih FirstDigit)
low_all FirstDigit c bytes s small ih = continued FirstDigit (SecondDigit c) c bytes refl refl (ih (SecondDigit c))
low_all (SecondDigit high) c bytes s small ih = low_second high c bytes (ih Between)

high_all : (state : State) (c : ℕ) (bytes : List ℕ) → IsScalar c → 128 ≤ c → ((next : State) → Read bytes next) → Read (encode c ++ bytes) state
high_all Between c bytes s big ih = high_between c bytes s big (ih Between)
high_all Escape c bytes s big ih = high_other Escape c bytes (λ e. cc) big
high_all FirstDigit c bytes s big ih = high_other FirstDigit c bytes (λ e. cc) big
high_all (SecondDigit high) c bytes s big ih = high_other (SecondDigit high) c bytes (λ e. cc) big

read_chars : (cs : List ℕ) → scalars cs ≡ true → (state : State) → Read (encodes cs) state
read_chars [] h Between word e = let same : [] ≡ word = cc in subst (λ w. SpellsQuoted [] w) same no_items
read_chars [] h Escape word e = cc
read_chars [] h FirstDigit word e = cc
read_chars [] h (SecondDigit high) word e = cc
read_chars (c ∷ cs) h state word e =
    let parts = and_parts (scalar c) (scalars cs) h in
    let all : Read (encodes (c ∷ cs)) state = elim (cases_lt c 128) [
      | inl small ↦ state_ascii state c (encodes cs) small (low_all state c (encodes cs) parts.0 small (read_chars cs parts.1))
      | inr big ↦ high_all state c (encodes cs) parts.0 big (read_chars cs parts.1)
    ] in all word e

-- bytes of UTF-8 that are read as a word are its items
pub denoted_items : (inner : List ℕ) → IsUtf8 inner → (word : Word) → denoted inner Between ≡ Some word → SpellsQuoted inner word
denoted_items inner u word e =
    subst (λ xs. SpellsQuoted xs word) u.1.1 (read_chars u.0 u.1.0 Between word (ap (λ xs. denoted xs Between) u.1.1 ∙ e))

-- and items are UTF-8 that is read as their word
pub quoted_utf8 : (inner : List ℕ) (word : Word) → SpellsQuoted inner word → IsUtf8 inner
quoted_utf8 inner word s = subst IsUtf8 (sym s.inner_is) (items_utf8 s.items s.each)

pub quoted_denoted : (inner : List ℕ) (word : Word) → SpellsQuoted inner word → denoted inner Between ≡ Some word
quoted_denoted inner word s = ap (λ xs. denoted xs Between) s.inner_is ∙ items_denoted s.items s.each ∙ ap (λ w. Some w) (sym s.word_is)

pub all_plain : (inner : List ℕ) → list_all is_plain inner ≡ true → denoted inner Between ≡ Some inner
all_plain inner h =
    let none = append-nil inner in
    sym (ap (λ xs. denoted xs Between) none) ∙ plain_denoted inner [] h ∙ ap (λ xs. Some xs) none
