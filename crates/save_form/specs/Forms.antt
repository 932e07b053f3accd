-- Forms: how values are spelled in bytes, and how they are read from the front of an input. A grammar is built of the few
-- forms here and in Lists.
use Rattle.std.specs.Prelude.{ℕ, zero, suc, ◌+◌, Bool, false, true, List, [], ◌++◌, length, take, drop, Option, Some, None, is_some, Result, Ok, Err, bytes_eq, ◌==◌, if◌then◌else◌}
use Rattle.byteorder.specs.Endian.{big_number}
use Rattle.ws_wire.specs.Fields.{Input, number_field, text_field}
use Rattle.save_form.specs.declared.stop.Stop.{Stop}
use Rattle.save_form.specs.declared.stop.Stop.TheVariants.{Short, Bad}

-- what reading gives: a value and the input behind it, or where it can't go on
abbrev pub Reading : Type 0 → Type 0
Reading A = Result (A × Input) Stop

-- how values are spelled, and how they are read
pub record Form (A : Type 0) : Type 0 where
  pub spell : A → List ℕ
  pub read : Input → Reading A

-- one step of reading, and the next
infixl 10 ◌>>=◌
abbrev pub ◌>>=◌ : {A B : Type 0} → Reading A → (A × Input → Reading B) → Reading B
(Ok x) >>= next = next x
(Err stop) >>= next = Err stop

-- the input behind that many bytes
abbrev pub behind : ℕ → Input → Input
behind n i = record { at = i.at + n; left = drop n i.left }

-- ---- fields

-- Reads the value that the bytes at the front mean, where these begin with its spelling; else there are too few of them.
abbrev pub read_field : {A : Type 0} → (A → List ℕ) → (List ℕ → A) → Input → Reading A
read_field spell meant i = let field = spell (meant i.left) in
    if bytes_eq field (take (length field) i.left) then Ok (meant i.left, behind (length field) i) else Err (Short i.at)

-- a number of that many bytes
unfoldable pub number : ℕ → Form ℕ
number width = record { spell = number_field width; read = read_field (number_field width) (big_number width) }

-- the text that bytes mean which begin with its length
abbrev pub text_meant : List ℕ → List ℕ
text_meant bytes = take (big_number 4 bytes) (drop 4 bytes)

-- a text behind its length
unfoldable pub text : Form (List ℕ)
text = record { spell = text_field; read = read_field text_field text_meant }

-- no bytes at all, which mean always the same
abbrev pub nothing : {A : Type 0} → A → Form A
nothing a = record { spell = λ _. []; read = λ i. Ok (a, i) }

-- ---- forms of other forms

-- one value, and another behind it, whose form may rest on the first
abbrev pub pair : {A B : Type 0} → Form A → (A → Form B) → Form (A × B)
pair f g = record {
  spell = λ x. f.spell x.0 ++ (g x.0).spell x.1;
  read = λ i. f.read i >>= λ x. (g x.0).read x.1 >>= λ y. Ok ((x.0, y.0), y.1);
}

-- the values that pass a test; any other can't stand at its first byte
abbrev pub checked : {A : Type 0} → (A → Bool) → Form A → Form A
checked test f = record { spell = f.spell; read = λ i. f.read i >>= λ x. if test x.0 then Ok x else Err (Bad i.at) }

-- the values of a form, seen as others, one for one
abbrev pub seen_as : {A B : Type 0} → (A → B) → (B → A) → Form A → Form B
seen_as to from f = record { spell = λ b. f.spell (from b); read = λ i. f.read i >>= λ x. Ok (to x.0, x.1) }

-- the values that can be made of a form's; where none can be made, it can't stand at its first byte
abbrev pub made_at : {B : Type 0} → ℕ → Option B → Input → Reading B
made_at at None i = Err (Bad at)
made_at at (Some b) i = Ok (b, i)

abbrev pub made : {A B : Type 0} → (A → Option B) → (B → A) → Form A → Form B
made to from f = record { spell = λ b. f.spell (from b); read = λ i. f.read i >>= λ x. made_at i.at (to x.0) x.1 }

-- the values of a form, seen as those of one case of a wider type
abbrev pub spell_some : {A : Type 0} → Form A → Option A → List ℕ
spell_some f None = []
spell_some f (Some a) = f.spell a

abbrev pub as_case : {A B : Type 0} → (A → B) → (B → Option A) → Form A → Form B
as_case to from f = record { spell = λ b. spell_some f (from b); read = λ i. f.read i >>= λ x. Ok (to x.0, x.1) }

-- one of several: a tag that tells of which sort a value is, and the value by the form of its sort
abbrev pub one_of : {S A : Type 0} → Form S → (A → S) → (S → Form A) → Form A
one_of tag sort forms = seen_as (λ x. x.1) (λ a. (sort a, a)) (pair tag forms)

-- ---- flags

abbrev pub flag_of : ℕ → Option Bool
flag_of zero = Some false
flag_of (suc zero) = Some true
flag_of (suc (suc n)) = None

abbrev pub flag_number : Bool → ℕ
flag_number false = 0
flag_number true = 1

-- a flag: one byte, 0 or 1
abbrev pub flag : Form Bool
flag = made flag_of flag_number (number 1)

abbrev pub where_on : {A : Type 0} → Form A → Bool → Form (Option A)
where_on f false = nothing None
where_on f true = as_case Some (λ o. o) f

-- a flag, and a value where it is on
abbrev pub optional : {A : Type 0} → Form A → Form (Option A)
optional f = one_of flag is_some (where_on f)

-- ---- whole texts

-- what was read, where nothing is left; what is left can't stand there
abbrev pub ended : {A : Type 0} → Reading A → Result A Stop
ended (Ok x) = if length x.1.left == 0 then Ok x.0 else Err (Bad x.1.at)
ended (Err stop) = Err stop

-- the value that all of these bytes spell, or the place at which they can't go on
abbrev pub read_all : {A : Type 0} → Form A → List ℕ → Result A Stop
read_all f bytes = ended (f.read (record { at = 0; left = bytes }))
