-- What is promised of a form.
use Rattle.std.specs.Prelude.{◌≡◌, ◌⊎◌, ℕ, ◌+◌, ◌-◌, ◌≤◌, List, [], ◌∷◌, ◌++◌, length, take, Option, Some, Ok, Err, IsOk}
use Rattle.ws_wire.specs.Fields.{Input, Takes}
use Rattle.save_form.specs.declared.stop.Stop.{Stop}
use Rattle.save_form.specs.declared.stop.Stop.TheVariants.{Short, Bad}
use Rattle.save_form.specs.Forms.{Form, read_all}

-- What is read is spelled so and fits; and what fits is read back from its spelling, whatever stands behind it.
pub record Lawful {A : Type 0} (fits : A → Type 0) (form : Form A) : Type 0 where
  pub takes : (i j : Input) (a : A) → form.read i ≡ Ok (a, j) → Takes i (form.spell a) j × fits a
  pub again : (at : ℕ) (a : A) (rest : List ℕ) → fits a
      → form.read (record { at = at; left = form.spell a ++ rest }) ≡ Ok (a, record { at = at + length (form.spell a); left = rest })

-- each of a list fits behind the one before it
abbrev pub FitEach : {A : Type 0} → (Option A → A → Type 0) → Option A → List A → Type 0
FitEach fits before [] = Unit {0}
FitEach fits before (a ∷ more) = fits before a × FitEach fits (Some a) more

-- the place of a stop
abbrev pub place : Stop → ℕ
place (Short at) = at
place (Bad at) = at

-- the input up to a place
abbrev pub cut : ℕ → Input → Input
cut at i = record { at = i.at; left = take (at - i.at) i.left }

-- the input with more bytes behind it
abbrev pub longer : List ℕ → Input → Input
longer more i = record { at = i.at; left = i.left ++ more }

-- The place of a stop is the first at which reading can't go on: of the bytes before it alone, only more are wanting, at
-- that very place; and what can't stand there can't stand there whatever follows.
pub record StopsFirst {A : Type 0} (form : Form A) : Type 0 where
  pub low : (i : Input) (stop : Stop) → form.read i ≡ Err stop → i.at ≤ place stop
  pub first : (i : Input) (stop : Stop) → form.read i ≡ Err stop → form.read (cut (place stop) i) ≡ Err (Short (place stop))
  pub lasting : (more : List ℕ) (i : Input) (at : ℕ) → form.read i ≡ Err (Bad at) → form.read (longer more i) ≡ Err (Bad at)

-- a form that takes bytes: of none its first is wanting
abbrev pub TakesBytes : {A : Type 0} → Form A → Type 0
TakesBytes form = (at : ℕ) → form.read (record { at = at; left = [] }) ≡ Err (Short at)

-- The stop of a whole text is at the first place: the bytes before it alone are a text, or one that is cut short there; and
-- where what stands there can't, it can't whatever follows.
pub record IsFirst {A : Type 0} (form : Form A) (bytes : List ℕ) (stop : Stop) : Type 0 where
  pub first : (read_all form (take (place stop) bytes) ≡ Err (Short (place stop))) ⊎ IsOk (read_all form (take (place stop) bytes))
  pub lasting : (more : List ℕ) (at : ℕ) → stop ≡ Bad at → read_all form (bytes ++ more) ≡ Err (Bad at)
