-- What lists of entries are made of.
use Rattle.std.specs.Prelude.{◌≡◌, ℕ, List, [], ◌∷◌, ◌++◌, map, filter, nat_eq}
use Rattle.core_event.specs.declared.entry.Entry.{Entry}
use Rattle.core_event.specs.declared.event.Event.{Event}
use Rattle.core_event.specs.declared.reply.Reply.{Reply}

abbrev pub entry : ℕ → Event → Reply → Entry
entry k e r = record { pass = k; event = e; reply = r }

-- the entries of one pass
abbrev pub own : ℕ → List Entry → List Entry
own k h = filter (λ (x : Entry). nat_eq x.pass k) h

-- who did what
abbrev pub acts : List Entry → List (ℕ × Event)
acts h = map (λ (x : Entry). (x.pass, x.event)) h

-- the beginning of such a list
abbrev pub Cut : (List Entry → Type 0) → List Entry → Type 0
Cut P h = (rest : List Entry) × P (h ++ rest)

-- the list grew by such entries
abbrev pub Grew : (List Entry → Type 0) → List Entry → List Entry → Type 0
Grew P m m' = (l : List Entry) × (m' ≡ m ++ l) × P l

-- the one list is the beginning of the other
abbrev pub Begins : List Entry → List Entry → Type 0
Begins a b = (rest : List Entry) × (b ≡ a ++ rest)

-- such a list for each, one after another
abbrev pub InTurn : {A : Type 0} → (A → List Entry → Type 0) → List A → List Entry → Type 0
InTurn P [] h = h ≡ []
InTurn P (x ∷ xs) h = (a : List Entry) × (b : List Entry) × (h ≡ a ++ b) × P x a × InTurn P xs b
