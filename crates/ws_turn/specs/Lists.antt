-- Words on lists of entries and of numbers.
use Rattle.std.specs.Prelude.{Bool, ◌≡◌, ℕ, List, [], ◌∷◌, ◌++◌, length, filter, eqb, nat_eq, nat_lt, true, if◌then◌else◌, Option, Some, None}
use Rattle.std.specs.List.{list_any}

-- the list begins with what was seen
abbrev pub StartsWith : {E : Type 0} → List E → List E → Type 0
StartsWith {E = E} xs seen = (rest : List E) × (xs ≡ seen ++ rest)

-- the longer of the two
abbrev pub longer : {E : Type 0} → List E → List E → List E
longer xs ys = if nat_lt (length xs) (length ys) then ys else xs

-- the entries of this number
abbrev pub of : {E : Type 0} → (E → ℕ) → ℕ → List E → List E
of by n h = filter (λ e. nat_eq (by e) n) h

-- whether the number stands in the list
abbrev pub has : ℕ → List ℕ → Bool
has n ns = list_any (eqb n) ns

abbrev pub put_before : Option ℕ → List ℕ → List ℕ
put_before None ns = ns
put_before (Some n) ns = n ∷ ns

-- the numbers that the entries give, in order
abbrev pub numbers : {E : Type 0} → (E → Option ℕ) → List E → List ℕ
numbers gives [] = []
numbers gives (e ∷ es) = put_before (gives e) (numbers gives es)

-- an entry gives the number
abbrev pub given : {E : Type 0} → (E → Option ℕ) → ℕ → List E → Bool
given gives n h = has n (numbers gives h)

-- the list has no entry of a number that stands in the other list
abbrev pub HasNoneOf : {E : Type 0} → (E → ℕ) → List ℕ → List E → Type 0
HasNoneOf by ns h = (n : ℕ) → has n ns ≡ true → of by n h ≡ []
