-- Of participants of one name the first.
use Rattle.std.specs.Prelude.{ℕ, zero, suc, Bool, not, if◌then◌else◌, List, [], ◌∷◌}
use Rattle.std.specs.List.{list_any}
use Rattle.std.specs.Str.{bytes_eq}
use Rattle.save_round.specs.Told.{Call, Told, HadCalls}

-- of each, whether it is the first of its name, where these names came before
abbrev pub firsts_after : List (List ℕ) → List Told → List Bool
firsts_after before [] = []
firsts_after before (x ∷ xs) = not (list_any (λ name. bytes_eq name x.named) before) ∷ firsts_after (x.named ∷ before) xs

-- of each, whether it is the first of its name
abbrev pub firsts : List Told → List Bool
firsts all = firsts_after [] all

-- each that is marked had the calls that are given for its place, one after another, and the others had none
abbrev pub HadWhere : List Bool → (ℕ → List Call) → List Told → List Told → Type 0
HadWhere [] calls [] [] = Unit {0}
HadWhere [] calls [] (y ∷ ys) = ⊥
HadWhere [] calls (x ∷ xs) ys = ⊥
HadWhere (b ∷ bs) calls [] ys = ⊥
HadWhere (b ∷ bs) calls (x ∷ xs) [] = ⊥
HadWhere (b ∷ bs) calls (x ∷ xs) (y ∷ ys) = HadCalls (if b then calls 0 else []) x y × HadWhere bs (λ place. calls (suc place)) xs ys

-- the first of each name had the calls that are given for its place, one after another, and no other had any
abbrev pub FirstsHad : (ℕ → List Call) → List Told → List Told → Type 0
FirstsHad calls old new = HadWhere (firsts old) calls old new

-- one thing before a place, another at it, and a third one after it
abbrev pub by_place : {A : Type 0} → ℕ → A → A → A → ℕ → A
by_place zero before here after zero = here
by_place zero before here after (suc place) = after
by_place (suc at) before here after zero = before
by_place (suc at) before here after (suc place) = by_place at before here after place
