-- Orders worked by hand.
use Rattle.std.proofs.Common.{◌≡◌, ℕ, List, [], ◌∷◌, refl}
use Rattle.build_plan.specs.Ordered.{ordered}

abbrev a : List ℕ
a = 97 ∷ []

abbrev b : List ℕ
b = 98 ∷ []

abbrev c : List ℕ
c = 99 ∷ []

no_projects : ordered [] ≡ []
no_projects = refl

-- without references by name
by_name : ordered ((a, []) ∷ (b, []) ∷ []) ≡ (a ∷ []) ∷ (b ∷ []) ∷ []
by_name = refl

-- each refers to the next
chain : ordered ((a, b ∷ []) ∷ (b, c ∷ []) ∷ (c, []) ∷ []) ≡ (c ∷ []) ∷ (b ∷ []) ∷ (a ∷ []) ∷ []
chain = refl

-- a and c refer to each other, and b to one of them
knot_first : ordered ((a, c ∷ []) ∷ (b, c ∷ []) ∷ (c, a ∷ []) ∷ []) ≡ (a ∷ c ∷ []) ∷ (b ∷ []) ∷ []
knot_first = refl

-- a and c refer to each other, and one of them to b
knot_last : ordered ((a, c ∷ []) ∷ (b, []) ∷ (c, a ∷ b ∷ []) ∷ []) ≡ (b ∷ []) ∷ (a ∷ c ∷ []) ∷ []
knot_last = refl

-- what is referred to and is no project doesn't count
stranger : ordered ((a, b ∷ []) ∷ []) ≡ (a ∷ []) ∷ []
stranger = refl
