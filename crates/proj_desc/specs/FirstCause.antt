-- The first of some causes that applies.
use Rattle.std.specs.Prelude.{Bool, if◌then◌else◌, List, [], ◌∷◌, Option, Some, None}
use Rattle.std.specs.Option.{option_or}

-- the cause, where it applies
abbrev pub when : {C : Type 0} → Bool → C → Option C
when applies c = if applies then Some c else None

-- the first cause that applies
abbrev pub first_cause : {C : Type 0} → List (Option C) → Option C
first_cause [] = None
first_cause (c ∷ cs) = option_or c (first_cause cs)
