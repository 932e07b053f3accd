-- Values that are found in the tokens of a line.
use Rattle.std.specs.Prelude.{◌≡◌, List, [], ◌∷◌, Option, Some, None}
use Rattle.sched_rules.specs.declared.ws_atom.WsAtom.{WsAtom}
use Rattle.script_words.specs.declared.words.Token.{Token}
use Rattle.script_parts.specs.Parts.{Part, FitsPart, FitsParts, rule_parts, rule_read}

-- the value whose parts the tokens are, or none where there is none
abbrev pub IsFound : {X : Type 0} → (X → List Part) → List Token → Option X → Type 0
IsFound {X} parts tokens None = (x : X) → FitsParts tokens (parts x) → ⊥
IsFound {X} parts tokens (Some x) = FitsParts tokens (parts x)

-- the same of two values and of three
abbrev pub IsPairFound : {X Y : Type 0} → (X → Y → List Part) → List Token → Option (X × Y) → Type 0
IsPairFound {X} {Y} parts tokens None = (x : X) (y : Y) → FitsParts tokens (parts x y) → ⊥
IsPairFound {X} {Y} parts tokens (Some found) = FitsParts tokens (parts found.0 found.1)

abbrev pub IsTripleFound : {X Y Z : Type 0} → (X → Y → Z → List Part) → List Token → Option (X × Y × Z) → Type 0
IsTripleFound {X} {Y} {Z} parts tokens None = (x : X) (y : Y) (z : Z) → FitsParts tokens (parts x y z) → ⊥
IsTripleFound {X} {Y} {Z} parts tokens (Some found) = FitsParts tokens (parts found.0 found.1 found.2)

-- the value whose part the token is, or none where there is none
abbrev pub IsPartFound : {X : Type 0} → (X → Part) → Token → Option X → Type 0
IsPartFound {X} part token None = (x : X) → FitsPart token (part x) → ⊥
IsPartFound {X} part token (Some x) = FitsPart token (part x)

-- the tokens begin with those of the parts, and these are left
abbrev pub FitsFront : List Token → List Part → List Token → Type 0
FitsFront tokens [] rest = tokens ≡ rest
FitsFront [] (part ∷ parts) rest = ⊥
FitsFront (token ∷ tokens) (part ∷ parts) rest = FitsPart token part × FitsFront tokens parts rest

-- the tokens begin with those of no such value
abbrev pub FitsNoFront : {X : Type 0} → (X → List Part) → List Token → Type 0
FitsNoFront {X} parts tokens = (x : X) (rest : List Token) → FitsFront tokens (parts x) rest → ⊥

-- the rule that the tokens name, or none where they name none: they are the parts of atoms of which it is the rule
abbrev pub IsRuleFound : List Token → Option (List WsAtom) → Type 0
IsRuleFound tokens None = (atoms : List WsAtom) → FitsParts tokens (rule_parts atoms) → ⊥
IsRuleFound tokens (Some rule) = (atoms : List WsAtom) × (rule_read atoms ≡ rule) × FitsParts tokens (rule_parts atoms)
