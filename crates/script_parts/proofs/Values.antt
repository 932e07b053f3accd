-- The values that some words are.
use Rattle.std.proofs.Common.{◌≡◌, ℕ, zero, suc, ℤ, Bool, true, false, Option, Some, None, List, [], ◌∷◌, ◌++◌, map, drop, FitsSigned, append-nil, refl, ◌∙◌, ap, arith}
use Rattle.std.specs.Prelude.{codes, if◌then◌else◌}
use Rattle.std.specs.Int.{w32}
use Rattle.std.specs.List.{flat_map, AllByRecursion}
use Rattle.std.specs.Str.{bytes_eq}
use Rattle.std.specs.Str.Parse.{digits_value, signed_digits_value}
use Rattle.res_path.specs.Names.{IsName}
use Rattle.res_path.specs.Paths.{Names, IsPath}
use Rattle.sched_rules.specs.declared.ws_atom.WsAtom.{WsAtom}
use Rattle.sched_rules.specs.declared.ws_atom.WsAtom.TheVariants.{Path, Mutex, Lines}
use Rattle.mark_set.specs.declared.value.RawValue.{RawValue}
use Rattle.mark_set.specs.declared.value.RawValue.TheVariants.{Int as IntValue, Bool as BoolValue, Text as TextValue}
use Rattle.ws_elem.specs.declared.depth.Depth.{Depth}
use Rattle.ws_elem.specs.declared.depth.Depth.TheVariants.{Zero, One, Infinite}
use Rattle.script_words.specs.declared.words.Token.{Token}
use Rattle.script_words.specs.Words.{Word}
use Rattle.script_parts.specs.Parts.{Part, keyword, a_number, an_integer, a_name, a_path, a_text, a_word, IsNumber, FitsPart, FitsParts, atom_parts, rule_parts, value_parts, attribute_parts, scope_parts, set_parts, truth_word, part_word}
use Rattle.script_parts.proofs.Numbers.{number_back, integer_back}
use Rattle.script_parts.proofs.Paths.{path_at, path_back}

-- what stands behind the first of these words that the word is
abbrev pub chosen : {X : Type 0} → Word → List (Word × X) → X → X
chosen word [] other = other
chosen word (row ∷ rows) other = if bytes_eq word row.0 then row.1 else chosen word rows other

abbrev pub depth_at : Word → Depth
depth_at word = chosen word ((codes "0", Zero) ∷ (codes "1", One) ∷ []) Infinite

abbrev pub nth : ℕ → List Word → Word
nth n [] = []
nth zero (word ∷ words) = word
nth (suc n) (word ∷ words) = nth n words

abbrev pub value_at : Word → Word → RawValue
value_at kind word = chosen kind ((codes "int", IntValue (signed_digits_value 10 word)) ∷ (codes "bool", BoolValue (bytes_eq word (codes "true"))) ∷ []) (TextValue word)

abbrev pub attributes_at : List Word → List (List ℕ × RawValue)
attributes_at [] = []
attributes_at (name ∷ []) = []
attributes_at (name ∷ kind ∷ []) = []
attributes_at (name ∷ kind ∷ word ∷ words) = (name, value_at kind word) ∷ attributes_at words

-- the project of which the word, where there is one, is the path
abbrev pub scope_at : List Word → Option (List ℕ)
scope_at [] = None
scope_at (word ∷ words) = Some (drop 1 word)

-- what an attribute is set to
abbrev pub change_at : List Word → Option RawValue
change_at [] = None
change_at (word ∷ []) = None
change_at (kind ∷ word ∷ words) = Some (value_at kind word)

abbrev pub short_at : Word → Word → WsAtom
short_at kind place = chosen kind ((codes "path", Path (path_at place)) ∷ []) (Mutex place)

abbrev pub atoms_at : List Word → List WsAtom
atoms_at [] = []
atoms_at (kind ∷ []) = []
atoms_at (kind ∷ place ∷ []) = short_at kind place ∷ []
atoms_at (kind ∷ place ∷ from ∷ []) = short_at kind place ∷ []
atoms_at (kind ∷ place ∷ from ∷ to ∷ words) = if bytes_eq kind (codes "lines")
    then Lines (path_at place) (digits_value 10 from) (digits_value 10 to) ∷ atoms_at words
    else short_at kind place ∷ atoms_at (from ∷ to ∷ words)

abbrev pub IsNamed : Part → Type 0
IsNamed (keyword text) = Unit {0}
IsNamed (a_number bits least number) = IsNumber bits least number
IsNamed (an_integer integer) = FitsSigned w32 integer
IsNamed (a_name name) = IsName name
IsNamed (a_path path) = IsPath path
IsNamed (a_text text) = Unit {0}
IsNamed (a_word word) = Unit {0}

abbrev pub AreNamed : List Part → Type 0
AreNamed parts = AllByRecursion IsNamed parts

abbrev pub words_of : List Part → List Word
words_of parts = map part_word parts

pub behind : (a b : List Part) → AreNamed (a ++ b) → AreNamed b
behind [] b h = h
behind (part ∷ a) b h = behind a b h.1

pub truth_back : (b : Bool) → bytes_eq (truth_word b) (codes "true") ≡ b
truth_back true = refl
truth_back false = refl

pub value_back : (v : RawValue) (more : List Part) → AreNamed (value_parts v ++ more) → (name : List ℕ)
    → attributes_at (words_of (a_text name ∷ (value_parts v ++ more))) ≡ (name, v) ∷ attributes_at (words_of more)
value_back (IntValue z) more h name = ap (λ (z : ℤ). (name, IntValue z) ∷ attributes_at (words_of more)) (integer_back z h.1.0)
value_back (BoolValue b) more h name = ap (λ (b : Bool). (name, BoolValue b) ∷ attributes_at (words_of more)) (truth_back b)
value_back (TextValue text) more h name = refl

pub attributes_back : (attributes : List (List ℕ × RawValue)) → AreNamed (flat_map attribute_parts attributes) → attributes_at (words_of (flat_map attribute_parts attributes)) ≡ attributes
attributes_back [] h = refl
attributes_back (attribute ∷ attributes) h =
    let more = flat_map attribute_parts attributes in
    value_back attribute.1 more h.1 attribute.0
    ∙ ap (λ (rest : List (List ℕ × RawValue)). attribute ∷ rest) (attributes_back attributes (behind (attribute_parts attribute) more h))

pub change_back : (value : Option RawValue) → AreNamed (set_parts value) → change_at (words_of (set_parts value)) ≡ value
change_back None h = refl
change_back (Some (IntValue z)) h = ap (λ (z : ℤ). Some (IntValue z)) (integer_back z h.1.0)
change_back (Some (BoolValue b)) h = ap (λ (b : Bool). Some (BoolValue b)) (truth_back b)
change_back (Some (TextValue text)) h = refl

pub scope_back : (project : Option (List ℕ)) → scope_at (words_of (scope_parts project)) ≡ project
scope_back None = refl
scope_back (Some name) = ap Some (append-nil name)

pub atoms_back : (atoms : List WsAtom) → AreNamed (flat_map atom_parts atoms) → atoms_at (words_of (flat_map atom_parts atoms)) ≡ atoms
atoms_back [] h = refl
atoms_back (Path p ∷ []) h = ap (λ (p : Names). Path p ∷ []) (path_back p h.1.0)
atoms_back (Path p ∷ Path q ∷ atoms) h = λ i. Path (path_back p h.1.0 i) ∷ atoms_back (Path q ∷ atoms) h.1.1 i
atoms_back (Path p ∷ Mutex m ∷ atoms) h = λ i. Path (path_back p h.1.0 i) ∷ atoms_back (Mutex m ∷ atoms) h.1.1 i
atoms_back (Path p ∷ Lines f a b ∷ atoms) h = λ i. Path (path_back p h.1.0 i) ∷ atoms_back (Lines f a b ∷ atoms) h.1.1 i
atoms_back (Mutex n ∷ []) h = refl
atoms_back (Mutex n ∷ Path q ∷ atoms) h = λ i. Mutex n ∷ atoms_back (Path q ∷ atoms) h.1.1 i
atoms_back (Mutex n ∷ Mutex m ∷ atoms) h = λ i. Mutex n ∷ atoms_back (Mutex m ∷ atoms) h.1.1 i
atoms_back (Mutex n ∷ Lines f a b ∷ atoms) h = λ i. Mutex n ∷ atoms_back (Lines f a b ∷ atoms) h.1.1 i
atoms_back (Lines f a b ∷ atoms) h =
    let first = number_back a (omega (arith, h.1.1.0.fits)) in
    let last = number_back b (omega (arith, h.1.1.1.0.fits)) in
    λ i. Lines (path_back f h.1.0 i) (first i) (last i) ∷ atoms_back atoms h.1.1.1.1 i

pub rule_back : (atoms : List WsAtom) → AreNamed (rule_parts atoms) → atoms_at (words_of (rule_parts atoms)) ≡ atoms
rule_back [] h = refl
rule_back (atom ∷ atoms) h = atoms_back (atom ∷ atoms) h

pub fit_word : (token : Token) (part : Part) → FitsPart token part → token.word ≡ part_word part
fit_word token (keyword text) h = h.1
fit_word token (a_number bits least number) h = h.2
fit_word token (an_integer integer) h = h.2
fit_word token (a_name name) h = h.1
fit_word token (a_path path) h = h.1
fit_word token (a_text text) h = h.1
fit_word token (a_word word) h = h

pub fit_named : (token : Token) (part : Part) → FitsPart token part → IsNamed part
fit_named token (keyword text) h = tt
fit_named token (a_number bits least number) h = h.0
fit_named token (an_integer integer) h = h.0
fit_named token (a_name name) h = h.0
fit_named token (a_path path) h = h.0
fit_named token (a_text text) h = tt
fit_named token (a_word word) h = tt

pub fit_words : (tokens : List Token) (parts : List Part) → FitsParts tokens parts → map (λ (t : Token). t.word) tokens ≡ words_of parts
fit_words [] [] h = refl
fit_words [] (part ∷ parts) h = absurd h
fit_words (token ∷ tokens) [] h = absurd h
fit_words (token ∷ tokens) (part ∷ parts) h = let rest = fit_words tokens parts h.1 in λ i. fit_word token part h.0 i ∷ rest i

pub fit_all_named : (tokens : List Token) (parts : List Part) → FitsParts tokens parts → AreNamed parts
fit_all_named [] [] h = tt
fit_all_named [] (part ∷ parts) h = absurd h
fit_all_named (token ∷ tokens) [] h = absurd h
fit_all_named (token ∷ tokens) (part ∷ parts) h = (fit_named token part h.0, fit_all_named tokens parts h.1)
