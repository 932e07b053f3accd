-- The parts of a script's lines: what stands at one place of a line, and the words that stand for it.
use Rattle.std.specs.Prelude.{◌≡◌, ℕ, ◌^◌, ◌<◌, ◌≤◌, ℤ, Bool, true, false, List, [], ◌∷◌, Option, Some, None, map, codes, decimal, IsUtf8, FitsSigned}
use Rattle.std.specs.Fmt.{signed_decimal}
use Rattle.std.specs.Int.{w32}
use Rattle.std.specs.List.{flat_map, join_with_byte}
use Rattle.res_path.specs.Names.{IsName}
use Rattle.res_path.specs.Paths.{Names, IsPath, path_text}
use Rattle.sched_rules.specs.declared.ws_atom.WsAtom.{WsAtom}
use Rattle.sched_rules.specs.declared.ws_atom.WsAtom.TheVariants.{Path, Mutex, Lines}
use Rattle.sched_rules.specs.Atoms.{atom_contains, atom_cmp}
use Rattle.sched_rules.specs.Rules.{rule_of}
use Rattle.mark_set.specs.declared.value.RawValue.{RawValue}
use Rattle.mark_set.specs.declared.value.RawValue.TheVariants.{Int as IntValue, Bool as BoolValue, Text as TextValue}
use Rattle.ws_elem.specs.declared.depth.Depth.{Depth}
use Rattle.ws_elem.specs.declared.depth.Depth.TheVariants.{Zero, One, Infinite}
use Rattle.script_words.specs.declared.words.Token.{Token}
use Rattle.script_words.specs.Words.{Word, word_text}

-- what stands at one place of a line: a keyword, a number of so many bits that is no less than another, an integer, a
-- name, a path, a text, or any word
pub data Part : Type 0 where
  keyword : List ℕ → Part
  a_number : ℕ → ℕ → ℕ → Part
  an_integer : ℤ → Part
  a_name : List ℕ → Part
  a_path : Names → Part
  a_text : List ℕ → Part
  a_word : Word → Part

-- a number of so many bits that is no less than this one
pub record IsNumber (bits least number : ℕ) : Type 0 where
  pub reaches : least ≤ number
  pub fits : number < 2 ^ bits

-- the token stands for the part: keywords and numbers stand bare
abbrev pub FitsPart : Token → Part → Type 0
FitsPart token (keyword text) = (token.bare ≡ true) × (token.word ≡ text)
FitsPart token (a_number bits least number) = IsNumber bits least number × (token.bare ≡ true) × (token.word ≡ decimal number)
FitsPart token (an_integer integer) = FitsSigned w32 integer × (token.bare ≡ true) × (token.word ≡ signed_decimal integer)
FitsPart token (a_name name) = IsName name × (token.word ≡ name)
FitsPart token (a_path path) = IsPath path × (token.word ≡ path_text path)
FitsPart token (a_text text) = IsUtf8 text × (token.word ≡ text)
FitsPart token (a_word word) = token.word ≡ word

-- the tokens stand for the parts, one by one
abbrev pub FitsParts : List Token → List Part → Type 0
FitsParts [] [] = Unit {0}
FitsParts (token ∷ tokens) (part ∷ parts) = FitsPart token part × FitsParts tokens parts
FitsParts [] (part ∷ parts) = ⊥
FitsParts (token ∷ tokens) [] = ⊥

-- ---- how they are printed

-- the word that a part is
abbrev pub part_word : Part → Word
part_word (keyword text) = text
part_word (a_number bits least number) = decimal number
part_word (an_integer integer) = signed_decimal integer
part_word (a_name name) = name
part_word (a_path path) = path_text path
part_word (a_text text) = text
part_word (a_word word) = word

-- the words of the parts, with one space between
abbrev pub parts_text : List Part → List ℕ
parts_text parts = join_with_byte 32 (map word_text (map part_word parts))

-- ---- rules

-- the parts of an atom: of a range of lines the last is no less than the first
abbrev pub atom_parts : WsAtom → List Part
atom_parts (Path path) = keyword (codes "path") ∷ a_path path ∷ []
atom_parts (Mutex name) = keyword (codes "mutex") ∷ a_name name ∷ []
atom_parts (Lines file from to) = keyword (codes "lines") ∷ a_path file ∷ a_number 32 0 from ∷ a_number 32 from to ∷ []

-- the parts of a rule that is written with these atoms
abbrev pub rule_parts : List WsAtom → List Part
rule_parts [] = keyword (codes "null") ∷ []
rule_parts (atom ∷ atoms) = flat_map atom_parts (atom ∷ atoms)

-- the rule that is read where these atoms are written: those that others contain are dropped
abbrev pub rule_read : List WsAtom → List WsAtom
rule_read atoms = rule_of atom_cmp atom_contains atoms

-- ---- projects

-- the path of the project of this name
abbrev pub a_project : List ℕ → Part
a_project name = a_path (name ∷ [])

-- the path of the one project that is meant, if it is one
abbrev pub scope_parts : Option (List ℕ) → List Part
scope_parts None = []
scope_parts (Some name) = a_project name ∷ []

-- ---- switches, depths and attributes

abbrev pub switch_word : Bool → List ℕ
switch_word true = codes "on"
switch_word false = codes "off"

abbrev pub truth_word : Bool → List ℕ
truth_word true = codes "true"
truth_word false = codes "false"

abbrev pub depth_word : Depth → List ℕ
depth_word Zero = codes "0"
depth_word One = codes "1"
depth_word Infinite = codes "2"

abbrev pub value_parts : RawValue → List Part
value_parts (IntValue integer) = keyword (codes "int") ∷ an_integer integer ∷ []
value_parts (BoolValue truth) = keyword (codes "bool") ∷ keyword (truth_word truth) ∷ []
value_parts (TextValue text) = keyword (codes "text") ∷ a_text text ∷ []

abbrev pub attribute_parts : List ℕ × RawValue → List Part
attribute_parts attribute = a_text attribute.0 ∷ value_parts attribute.1

-- the value that an attribute gets, or `none` where it goes
abbrev pub set_parts : Option RawValue → List Part
set_parts None = keyword (codes "none") ∷ []
set_parts (Some value) = value_parts value
