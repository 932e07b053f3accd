-- The attribute and the atom in front of some tokens.
use Rattle.std.proofs.Common.{◌≡◌, ℕ, ◌<◌, ◌≤◌, ℤ, Bool, true, false, List, [], ◌∷◌, length, get_or, subst, FitsSigned, refl, sym, ◌∙◌, ap, arith}
use Rattle.std.specs.Prelude.{codes}
use Rattle.std.specs.Int.{w32}
use Rattle.std.specs.Fmt.{signed_decimal}
use Rattle.std.specs.List.{flat_map}
use Rattle.std.specs.Str.{bytes_eq}
use Rattle.std.specs.Str.Parse.{signed_digits_value}
use Rattle.std.proofs.lemmas.Fmt.{decimal_injective}
use Rattle.sched_rules.specs.declared.ws_atom.WsAtom.{WsAtom}
use Rattle.sched_rules.specs.declared.ws_atom.WsAtom.TheVariants.{Path, Mutex, Lines}
use Rattle.mark_set.specs.declared.value.RawValue.{RawValue}
use Rattle.mark_set.specs.declared.value.RawValue.TheVariants.{Int as IntValue, Bool as BoolValue, Text as TextValue}
use Rattle.script_words.specs.declared.words.Token.{Token}
use Rattle.script_words.specs.Words.{Word}
use Rattle.script_parts.specs.Parts.{keyword, a_number, FitsPart, FitsParts, atom_parts, rule_parts, attribute_parts, value_parts, truth_word}
use Rattle.script_parts.specs.Inside.Found.{FitsFront, FitsNoFront}
use Rattle.script_parts.proofs.Numbers.{integer_back}
use Rattle.script_parts.proofs.Paths.{same_path}
use Rattle.script_parts.proofs.Values.{truth_back}
use Rattle.script_parts.proofs.Fitting.{IsReadOnce, fit_size}

-- a word is one of two that differ
apart : (word a b : Word) → word ≡ a → word ≡ b → bytes_eq a a ≡ true → bytes_eq b a ≡ false → ⊥
apart word a b h g same other =
    let wrong : true ≡ false = sym same ∙ ap (λ (w : Word). bytes_eq w a) (sym h ∙ g) ∙ other in cc

same_integer : (y z : ℤ) → FitsSigned w32 y → FitsSigned w32 z → signed_decimal y ≡ signed_decimal z → y ≡ z
same_integer y z f g e = sym (integer_back y f) ∙ ap (signed_digits_value 10) e ∙ integer_back z g

same_truth : (b c : Bool) → truth_word b ≡ truth_word c → b ≡ c
same_truth b c e = sym (truth_back b) ∙ ap (λ (w : Word). bytes_eq w (codes "true")) e ∙ truth_back c

-- ---- attributes

same_value : (tokens r s : List Token) (v w : RawValue) → FitsFront tokens (value_parts v) r → FitsFront tokens (value_parts w) s → (v ≡ w) × (r ≡ s)
same_value [] r s (IntValue y) w h g = absurd h
same_value [] r s (BoolValue b) w h g = absurd h
same_value [] r s (TextValue t) w h g = absurd h
same_value (k ∷ []) r s (IntValue y) w h g = absurd h.1
same_value (k ∷ []) r s (BoolValue b) w h g = absurd h.1
same_value (k ∷ []) r s (TextValue t) w h g = absurd h.1
same_value (k ∷ m ∷ tokens) r s (IntValue y) (IntValue z) h g = (ap IntValue (same_integer y z h.1.0.0 g.1.0.0 (sym h.1.0.2 ∙ g.1.0.2)), sym h.1.1 ∙ g.1.1)
same_value (k ∷ m ∷ tokens) r s (IntValue y) (BoolValue c) h g = absurd (apart k.word (codes "int") (codes "bool") h.0.1 g.0.1 refl refl)
same_value (k ∷ m ∷ tokens) r s (IntValue y) (TextValue u) h g = absurd (apart k.word (codes "int") (codes "text") h.0.1 g.0.1 refl refl)
same_value (k ∷ m ∷ tokens) r s (BoolValue b) (IntValue z) h g = absurd (apart k.word (codes "bool") (codes "int") h.0.1 g.0.1 refl refl)
same_value (k ∷ m ∷ tokens) r s (BoolValue b) (BoolValue c) h g = (ap BoolValue (same_truth b c (sym h.1.0.1 ∙ g.1.0.1)), sym h.1.1 ∙ g.1.1)
same_value (k ∷ m ∷ tokens) r s (BoolValue b) (TextValue u) h g = absurd (apart k.word (codes "bool") (codes "text") h.0.1 g.0.1 refl refl)
same_value (k ∷ m ∷ tokens) r s (TextValue t) (IntValue z) h g = absurd (apart k.word (codes "text") (codes "int") h.0.1 g.0.1 refl refl)
same_value (k ∷ m ∷ tokens) r s (TextValue t) (BoolValue c) h g = absurd (apart k.word (codes "text") (codes "bool") h.0.1 g.0.1 refl refl)
same_value (k ∷ m ∷ tokens) r s (TextValue t) (TextValue u) h g = (ap TextValue (sym h.1.0.1 ∙ g.1.0.1), sym h.1.1 ∙ g.1.1)

same_attribute : (tokens r s : List Token) (a b : List ℕ × RawValue) → FitsFront tokens (attribute_parts a) r → FitsFront tokens (attribute_parts b) s → (a ≡ b) × (r ≡ s)
same_attribute [] r s a b h g = absurd h
same_attribute (t ∷ tokens) r s a b h g =
    let name = sym h.0.1 ∙ g.0.1 in
    let value = same_value tokens r s a.1 b.1 h.1 g.1 in
    ((λ i. (name i, value.0 i)), value.1)

pub attributes_once : IsReadOnce attribute_parts
attributes_once = record { some = λ a rest h. h; once = same_attribute }

-- ---- atoms

same_atom : (tokens r s : List Token) (a b : WsAtom) → FitsFront tokens (atom_parts a) r → FitsFront tokens (atom_parts b) s → (a ≡ b) × (r ≡ s)
same_atom [] r s (Path p) b h g = absurd h
same_atom [] r s (Mutex m) b h g = absurd h
same_atom [] r s (Lines f c d) b h g = absurd h
same_atom (k ∷ []) r s (Path p) b h g = absurd h.1
same_atom (k ∷ []) r s (Mutex m) b h g = absurd h.1
same_atom (k ∷ []) r s (Lines f c d) b h g = absurd h.1
same_atom (k ∷ m ∷ tokens) r s (Path p) (Path q) h g = (ap Path (same_path p q h.1.0.0 g.1.0.0 (sym h.1.0.1 ∙ g.1.0.1)), sym h.1.1 ∙ g.1.1)
same_atom (k ∷ m ∷ tokens) r s (Path p) (Mutex o) h g = absurd (apart k.word (codes "path") (codes "mutex") h.0.1 g.0.1 refl refl)
same_atom (k ∷ m ∷ tokens) r s (Path p) (Lines e c d) h g = absurd (apart k.word (codes "path") (codes "lines") h.0.1 g.0.1 refl refl)
same_atom (k ∷ m ∷ tokens) r s (Mutex n) (Path q) h g = absurd (apart k.word (codes "mutex") (codes "path") h.0.1 g.0.1 refl refl)
same_atom (k ∷ m ∷ tokens) r s (Mutex n) (Mutex o) h g = (ap Mutex (sym h.1.0.1 ∙ g.1.0.1), sym h.1.1 ∙ g.1.1)
same_atom (k ∷ m ∷ tokens) r s (Mutex n) (Lines e c d) h g = absurd (apart k.word (codes "mutex") (codes "lines") h.0.1 g.0.1 refl refl)
same_atom (k ∷ m ∷ tokens) r s (Lines f a b) (Path q) h g = absurd (apart k.word (codes "lines") (codes "path") h.0.1 g.0.1 refl refl)
same_atom (k ∷ m ∷ tokens) r s (Lines f a b) (Mutex o) h g = absurd (apart k.word (codes "lines") (codes "mutex") h.0.1 g.0.1 refl refl)
same_atom (k ∷ m ∷ []) r s (Lines f a b) (Lines e c d) h g = absurd h.1.1
same_atom (k ∷ m ∷ t ∷ []) r s (Lines f a b) (Lines e c d) h g = absurd h.1.1.1
same_atom (k ∷ m ∷ t ∷ u ∷ tokens) r s (Lines f a b) (Lines e c d) h g =
    let file = same_path f e h.1.0.0 g.1.0.0 (sym h.1.0.1 ∙ g.1.0.1) in
    let first = decimal_injective a c (omega (arith, h.1.1.0.0.fits)) (omega (arith, g.1.1.0.0.fits)) (sym h.1.1.0.2 ∙ g.1.1.0.2) in
    let last = decimal_injective b d (omega (arith, h.1.1.1.0.0.fits)) (omega (arith, g.1.1.1.0.0.fits)) (sym h.1.1.1.0.2 ∙ g.1.1.1.0.2) in
    ((λ i. Lines (file i) (first i) (last i)), sym h.1.1.1.1 ∙ g.1.1.1.1)

no_atom : (a : WsAtom) (rest : List Token) → FitsFront [] (atom_parts a) rest → ⊥
no_atom (Path p) rest h = h
no_atom (Mutex m) rest h = h
no_atom (Lines f c d) rest h = h

pub atoms_once : IsReadOnce atom_parts
atoms_once = record { some = no_atom; once = same_atom }

-- a number that is no range's last
pub no_range : (kind place first last : Token) (tokens : List Token) (from : ℕ) → first ≡ get_or tokens 0 first → last ≡ get_or tokens 1 last → 2 ≤ length tokens
    → FitsPart kind (keyword (codes "lines")) → FitsPart first (a_number 32 0 from) → ((to : ℕ) → FitsPart last (a_number 32 from to) → ⊥) → FitsNoFront atom_parts (kind ∷ place ∷ tokens)
no_range kind place first last [] from e f l k h n = absurd (omega (arith, l))
no_range kind place first last (t ∷ []) from e f l k h n = absurd (omega (arith, l))
no_range kind place first last (t ∷ u ∷ tokens) from e f l k h n = by
  where
    by : (x : WsAtom) (rest : List Token) → FitsFront (kind ∷ place ∷ t ∷ u ∷ tokens) (atom_parts x) rest → ⊥
    by (Path p) rest g = apart kind.word (codes "lines") (codes "path") k.1 g.0.1 refl refl
    by (Mutex m) rest g = apart kind.word (codes "lines") (codes "mutex") k.1 g.0.1 refl refl
    by (Lines file a b) rest g =
        let number = subst (λ (first : Token). FitsPart first (a_number 32 0 from)) e h in
        let same = decimal_injective a from (omega (arith, g.1.1.0.0.fits)) (omega (arith, number.0.fits)) (sym g.1.1.0.2 ∙ number.2) in
        n b (subst (λ (last : Token). FitsPart last (a_number 32 from b)) (sym f) (subst (λ (a : ℕ). FitsPart u (a_number 32 a b)) same g.1.1.1.0))

-- more words than one name atoms
pub many : (tokens : List Token) (atoms : List WsAtom) → 1 < length tokens → FitsParts tokens (rule_parts atoms) → FitsParts tokens (flat_map atom_parts atoms)
many tokens [] l h = let size = fit_size tokens (rule_parts []) h in absurd (omega (arith, l, size))
many tokens (atom ∷ atoms) l h = h

pub as_rule : (tokens : List Token) (atoms : List WsAtom) → 1 < length tokens → FitsParts tokens (flat_map atom_parts atoms) → FitsParts tokens (rule_parts atoms)
as_rule tokens [] l h = let size = fit_size tokens [] h in absurd (omega (arith, l, size))
as_rule tokens (atom ∷ atoms) l h = h
