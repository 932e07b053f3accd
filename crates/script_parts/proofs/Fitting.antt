-- Tokens and the parts that they stand for.
use Rattle.std.proofs.Common.{◌≡◌, suc, ◌+◌, ◌<◌, ◌≤◌, Bool, true, false, Option, Some, None, List, [], ◌∷◌, ◌++◌, length, refl, sym, ◌∙◌, ap, subst, append-nil, arith}
use Rattle.std.specs.Prelude.{◌==◌}
use Rattle.std.specs.List.{flat_map}
use Rattle.std.proofs.lemmas.Bool.Decides.{nat_tests}
use Rattle.std.proofs.lemmas.Grind.{flat_map-append}
use Rattle.mark_set.specs.declared.value.RawValue.{RawValue}
use Rattle.mark_set.specs.declared.value.RawValue.TheVariants.{Int as IntValue, Bool as BoolValue, Text as TextValue}
use Rattle.script_words.specs.declared.words.Token.{Token}
use Rattle.script_parts.specs.Parts.{Part, FitsParts, set_parts}
use Rattle.script_parts.specs.Inside.Found.{FitsFront, FitsNoFront}

pub fit_size : (tokens : List Token) (parts : List Part) → FitsParts tokens parts → length tokens ≡ length parts
fit_size [] [] h = refl
fit_size [] (part ∷ parts) h = absurd h
fit_size (token ∷ tokens) [] h = absurd h
fit_size (token ∷ tokens) (part ∷ parts) h = ap suc (fit_size tokens parts h.1)

pub no_tokens : (tokens : List Token) (empty : Bool) → empty ≡ (length tokens == 0) → empty ≡ true → tokens ≡ []
no_tokens [] empty h e = refl
no_tokens (token ∷ tokens) empty h e = let none : (length (token ∷ tokens) == 0) ≡ true = sym h ∙ e in absurd (let zero : length (token ∷ tokens) ≡ 0 = grind (arith, nat_tests) in omega (arith, zero))

pub some_tokens : (tokens : List Token) (empty : Bool) → empty ≡ (length tokens == 0) → empty ≡ false → 0 < length tokens
some_tokens [] empty h e = let wrong : true ≡ false = sym h ∙ e in cc
some_tokens (token ∷ tokens) empty h e = omega arith

-- ---- in front, and what is left

pub front_append : (tokens : List Token) (a b : List Part) (rest left : List Token) → FitsFront tokens a rest → FitsFront rest b left → FitsFront tokens (a ++ b) left
front_append tokens [] b rest left h g = subst (λ (tokens : List Token). FitsFront tokens b left) (sym h) g
front_append [] (part ∷ a) b rest left h g = absurd h
front_append (token ∷ tokens) (part ∷ a) b rest left h g = (h.0, front_append tokens a b rest left h.1 g)

pub front_whole : (tokens : List Token) (parts : List Part) (rest : List Token) → FitsFront tokens parts rest → rest ≡ [] → FitsParts tokens parts
front_whole [] [] rest h e = tt
front_whole (token ∷ tokens) [] rest h e = let none : token ∷ tokens ≡ [] = h ∙ e in cc
front_whole [] (part ∷ parts) rest h e = absurd h
front_whole (token ∷ tokens) (part ∷ parts) rest h e = (h.0, front_whole tokens parts rest h.1 e)

pub front_split : (tokens : List Token) (a b : List Part) → FitsParts tokens (a ++ b) → (rest : List Token) × FitsFront tokens a rest × FitsParts rest b
front_split tokens [] b h = (tokens, refl, h)
front_split [] (part ∷ a) b h = absurd h
front_split (token ∷ tokens) (part ∷ a) b h = let more = front_split tokens a b h.1 in (more.0, (h.0, more.1), more.2)

front_parted : (tokens : List Token) (a b : List Part) (rest : List Token) → FitsFront tokens (a ++ b) rest → (mid : List Token) × FitsFront tokens a mid × FitsFront mid b rest
front_parted tokens [] b rest h = (tokens, refl, h)
front_parted [] (part ∷ a) b rest h = absurd h
front_parted (token ∷ tokens) (part ∷ a) b rest h = let more = front_parted tokens a b rest h.1 in (more.0, (h.0, more.1), more.2)

front_size : (tokens : List Token) (parts : List Part) (rest : List Token) → FitsFront tokens parts rest → length tokens ≡ length parts + length rest
front_size tokens [] rest h = ap length h ∙ (omega arith)
front_size [] (part ∷ parts) rest h = absurd h
front_size (token ∷ tokens) (part ∷ parts) rest h = let more = front_size tokens parts rest h.1 in omega (arith, more)

pub front_shorter : (tokens : List Token) (part : Part) (parts : List Part) (rest : List Token) → FitsFront tokens (part ∷ parts) rest → length rest < length tokens
front_shorter tokens part parts rest h = let size = front_size tokens (part ∷ parts) rest h in omega (arith, size)

-- a setting has one word or two
set_length : (value : Option RawValue) → (1 ≤ length (set_parts value)) × (length (set_parts value) ≤ 2)
set_length None = (omega arith, omega arith)
set_length (Some (IntValue z)) = (omega arith, omega arith)
set_length (Some (BoolValue b)) = (omega arith, omega arith)
set_length (Some (TextValue text)) = (omega arith, omega arith)

pub set_some : (tokens : List Token) (value : Option RawValue) → FitsParts tokens (set_parts value) → 1 ≤ length tokens
set_some tokens value h = let size = fit_size tokens (set_parts value) h in omega (arith, size, (set_length value).0)

pub set_few : (tokens : List Token) (value : Option RawValue) → FitsParts tokens (set_parts value) → length tokens ≤ 2
set_few tokens value h = let size = fit_size tokens (set_parts value) h in omega (arith, size, (set_length value).1)

-- ---- values one after another

-- the tokens in front stand for one value at most
pub record IsReadOnce {X : Type 0} (parts : X → List Part) : Type 0 where
  pub some : (x : X) (rest : List Token) → FitsFront [] (parts x) rest → ⊥
  pub once : (tokens r s : List Token) (x y : X) → FitsFront tokens (parts x) r → FitsFront tokens (parts y) s → (x ≡ y) × (r ≡ s)

pub one_more : {X : Type 0} (parts : X → List Part) (tokens : List Token) (items : List X) (rest : List Token) (x : X) (more : List Token)
    → FitsFront tokens (flat_map parts items) rest → FitsFront rest (parts x) more → FitsFront tokens (flat_map parts (items ++ x ∷ [])) more
one_more parts tokens items rest x more h g =
    subst (λ (all : List Part). FitsFront tokens all more)
    (ap (λ (last : List Part). flat_map parts items ++ last) (sym (append-nil (parts x))) ∙ sym (flat_map-append parts items (x ∷ [])))
    (front_append tokens (flat_map parts items) (parts x) rest more h g)

-- what the tokens stand for begins with the values that were read
left : {X : Type 0} (parts : X → List Part) → IsReadOnce parts → (items all : List X) (tokens rest : List Token) → FitsFront tokens (flat_map parts items) rest → FitsParts tokens (flat_map parts all)
    → (others : List X) × (all ≡ items ++ others) × FitsParts rest (flat_map parts others)
left parts once [] all tokens rest h g = (all, refl, subst (λ (tokens : List Token). FitsParts tokens (flat_map parts all)) h g)
left parts once (x ∷ items) [] [] rest h g = let first = front_parted [] (parts x) (flat_map parts items) rest h in absurd (once.some x first.0 first.1)
left parts once (x ∷ items) [] (token ∷ tokens) rest h g = absurd g
left parts once (x ∷ items) (y ∷ all) tokens rest h g =
    let first = front_parted tokens (parts x) (flat_map parts items) rest h in
    let other = front_split tokens (parts y) (flat_map parts all) g in
    let same = once.once tokens first.0 other.0 x y first.1 other.1 in
    let more = left parts once items all first.0 rest first.2 (subst (λ (tokens : List Token). FitsParts tokens (flat_map parts all)) (sym same.1) other.2) in
    (more.0, (λ i. sym same.0 i ∷ more.1 i), more.2)

no_others : {X : Type 0} (parts : X → List Part) (rest : List Token) (others : List X) → FitsNoFront parts rest → 0 < length rest → FitsParts rest (flat_map parts others) → ⊥
no_others parts [] others n l h = omega (arith, l)
no_others parts (token ∷ rest) [] n l h = h
no_others parts (token ∷ rest) (y ∷ others) n l h = let first = front_split (token ∷ rest) (parts y) (flat_map parts others) h in n y first.0 first.1

-- where no value is in front of what is left, the tokens stand for none
pub stuck : {X : Type 0} (parts : X → List Part) → IsReadOnce parts → (items all : List X) (tokens rest : List Token) → FitsFront tokens (flat_map parts items) rest → FitsNoFront parts rest → 0 < length rest
    → FitsParts tokens (flat_map parts all) → ⊥
stuck parts once items all tokens rest h n l g = let more = left parts once items all tokens rest h g in no_others parts rest more.0 n l more.2
