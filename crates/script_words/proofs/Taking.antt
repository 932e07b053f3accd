-- What lines that were taken leave of the spellings.
use Rattle.std.proofs.Common.{◌≡◌, ℕ, Bool, true, false, List, [], ◌∷◌, ◌++◌, refl, sym, ◌∙◌, ap, subst}
use Rattle.script_words.specs.Words.{Token, SpellsLine}
use Rattle.script_words.specs.Lines.{is_skipped, unskipped, SpellsEach, SpellsLines}
use Rattle.script_words.specs.Inside.Passing.{TakesLine}
use Rattle.script_words.proofs.Lined.{unskipped_append, keeps_line, same_first}
use Rattle.script_words.proofs.Tokens.{spells_once}

isnt_skipped : (line : List ℕ) (t : Bool) → is_skipped line ≡ t → (is_skipped line ≡ true → ⊥) → is_skipped line ≡ false
isnt_skipped line true e n = absurd (n e)
isnt_skipped line false e n = e

-- the line that was taken isn't skipped
pub taken_kept : (lines rest : List (List ℕ)) (tokens : List Token) (t : TakesLine lines tokens rest) → is_skipped t.line ≡ false
taken_kept lines rest tokens t = isnt_skipped t.line (is_skipped t.line) refl t.kept

-- it is the first such line
pub taken_first : (lines rest : List (List ℕ)) (tokens : List Token) (t : TakesLine lines tokens rest) → unskipped lines ≡ t.line ∷ unskipped rest
taken_first lines rest tokens t =
    ap unskipped t.lines_are ∙ unskipped_append t.passed (t.line ∷ rest) ∙ ap (λ front. front ++ unskipped (t.line ∷ rest)) t.skipped
    ∙ keeps_line t.line rest (taken_kept lines rest tokens t)

-- and it spells no other tokens
pub taken_tokens : (lines rest more : List (List ℕ)) (next : List ℕ) (tokens others : List Token) → TakesLine lines tokens rest → unskipped lines ≡ next ∷ more → SpellsLine next others → tokens ≡ others
taken_tokens lines rest more next tokens others t e s =
    let same = same_first t.line next (unskipped rest) more (sym (taken_first lines rest tokens t) ∙ e) in
    spells_once next tokens others (subst (λ (line : List ℕ). SpellsLine line tokens) same t.spelled) s

each_append : (front rest : List (List ℕ)) (tokens more : List (List Token)) → SpellsEach front tokens → SpellsEach rest more → SpellsEach (front ++ rest) (tokens ++ more)
each_append [] rest [] more h g = g
each_append [] rest (t ∷ tokens) more h g = absurd h
each_append (line ∷ front) rest [] more h g = absurd h
each_append (line ∷ front) rest (t ∷ tokens) more h g = (h.0, each_append front rest tokens more h.1 g)

pub spells_append : (front rest : List (List ℕ)) (tokens more : List (List Token)) → SpellsLines front tokens → SpellsLines rest more → SpellsLines (front ++ rest) (tokens ++ more)
spells_append front rest tokens more h g =
    subst (λ lines. SpellsEach lines (tokens ++ more)) (sym (unskipped_append front rest)) (each_append (unskipped front) (unskipped rest) tokens more h g)

each_rest : (a b : List (List ℕ)) (t all : List (List Token)) → SpellsEach a t → SpellsEach (a ++ b) all → (u : List (List Token)) × (all ≡ t ++ u) × SpellsEach b u
each_rest [] b [] all h g = (all, refl, g)
each_rest [] b (tokens ∷ t) all h g = absurd h
each_rest (line ∷ a) b [] all h g = absurd h
each_rest (line ∷ a) b (tokens ∷ t) [] h g = absurd g
each_rest (line ∷ a) b (tokens ∷ t) (others ∷ all) h g =
    let rest = each_rest a b t all h.1 g.1 in
    (rest.0, (λ i. spells_once line others tokens g.0 h.0 i ∷ rest.1 i), rest.2)

-- what lines spell begins with what those in front spell
pub spells_rest : (a b : List (List ℕ)) (t all : List (List Token)) → SpellsLines a t → SpellsLines (a ++ b) all → (u : List (List Token)) × (all ≡ t ++ u) × SpellsLines b u
spells_rest a b t all h g = each_rest (unskipped a) (unskipped b) t all h (subst (λ (lines : List (List ℕ)). SpellsEach lines all) (unskipped_append a b) g)

-- lines of which each is skipped spell nothing
pub spells_none : (lines : List (List ℕ)) → unskipped lines ≡ [] → SpellsLines lines []
spells_none lines e = subst (λ all. SpellsEach all []) (sym e) tt
