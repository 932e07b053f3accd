-- Lines one after another, and the lines that they say.
use Rattle.std.proofs.Common.{◌≡◌, ◌⊎◌, inl, inr, ℕ, ◌+◌, Bool, true, false, List, [], ◌∷◌, ◌++◌, map, length, refl, sym, ◌∙◌, ap, subst, arith}
use Rattle.std.specs.Prelude.{◌≢◌, Some, None, codes}
use Rattle.op_kind.specs.declared.op.Op.TheVariants.{Delete, Sync, Read}
use Rattle.op_kind.specs.declared.op.Want.TheVariants.{Show, Cat, Tree, Digest}
use Rattle.script_lang.specs.declared.script.Command.TheVariants.{Operation, Batch, EndBatch, Checkpoint, Begin, TryBegin, End, Sleep, Wake, Cancel, Build, Save}
use Rattle.script_lang.specs.declared.line.Line.{Line}
use Rattle.script_lang.specs.declared.line.Line.TheVariants.{BeginPhase, BeginJob, InJob, EndJob, EndPhase}
use Rattle.script_words.specs.declared.words.Token.{Token}
use Rattle.script_words.specs.Words.{printed, is_bare}
use Rattle.script_words.specs.Lines.{is_skipped, unskipped, SpellsEach, SpellsLines}
use Rattle.script_words.specs.Inside.Passing.{next_number}
use Rattle.script_parts.specs.Parts.{Part, keyword, rule_parts, scope_parts, part_word, parts_text}
use Rattle.script_lang.specs.Commands.{kind_word, save_word, line_parts}
use Rattle.script_lang.specs.Scripts.{FitsLines, line_text}
use Rattle.script_lang.specs.Inside.Printed.{AreLines}
use Rattle.script_lang.proofs.Coded.{same_line}
use Rattle.script_words.proofs.Lined.{keeps_line}
use Rattle.script_words.proofs.Printed.{line_spells, line_kept}
use Rattle.script_parts.proofs.Spelled.{fits_printed, part_words}

-- ---- in front, and what is left

pub fits_append : (t u : List (List Token)) (a b : List Line) → FitsLines t a → FitsLines u b → FitsLines (t ++ u) (a ++ b)
fits_append [] u [] b h g = g
fits_append [] u (line ∷ a) b h g = absurd h
fits_append (tokens ∷ t) u [] b h g = absurd h
fits_append (tokens ∷ t) u (line ∷ a) b h g = (h.0, fits_append t u a b h.1 g)

-- the lines that tokens say begin with those that the tokens in front say
pub fits_rest : (t u : List (List Token)) (a all : List Line) → FitsLines t a → FitsLines (t ++ u) all → (b : List Line) × (all ≡ a ++ b) × FitsLines u b
fits_rest [] u [] all h g = (all, refl, g)
fits_rest [] u (line ∷ a) all h g = absurd h
fits_rest (tokens ∷ t) u [] all h g = absurd h
fits_rest (tokens ∷ t) u (line ∷ a) [] h g = absurd g
fits_rest (tokens ∷ t) u (line ∷ a) (other ∷ all) h g =
    let rest = fits_rest t u a all h.1 g.1 in
    (rest.0, (λ i. same_line tokens other line g.0 h.0 i ∷ rest.1 i), rest.2)

-- ---- the next line

pub record AllSkipped (read : ℕ) (lines : List (List ℕ)) : Type 0 where
  pub skipped : unskipped lines ≡ []
  pub number : next_number read lines ≡ read + length lines + 1

pub record OneNext (read : ℕ) (lines : List (List ℕ)) : Type 0 where
  pub passed : List (List ℕ)
  pub line : List ℕ
  pub rest : List (List ℕ)
  pub lines_are : lines ≡ passed ++ line ∷ rest
  pub skipped : unskipped passed ≡ []
  pub kept : is_skipped line ≡ false
  pub number : next_number read lines ≡ read + length passed + 1

pub next_line : (read : ℕ) (lines : List (List ℕ)) → AllSkipped read lines ⊎ OneNext read lines
next_line read [] = inl (record { skipped = refl; number = omega arith })
next_line read (line ∷ lines) = by (is_skipped line) refl (next_line (read + 1) lines)
  where
    by : (t : Bool) → is_skipped line ≡ t → AllSkipped (read + 1) lines ⊎ OneNext (read + 1) lines → AllSkipped read (line ∷ lines) ⊎ OneNext read (line ∷ lines)
    by true e (inl h) = inl (record { skipped = rw e h.skipped; number = rw e (h.number ∙ (omega arith)) })
    by true e (inr h) = inr (record {
      passed = line ∷ h.passed;
      line = h.line;
      rest = h.rest;
      lines_are = ap (λ (lines : List (List ℕ)). line ∷ lines) h.lines_are;
      skipped = rw e h.skipped;
      kept = h.kept;
      number = rw e (h.number ∙ (omega arith));
    })
    by false e h = inr (record { passed = []; line = line; rest = lines; lines_are = refl; skipped = refl; kept = e; number = rw e (omega arith) })

-- ---- printed lines

abbrev pub line_tokens : Line → List Token
line_tokens line = map printed (map part_word (line_parts line))

some_parts : (line : Line) → map part_word (line_parts line) ≢ []
some_parts BeginPhase = λ e. cc
some_parts (BeginJob name priority asleep rule) = λ e. cc
some_parts EndJob = λ e. cc
some_parts EndPhase = λ e. cc
some_parts (InJob Batch) = λ e. cc
some_parts (InJob EndBatch) = λ e. cc
some_parts (InJob Checkpoint) = λ e. cc
some_parts (InJob (Begin rule)) = λ e. cc
some_parts (InJob (TryBegin rule)) = λ e. cc
some_parts (InJob (End rule)) = λ e. cc
some_parts (InJob (Sleep name)) = λ e. cc
some_parts (InJob (Wake name)) = λ e. cc
some_parts (InJob (Cancel name)) = λ e. cc
some_parts (InJob (Build kind project)) = λ e. cc
some_parts (InJob (Save kind)) = λ e. cc
some_parts (InJob (Operation (Delete p))) = λ e. cc
some_parts (InJob (Operation (Sync p name None))) = λ e. cc
some_parts (InJob (Operation (Sync p name (Some bytes)))) = λ e. cc
some_parts (InJob (Operation op)) = λ e. cc

printed_kept : (verb : List ℕ) (parts : List Part) → is_bare verb ≡ true → is_skipped verb ≡ false → is_skipped (parts_text (keyword verb ∷ parts)) ≡ false
printed_kept verb parts h g = line_kept verb (map part_word parts) h g

text_kept : (line : Line) → is_skipped (line_text line) ≡ false
text_kept BeginPhase = refl
text_kept (BeginJob name priority asleep rule) = refl
text_kept EndJob = refl
text_kept EndPhase = refl
text_kept (InJob Batch) = refl
text_kept (InJob EndBatch) = refl
text_kept (InJob Checkpoint) = refl
text_kept (InJob (Begin rule)) = printed_kept (codes "begin") (rule_parts rule) refl refl
text_kept (InJob (TryBegin rule)) = printed_kept (codes "trybegin") (rule_parts rule) refl refl
text_kept (InJob (End rule)) = printed_kept (codes "end") (rule_parts rule) refl refl
text_kept (InJob (Sleep name)) = refl
text_kept (InJob (Wake name)) = refl
text_kept (InJob (Cancel name)) = refl
text_kept (InJob (Build kind project)) = printed_kept (codes "build") (keyword (kind_word kind) ∷ scope_parts project) refl refl
text_kept (InJob (Save kind)) = printed_kept (codes "save") (keyword (save_word kind) ∷ []) refl refl
text_kept (InJob (Operation (Sync p name None))) = refl
text_kept (InJob (Operation (Sync p name (Some bytes)))) = refl
text_kept (InJob (Operation (Read p Show))) = refl
text_kept (InJob (Operation (Read p Cat))) = refl
text_kept (InJob (Operation (Read p Tree))) = refl
text_kept (InJob (Operation (Read p Digest))) = refl
text_kept (InJob (Operation op)) = refl

each_printed : (lines : List Line) → AreLines lines → SpellsEach (map line_text lines) (map line_tokens lines)
each_printed [] h = tt
each_printed (line ∷ lines) h = (line_spells (map part_word (line_parts line)) (some_parts line) (part_words (line_parts line) h.0.0), each_printed lines h.1)

unskipped_printed : (lines : List Line) → unskipped (map line_text lines) ≡ map line_text lines
unskipped_printed [] = refl
unskipped_printed (line ∷ lines) = keeps_line (line_text line) (map line_text lines) (text_kept line) ∙ ap (λ (more : List (List ℕ)). line_text line ∷ more) (unskipped_printed lines)

-- printed lines spell what they say
pub spells_printed : (lines : List Line) → AreLines lines → SpellsLines (map line_text lines) (map line_tokens lines)
spells_printed lines h = subst (λ (texts : List (List ℕ)). SpellsEach texts (map line_tokens lines)) (sym (unskipped_printed lines)) (each_printed lines h)

pub says_printed : (lines : List Line) → AreLines lines → FitsLines (map line_tokens lines) lines
says_printed [] h = tt
says_printed (line ∷ lines) h = (record { written = line; read = h.0.1; fits = fits_printed (line_parts line) h.0.0 }, says_printed lines h.1)
