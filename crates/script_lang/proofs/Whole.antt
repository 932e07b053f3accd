-- What the reading of a text shows of its scripts and of its first bad line.
use Rattle.std.proofs.Common.{◌≡◌, ◌⊎◌, inl, inr, ℕ, ◌+◌, ◌-◌, Bool, true, false, List, [], ◌∷◌, ◌++◌, map, length, take, Some, None, Result, Err, refl, sym, ◌∙◌, ap, subst, append_assoc, append-nil, arith}
use Rattle.std.specs.Prelude.{MatchResult}
use Rattle.std.specs.List.{flat_map, AllByRecursion}
use Rattle.std.proofs.lemmas.List.{length-append}
use Rattle.std.proofs.Math.Seq.{take-append_seam, take-length}
use Rattle.script_lang.specs.declared.script.Phase.{Phase}
use Rattle.script_lang.specs.declared.script.Script.{Script}
use Rattle.script_words.specs.declared.error.ScriptError.{ScriptError}
use Rattle.script_words.specs.declared.error.ScriptError.TheVariants.{BadLine, Memory}
use Rattle.script_lang.specs.declared.line.Line.{Line}
use Rattle.script_lang.specs.declared.progress.Place.{Place}
use Rattle.script_lang.specs.declared.progress.Place.TheVariants.{Outside, WithinPhase, WithinJob}
use Rattle.script_lang.specs.declared.progress.Progress.{Progress}
use Rattle.script_words.specs.declared.words.Token.{Token}
use Rattle.script_words.specs.Words.{SpellsLine}
use Rattle.script_words.specs.Lines.{lines_of, unskipped, SpellsEach, SpellsLines}
use Rattle.script_words.specs.Inside.Passing.{TakesLine, next_number, Skips}
use Rattle.script_lang.specs.Commands.{FitsLine}
use Rattle.script_lang.specs.Scripts.{FitsLines, HasOwnNames, phase_lines, script_lines, IsScriptOf, IsBeginning, IsFirstBad, line_text}
use Rattle.script_lang.specs.Inside.Reading.{goes, SaysNext, Steps, IsStuck, IsWhole}
use Rattle.script_lang.specs.Inside.Printed.{AreLines}
use Rattle.script_lang.proofs.Runs.{place_lines, read_lines, runs, begun, runs-append, runs_script, runs_read, read_more, names_kept, same_some, AreNamed, closing, closes}
use Rattle.script_lang.proofs.Coded.{same_line}
use Rattle.script_words.proofs.Lined.{keeps_line, unskipped_append}
use Rattle.script_words.proofs.Taking.{taken_kept, taken_tokens, spells_append, spells_rest, spells_none}
use Rattle.script_lang.proofs.Spelling.{fits_append, fits_rest, AllSkipped, OneNext, next_line, line_tokens, spells_printed, says_printed}

-- ---- what was read

-- the lines in front were read
pub record HasRead (lines rest : List (List ℕ)) (number : ℕ) (progress : Progress) : Type 0 where
  pub front : List (List ℕ)
  pub lines_are : lines ≡ front ++ rest
  pub number_is : number ≡ length front
  pub tokens : List (List Token)
  pub spelled : SpellsLines front tokens
  pub fitting : FitsLines tokens (read_lines progress)
  pub names : AreNamed progress

pub read_none : (lines : List (List ℕ)) (number : ℕ) (phases : List Phase) (place : Place) → number ≡ 0 → phases ≡ [] → place ≡ Outside
    → HasRead lines lines number (record { phases = phases; place = place })
read_none lines number phases place n e f =
    let at : begun ≡ record { phases = phases; place = place } = λ i. record { phases = sym e i; place = sym f i } in
    subst (λ (progress : Progress). HasRead lines lines number progress) at
    (record { front = []; lines_are = refl; number_is = n; tokens = []; spelled = tt; fitting = tt; names = record { phases = tt; place = tt } })

-- skipped lines were passed
pub read_skips : (lines : List (List ℕ)) (old new : List ℕ) (m n : ℕ) (progress : Progress) → HasRead lines (lines_of old) m progress → Skips old new
    → n + length (lines_of new) ≡ m + length (lines_of old) → HasRead lines (lines_of new) n progress
read_skips lines old new m n progress h s e =
    let joined = ap length s.lines_are ∙ length-append s.passed (lines_of new) in
    let fronts = length-append h.front s.passed in record {
      front = h.front ++ s.passed;
      lines_are = h.lines_are ∙ ap (λ (rest : List (List ℕ)). h.front ++ rest) s.lines_are ∙ sym (append_assoc h.front s.passed (lines_of new));
      number_is = omega (arith, h.number_is, joined, fronts, e);
      tokens = h.tokens ++ [];
      spelled = spells_append h.front s.passed h.tokens [] h.spelled (spells_none s.passed s.skipped);
      fitting = subst (λ (tokens : List (List Token)). FitsLines tokens (read_lines progress)) (sym (append-nil h.tokens)) h.fitting;
      names = h.names;
    }

pub read_step : (lines old new : List (List ℕ)) (m n : ℕ) (before after : Progress) → HasRead lines old m before → Steps old new before after
    → n + length new ≡ m + length old → HasRead lines new n after
read_step lines old new m n before after h s e =
    let kept = keeps_line s.says.taken.line [] (taken_kept old new s.says.tokens s.says.taken) in
    let taken = s.says.taken.passed ++ s.says.taken.line ∷ [] in
    let joined = ap length s.says.taken.lines_are ∙ length-append s.says.taken.passed (s.says.taken.line ∷ new) in
    let fronts = length-append h.front taken in
    let takens = length-append s.says.taken.passed (s.says.taken.line ∷ []) in
    record {
      front = h.front ++ taken;
      lines_are = h.lines_are ∙ ap (λ (rest : List (List ℕ)). h.front ++ rest) (s.says.taken.lines_are ∙ sym (append_assoc s.says.taken.passed (s.says.taken.line ∷ []) new))
          ∙ sym (append_assoc h.front taken new);
      number_is = omega (arith, h.number_is, joined, fronts, takens, e);
      tokens = h.tokens ++ s.says.tokens ∷ [];
      spelled = spells_append h.front taken h.tokens (s.says.tokens ∷ []) h.spelled
          (subst (λ (lines : List (List ℕ)). SpellsEach lines (s.says.tokens ∷ []))
          (sym (unskipped_append s.says.taken.passed (s.says.taken.line ∷ []) ∙ (λ i. s.says.taken.skipped i ++ kept i))) (s.says.taken.spelled, tt));
      fitting = subst (FitsLines (h.tokens ++ s.says.tokens ∷ [])) (sym (read_more before s.line after s.goes_to))
          (fits_append h.tokens (s.says.tokens ∷ []) (read_lines before) (s.line ∷ []) h.fitting (s.says.fits, tt));
      names = names_kept before s.line after s.goes_to h.names;
    }

-- ---- a whole script

whole_lines : (progress : Progress) → progress.place ≡ Outside → read_lines progress ≡ flat_map phase_lines progress.phases
whole_lines progress e = ap (λ (place : Place). flat_map phase_lines progress.phases ++ place_lines place) e ∙ append-nil (flat_map phase_lines progress.phases)

pub whole_script : (lines rest : List (List ℕ)) (number : ℕ) (progress : Progress) → HasRead lines rest number progress → IsWhole rest progress
    → IsScriptOf lines (record { phases = progress.phases })
whole_script lines rest number progress h w = record {
  names = h.names.phases;
  tokens = h.tokens ++ [];
  spelled = subst (λ (lines : List (List ℕ)). SpellsLines lines (h.tokens ++ [])) (sym h.lines_are) (spells_append h.front rest h.tokens [] h.spelled (spells_none rest w.1));
  fitting = subst (λ (tokens : List (List Token)). FitsLines tokens (flat_map phase_lines progress.phases)) (sym (append-nil h.tokens))
      (subst (FitsLines h.tokens) (whole_lines progress w.0) h.fitting);
}

-- ---- other scripts that the lines may spell

-- what such a script has behind the lines read
record GoesOn (rest : List (List ℕ)) (progress : Progress) (script : Script) : Type 0 where
  pub tokens : List (List Token)
  pub lines : List Line
  pub lines_are : script_lines script ≡ read_lines progress ++ lines
  pub spelled : SpellsLines rest tokens
  pub fitting : FitsLines tokens lines

goes_on : (lines rest : List (List ℕ)) (number : ℕ) (progress : Progress) (script : Script) → HasRead lines rest number progress → IsScriptOf lines script → GoesOn rest progress script
goes_on lines rest number progress script h s =
    let spelled = spells_rest h.front rest h.tokens s.tokens h.spelled (subst (λ (lines : List (List ℕ)). SpellsLines lines s.tokens) h.lines_are s.spelled) in
    let says = fits_rest h.tokens spelled.0 (read_lines progress) (script_lines script) h.fitting
    (subst (λ (tokens : List (List Token)). FitsLines tokens (script_lines script)) spelled.1 s.fitting) in
    record { tokens = spelled.0; lines = says.0; lines_are = says.1; spelled = spelled.2; fitting = says.2 }

-- where its lines lead
leads : (progress : Progress) (script : Script) (lines : List Line) → AreNamed progress → AllByRecursion HasOwnNames script.phases
    → script_lines script ≡ read_lines progress ++ lines → Some (record { phases = script.phases; place = Outside }) ≡ runs lines (Some progress)
leads progress script lines h g e =
    sym (runs_script script.phases g) ∙ ap (λ (lines : List Line). runs lines (Some begun)) e
    ∙ runs-append (read_lines progress) lines (Some begun) ∙ ap (runs lines) (runs_read progress h)

no_tokens : (rest : List (List ℕ)) (tokens : List (List Token)) → unskipped rest ≡ [] → SpellsLines rest tokens → tokens ≡ []
no_tokens rest tokens e s = by tokens (subst (λ (lines : List (List ℕ)). SpellsEach lines tokens) e s)
  where
    by : (tokens : List (List Token)) → SpellsEach [] tokens → tokens ≡ []
    by [] s = refl
    by (first ∷ tokens) s = absurd s

no_lines : (tokens : List (List Token)) (lines : List Line) → tokens ≡ [] → FitsLines tokens lines → lines ≡ []
no_lines tokens lines e s = by lines (subst (λ (tokens : List (List Token)). FitsLines tokens lines) e s)
  where
    by : (lines : List Line) → FitsLines [] lines → lines ≡ []
    by [] s = refl
    by (first ∷ lines) s = absurd s

-- at the end of the lines such a script is what was read
ends : (lines rest : List (List ℕ)) (number : ℕ) (progress : Progress) (script : Script) → HasRead lines rest number progress → unskipped rest ≡ [] → IsScriptOf lines script
    → Some (record { phases = script.phases; place = Outside }) ≡ Some progress
ends lines rest number progress script h e s =
    let on = goes_on lines rest number progress script h s in
    let none = no_lines on.tokens on.lines (no_tokens rest on.tokens e on.spelled) on.fitting in
    leads progress script on.lines h.names s.names on.lines_are ∙ ap (λ (lines : List Line). runs lines (Some progress)) none

pub whole_alone : (lines rest : List (List ℕ)) (number : ℕ) (progress : Progress) (script : Script) → HasRead lines rest number progress → IsWhole rest progress
    → IsScriptOf lines script → record { phases = progress.phases } ≡ script
whole_alone lines rest number progress script h w s =
    let same = same_some (record { phases = script.phases; place = Outside }) progress (ends lines rest number progress script h w.1 s) in
    λ i. record { phases = (sym same i).phases }

-- where the lines end within a phase they spell no script
pub short_none : (lines rest : List (List ℕ)) (number : ℕ) (progress : Progress) → HasRead lines rest number progress → unskipped rest ≡ [] → (progress.place ≡ Outside → ⊥)
    → (script : Script) → IsScriptOf lines script → ⊥
short_none lines rest number progress h e open_place script s =
    let same = same_some (record { phases = script.phases; place = Outside }) progress (ends lines rest number progress script h e s) in
    open_place (λ i. (sym same i).place)

-- the line says nothing that can stand there
abbrev IsBlocked : Progress → List ℕ → Type 0
IsBlocked progress next = (tokens : List Token) → SpellsLine next tokens → (line : Line) → FitsLine tokens line → goes progress line ≡ None

-- behind a line that can't stand there nothing makes a script
pub blocked_none : (lines rest more : List (List ℕ)) (next : List ℕ) (number : ℕ) (progress : Progress) → HasRead lines rest number progress → unskipped rest ≡ next ∷ more
    → IsBlocked progress next → (script : Script) → IsScriptOf lines script → ⊥
blocked_none lines rest more next number progress h e b script s =
    let on = goes_on lines rest number progress script h s in
    by on.tokens on.lines (subst (λ (lines : List (List ℕ)). SpellsEach lines on.tokens) e on.spelled) on.fitting (leads progress script on.lines h.names s.names on.lines_are)
  where
    none : (lines : List Line) → runs lines None ≡ None
    none [] = refl
    none (line ∷ lines) = refl

    by : (tokens : List (List Token)) (lines : List Line) → SpellsEach (next ∷ more) tokens → FitsLines tokens lines
        → Some (record { phases = script.phases; place = Outside }) ≡ runs lines (Some progress) → ⊥
    by [] lines t f g = absurd t
    by (first ∷ tokens) [] t f g = absurd f
    by (first ∷ tokens) (line ∷ lines) t f g =
        let stuck = ap (runs lines) (b first t.0 line f.0) ∙ none lines in
        let both = g ∙ stuck in cc

-- ---- the first bad line

closing_parts : (place : Place) → AreLines (closing place)
closing_parts Outside = tt
closing_parts (WithinPhase jobs) = (((refl, tt), refl), tt)
closing_parts (WithinJob jobs job) = (((refl, tt), refl), (((refl, tt), refl), tt))

-- the lines in front are a beginning, whatever is left
begins : (lines rest : List (List ℕ)) (number : ℕ) (progress : Progress) (passed : List (List ℕ)) → (h : HasRead lines rest number progress) → unskipped passed ≡ [] → IsBeginning (h.front ++ passed)
begins lines rest number progress passed h e =
    let closed = closes progress.phases progress.place h.names in
    let more = closing progress.place in record {
      more = map line_text more;
      script = record { phases = closed.phases };
      spelled = record {
        names = closed.names;
        tokens = (h.tokens ++ []) ++ map line_tokens more;
        spelled = spells_append (h.front ++ passed) (map line_text more) (h.tokens ++ []) (map line_tokens more)
            (spells_append h.front passed h.tokens [] h.spelled (spells_none passed e)) (spells_printed more (closing_parts progress.place));
        fitting = subst (λ (tokens : List (List Token)). FitsLines (tokens ++ map line_tokens more) (flat_map phase_lines closed.phases)) (sym (append-nil h.tokens))
            (subst (FitsLines (h.tokens ++ map line_tokens more)) (sym closed.lines)
            (fits_append h.tokens (map line_tokens more) (read_lines progress) more h.fitting (says_printed more (closing_parts progress.place))));
      };
    }

next_first : (read : ℕ) (rest : List (List ℕ)) → (h : OneNext read rest) → unskipped rest ≡ h.line ∷ unskipped h.rest
next_first read rest h = ap unskipped h.lines_are ∙ unskipped_append h.passed (h.line ∷ h.rest) ∙ (λ i. h.skipped i ++ keeps_line h.line h.rest h.kept i)

-- the same lines in front of others
elsewhere : (lines rest other : List (List ℕ)) (number : ℕ) (progress : Progress) → (h : HasRead lines rest number progress) → HasRead (h.front ++ other) other number progress
elsewhere lines rest other number progress h = record {
  front = h.front;
  lines_are = refl;
  number_is = h.number_is;
  tokens = h.tokens;
  spelled = h.spelled;
  fitting = h.fitting;
  names = h.names;
}

bad_at : (text : List ℕ) (rest : List (List ℕ)) (read number : ℕ) (progress : Progress) → HasRead (lines_of text) rest read progress → IsStuck read rest progress number
    → OneNext read rest → IsFirstBad text number
bad_at text rest read number progress h s o =
    let good = h.front ++ o.passed in
    let lines_are : lines_of text ≡ good ++ o.line ∷ o.rest = h.lines_are ∙ ap (λ (rest : List (List ℕ)). h.front ++ rest) o.lines_are ∙ sym (append_assoc h.front o.passed (o.line ∷ o.rest)) in
    let sizes = ap length lines_are ∙ length-append good (o.line ∷ o.rest) in
    let size = length-append h.front o.passed in
    let number_is = s.number_is ∙ o.number in
    let before : number - 1 ≡ length good = omega (arith, number_is, size, h.number_is) in
    let at : number ≡ length (good ++ o.line ∷ []) = omega (arith, number_is, size, h.number_is, length-append good (o.line ∷ [])) in
    record {
      counted = omega (arith, number_is);
      within = omega (arith, number_is, size, sizes, h.number_is);
      before = subst IsBeginning (sym ((λ i. take (before i) (lines_are i)) ∙ take-append_seam good (o.line ∷ o.rest))) (begins (lines_of text) rest read progress o.passed h o.skipped);
      bad = λ n b.
          let begun_at = subst IsBeginning ((λ i. take (at i) ((lines_are ∙ sym (append_assoc good (o.line ∷ []) o.rest)) i)) ∙ take-append_seam (good ++ o.line ∷ []) o.rest) b in
          bad_behind begun_at;
      short = λ n. absurd (omega (arith, number_is, size, sizes, h.number_is, n));
    }
  where
    blocked : IsBlocked progress o.line
    blocked = s.none o.line (unskipped o.rest) (next_first read rest o)

    bad_behind : IsBeginning ((h.front ++ o.passed) ++ o.line ∷ []) → ⊥
    bad_behind b =
        let lines_are : ((h.front ++ o.passed) ++ o.line ∷ []) ++ b.more ≡ h.front ++ (o.passed ++ o.line ∷ b.more) =
        append_assoc (h.front ++ o.passed) (o.line ∷ []) b.more ∙ append_assoc h.front o.passed (o.line ∷ b.more) in
        blocked_none (h.front ++ (o.passed ++ o.line ∷ b.more)) (o.passed ++ o.line ∷ b.more) (unskipped b.more) o.line read progress
        (elsewhere (lines_of text) rest (o.passed ++ o.line ∷ b.more) read progress h)
        (unskipped_append o.passed (o.line ∷ b.more) ∙ (λ i. o.skipped i ++ keeps_line o.line b.more o.kept i))
        blocked b.script (subst (λ (lines : List (List ℕ)). IsScriptOf lines b.script) lines_are b.spelled)

short_at : (text : List ℕ) (rest : List (List ℕ)) (read number : ℕ) (progress : Progress) → HasRead (lines_of text) rest read progress → IsStuck read rest progress number
    → (IsWhole rest progress → ⊥) → AllSkipped read rest → IsFirstBad text number
short_at text rest read number progress h s w a =
    let sizes = ap length h.lines_are ∙ length-append h.front rest in
    let number_is = s.number_is ∙ a.number in
    let before : number - 1 ≡ length (lines_of text) = omega (arith, number_is, sizes, h.number_is) in
    record {
      counted = omega (arith, number_is);
      within = omega (arith, number_is, sizes, h.number_is);
      before = subst IsBeginning (sym (ap (λ (n : ℕ). take n (lines_of text)) before ∙ take-length (lines_of text) ∙ h.lines_are))
          (begins (lines_of text) rest read progress rest h a.skipped);
      bad = λ n. absurd (omega (arith, number_is, sizes, h.number_is, n));
      short = λ n. short_none (lines_of text) rest read progress h a.skipped (λ e. w (e, a.skipped));
    }

-- where the reading is stuck the text has its first bad line
pub first_bad : (text : List ℕ) (rest : List (List ℕ)) (read number : ℕ) (progress : Progress) → HasRead (lines_of text) rest read progress → IsStuck read rest progress number
    → (IsWhole rest progress → ⊥) → IsFirstBad text number
first_bad text rest read number progress h s w = by (next_line read rest)
  where
    by : AllSkipped read rest ⊎ OneNext read rest → IsFirstBad text number
    by (inl a) = short_at text rest read number progress h s w a
    by (inr o) = bad_at text rest read number progress h s o

-- and it spells no script
pub stuck_none : (lines rest : List (List ℕ)) (read number : ℕ) (progress : Progress) → HasRead lines rest read progress → IsStuck read rest progress number
    → (IsWhole rest progress → ⊥) → (script : Script) → IsScriptOf lines script → ⊥
stuck_none lines rest read number progress h s w script = by (next_line read rest)
  where
    by : AllSkipped read rest ⊎ OneNext read rest → IsScriptOf lines script → ⊥
    by (inl a) = short_none lines rest read progress h a.skipped (λ e. w (e, a.skipped)) script
    by (inr o) = blocked_none lines rest (unskipped o.rest) o.line read progress h (next_first read rest o) (s.none o.line (unskipped o.rest) (next_first read rest o)) script

-- ---- where the reading is stuck

-- at a line that says nothing
pub unsaid : (read number : ℕ) (lines rest : List (List ℕ)) (tokens : List Token) → number ≡ next_number read lines → TakesLine lines tokens rest
    → ((line : Line) → FitsLine tokens line → ⊥) → (progress : Progress) → IsStuck read lines progress number
unsaid read number lines rest tokens n t u progress = record {
  number_is = n;
  none = λ next more e others s line f.
      absurd (u line (subst (λ (tokens : List Token). FitsLine tokens line) (sym (taken_tokens lines rest more next tokens others t e s)) f));
}

-- at a line that spells no words
pub unspelled : (read number : ℕ) (lines : List (List ℕ)) → number ≡ next_number read lines
    → ((next : List ℕ) (more : List (List ℕ)) → unskipped lines ≡ next ∷ more → (tokens : List Token) → SpellsLine next tokens → ⊥)
    → (progress : Progress) → IsStuck read lines progress number
unspelled read number lines n u progress = record { number_is = n; none = λ next more e tokens s line f. absurd (u next more e tokens s) }

-- at a line that can't stand there
pub barred : (read number : ℕ) (lines rest : List (List ℕ)) (line : Line) (progress : Progress) → number ≡ next_number read lines → SaysNext lines rest line
    → goes progress line ≡ None → IsStuck read lines progress number
barred read number lines rest line progress n s g = record {
  number_is = n;
  none = λ next more e others t other f.
      let same = taken_tokens lines rest more next s.tokens others s.taken e t in
      ap (goes progress) (same_line others other line f (subst (λ (tokens : List Token). FitsLine tokens line) same s.fits)) ∙ g;
}

pub err_same : {T E : Type 0} (x y : E) → ◌≡◌ {A = Result T E} (Err x) (Err y) → x ≡ y
err_same x y e = cc

pub same_number : {T : Type 0} (m n : ℕ) → ◌≡◌ {A = Result T ScriptError} (Err (BadLine m)) (Err (BadLine n)) → m ≡ n
same_number m n e = cc

pub not_both : (b : Bool) → b ≡ false → b ≡ true → ⊥
not_both b h e = let both = sym h ∙ e in cc

-- a refusal that no bad line explains is want of memory
pub refused : (result : Result Script ScriptError) (e : ScriptError) → result ≡ Err e → ((number : ℕ) → e ≡ BadLine number → ⊥)
    → (script : Script) → MatchResult result (λ found. found ≡ script) (λ e. e ≡ Memory)
refused result Memory h f script = subst (λ (r : Result Script ScriptError). MatchResult r (λ found. found ≡ script) (λ e. e ≡ Memory)) (sym h) refl
refused result (BadLine number) h f script = absurd (f number refl)
