-- Lines, one after another.
use Rattle.std.proofs.Common.{◌≡◌, ℕ, ◌+◌, ◌<◌, Bool, true, false, not, List, [], ◌∷◌, ◌++◌, length, refl, sym, ◌∙◌, ap, subst, append_assoc, arith}
use Rattle.std.proofs.lemmas.List.Elements.{filter-append}
use Rattle.std.specs.Prelude.{◌==◌, MatchBool}
use Rattle.std.proofs.lemmas.Grind.{common_steps}
use Rattle.std.proofs.lemmas.Bool.Decides.{nat_tests}
use Rattle.std.specs.List.{slice_split, onto_first}
use Rattle.script_words.specs.Words.{Token, SpellsLine}
use Rattle.script_words.specs.Lines.{is_line_feed, without_empty_end, lines_of, is_skipped, unskipped}
use Rattle.script_words.specs.Inside.Passing.{TakesLine, HasNoLine, next_number, starts_skipped, PassesLine, Skips}

kept_line : (line next : List ℕ) (lines : List (List ℕ)) → without_empty_end (line ∷ next ∷ lines) ≡ line ∷ without_empty_end (next ∷ lines)
kept_line [] next lines = refl
kept_line (b ∷ bytes) next lines = refl

kept_first : (line : List ℕ) (parts : List (List ℕ)) (b : ℕ) → without_empty_end (line ∷ onto_first b parts) ≡ line ∷ without_empty_end (onto_first b parts)
kept_first line [] b = kept_line line (b ∷ []) []
kept_first line (part ∷ parts) b = kept_line line (b ∷ part) parts

before_split : (line rest : List ℕ) → without_empty_end (line ∷ slice_split is_line_feed rest) ≡ line ∷ lines_of rest
before_split line [] = kept_line line [] []
before_split line (b ∷ bytes) = by (is_line_feed b) refl
  where
    by : (t : Bool) → is_line_feed b ≡ t → without_empty_end (line ∷ slice_split is_line_feed (b ∷ bytes)) ≡ line ∷ lines_of (b ∷ bytes)
    by true e = rw e (kept_line line [] (slice_split is_line_feed bytes))
    by false e = rw e (kept_first line (slice_split is_line_feed bytes) b)

-- the line before the first line feed, and those after it
pub first_line : (text line rest : List ℕ) → slice_split is_line_feed text ≡ line ∷ slice_split is_line_feed rest → lines_of text ≡ line ∷ lines_of rest
first_line text line rest h = ap without_empty_end h ∙ before_split line rest

-- a line that no line feed ends
pub last_line : (text line : List ℕ) → slice_split is_line_feed text ≡ line ∷ [] → line ≡ text → 0 < length text → lines_of text ≡ line ∷ lines_of []
last_line [] line h e n = absurd (omega arith)
last_line (b ∷ bytes) line h e n = ap without_empty_end (h ∙ ap (λ l. l ∷ []) e) ∙ ap (λ l. l ∷ []) (sym e)

-- the first line, ended by a line feed or by nothing
pub cut_line : (text line rest : List ℕ) (ended : Bool) → MatchBool ended (slice_split is_line_feed text ≡ line ∷ slice_split is_line_feed rest) (slice_split is_line_feed text ≡ line ∷ [])
    → MatchBool ended (length line + 1 + length rest ≡ length text) ((line ≡ text) × (rest ≡ [])) → 0 < length text → lines_of text ≡ line ∷ lines_of rest
cut_line text line rest true h w n = first_line text line rest h
cut_line text line rest false h w n = last_line text line h w.0 n ∙ ap (λ left. line ∷ lines_of left) (sym w.1)

no_lines : (b : ℕ) (parts : List (List ℕ)) → without_empty_end (onto_first b parts) ≡ [] → ⊥
no_lines b [] h = cc
no_lines b (part ∷ []) h = cc
no_lines b (part ∷ next ∷ parts) h = cc

-- a text with something in it has a line
pub some_line : (text : List ℕ) → lines_of text ≡ [] → text ≡ []
some_line [] h = refl
some_line (b ∷ bytes) h = absurd (by (is_line_feed b) refl)
  where
    by : (t : Bool) → is_line_feed b ≡ t → ⊥
    by true e = let lines : without_empty_end ([] ∷ slice_split is_line_feed bytes) ≡ [] = rw e at h in let more = before_split [] bytes in cc
    by false e = no_lines b (slice_split is_line_feed bytes) (rw e at h)

pub at_end : (text : List ℕ) → ((length text == 0) ≡ true → lines_of text ≡ []) × (lines_of text ≡ [] → (length text == 0) ≡ true)
at_end [] = ((λ _. refl), λ _. refl)
at_end (b ∷ bytes) = (
  (λ h. absurd (let empty : length (b ∷ bytes) ≡ 0 = grind (arith, nat_tests) in grind (arith, common_steps))),
  λ h. let empty : b ∷ bytes ≡ [] = some_line (b ∷ bytes) h in cc,
)

-- ---- skipped lines

-- the first line of a text is skipped by what the text begins with
pub first_skipped : (text line : List ℕ) (rest : List (List ℕ)) → lines_of text ≡ line ∷ rest → starts_skipped text ≡ is_skipped line
first_skipped [] line rest h = cc
first_skipped (b ∷ bytes) line rest h = by (is_line_feed b) refl
  where
    begun : (parts : List (List ℕ)) → without_empty_end (onto_first b parts) ≡ line ∷ rest → (b == 10) ≡ false → starts_skipped (b ∷ bytes) ≡ is_skipped line
    begun [] e f = let same : b ∷ [] ≡ line = cc in rw (← same) (rw f)
    begun (part ∷ []) e f = let same : b ∷ part ≡ line = cc in rw (← same) (rw f)
    begun (part ∷ next ∷ parts) e f = let same : b ∷ part ≡ line = cc in rw (← same) (rw f)

    by : (t : Bool) → is_line_feed b ≡ t → starts_skipped (b ∷ bytes) ≡ is_skipped line
    by true e =
        let lines : without_empty_end ([] ∷ slice_split is_line_feed bytes) ≡ line ∷ rest = rw e at h in
        let more = sym (before_split [] bytes) ∙ lines in
        let same : [] ≡ line = cc (more) in rw (← same) (rw e)
    by false e = begun (slice_split is_line_feed bytes) (rw e at h) e

pub skips_none : (text : List ℕ) → Skips text text
skips_none text = record { passed = []; lines_are = refl; skipped = refl }

drops_skipped : (line : List ℕ) (lines : List (List ℕ)) → is_skipped line ≡ true → unskipped (line ∷ lines) ≡ unskipped lines
drops_skipped line lines h = rw h

pub keeps_line : (line : List ℕ) (lines : List (List ℕ)) → is_skipped line ≡ false → unskipped (line ∷ lines) ≡ line ∷ unskipped lines
keeps_line line lines h = rw h

pub unskipped_append : (xs ys : List (List ℕ)) → unskipped (xs ++ ys) ≡ unskipped xs ++ unskipped ys
unskipped_append xs ys = filter-append (λ line. not (is_skipped line)) xs ys

pub skips_more : (old mid new : List ℕ) → Skips old mid → starts_skipped mid ≡ true → PassesLine mid new → Skips old new
skips_more old mid new h s p = record {
  passed = h.passed ++ p.line ∷ [];
  lines_are = h.lines_are ∙ ap (λ left. h.passed ++ left) p.lines_are ∙ sym (append_assoc h.passed (p.line ∷ []) (lines_of new));
  skipped = unskipped_append h.passed (p.line ∷ []) ∙ ap (λ front. front ++ unskipped (p.line ∷ [])) h.skipped ∙ drops_skipped p.line [] (sym (first_skipped mid p.line (lines_of new) p.lines_are) ∙ s);
}

pub next_skipped : (read : ℕ) (mid new : List ℕ) → starts_skipped mid ≡ true → PassesLine mid new → next_number (read + 1) (lines_of new) ≡ next_number read (lines_of mid)
next_skipped read mid new s p =
    let line : is_skipped p.line ≡ true = sym (first_skipped mid p.line (lines_of new) p.lines_are) ∙ s in rw p.lines_are (rw line)

pub next_kept : (read : ℕ) (mid line : List ℕ) (rest : List (List ℕ)) → starts_skipped mid ≡ false → lines_of mid ≡ line ∷ rest → read + 1 ≡ next_number read (lines_of mid)
next_kept read mid line rest s e =
    let kept : is_skipped line ≡ false = sym (first_skipped mid line rest e) ∙ s in rw e (rw kept)

pub unskipped_left : (old new : List ℕ) → Skips old new → unskipped (lines_of old) ≡ unskipped (lines_of new)
unskipped_left old new s = ap unskipped s.lines_are ∙ unskipped_append s.passed (lines_of new) ∙ ap (λ front. front ++ unskipped (lines_of new)) s.skipped

-- a text that doesn't begin with a skipped line has no line that isn't skipped only where it is empty
kept_end : (text : List ℕ) → starts_skipped text ≡ false → unskipped (lines_of text) ≡ [] → text ≡ []
kept_end text s h = by (lines_of text) refl
  where
    by : (lines : List (List ℕ)) → lines_of text ≡ lines → text ≡ []
    by [] e = some_line text e
    by (line ∷ rest) e =
        let kept : is_skipped line ≡ false = sym (first_skipped text line rest e) ∙ s in
        let none : line ∷ unskipped rest ≡ [] = sym (keeps_line line rest kept) ∙ sym (ap unskipped e) ∙ h in cc

pub at_skipped_end : (old new : List ℕ) → Skips old new → starts_skipped new ≡ false → ((length new == 0) ≡ true → unskipped (lines_of old) ≡ []) × (unskipped (lines_of old) ≡ [] → (length new == 0) ≡ true)
at_skipped_end old new s n = (
  (λ h. unskipped_left old new s ∙ ap unskipped ((at_end new).0 h)),
  λ h. ap (λ text. length text == 0) (kept_end new n (sym (unskipped_left old new s) ∙ h)),
)

-- ---- lines that are taken

pub no_line_left : (old new : List ℕ) → Skips old new → length new ≡ 0 → HasNoLine (lines_of old)
no_line_left old new s e = λ line more h tokens spelled.
    let empty : new ≡ [] = no_bytes new e in
    let none : unskipped (lines_of old) ≡ [] = unskipped_left old new s ∙ ap (λ text. unskipped (lines_of text)) empty in
    let both : [] ≡ line ∷ more = sym none ∙ h in cc
  where
    no_bytes : (text : List ℕ) → length text ≡ 0 → text ≡ []
    no_bytes [] n = refl
    no_bytes (b ∷ bytes) n = absurd (omega (arith, n))

pub same_first : (a b : List ℕ) (more rest : List (List ℕ)) → a ∷ more ≡ b ∷ rest → a ≡ b
same_first a b more rest e = cc

pub other_line : (old mid new line : List ℕ) → Skips old mid → starts_skipped mid ≡ false → lines_of mid ≡ line ∷ lines_of new → ((tokens : List Token) → SpellsLine line tokens → ⊥) → HasNoLine (lines_of old)
other_line old mid new line s n e h = λ next more f tokens spelled.
    let kept : is_skipped line ≡ false = sym (first_skipped mid line (lines_of new) e) ∙ n in
    let lines : unskipped (lines_of old) ≡ line ∷ unskipped (lines_of new) = unskipped_left old mid s ∙ ap unskipped e ∙ keeps_line line (lines_of new) kept in
    let same : line ≡ next = same_first line next (unskipped (lines_of new)) more (sym lines ∙ f) in
    h tokens (subst (λ (line : List ℕ). SpellsLine line tokens) (sym same) spelled)

pub taken : (old mid new line : List ℕ) (tokens : List Token) → Skips old mid → starts_skipped mid ≡ false → lines_of mid ≡ line ∷ lines_of new → SpellsLine line tokens → TakesLine (lines_of old) tokens (lines_of new)
taken old mid new line tokens s n e h = record {
  passed = s.passed;
  line = line;
  lines_are = s.lines_are ∙ ap (λ left. s.passed ++ left) e;
  skipped = s.skipped;
  kept = λ skipped. let wrong : true ≡ false = sym skipped ∙ sym (first_skipped mid line (lines_of new) e) ∙ n in cc;
  spelled = h;
}
