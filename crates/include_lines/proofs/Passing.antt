-- Lines that are passed.
use Rattle.std.proofs.Common.{◌≡◌, ℕ, zero, suc, ◌+◌, ◌≤◌, List, [], ◌∷◌, ◌++◌, Option, Some, None, length, take, drop, refl, sym, ap, ◌∙◌, arith, append_assoc, append-nil, length-append}
use Rattle.std.specs.List.{flat_map}
use Rattle.std.specs.Option.{unwrap_or}
use Rattle.std.proofs.lemmas.List.{length-take-le, take-append-drop, take_at, drop_at, take_all}
use Rattle.include_lines.specs.declared.cutting.Part.{Part}
use Rattle.include_lines.specs.declared.expanding.Missing.{Missing}
use Rattle.include_lines.specs.declared.cutting.Part.TheVariants.{Include}
use Rattle.include_lines.specs.Lines.{lines_of, include_name}
use Rattle.include_lines.specs.Expanding.{Files, expanded, replaced, told, missing_by, missing_among, missing}
use Rattle.include_lines.specs.Cutting.{part_bytes, part_missing}

-- a line after some bytes
pub cut_more : (left line others : List ℕ) (n : ℕ) → n ≤ length left → drop n left ≡ line ++ others → (take (n + length line) left ≡ take n left ++ line) × (drop (n + length line) left ≡ others)
cut_more left line others n within tail =
    let all : left ≡ (take n left ++ line) ++ others = sym (take-append-drop n left) ∙ ap (λ xs. take n left ++ xs) tail ∙ sym (append_assoc (take n left) line others) in
    let size : length (take n left ++ line) ≡ n + length line = length-append (take n left) line ∙ ap (λ k. k + length line) (length-take-le n left within) in (
      ap (take (n + length line)) all ∙ take_at (take n left ++ line) others (n + length line) size,
      ap (drop (n + length line)) all ∙ drop_at (take n left ++ line) others (n + length line) size,
    )

-- what a line comes to, with what follows it
line_first : (files : Files) (tail line others : List ℕ) (name : Option (List ℕ)) → lines_of tail ≡ line ∷ lines_of others → include_name line ≡ name → expanded files tail ≡ replaced files line name ++ expanded files others
line_first files tail line others name lines is =
    ap (flat_map (λ l. replaced files l (include_name l))) lines ∙ ap (λ o. replaced files line o ++ expanded files others) is

told_first : (files : Files) (n : ℕ) (tail line others : List ℕ) (name : Option (List ℕ)) → lines_of tail ≡ line ∷ lines_of others → include_name line ≡ name → missing files n tail ≡ missing_by files n name ++ missing files (n + 1) others
told_first files n tail line others name lines is =
    ap (missing_among files n) lines ∙ ap (λ o. missing_by files n o ++ missing files (n + 1) others) is

-- a line that includes no file
pub plain_whole : (before left line others : List ℕ) (n : ℕ) → n ≤ length left → drop n left ≡ line ++ others → lines_of (drop n left) ≡ line ∷ lines_of others → include_name line ≡ None
    → (files : Files) → before ++ take (n + length line) left ++ expanded files (drop (n + length line) left) ≡ before ++ take n left ++ expanded files (drop n left)
plain_whole before left line others n within tail lines none files =
    let parts = cut_more left line others n within tail in
    let rest = expanded files others in
    (λ i. before ++ parts.0 i ++ expanded files (parts.1 i))
    ∙ ap (λ xs. xs ++ rest) (sym (append_assoc before (take n left) line))
    ∙ append_assoc (before ++ take n left) line rest
    ∙ ap (λ xs. before ++ take n left ++ xs) (sym (line_first files (drop n left) line others None lines none))

pub plain_told : (left line others : List ℕ) (n number : ℕ) → n ≤ length left → drop n left ≡ line ++ others → lines_of (drop n left) ≡ line ∷ lines_of others → include_name line ≡ None
    → (files : Files) → missing files (number + 1) (drop (n + length line) left) ≡ missing files number (drop n left)
plain_told left line others n number within tail lines none files =
    ap (missing files (number + 1)) (cut_more left line others n within tail).1 ∙ sym (told_first files number (drop n left) line others None lines none)

-- one part more
one_more : {A : Type 0} (f : Part → List A) (parts : List Part) (part : Part) → flat_map f (parts ++ part ∷ []) ≡ flat_map f parts ++ f part
one_more f [] part = append-nil (f part)
one_more f (x ∷ parts) part = ap (λ xs. f x ++ xs) (one_more f parts part) ∙ sym (append_assoc (f x) (flat_map f parts) (f part))

-- what is left after the line
rest_is : (left mid rest line others : List ℕ) (n : ℕ) → drop n left ≡ line ++ others → mid ≡ drop n left → rest ≡ drop (length line) mid → rest ≡ others
rest_is left mid rest line others n tail is after = after ∙ ap (drop (length line)) (is ∙ tail) ∙ drop_at line others (length line) refl

-- a line that includes a file
pub included_whole : (old mid new : List Part) (left middle rest line others name : List ℕ) (n number : ℕ) → drop n left ≡ line ++ others → lines_of (drop n left) ≡ line ∷ lines_of others → include_name line ≡ Some name
    → ((files : Files) → flat_map (part_bytes files) mid ≡ flat_map (part_bytes files) old ++ take n left) → new ≡ mid ++ Include (record { number = number; name = name }) ∷ []
    → middle ≡ drop n left → rest ≡ drop (length line) middle
    → (files : Files) → flat_map (part_bytes files) new ++ take 0 rest ++ expanded files (drop 0 rest) ≡ flat_map (part_bytes files) old ++ take n left ++ expanded files (drop n left)
included_whole old mid new left middle rest line others name n number tail lines is text part middle_is after files =
    let file = unwrap_or (files name) [] in
    let before = flat_map (part_bytes files) old in
    ap (λ xs. xs ++ expanded files rest) (append-nil (flat_map (part_bytes files) new))
    ∙ (λ i. (ap (flat_map (part_bytes files)) part ∙ one_more (part_bytes files) mid (Include (record { number = number; name = name })) ∙ ap (λ xs. xs ++ file) (text files)) i
    ++ expanded files (rest_is left middle rest line others n tail middle_is after i))
    ∙ append_assoc (before ++ take n left) file (expanded files others)
    ∙ ap (λ xs. before ++ take n left ++ xs) (sym (line_first files (drop n left) line others (Some name) lines is))

pub included_told : (old mid new : List Part) (left middle rest line others name : List ℕ) (n number : ℕ) → drop n left ≡ line ++ others → lines_of (drop n left) ≡ line ∷ lines_of others → include_name line ≡ Some name
    → ((files : Files) → flat_map (part_missing files) mid ≡ flat_map (part_missing files) old) → new ≡ mid ++ Include (record { number = number; name = name }) ∷ []
    → middle ≡ drop n left → rest ≡ drop (length line) middle
    → (files : Files) → flat_map (part_missing files) new ++ missing files (number + 1) (drop 0 rest) ≡ flat_map (part_missing files) old ++ missing files number (drop n left)
included_told old mid new left middle rest line others name n number tail lines is text part middle_is after files =
    let lost = told number name (files name) in
    let before = flat_map (part_missing files) old in
    (λ i. (ap (flat_map (part_missing files)) part ∙ one_more (part_missing files) mid (Include (record { number = number; name = name })) ∙ ap (λ xs. xs ++ lost) (text files)) i
    ++ missing files (number + 1) (rest_is left middle rest line others n tail middle_is after i))
    ∙ append_assoc before lost (missing files (number + 1) others)
    ∙ ap (λ xs. before ++ xs) (sym (told_first files number (drop n left) line others (Some name) lines is))

none_left : (n : ℕ) (xs : List ℕ) → length xs ≤ n → drop n xs ≡ []
none_left zero [] h = refl
none_left zero (x ∷ xs) h = absurd (omega (arith, h))
none_left (suc n) [] h = refl
none_left (suc n) (x ∷ xs) h = none_left n xs (omega (arith, h))

-- the plain lines at the end
pub ended_whole : (before after left bytes : List ℕ) (n : ℕ) (files : Files) → length left ≤ n → after ≡ before ++ left → before ++ take n left ++ expanded files (drop n left) ≡ expanded files bytes → after ≡ expanded files bytes
ended_whole before after left bytes n files done last all =
    last ∙ sym (append-nil (before ++ left)) ∙ (λ i. before ++ sym (take_all n left done) i ++ expanded files (sym (none_left n left done) i)) ∙ all

pub ended_told : (before after : List Missing) (left bytes : List ℕ) (n number first : ℕ) (files : Files) → length left ≤ n → after ≡ before → before ++ missing files number (drop n left) ≡ missing files first bytes → after ≡ missing files first bytes
ended_told before after left bytes n number first files done last all =
    last ∙ sym (append-nil before) ∙ ap (λ xs. before ++ missing files number xs) (sym (none_left n left done)) ∙ all
