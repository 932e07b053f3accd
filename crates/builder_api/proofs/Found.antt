-- A file among files in path order.
use Rattle.std.proofs.Common.{◌≡◌, ℕ, ◌+◌, ◌<◌, Bool, true, false, cond, List, [], ◌∷◌, ◌++◌, length, take, drop, refl, sym, ap, ◌∙◌, length-append, arith}
use Rattle.std.specs.Prelude.{Option, Some, None}
use Rattle.std.specs.declared.cmp.Ordering.TheVariants.{Less, Equal, Greater}
use Rattle.std.specs.FinMap.{find}
use Rattle.std.specs.List.{AllByRecursion}
use Rattle.std.specs.List.Sorted.{IsStrictlySortedBy}
use Rattle.std.specs.Map.{keys_of}
use Rattle.std.specs.Option.{option_or}
use Rattle.std.specs.Ordering.{eq_by_cmp, is_eq, ordering_reverse}
use Rattle.std.proofs.lemmas.List.{take-append-drop}
use Rattle.res_path.specs.Paths.{Names, path_cmp}
use Rattle.res_path.specs.PathLaws.{path_cmp_total}
use Rattle.res_path.proofs.Prefixes.{path_cmp_exact}
use Rattle.delta_kind.proofs.Rising.{Rises, all_over, rises_sorted, sorted_rises}

abbrev File : Type 0
File = Names × List ℕ

front_rises : (l : Option Names) (lower rest : List File) → Rises l (keys_of (lower ++ rest)) → Rises l (keys_of lower)
front_rises l [] rest h = tt
front_rises l (x ∷ lower) rest h = (h.0, front_rises (Some x.0) lower rest h.1)

back_rises : (l : Option Names) (lower : List File) (file : File) (higher : List File) → Rises l (keys_of (lower ++ file ∷ higher)) → Rises (Some file.0) (keys_of higher)
back_rises l [] file higher h = h.1
back_rises l (x ∷ lower) file higher h = back_rises (Some x.0) lower file higher h.1

pub lower_order : (lower : List File) (file : File) (higher : List File) → IsStrictlySortedBy path_cmp (keys_of (lower ++ file ∷ higher)) → IsStrictlySortedBy path_cmp (keys_of lower)
lower_order lower file higher h = rises_sorted None (keys_of lower) (front_rises None lower (file ∷ higher) (sorted_rises (keys_of (lower ++ file ∷ higher)) h))

pub higher_order : (lower : List File) (file : File) (higher : List File) → IsStrictlySortedBy path_cmp (keys_of (lower ++ file ∷ higher)) → IsStrictlySortedBy path_cmp (keys_of higher)
higher_order lower file higher h = rises_sorted (Some file.0) (keys_of higher) (back_rises None lower file higher (sorted_rises (keys_of (lower ++ file ∷ higher)) h))

here : (P : Names → Type 0) (lower : List File) (file : File) (higher : List File) → AllByRecursion P (keys_of (lower ++ file ∷ higher)) → P file.0
here P [] file higher h = h.0
here P (x ∷ lower) file higher h = here P lower file higher h.1

all_below : (l : Option Names) (lower : List File) (file : File) (higher : List File) → Rises l (keys_of (lower ++ file ∷ higher)) → AllByRecursion (λ q. path_cmp q file.0 ≡ Less) (keys_of lower)
all_below l [] file higher h = tt
all_below l (x ∷ lower) file higher h =
    (here (λ q. path_cmp x.0 q ≡ Less) lower file higher (all_over x.0 (keys_of (lower ++ file ∷ higher)) h.1), all_below (Some x.0) lower file higher h.1)

-- a path that is none of these has no file
none_with : (p : Names) (files : List File) → AllByRecursion (λ q. eq_by_cmp path_cmp p q ≡ false) (keys_of files) → find path_cmp p files ≡ None
none_with p [] h = refl
none_with p (file ∷ files) h = ap (λ b. cond b (Some file.1) (find path_cmp p files)) h.0 ∙ none_with p files h.1

past : (p q : Names) → path_cmp q p ≡ Less → eq_by_cmp path_cmp p q ≡ false
past p q h = ap is_eq (path_cmp_total.antisymm p q ∙ ap ordering_reverse h)

all_past : (p q : Names) (ps : List Names) → path_cmp q p ≡ Less → AllByRecursion (λ r. path_cmp r q ≡ Less) ps → AllByRecursion (λ r. eq_by_cmp path_cmp p r ≡ false) ps
all_past p q [] less h = tt
all_past p q (r ∷ ps) less h = (past p r (path_cmp_total.trans r q p h.0 less), all_past p q ps less h.1)

all_ahead : (p q : Names) (ps : List Names) → path_cmp p q ≡ Less → AllByRecursion (λ r. path_cmp q r ≡ Less) ps → AllByRecursion (λ r. eq_by_cmp path_cmp p r ≡ false) ps
all_ahead p q [] less h = tt
all_ahead p q (r ∷ ps) less h = (ap is_eq (path_cmp_total.trans p q r less h.0), all_ahead p q ps less h.1)

or_none : (x : Option (List ℕ)) → option_or x None ≡ x
or_none None = refl
or_none (Some file) = refl

find_both : (p : Names) (xs ys : List File) → find path_cmp p (xs ++ ys) ≡ option_or (find path_cmp p xs) (find path_cmp p ys)
find_both p [] ys = refl
find_both p (x ∷ xs) ys = by (eq_by_cmp path_cmp p x.0) (find_both p xs ys)
  where
    by : (b : Bool) → find path_cmp p (xs ++ ys) ≡ option_or (find path_cmp p xs) (find path_cmp p ys)
        → cond b (Some x.1) (find path_cmp p (xs ++ ys)) ≡ option_or (cond b (Some x.1) (find path_cmp p xs)) (find path_cmp p ys)
    by true h = refl
    by false h = h

module _ (p : Names) (lower : List File) (file : File) (higher : List File) (order : IsStrictlySortedBy path_cmp (keys_of (lower ++ file ∷ higher))) where
  up : Rises None (keys_of (lower ++ file ∷ higher))
  up = sorted_rises (keys_of (lower ++ file ∷ higher)) order

  pub found_lower : path_cmp p file.0 ≡ Less → find path_cmp p (lower ++ file ∷ higher) ≡ find path_cmp p lower
  found_lower less =
      find_both p lower (file ∷ higher) ∙ ap (option_or (find path_cmp p lower))
      (none_with p (file ∷ higher) (ap is_eq less, all_ahead p file.0 (keys_of higher) less (all_over file.0 (keys_of higher) (back_rises None lower file higher up))))
      ∙ or_none (find path_cmp p lower)

  pub found_higher : path_cmp p file.0 ≡ Greater → find path_cmp p (lower ++ file ∷ higher) ≡ find path_cmp p higher
  found_higher more =
      find_both p lower (file ∷ higher) ∙ ap (λ x. option_or x (find path_cmp p (file ∷ higher)))
      (none_with p lower (all_past p file.0 (keys_of lower) (path_cmp_total.antisymm file.0 p ∙ ap ordering_reverse more) (all_below None lower file higher up)))
      ∙ ap (λ b. cond b (Some file.1) (find path_cmp p higher)) (ap is_eq more)

  pub found_here : path_cmp p file.0 ≡ Equal → find path_cmp p (lower ++ file ∷ higher) ≡ Some file.1
  found_here same =
      find_both p lower (file ∷ higher) ∙ ap (λ x. option_or x (find path_cmp p (file ∷ higher)))
      (none_with p lower (none_tied (keys_of lower) (all_below None lower file higher up)))
      ∙ ap (λ b. cond b (Some file.1) (find path_cmp p higher)) (ap is_eq same)
    where
      none_tied : (ps : List Names) → AllByRecursion (λ r. path_cmp r file.0 ≡ Less) ps → AllByRecursion (λ r. eq_by_cmp path_cmp p r ≡ false) ps
      none_tied [] h = tt
      none_tied (r ∷ ps) h = (past p r (ap (path_cmp r) (path_cmp_exact p file.0 same) ∙ h.0), none_tied ps h.1)

-- the files before one, it, and those after it
pub joined : (files lower rest : List File) (i : ℕ) (file : File) (higher : List File) → lower ≡ take i files → rest ≡ drop i files → rest ≡ file ∷ higher
    → files ≡ lower ++ file ∷ higher
joined files lower rest i file higher front back first = sym (take-append-drop i files) ∙ (λ j. sym front j ++ (sym back ∙ first) j)

pub smaller : (files lower : List File) (file : File) (higher : List File) → files ≡ lower ++ file ∷ higher → (length lower < length files) × (length higher < length files)
smaller files lower file higher h = let all : length files ≡ length lower + length (file ∷ higher) = ap length h ∙ length-append lower (file ∷ higher) in (omega arith, omega arith)
