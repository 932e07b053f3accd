-- What is reached from a path.
use Rattle.std.proofs.Common.{◌≡◌, ℕ, ◌+◌, Bool, true, false, cond, ◌&&◌, [], ◌∷◌, ◌++◌, length, arith, refl, sym, ap, ◌∙◌}
use Rattle.std.specs.Prelude.{Option, Some, None, filter, nat_le}
use Rattle.std.specs.FinMap.{get, entries}
use Rattle.std.proofs.lemmas.Bool.Decides.{nat_tests}
use Rattle.std.proofs.lemmas.List.{append_assoc}
use Rattle.std.proofs.lemmas.List.Elements.{filter-append}
use Rattle.res_path.specs.Paths.{Names, is_prefix}
use Rattle.ws_elem.specs.Depths.{is_within}
use Rattle.ws_elem.specs.Trees.{Tree, branch}
use Rattle.ws_elem.specs.declared.depth.Depth.{Depth}
use Rattle.ws_elem.specs.declared.depth.Depth.TheVariants.{Zero, One, Infinite}
use Rattle.ws_elem.specs.declared.element.Element.{Element}
use Rattle.op_kind.specs.Entries.{Entries}
use Rattle.op_kind.specs.Marking.{reached}
use Rattle.op_kind.specs.Members.{found_at, members}
use Rattle.op_plan.proofs.Walked.{prefix_itself, branch_split}

-- what doesn't begin with p is out of reach
beyond : (depth : Depth) (p q : Names) → is_prefix p q ≡ false → is_within depth p q ≡ false
beyond Zero p q h = ap (λ b. b && nat_le (length q) (length p)) h
beyond One p q h = ap (λ b. b && nat_le (length q) (length p + 1)) h
beyond Infinite p q h = h

within_branch : (depth : Depth) (p : Names) (es : Entries) → filter (λ e. is_within depth p e.0) (filter (λ e. is_prefix p e.0) es) ≡ filter (λ e. is_within depth p e.0) es
within_branch depth p [] = refl
within_branch depth p (e ∷ es) = by (is_prefix p e.0) refl (within_branch depth p es)
  where
    test : Names × Element → Bool
    test x = is_within depth p x.0

    by : (b : Bool) → is_prefix p e.0 ≡ b → filter test (filter (λ x. is_prefix p x.0) es) ≡ filter test es
        → filter test (cond b (e ∷ filter (λ x. is_prefix p x.0) es) (filter (λ x. is_prefix p x.0) es)) ≡ cond (test e) (e ∷ filter test es) (filter test es)
    by true h rest = ap (λ xs. cond (test e) (e ∷ xs) xs) rest
    by false h rest = rest ∙ ap (λ b. cond b (e ∷ filter test es) (filter test es)) (sym (beyond depth p e.0 h))

reached_branch : (t : Tree) (p : Names) (depth : Depth) → filter (λ e. is_within depth p e.0) (branch t p) ≡ reached t p depth
reached_branch t p depth = within_branch depth p (entries t)

-- p itself is in reach
at_hand : (depth : Depth) (p : Names) → is_within depth p p ≡ true
at_hand Zero p = λ i. prefix_itself p i && within 0 i
  where
    within : (n : ℕ) → nat_le (length p) (length p) ≡ true
    within n = grind (arith, nat_tests)
at_hand One p = λ i. prefix_itself p i && within 0 i
  where
    within : (n : ℕ) → nat_le (length p) (length p + 1) ≡ true
    within n = grind (arith, nat_tests)
at_hand Infinite p = prefix_itself p

found_kept : (depth : Depth) (p : Names) (x : Option Element) → filter (λ e. is_within depth p e.0) (found_at p x) ≡ found_at p x
found_kept depth p None = refl
found_kept depth p (Some e) = ap (λ b. cond b ((p, e) ∷ []) []) (at_hand depth p)

-- what is at p, and then what is below it
pub reached_split : (t : Tree) (p : Names) (depth : Depth) → reached t p depth ≡ found_at p (get t p) ++ filter (λ e. is_within depth p e.0) (members t p)
reached_split t p depth =
    sym (reached_branch t p depth)
    ∙ ap (filter (λ e. is_within depth p e.0)) (branch_split t p)
    ∙ filter-append (λ e. is_within depth p e.0) (found_at p (get t p)) (members t p)
    ∙ ap (λ es. es ++ filter (λ e. is_within depth p e.0) (members t p)) (found_kept depth p (get t p))

-- one more entry that is in reach, or not
pub reached_step : (depth : Depth) (p : Names) (b : Bool) (found : Entries) (x : Names × Element) (es : Entries) → b ≡ is_within depth p x.0
    → (found ++ cond b (x ∷ []) []) ++ filter (λ e. is_within depth p e.0) es ≡ found ++ filter (λ e. is_within depth p e.0) (x ∷ es)
reached_step depth p b found x es h =
    append_assoc found (cond b (x ∷ []) []) rest ∙ ap (λ ys. found ++ ys) (by b ∙ ap (λ c. cond c (x ∷ rest) rest) h)
  where
    rest : Entries
    rest = filter (λ e. is_within depth p e.0) es

    by : (c : Bool) → cond c (x ∷ []) [] ++ rest ≡ cond c (x ∷ rest) rest
    by true = refl
    by false = refl
