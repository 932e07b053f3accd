-- What is carried from one path to another.
use Rattle.std.proofs.Common.{◌≡◌, suc, ◌+◌, ◌-◌, Bool, true, false, cond, ◌&&◌, [], ◌∷◌, length, refl, ap, ◌∙◌, length-append, length-drop}
use Rattle.std.specs.Prelude.{count_by, filter}
use Rattle.std.specs.List.{list_all}
use Rattle.std.specs.FinMap.{entries}
use Rattle.std.proofs.lemmas.List.Sums.{sum_by-cons}
use Rattle.res_path.specs.Paths.{Names, is_prefix}
use Rattle.ws_elem.specs.declared.element.Element.{Element}
use Rattle.ws_elem.specs.Trees.{Tree, branch}
use Rattle.op_kind.specs.Entries.{Entries}
use Rattle.op_kind.specs.Members.{rebased, carried}
use Rattle.op_kind.specs.Refusals.{number_causes}
use Rattle.op_kind.specs.Resources.{Resources}
use Rattle.op_kind.specs.Numbers.{has_stamp, stamps_of, stamps_of_all}

pub rebased_depth : (from to p : Names) → length (rebased from to p) ≡ length to + (length p - length from)
rebased_depth from to p = simp (length-append, length-drop)

pub stamps_counted : (es : Entries) → count_by (λ e. has_stamp e.1) es ≡ stamps_of_all es
stamps_counted [] = refl
stamps_counted (e ∷ es) = sum_by-cons (λ x. cond (has_stamp x.1) 1 0) e es ∙ ap (λ n. stamps_of e.1 + n) (stamps_counted es)

all_filtered : (f : Names × Element → Bool) (es : Entries) → list_all f (filter f es) ≡ true
all_filtered f [] = refl
all_filtered f (e ∷ es) = by (f e) refl (all_filtered f es)
  where
    by : (b : Bool) → f e ≡ b → list_all f (filter f es) ≡ true → list_all f (cond b (e ∷ filter f es) (filter f es)) ≡ true
    by true h rest = ap (λ b. b && list_all f (filter f es)) h ∙ rest
    by false h rest = rest

-- a branch is at or below its path
pub branch_under : (t : Tree) (p : Names) (es : Entries) → es ≡ branch t p → list_all (λ e. is_prefix p e.0) es ≡ true
branch_under t p es h = ap (list_all (λ e. is_prefix p e.0)) h ∙ all_filtered (λ e. is_prefix p e.0) (entries t)

-- carrying changes neither how many there are nor what they draw
pub carried_count : (from to : Names) (es : Entries) → length (carried from to es) ≡ length es
carried_count from to [] = refl
carried_count from to (e ∷ es) = ap suc (carried_count from to es)

pub carried_stamps : (from to : Names) (es : Entries) → stamps_of_all (carried from to es) ≡ stamps_of_all es
carried_stamps from to [] = refl
carried_stamps from to (e ∷ es) = ap (λ n. stamps_of e.1 + n) (carried_stamps from to es)

-- what can't be made of what is carried can't be made of what it is carried from
pub carried_numbers : (r : Resources) (from to : Names) (es : Entries) → number_causes r (length (carried from to es)) (stamps_of_all (carried from to es)) ≡ number_causes r (length es) (stamps_of_all es)
carried_numbers r from to es = λ i. number_causes r (carried_count from to es i) (carried_stamps from to es i)
