-- What is put one after another.
use Rattle.std.proofs.Common.{◌≡◌, ℕ, suc, ◌-◌, ◌<◌, Bool, true, false, cond, [], ◌∷◌, ◌++◌, length, refl, sym, ap, ◌∙◌, arith}
use Rattle.std.specs.Prelude.{filter}
use Rattle.std.specs.FinMap.{insert}
use Rattle.res_path.specs.Paths.{Names, parent}
use Rattle.ws_elem.specs.declared.element.Element.{Element}
use Rattle.ws_elem.specs.Trees.{Tree}
use Rattle.op_kind.specs.Entries.{Entries}
use Rattle.op_kind.specs.Members.{put_all, carried}
use Rattle.output_edits.specs.Wanted.{above}

pub put_all_append : (t : Tree) (es fs : Entries) → put_all t (es ++ fs) ≡ put_all (put_all t es) fs
put_all_append t [] fs = refl
put_all_append t (e ∷ es) fs = put_all_append (insert t e.0 e.1) es fs

-- one more element that is put where it passes a test
pub put_kept : (t : Tree) (o : Names) (test : Names × Element → Bool) (e : Names × Element) (es : Entries)
    → put_all (put_all t (carried o [] (cond (test e) (e ∷ []) []))) (carried o [] (filter test es)) ≡ put_all t (carried o [] (filter test (e ∷ es)))
put_kept t o test e es = by (test e)
  where
    by : (b : Bool) → put_all (put_all t (carried o [] (cond b (e ∷ []) []))) (carried o [] (filter test es)) ≡ put_all t (carried o [] (cond b (e ∷ filter test es) (filter test es)))
    by true = refl
    by false = refl

parent_length : (p : Names) → length (parent p) ≡ length p - 1
parent_length [] = refl
parent_length (n ∷ []) = refl
parent_length (n ∷ m ∷ p) = let h : length (parent (m ∷ p)) ≡ length (m ∷ p) - 1 = parent_length (m ∷ p) in omega arith

pub parent_shorter : (p : Names) → 2 < length p → length (parent p) < length p
parent_shorter p h = let less : length (parent p) ≡ length p - 1 = parent_length p in omega arith

one_less : (n : ℕ) → 2 < n → n - 2 ≡ suc (n - 1 - 2)
one_less n h = omega arith

-- the paths above one that isn't a project's or a member's of it
pub above_next : (p : Names) → 2 < length p → above (length p - 2) p ≡ parent p ∷ above (length (parent p) - 2) (parent p)
above_next p h = ap (λ n. above n p) (one_less (length p) h) ∙ ap (λ n. parent p ∷ above (n - 2) (parent p)) (sym (parent_length p))

pub above_none : (p : Names) → (length p) - 2 ≡ 0 → above (length p - 2) p ≡ []
above_none p h = ap (λ n. above n p) h
