-- What the text that a path is kept in tells of the path.
use Rattle.std.proofs.Common.{◌≡◌, ◌≢◌, ℕ, ◌+◌, ◌<◌, true, false, cond, List, [], ◌∷◌, length, Some, None, refl, sym, ◌∙◌, ap, subst, arith, add_comm}
use Rattle.std.specs.Prelude.{IsUtf8}
use Rattle.std.specs.List.{count_by}
use Rattle.std.proofs.lemmas.Grind.{common_steps}
use Rattle.std.proofs.lemmas.Bool.Decides.{nat_tests}
use Rattle.std.proofs.lemmas.List.Splits.{length-slice_split}
use Rattle.std.proofs.lemmas.List.Sums.{sum_by-cons}
use Rattle.res_path.specs.Paths.{Names, IsPath, path_cmp, is_prefix, slashed, path_text}
use Rattle.res_path.specs.Parts.{is_slash, parts_of, path_fault, bad_segment, IsKept}
use Rattle.res_path.specs.Inside.Order.{text_cmp, text_prefix}
use Rattle.res_path.specs.declared.error.PathError.{PathError}
use Rattle.res_path.specs.declared.error.PathError.TheVariants.{BadSegment}
use Rattle.res_path.proofs.Spelled.{kept_text, no_fault, same_text, path_text-parts_of, parts_of-slashed, unfaulted, begun}
use Rattle.res_path.proofs.Compared.{text_cmp-slashed, text_prefix-slashed}

pub never_refused : (text : List ℕ) (e : PathError) → path_fault text ≡ Some e → (path : Names) → IsPath path → path_text path ≡ text → ⊥
never_refused text e h path p t = let none : path_fault text ≡ None = subst (λ bytes. path_fault bytes ≡ None) t (no_fault path p) in cc

pub read_again : (text : List ℕ) → IsKept text → 0 < length text → (path : Names) → IsPath path → path_text path ≡ text → parts_of text ≡ path
read_again text k h path p t = same_text (parts_of text) path k.path.names p.names (path_text-parts_of text k h ∙ sym t)

-- the text of a path other than the root
pub kept_by_text : (text : List ℕ) → IsUtf8 text → path_fault text ≡ None → 1 ≢ length text → IsKept text × (0 < length text)
kept_by_text [] u h n = absurd (let bad : Some (BadSegment 0) ≡ None = h in cc)
kept_by_text (b ∷ bytes) u h n = (kept_text (b ∷ bytes) u h n, grind (arith, common_steps))

pub root_text : (text : List ℕ) → path_fault text ≡ None → length text ≡ 1 → text ≡ 47 ∷ []
root_text [] h n = absurd (omega arith)
root_text (b ∷ []) h n =
    let good = begun (is_slash b) None (unfaulted false (bad_segment (b ∷ [])) 0 h).1 in
    let slash : b ≡ 47 = grind (arith, nat_tests) in ap (λ x. x ∷ []) slash
root_text (b ∷ c ∷ bytes) h n = absurd (grind (arith, common_steps))

pub root_again : (text : List ℕ) → path_fault text ≡ None → length text ≡ 1 → (path : Names) → IsPath path → path_text path ≡ text → [] ≡ path
root_again text h n path p t = same_text [] path tt p.names (sym (t ∙ root_text text h n))

first_slash : (b : ℕ) (bytes : List ℕ) (p : Names) → slashed p ≡ b ∷ bytes → is_slash b ≡ true
first_slash b bytes [] h = cc
first_slash b bytes (name ∷ p) h = let slash : 47 ≡ b = cc in ap is_slash (sym slash)

sum_by-cons_one : (b : ℕ) (bytes : List ℕ) → is_slash b ≡ true → count_by is_slash (b ∷ bytes) ≡ count_by is_slash bytes + 1
sum_by-cons_one b bytes h = sum_by-cons (λ x. cond (is_slash x) 1 0) b bytes ∙ ap (λ n. n + count_by is_slash bytes) (ap (λ t. cond t 1 0) h) ∙ add_comm 1 (count_by is_slash bytes)

pub count_kept : (text : List ℕ) → IsKept text → count_by is_slash text ≡ length (parts_of text)
count_kept [] k = refl
count_kept (b ∷ bytes) k =
    let first = first_slash b bytes (parts_of (b ∷ bytes)) k.spelled in
    let parts = length-slice_split is_slash bytes in
    let more : count_by is_slash (b ∷ bytes) ≡ count_by is_slash bytes + 1 = sum_by-cons_one b bytes first in
    more ∙ sym parts

pub kept_prefix : (a b : List ℕ) → IsKept a → IsKept b → text_prefix a b ≡ is_prefix (parts_of a) (parts_of b)
kept_prefix a b h g = (λ i. text_prefix (sym h.spelled i) (sym g.spelled i)) ∙ text_prefix-slashed (parts_of a) (parts_of b) h.path.names g.path.names

pub kept_cmp : (a b : List ℕ) → IsKept a → IsKept b → text_cmp a b ≡ path_cmp (parts_of a) (parts_of b)
kept_cmp a b h g = (λ i. text_cmp (sym h.spelled i) (sym g.spelled i)) ∙ text_cmp-slashed (parts_of a) (parts_of b) h.path.names g.path.names

-- the text that a path is kept in
pub kept_slashed : (p : Names) → IsPath p → IsKept (slashed p)
kept_slashed p h = record { path = subst IsPath (sym (parts_of-slashed p h.names)) h; spelled = ap slashed (parts_of-slashed p h.names) }
