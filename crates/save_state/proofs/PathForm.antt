-- The form of a path.
use Rattle.std.proofs.Common.{◌≡◌, ℕ, List, [], ◌∷◌, Option, Some, None, Result, Ok, Err, Bool, true, false, cond, refl, sym, ap, subst, ◌∙◌, arith, lit≤, ◌⊎◌, inl, inr}
use Rattle.std.specs.Prelude.{IfSome, MatchResult, IsUtf8, is_none, ◌&&◌}
use Rattle.std.specs.Str.{is_utf8}
use Rattle.std.proofs.lemmas.Str.{IsUtf8-from_is_utf8, is_utf8-from_IsUtf8}
use Rattle.std.proofs.lemmas.Bool.Decides.{nat_tests}
use Rattle.res_path.specs.Names.{IsName}
use Rattle.res_path.specs.Paths.{Names, IsPath, path_text, slashed}
use Rattle.res_path.specs.Parts.{path_fault, segment_fault, is_slash}
use Rattle.res_path.specs.declared.error.PathError.{PathError}
use Rattle.res_path.specs.declared.error.PathError.TheVariants.{BadSegment, TooLong, Memory}
use Rattle.res_path.proofs.Spelled.{both, kept_text, path_text-parts_of, no_fault, parts_of-slashed}
use Rattle.res_path.proofs.Built.{built, short_kept, kept_utf8}
use Rattle.save_form.specs.Forms.{text}
use Rattle.save_form.specs.Laws.{Lawful}
use Rattle.save_form.proofs.Fields.{text_lawful}
use Rattle.save_form.proofs.Combined.{made_lawful, lawful_as}
use Rattle.save_state.specs.Paths.{names_in, path_of, path}

some_when : {A : Type 0} (b : Bool) (x y : A) → cond b (Some x) None ≡ Some y → (b ≡ true) × (x ≡ y)
some_when true x y e = (refl, cc)
some_when false x y e = absurd cc

is_nothing : {A : Type 0} (o : Option A) → is_none o ≡ true → o ≡ None
is_nothing None e = refl
is_nothing (Some a) e = absurd (let f : false ≡ true = e in cc)

slash_by : (b : ℕ) (t : Bool) → is_slash b ≡ t → cond false (Some TooLong) (segment_fault (cond t None (Some 0)) 0) ≡ None → b ≡ 47
slash_by b true e ok = grind (arith, nat_tests)
slash_by b false e ok = absurd (let f : Some (BadSegment 0) ≡ None = ok in cc)

slash_alone : (b : ℕ) → path_fault (b ∷ []) ≡ None → b ≡ 47
slash_alone b ok = slash_by b (is_slash b) refl ok

-- a text without a fault is the text of its names
pub path_found : (bytes : List ℕ) → IsUtf8 bytes → path_fault bytes ≡ None → IsPath (names_in bytes) × (path_text (names_in bytes) ≡ bytes)
path_found [] u ok = absurd (let f : Some (BadSegment 0) ≡ None = ok in cc)
path_found (b ∷ []) u ok = let e = slash_alone b ok in (record { names = tt; deep = lit≤ tt; long = lit≤ tt }, ap (λ (c : ℕ). c ∷ []) (sym e))
path_found (b ∷ c ∷ bytes) u ok =
    let kept = kept_text (b ∷ c ∷ bytes) u ok (omega arith) in
    (kept.path, path_text-parts_of (b ∷ c ∷ bytes) kept (omega arith))

pub path_there : (bytes : List ℕ) (p : Names) → path_of bytes ≡ Some p → IsPath p × (path_text p ≡ bytes)
unfolding path_of
path_there bytes p e =
    let q = some_when (is_utf8 bytes && is_none (path_fault bytes)) (names_in bytes) p e in
    let r = both (is_utf8 bytes) (is_none (path_fault bytes)) q.0 in
    subst (λ (x : Names). IsPath x × (path_text x ≡ bytes)) q.1 (path_found bytes (IsUtf8-from_is_utf8 bytes r.0) (is_nothing (path_fault bytes) r.1))

path_of-is : (bytes : List ℕ) → IsUtf8 bytes → path_fault bytes ≡ None → path_of bytes ≡ Some (names_in bytes)
unfolding path_of
path_of-is bytes u ok = let a = is_utf8-from_IsUtf8 bytes u in rw (a, ok) refl

no_empty_name : IsName [] → ⊥
no_empty_name h = let e : false ≡ true = h.form in cc

slash_utf8 : IsUtf8 (47 ∷ [])
unfolding lib.Utf8.encode
slash_utf8 = (47 ∷ [], (refl, refl))

names_in-text : (p : Names) → IsPath p → IsUtf8 (path_text p) × (names_in (path_text p) ≡ p)
names_in-text [] h = (slash_utf8, refl)
names_in-text ([] ∷ p) h = absurd (no_empty_name h.names.0)
names_in-text ((c ∷ cs) ∷ p) h = (kept_utf8 (slashed ((c ∷ cs) ∷ p)) (built ((c ∷ cs) ∷ p) h.names h.deep (short_kept ((c ∷ cs) ∷ p) h.long)), parts_of-slashed ((c ∷ cs) ∷ p) h.names)

pub path_again : (p : Names) → IsPath p → path_of (path_text p) ≡ Some p
path_again p h = let q = names_in-text p h in path_of-is (path_text p) q.0 (no_fault p h) ∙ ap (λ (x : Names). Some x) q.1

pub path_lawful : Lawful IsPath path
unfolding path
path_lawful = lawful_as path _ IsPath (λ p fit. (path_there (path_text p) p fit.1).0) (λ p h. (omega (arith, h.long), path_again p h))
    (made_lawful path_of path_text text _ (λ bytes p e. (path_there bytes p e).1) text_lawful)

-- ---- what the code finds

no_utf8-by : (bytes : List ℕ) (b : Bool) → is_utf8 bytes ≡ b → (IsUtf8 bytes → ⊥) → None ≡ path_of bytes
unfolding path_of
no_utf8-by bytes b e never =
    elim b as (λ (v : Bool). is_utf8 bytes ≡ v → None ≡ path_of bytes) [
      | true ↦ λ f. absurd (never (IsUtf8-from_is_utf8 bytes f))
      | false ↦ λ f. rw f refl
    ] e

pub no_utf8 : (bytes : List ℕ) → (IsUtf8 bytes → ⊥) → None ≡ path_of bytes
unfolding path_of
no_utf8 bytes never = no_utf8-by bytes (is_utf8 bytes) refl never

nothing_else : (b : Bool) (x : Names) → None ≡ cond (b && false) (Some x) None
nothing_else true x = refl
nothing_else false x = refl

pub faulty : (bytes : List ℕ) (e : PathError) → path_fault bytes ≡ Some e → None ≡ path_of bytes
unfolding path_of
faulty bytes e h = rw h (nothing_else (is_utf8 bytes) (names_in bytes))

parsed-by : (bytes : List ℕ) (p : Names) (r : Result Names PathError) (o : Option PathError) → path_fault bytes ≡ o → r ≡ Ok p → IsUtf8 bytes → IfSome o (λ e. r ≡ Err e)
    → ((q : Names) → IsPath q → path_text q ≡ bytes → MatchResult r (λ x. x ≡ q) (λ e. e ≡ Memory)) → Some p ≡ path_of bytes
parsed-by bytes p r (Some e) ok is u fault all = absurd (let f : Ok p ≡ Err e = sym is ∙ fault in cc)
parsed-by bytes p r None ok is u fault all =
    let found = path_found bytes u ok in
    let same : p ≡ names_in bytes = subst (λ (x : Result Names PathError). MatchResult x (λ y. y ≡ names_in bytes) (λ e. e ≡ Memory)) is (all (names_in bytes) found.0 found.1) in
    ap (λ (x : Names). Some x) same ∙ sym (path_of-is bytes u ok)

pub parsed : (bytes : List ℕ) (p : Names) (r : Result Names PathError) → r ≡ Ok p → IsUtf8 bytes → IfSome (path_fault bytes) (λ e. r ≡ Err e)
    → ((q : Names) → IsPath q → path_text q ≡ bytes → MatchResult r (λ x. x ≡ q) (λ e. e ≡ Memory)) → Some p ≡ path_of bytes
parsed bytes p r is u fault all = parsed-by bytes p r (path_fault bytes) refl is u fault all

-- a text that was refused for another cause than memory
pub refused : (whole bytes : List ℕ) (e f : PathError) → whole ≡ bytes → e ≡ f → (f ≡ Memory → ⊥) → (e ≡ Memory) ⊎ (path_fault whole ≡ Some e) → None ≡ path_of bytes
refused whole bytes e f same is other (inl m) = absurd (other (sym is ∙ m))
refused whole bytes e f same is other (inr h) = subst (λ (b : List ℕ). None ≡ path_of b) same (faulty whole e h)
