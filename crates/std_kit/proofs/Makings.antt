-- A file that is placed, or left out with a problem.
use Rattle.std.proofs.Common.{◌≡◌, ℕ, Bool, true, false, cond, List, refl, sym, ap, ◌∙◌}
use Rattle.std.specs.FinMap.{insert}
use Rattle.res_path.specs.Paths.{Names}
use Rattle.builder_api.specs.declared.edits.Problem.{Problem}
use Rattle.builder_api.specs.Files.{Files}
use Rattle.builder_api.specs.Meanings.{Made}
use Rattle.std_kit.specs.Placed.{AreMade, is_free, with_placed}
use Rattle.std_kit.specs.Making.{shadowed, with_problem, with_file}
use Rattle.std_kit.proofs.Placing.{inserted_made}

pub left_out : (files placed : Files) (problems : List Problem) (m : Made) (location p : Names) (bytes : List ℕ) (b : Bool) (x : Problem) (after : Made)
    → ◌≡◌ {A = Made} (record { files = files; problems = problems }) m → placed ≡ with_placed files p bytes → b ≡ is_free files p → b ≡ false → x ≡ shadowed location
    → after ≡ with_problem (record { files = placed; problems = problems }) x → after ≡ with_file m location p bytes
left_out files placed problems m location p bytes b x after view same answer out is done =
    let taken : is_free files p ≡ false = sym answer ∙ out in
    done
    ∙ (λ i. with_problem (record { files = (same ∙ ap (λ c. cond c (insert files p bytes) files) taken) i; problems = problems }) (is i))
    ∙ sym (ap (λ c. cond c (record { files = insert files p bytes; problems = problems }) (with_problem (record { files = files; problems = problems }) (shadowed location))) taken)
    ∙ ap (λ m. with_file m location p bytes) view

-- files that are made so are placed
pub with_file_made : (m : Made) (location p : Names) (bytes : List ℕ) → AreMade m.files → AreMade (with_file m location p bytes).files
with_file_made m location p bytes made = by (is_free m.files p) refl
  where
    by : (b : Bool) → is_free m.files p ≡ b → AreMade (cond b (record { files = insert m.files p bytes; problems = m.problems }) (with_problem m (shadowed location))).files
    by true free = inserted_made m.files made p bytes free
    by false free = made
