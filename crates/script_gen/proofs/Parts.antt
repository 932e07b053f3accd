-- What one turn of a loop adds, and what all of them have added.
use Rattle.std.proofs.Common.{◌≡◌, ◌∙◌, ℕ, ◌+◌, ◌*◌, ◌/◌, ◌%◌, List, [], ◌∷◌, ◌++◌, map, sym, ap}
use Rattle.std.specs.Prelude.{codes, decimal}
use Rattle.std.specs.List.{flat_map, range_with_len}
use Rattle.res_path.specs.Paths.{Names}
use Rattle.op_kind.specs.declared.op.Op.TheVariants.{CreateFile, Write}
use Rattle.script_lang.specs.declared.script.Command.{Command}
use Rattle.script_lang.specs.declared.script.Command.TheVariants.{Operation}
use Rattle.script_lang.specs.declared.script.Job.{Job}
use Rattle.script_gen.specs.Draws.{next, behind}
use Rattle.script_gen.specs.Generated.{numbered, source_path, file_path, create_file, files, project_commands, projects, write_file, edits, edit_job, edit_jobs}
use Rattle.script_gen.proofs.Made.{behind_more, one_more}

pub file_made : (state p n : ℕ) (path : Names) (bytes : List ℕ) (value at : ℕ) → path ≡ source_path p ++ numbered (codes "f") n ∷ [] → bytes ≡ decimal value
    → value ≡ next at / 65536 % 32768 → at ≡ behind state n → Operation (CreateFile path bytes) ≡ create_file state p n
file_made state p n path bytes value at placed told drawn stands =
    ap (λ q. Operation (CreateFile q bytes)) placed
    ∙ ap (λ b. Operation (CreateFile (file_path p n) b)) (told ∙ ap decimal (drawn ∙ ap (λ x. next x / 65536 % 32768) stands))

pub file_written : (state p i : ℕ) (path : Names) (bytes : List ℕ) (file value at on : ℕ) → path ≡ source_path p ++ numbered (codes "f") file ∷ [] → file ≡ next at / 65536 % 100
    → at ≡ behind state (2 * i) → on ≡ next at → bytes ≡ decimal value → value ≡ next on / 65536 % 32768 → Operation (Write path bytes) ≡ write_file state p i
file_written state p i path bytes file value at on placed chosen stands goes told drawn =
    let second : on ≡ behind state (2 * i + 1) = goes ∙ ap next stands ∙ sym (behind_more state (2 * i)) in
    ap (λ q. Operation (Write q bytes)) (placed ∙ ap (file_path p) (chosen ∙ ap (λ x. next x / 65536 % 100) stands))
    ∙ ap (λ b. Operation (Write (file_path p (next (behind state (2 * i)) / 65536 % 100)) b)) (told ∙ ap decimal (drawn ∙ ap (λ x. next x / 65536 % 32768) second))

pub all_files : (state p n : ℕ) (old now : List Command) → n ≡ 100 → now ≡ old ++ map (create_file state p) (range_with_len 0 n) → now ≡ old ++ files state p
unfolding files
all_files state p n old now all is = is ∙ ap (λ k. old ++ map (create_file state p) (range_with_len 0 k)) all

pub all_edits : (state p n : ℕ) (old now : List Command) → n ≡ 50 → now ≡ old ++ map (write_file state p) (range_with_len 0 n) → now ≡ old ++ edits state p
unfolding edits
all_edits state p n old now all is = is ∙ ap (λ k. old ++ map (write_file state p) (range_with_len 0 k)) all

pub all_projects : (state n : ℕ) (old now : List Command) → n ≡ 16 → now ≡ old ++ flat_map (λ p. project_commands (behind state (100 * p)) p) (range_with_len 0 n)
    → now ≡ old ++ projects state
unfolding projects
all_projects state n old now all is = is ∙ ap (λ k. old ++ flat_map (λ p. project_commands (behind state (100 * p)) p) (range_with_len 0 k)) all

pub all_jobs : (state n : ℕ) (now : List Job) → n ≡ 16 → now ≡ map (λ p. edit_job (behind state (100 * p)) p) (range_with_len 0 n) → now ≡ edit_jobs state
unfolding edit_jobs
all_jobs state n now all is = is ∙ ap (λ k. map (λ p. edit_job (behind state (100 * p)) p) (range_with_len 0 k)) all

-- the jobs with one more, whose draws begin at a state
pub job_more : (state n at : ℕ) (job : Job) (before now : List Job) → now ≡ before ++ job ∷ [] → job ≡ edit_job at n → at ≡ behind state (100 * n)
    → before ≡ map (λ p. edit_job (behind state (100 * p)) p) (range_with_len 0 n) → now ≡ map (λ p. edit_job (behind state (100 * p)) p) (range_with_len 0 (n + 1))
job_more state n at job before now more made stands is =
    more ∙ ap (λ x. before ++ x ∷ []) (made ∙ ap (λ x. edit_job x n) stands) ∙ one_more (λ p. edit_job (behind state (100 * p)) p) n [] before is
