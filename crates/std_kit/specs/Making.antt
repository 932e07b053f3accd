-- What a builder makes, file by file.
use Rattle.std.specs.Prelude.{ℕ, pos, if◌then◌else◌, List, [], ◌∷◌, ◌++◌, codes, refl}
use Rattle.std.specs.Coded.{Coded, code_by, coded×, coded_ℕ, coded_list}
use Rattle.std.specs.FinMap as map
use Rattle.res_path.specs.Paths.{Names}
use Rattle.builder_api.specs.declared.edits.Problem.{Problem}
use Rattle.builder_api.specs.Files.{Files}
use Rattle.builder_api.specs.Meanings.{Made}
use Rattle.std_kit.specs.Placed.{is_free}

-- nothing is made
abbrev pub nothing_made : Made
nothing_made = record { files = map.empty; problems = [] }

-- a file is left out
abbrev pub shadowed : Names → Problem
shadowed location = record { location = location; line = pos 0; severity = pos 1; message = codes "shadowed" }

-- one more problem
abbrev pub with_problem : Made → Problem → Made
with_problem m problem = record { files = m.files; problems = m.problems ++ problem ∷ [] }

-- one more file, made of the one at the location; it is left out where its path isn't free
abbrev pub with_file : Made → Names → Names → List ℕ → Made
with_file m location p bytes = if is_free m.files p then record { files = map.insert m.files p bytes; problems = m.problems } else with_problem m (shadowed location)

-- what is made is stored as the pair of its fields
abbrev pub made_code : Coded Problem → Coded Made
made_code p = code_by (Files × List Problem) (coded× (map.code (coded_list (coded_list coded_ℕ)) (coded_list coded_ℕ)) (coded_list p)) (λ m. (m.files, m.problems)) (λ m. record { files = m.0; problems = m.1 }) (λ _. refl)
