-- The builder `expand`.
use Rattle.std.specs.Prelude.{ℕ, pos, if◌then◌else◌, List, [], ◌∷◌, ◌++◌, map, drop, codes, Option, Some, None}
use Rattle.std.specs.FinMap.{insert}
use Rattle.std.specs.Str.{bytes_eq}
use Rattle.res_path.specs.Paths.{Names, parent, path_text}
use Rattle.builder_api.specs.declared.edits.Problem.{Problem}
use Rattle.builder_api.specs.Meanings.{Made, Meaning}
use Rattle.builder_api.specs.Told.{Told}
use Rattle.include_lines.specs.declared.expanding.Missing.{Missing}
use Rattle.include_lines.specs.Expanding.{expanded, missing}
use Rattle.std_kit.specs.Making.{nothing_made, shadowed, with_problem}
use Rattle.std_kit.specs.Placed.{is_free}
use Rattle.std_kit.specs.Roots.{rooted, relative}
use Rattle.std_expand.specs.Sources.{source_stem}

-- a relative path's text: its names, with a slash between each two
abbrev pub relative_text : Names → List ℕ
relative_text p = drop 1 (path_text p)

-- the bytes of the file, among those of a root, whose relative path has this text
abbrev pub file_named : Names → List (Names × List ℕ) → List ℕ → Option (List ℕ)
file_named root [] name = None
file_named root (e ∷ es) name = if bytes_eq (relative_text (relative root e.0)) name then Some e.1 else file_named root es name

-- a line of the file at the location that includes no file
abbrev pub problem_at : Names → Missing → Problem
problem_at location m = record { location = location; line = m.line; severity = pos 2; message = m.message }

-- one more file, made of the one at the location, with the problems of its lines; it is left out where its path isn't free
abbrev pub with_expanded : Made → Names → Names → List ℕ → List Missing → Made
with_expanded m location p bytes lines =
    if is_free m.files p then record { files = insert m.files p bytes; problems = m.problems ++ map (problem_at location) lines } else with_problem m (shadowed location)

-- what is made of a root's file too, whose last name is this one without `.in`; of others nothing
abbrev pub with_stem : (List ℕ → Option (List ℕ)) → Names → Made → Names × List ℕ → Option (List ℕ) → Made
with_stem named root m e None = m
with_stem named root m e (Some stem) = with_expanded m e.0 (parent (relative root e.0) ++ stem ∷ []) (expanded named e.1) (missing named 1 e.1)

abbrev pub with_source : (List ℕ → Option (List ℕ)) → Names → Made → Names × List ℕ → Made
with_source named root m e = with_stem named root m e (source_stem e.0)

-- the same of files of a root, one after another, and of roots
abbrev pub with_sources : (List ℕ → Option (List ℕ)) → Names → Made → List (Names × List ℕ) → Made
with_sources named root m [] = m
with_sources named root m (e ∷ es) = with_sources named root (with_source named root m e) es

abbrev pub with_roots : Made → List (Names × List (Names × List ℕ)) → Made
with_roots m [] = m
with_roots m (root ∷ roots) = with_roots (with_sources (file_named root.0 root.1) root.0 m root.1) roots

-- what `expand` makes of input files
abbrev pub expand : Meaning
expand c i = with_roots nothing_made (rooted c.inputs i)

-- what the builder tells: it isn't told how it was called, and never fails
abbrev pub expand_told : Told
expand_told = record { named = codes "expand"; means = Some expand; calls = None; faults = 0 }
