-- The names of a phase's jobs, in order.
use Rattle.std.specs.Prelude.{◌≡◌, ℕ, Bool, List}
use Rattle.std.specs.BTreeMap.{is_at}
use Rattle.std.specs.Cmp.Lexicographic.{slice_cmp}
use Rattle.std.specs.List.{list_any}
use Rattle.std.specs.Ordering.{nat_cmp}
use Rattle.std.specs.Str.{bytes_eq}
use Rattle.script_lang.specs.declared.script.Job.{Job}

-- whether one of the jobs has this name
abbrev pub has_job : List Job → List ℕ → Bool
has_job jobs name = list_any (λ job. bytes_eq job.name name) jobs

-- the ordered names are those of the jobs
abbrev pub AreTheirNames : List (List ℕ) → List Job → Type 0
AreTheirNames names jobs = (name : List ℕ) → list_any (is_at (slice_cmp nat_cmp name)) names ≡ has_job jobs name
