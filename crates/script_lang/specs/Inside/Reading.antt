-- How a script is read, line by line.
use Rattle.std.specs.Prelude.{◌≡◌, ℕ, Bool, true, false, List, [], ◌∷◌, ◌++◌, Option, Some, None, codes, if◌then◌else◌}
use Rattle.std.specs.Option.{option_map}
use Rattle.sched_rules.specs.declared.ws_atom.WsAtom.{WsAtom}
use Rattle.script_lang.specs.declared.script.Job.{Job}
use Rattle.script_lang.specs.declared.line.Line.{Line}
use Rattle.script_lang.specs.declared.line.Line.TheVariants.{BeginPhase, BeginJob, InJob, EndJob, EndPhase}
use Rattle.script_lang.specs.declared.progress.Place.{Place}
use Rattle.script_lang.specs.declared.progress.Place.TheVariants.{Outside, WithinPhase, WithinJob}
use Rattle.script_lang.specs.declared.progress.Progress.{Progress}
use Rattle.script_words.specs.declared.words.Token.{Token}
use Rattle.script_words.specs.Words.{SpellsLine}
use Rattle.script_words.specs.Lines.{unskipped}
use Rattle.script_words.specs.Inside.Passing.{next_number, TakesLine}
use Rattle.script_parts.specs.Parts.{keyword, FitsParts, rule_parts, rule_read}
use Rattle.script_parts.specs.Inside.Found.{FitsFront}
use Rattle.script_lang.specs.Commands.{FitsLine, asleep_parts}
use Rattle.script_lang.specs.Inside.Ordered.{has_job}

-- ---- one line

-- the line that the tokens stand for, or none where there is none
abbrev pub IsLineOf : List Token → Option Line → Type 0
IsLineOf tokens None = (line : Line) → FitsLine tokens line → ⊥
IsLineOf tokens (Some line) = FitsLine tokens line

-- whether a job is scheduled asleep, and its rule, where the tokens say that
abbrev pub IsStartFound : List Token → Option (Bool × List WsAtom) → Type 0
IsStartFound tokens None = (asleep : Bool) (atoms : List WsAtom) → FitsParts tokens (asleep_parts asleep ++ rule_parts atoms) → ⊥
IsStartFound tokens (Some start) = (atoms : List WsAtom) × (rule_read atoms ≡ start.1) × FitsParts tokens (asleep_parts start.0 ++ rule_parts atoms)

-- whether the tokens begin with the word of a job that is scheduled asleep, and those behind it
abbrev pub IsSleepFound : List Token → Bool → List Token → Type 0
IsSleepFound tokens true rest = FitsFront tokens (keyword (codes "asleep") ∷ []) rest
IsSleepFound tokens false rest = (tokens ≡ rest) × ((more : List Token) → FitsFront tokens (keyword (codes "asleep") ∷ []) more → ⊥)

-- ---- one line after another

-- the jobs and one more, unless one of them has its name
abbrev pub with_job : List Job → Job → Option (List Job)
with_job jobs job = if has_job jobs job.name then None else Some (jobs ++ job ∷ [])

-- in the phase of these jobs, where the job begins, unless one of them has its name
abbrev pub job_begun : List Job → Job → Option Place
job_begun jobs job = if has_job jobs job.name then None else Some (WithinJob jobs job)

-- where the reading stands after one more line, if the line may stand there
abbrev pub goes : Progress → Line → Option Progress
goes progress line = by progress.place line
  where
    by : Place → Line → Option Progress
    by Outside BeginPhase = Some (record progress { place = WithinPhase [] })
    by (WithinPhase jobs) (BeginJob name priority asleep rule) = option_map (λ place. record progress { place = place })
        (job_begun jobs (record { name = name; priority = priority; asleep = asleep; rule = rule; commands = [] }))
    by (WithinPhase jobs) EndPhase = Some (record { phases = progress.phases ++ (record { jobs = jobs }) ∷ []; place = Outside })
    by (WithinJob jobs job) (InJob command) = Some (record progress { place = WithinJob jobs (record job { commands = job.commands ++ command ∷ [] }) })
    by (WithinJob jobs job) EndJob = option_map (λ more. record progress { place = WithinPhase more }) (with_job jobs job)
    by place line = None

-- ---- from the lines of a text

-- the next line that isn't skipped says this
pub record SaysNext (old new : List (List ℕ)) (line : Line) : Type 0 where
  pub tokens : List Token
  pub taken : TakesLine old tokens new
  pub fits : FitsLine tokens line

-- the next line that isn't skipped was read
pub record Steps (old new : List (List ℕ)) (before after : Progress) : Type 0 where
  pub line : Line
  pub says : SaysNext old new line
  pub goes_to : goes before line ≡ Some after

-- the next line that isn't skipped, where so many lines were read, has this number, or one past the last where each is
-- skipped; and none that it may say can stand there
pub record IsStuck (read : ℕ) (lines : List (List ℕ)) (progress : Progress) (number : ℕ) : Type 0 where
  pub number_is : number ≡ next_number read lines
  pub none : (next : List ℕ) (more : List (List ℕ)) → unskipped lines ≡ next ∷ more → (tokens : List Token) → SpellsLine next tokens
      → (line : Line) → FitsLine tokens line → goes progress line ≡ None

-- each line that isn't skipped was read, and no phase is open
abbrev pub IsWhole : List (List ℕ) → Progress → Type 0
IsWhole lines progress = (progress.place ≡ Outside) × (unskipped lines ≡ [])
