-- The lines of scripts, taken one after another.
use Rattle.std.proofs.Common.{◌≡◌, Bool, true, false, List, [], ◌∷◌, ◌++◌, map, Option, Some, None, refl, sym, ◌∙◌, ap, subst, append_assoc, append-nil}
use Rattle.std.specs.Prelude.{if◌then◌else◌}
use Rattle.std.specs.Option.{option_map}
use Rattle.std.proofs.lemmas.List.{map-append}
use Rattle.std.proofs.lemmas.Grind.{flat_map-append}
use Rattle.std.specs.List.{flat_map, AllByRecursion}
use Rattle.script_lang.specs.declared.script.Command.{Command}
use Rattle.script_lang.specs.declared.script.Job.{Job}
use Rattle.script_lang.specs.declared.script.Phase.{Phase}
use Rattle.script_lang.specs.declared.line.Line.{Line}
use Rattle.script_lang.specs.declared.line.Line.TheVariants.{BeginPhase, BeginJob, InJob, EndJob, EndPhase}
use Rattle.script_lang.specs.declared.progress.Place.{Place}
use Rattle.script_lang.specs.declared.progress.Place.TheVariants.{Outside, WithinPhase, WithinJob}
use Rattle.script_lang.specs.declared.progress.Progress.{Progress}
use Rattle.script_lang.specs.Names.{HaveOwnNames}
use Rattle.script_lang.specs.Scripts.{job_lines, phase_lines, HasOwnNames}
use Rattle.script_lang.specs.Inside.Ordered.{has_job}
use Rattle.script_lang.specs.Inside.Reading.{goes, job_begun, with_job}
use Rattle.script_lang.proofs.Named.{name_is_free, names_more}

-- the lines read of a job that isn't ended
abbrev pub begun_lines : Job → List Line
begun_lines job = BeginJob job.name job.priority job.asleep job.rule ∷ map InJob job.commands

-- the lines read of the phase that isn't closed
abbrev pub place_lines : Place → List Line
place_lines Outside = []
place_lines (WithinPhase jobs) = BeginPhase ∷ flat_map job_lines jobs
place_lines (WithinJob jobs job) = BeginPhase ∷ (flat_map job_lines jobs ++ begun_lines job)

-- the lines read
abbrev pub read_lines : Progress → List Line
read_lines progress = flat_map phase_lines progress.phases ++ place_lines progress.place

-- the names of the jobs in that phase differ
abbrev pub PlaceNames : Place → Type 0
PlaceNames Outside = Unit {0}
PlaceNames (WithinPhase jobs) = HaveOwnNames jobs
PlaceNames (WithinJob jobs job) = HaveOwnNames jobs × (has_job jobs job.name ≡ false)

-- the names of the jobs in each phase differ
pub record AreNamed (progress : Progress) : Type 0 where
  pub phases : AllByRecursion HasOwnNames progress.phases
  pub place : PlaceNames progress.place

-- where the reading stands after these lines
abbrev pub runs : List Line → Option Progress → Option Progress
runs [] at = at
runs (line ∷ lines) None = None
runs (line ∷ lines) (Some progress) = runs lines (goes progress line)

abbrev pub begun : Progress
begun = record { phases = []; place = Outside }

runs_none : (lines : List Line) → runs lines None ≡ None
runs_none [] = refl
runs_none (line ∷ lines) = refl

pub runs-append : (a b : List Line) (at : Option Progress) → runs (a ++ b) at ≡ runs b (runs a at)
runs-append [] b at = refl
runs-append (line ∷ a) b None = sym (runs_none b)
runs-append (line ∷ a) b (Some progress) = runs-append a b (goes progress line)

-- ---- a script's own lines

begins : (phases : List Phase) (jobs : List Job) (job : Job) → has_job jobs job.name ≡ false
    → option_map {U = Progress} (λ (place : Place). record { phases = phases; place = place }) (job_begun jobs job) ≡ Some (record { phases = phases; place = WithinJob jobs job })
begins phases jobs job h =
    ap (λ (b : Bool). option_map {U = Progress} (λ (place : Place). record { phases = phases; place = place }) (if b then None else Some (WithinJob jobs job))) h

closes_job : (phases : List Phase) (jobs : List Job) (job : Job) → has_job jobs job.name ≡ false
    → option_map {U = Progress} (λ (more : List Job). record { phases = phases; place = WithinPhase more }) (with_job jobs job) ≡ Some (record { phases = phases; place = WithinPhase (jobs ++ job ∷ []) })
closes_job phases jobs job h =
    ap (λ (b : Bool). option_map {U = Progress} (λ (more : List Job). record { phases = phases; place = WithinPhase more }) (if b then None else Some (jobs ++ job ∷ []))) h

runs_commands : (commands : List Command) (phases : List Phase) (jobs : List Job) (job : Job)
    → runs (map InJob commands) (Some (record { phases = phases; place = WithinJob jobs job }))
    ≡ Some (record { phases = phases; place = WithinJob jobs (record job { commands = job.commands ++ commands }) })
runs_commands [] phases jobs job =
    ap (λ (all : List Command). Some (record { phases = phases; place = WithinJob jobs (record job { commands = all }) })) (sym (append-nil job.commands))
runs_commands (command ∷ commands) phases jobs job =
    runs_commands commands phases jobs (record job { commands = job.commands ++ command ∷ [] })
    ∙ ap (λ (all : List Command). Some (record { phases = phases; place = WithinJob jobs (record job { commands = all }) })) (append_assoc job.commands (command ∷ []) commands)

runs_begun : (phases : List Phase) (jobs : List Job) (job : Job) → has_job jobs job.name ≡ false
    → runs (begun_lines job) (Some (record { phases = phases; place = WithinPhase jobs })) ≡ Some (record { phases = phases; place = WithinJob jobs job })
runs_begun phases jobs job h =
    let first : Job = record job { commands = [] } in
    ap (runs (map InJob job.commands)) (begins phases jobs first h) ∙ runs_commands job.commands phases jobs first

runs_job : (phases : List Phase) (jobs : List Job) (job : Job) → has_job jobs job.name ≡ false
    → runs (job_lines job) (Some (record { phases = phases; place = WithinPhase jobs })) ≡ Some (record { phases = phases; place = WithinPhase (jobs ++ job ∷ []) })
runs_job phases jobs job h =
    runs-append (begun_lines job) (EndJob ∷ []) (Some (record { phases = phases; place = WithinPhase jobs }))
    ∙ ap (runs (EndJob ∷ [])) (runs_begun phases jobs job h)
    ∙ closes_job phases jobs job h

runs_jobs : (more : List Job) (phases : List Phase) (jobs : List Job) → HaveOwnNames (jobs ++ more)
    → runs (flat_map job_lines more) (Some (record { phases = phases; place = WithinPhase jobs })) ≡ Some (record { phases = phases; place = WithinPhase (jobs ++ more) })
runs_jobs [] phases jobs h = ap (λ (all : List Job). Some (record { phases = phases; place = WithinPhase all })) (sym (append-nil jobs))
runs_jobs (job ∷ more) phases jobs h =
    runs-append (job_lines job) (flat_map job_lines more) (Some (record { phases = phases; place = WithinPhase jobs }))
    ∙ ap (runs (flat_map job_lines more)) (runs_job phases jobs job (name_is_free jobs more job h))
    ∙ runs_jobs more phases (jobs ++ job ∷ []) (subst HaveOwnNames (sym (append_assoc jobs (job ∷ []) more)) h)
    ∙ ap (λ (all : List Job). Some (record { phases = phases; place = WithinPhase all })) (append_assoc jobs (job ∷ []) more)

runs_phase : (phases : List Phase) (phase : Phase) → HasOwnNames phase
    → runs (phase_lines phase) (Some (record { phases = phases; place = Outside })) ≡ Some (record { phases = phases ++ phase ∷ []; place = Outside })
runs_phase phases phase h =
    runs-append (flat_map job_lines phase.jobs) (EndPhase ∷ []) (Some (record { phases = phases; place = WithinPhase [] }))
    ∙ ap (runs (EndPhase ∷ [])) (runs_jobs phase.jobs phases [] h)

runs_phases : (more phases : List Phase) → AllByRecursion HasOwnNames more
    → runs (flat_map phase_lines more) (Some (record { phases = phases; place = Outside })) ≡ Some (record { phases = phases ++ more; place = Outside })
runs_phases [] phases h = ap (λ (all : List Phase). Some (record { phases = all; place = Outside })) (sym (append-nil phases))
runs_phases (phase ∷ more) phases h =
    runs-append (phase_lines phase) (flat_map phase_lines more) (Some (record { phases = phases; place = Outside }))
    ∙ ap (runs (flat_map phase_lines more)) (runs_phase phases phase h.0)
    ∙ runs_phases more (phases ++ phase ∷ []) h.1
    ∙ ap (λ (all : List Phase). Some (record { phases = all; place = Outside })) (append_assoc phases (phase ∷ []) more)

-- a script's lines lead outside, past its phases
pub runs_script : (phases : List Phase) → AllByRecursion HasOwnNames phases → runs (flat_map phase_lines phases) (Some begun) ≡ Some (record { phases = phases; place = Outside })
runs_script phases h = runs_phases phases [] h

runs_place : (phases : List Phase) (place : Place) → PlaceNames place → runs (place_lines place) (Some (record { phases = phases; place = Outside })) ≡ Some (record { phases = phases; place = place })
runs_place phases Outside h = refl
runs_place phases (WithinPhase jobs) h = runs_jobs jobs phases [] h
runs_place phases (WithinJob jobs job) h =
    runs-append (flat_map job_lines jobs) (begun_lines job) (Some (record { phases = phases; place = WithinPhase [] }))
    ∙ ap (runs (begun_lines job)) (runs_jobs jobs phases [] h.0)
    ∙ runs_begun phases jobs job h.1

-- the lines that were read lead where the reading stands
pub runs_read : (progress : Progress) → AreNamed progress → runs (read_lines progress) (Some begun) ≡ Some progress
runs_read progress h =
    runs-append (flat_map phase_lines progress.phases) (place_lines progress.place) (Some begun)
    ∙ ap (runs (place_lines progress.place)) (runs_script progress.phases h.phases)
    ∙ runs_place progress.phases progress.place h.place

-- ---- one line more

record IsNext (before : Progress) (line : Line) (after : Progress) : Type 0 where
  pub lines : read_lines after ≡ read_lines before ++ line ∷ []
  pub names : AreNamed before → AreNamed after

all_more : (phases : List Phase) (phase : Phase) → AllByRecursion HasOwnNames phases → HasOwnNames phase → AllByRecursion HasOwnNames (phases ++ phase ∷ [])
all_more [] phase h g = (g, tt)
all_more (first ∷ phases) phase h g = (h.0, all_more phases phase h.1 g)

pub same_some : {X : Type 0} (x y : X) → Some x ≡ Some y → x ≡ y
same_some x y e = cc

next_from : (before : Progress) (line : Line) (found after : Progress) → IsNext before line found → Some found ≡ Some after → IsNext before line after
next_from before line found after h e = subst (IsNext before line) (same_some found after e) h

-- a job begins
next_job : (phases : List Phase) (jobs : List Job) (job : Job) (after : Progress) → job.commands ≡ []
    → option_map {U = Progress} (λ (place : Place). record { phases = phases; place = place }) (job_begun jobs job) ≡ Some after
    → IsNext (record { phases = phases; place = WithinPhase jobs }) (BeginJob job.name job.priority job.asleep job.rule) after
next_job phases jobs job after n e = by (has_job jobs job.name) refl e
  where
    line : Line
    line = BeginJob job.name job.priority job.asleep job.rule

    by : (b : Bool) → has_job jobs job.name ≡ b → option_map {U = Progress} (λ (place : Place). record { phases = phases; place = place }) (if b then None else Some (WithinJob jobs job)) ≡ Some after
        → IsNext (record { phases = phases; place = WithinPhase jobs }) line after
    by true h e = absurd (cc)
    by false h e =
        next_from (record { phases = phases; place = WithinPhase jobs }) line (record { phases = phases; place = WithinJob jobs job }) after
        (record {
          lines = ap (λ (commands : List Command). flat_map phase_lines phases ++ BeginPhase ∷ (flat_map job_lines jobs ++ line ∷ map InJob commands)) n
              ∙ sym (append_assoc (flat_map phase_lines phases) (BeginPhase ∷ flat_map job_lines jobs) (line ∷ []));
          names = λ s. record { phases = s.phases; place = (s.place, h) };
        }) e

jobs_lines : (jobs : List Job) (job : Job) → flat_map job_lines (jobs ++ job ∷ []) ≡ (flat_map job_lines jobs ++ begun_lines job) ++ EndJob ∷ []
jobs_lines jobs job =
    flat_map-append job_lines jobs (job ∷ []) ∙ ap (λ (lines : List Line). flat_map job_lines jobs ++ lines) (append-nil (job_lines job))
    ∙ sym (append_assoc (flat_map job_lines jobs) (begun_lines job) (EndJob ∷ []))

-- a job ends
next_end : (phases : List Phase) (jobs : List Job) (job : Job) (after : Progress)
    → option_map {U = Progress} (λ (more : List Job). record { phases = phases; place = WithinPhase more }) (with_job jobs job) ≡ Some after
    → IsNext (record { phases = phases; place = WithinJob jobs job }) EndJob after
next_end phases jobs job after e = by (has_job jobs job.name) refl e
  where
    by : (b : Bool) → has_job jobs job.name ≡ b → option_map {U = Progress} (λ (more : List Job). record { phases = phases; place = WithinPhase more }) (if b then None else Some (jobs ++ job ∷ [])) ≡ Some after
        → IsNext (record { phases = phases; place = WithinJob jobs job }) EndJob after
    by true h e = absurd (cc)
    by false h e =
        next_from (record { phases = phases; place = WithinJob jobs job }) EndJob (record { phases = phases; place = WithinPhase (jobs ++ job ∷ []) }) after
        (record {
          lines = ap (λ (lines : List Line). flat_map phase_lines phases ++ BeginPhase ∷ lines) (jobs_lines jobs job)
              ∙ sym (append_assoc (flat_map phase_lines phases) (BeginPhase ∷ (flat_map job_lines jobs ++ begun_lines job)) (EndJob ∷ []));
          names = λ s. record { phases = s.phases; place = names_more jobs job s.place.0 h };
        }) e

next_at : (phases : List Phase) (place : Place) (line : Line) (after : Progress) → goes (record { phases = phases; place = place }) line ≡ Some after
    → IsNext (record { phases = phases; place = place }) line after
next_at phases Outside BeginPhase after e =
    next_from (record { phases = phases; place = Outside }) BeginPhase (record { phases = phases; place = WithinPhase [] }) after
    (record {
      lines = ap (λ (lines : List Line). lines ++ BeginPhase ∷ []) (sym (append-nil (flat_map phase_lines phases)));
      names = λ s. record { phases = s.phases; place = tt };
    }) e
next_at phases (WithinPhase jobs) (BeginJob name priority asleep rule) after e =
    next_job phases jobs (record { name = name; priority = priority; asleep = asleep; rule = rule; commands = [] }) after refl e
next_at phases (WithinPhase jobs) EndPhase after e =
    let phase : Phase = record { jobs = jobs } in
    next_from (record { phases = phases; place = WithinPhase jobs }) EndPhase (record { phases = phases ++ phase ∷ []; place = Outside }) after
    (record {
      lines = append-nil (flat_map phase_lines (phases ++ phase ∷ []))
          ∙ flat_map-append phase_lines phases (phase ∷ [])
          ∙ ap (λ (lines : List Line). flat_map phase_lines phases ++ lines) (append-nil (phase_lines phase))
          ∙ sym (append_assoc (flat_map phase_lines phases) (BeginPhase ∷ flat_map job_lines jobs) (EndPhase ∷ []));
      names = λ s. record { phases = all_more phases phase s.phases s.place; place = tt };
    }) e
next_at phases (WithinJob jobs job) (InJob command) after e =
    let more : Job = record job { commands = job.commands ++ command ∷ [] } in
    next_from (record { phases = phases; place = WithinJob jobs job }) (InJob command) (record { phases = phases; place = WithinJob jobs more }) after
    (record {
      lines = ap (λ (lines : List Line). flat_map phase_lines phases ++ BeginPhase ∷ (flat_map job_lines jobs ++ BeginJob job.name job.priority job.asleep job.rule ∷ lines))
          (map-append InJob job.commands (command ∷ []))
          ∙ ap (λ (lines : List Line). flat_map phase_lines phases ++ BeginPhase ∷ lines) (sym (append_assoc (flat_map job_lines jobs) (begun_lines job) (InJob command ∷ [])))
          ∙ sym (append_assoc (flat_map phase_lines phases) (BeginPhase ∷ (flat_map job_lines jobs ++ begun_lines job)) (InJob command ∷ []));
      names = λ s. record { phases = s.phases; place = s.place };
    }) e
next_at phases (WithinJob jobs job) EndJob after e = next_end phases jobs job after e
next_at phases place line after e = absurd (cc)

-- the line stands behind those that were read
pub read_more : (before : Progress) (line : Line) (after : Progress) → goes before line ≡ Some after → read_lines after ≡ read_lines before ++ line ∷ []
read_more before line after e = (next_at before.phases before.place line after e).lines

pub names_kept : (before : Progress) (line : Line) (after : Progress) → goes before line ≡ Some after → AreNamed before → AreNamed after
names_kept before line after e = (next_at before.phases before.place line after e).names

-- ---- a script from any place on

-- lines that close what is open
abbrev pub closing : Place → List Line
closing Outside = []
closing (WithinPhase jobs) = EndPhase ∷ []
closing (WithinJob jobs job) = EndJob ∷ EndPhase ∷ []

-- the phases that they close
pub record Closes (progress : Progress) : Type 0 where
  pub phases : List Phase
  pub names : AllByRecursion HasOwnNames phases
  pub lines : flat_map phase_lines phases ≡ read_lines progress ++ closing progress.place

closes_after : (progress : Progress) (jobs : List Job) (lines : List Line) → AllByRecursion HasOwnNames progress.phases → HaveOwnNames jobs
    → closing progress.place ≡ lines ++ EndPhase ∷ [] → place_lines progress.place ++ lines ≡ BeginPhase ∷ flat_map job_lines jobs → Closes progress
closes_after progress jobs lines h n e f =
    let phase : Phase = record { jobs = jobs } in
    let front = flat_map phase_lines progress.phases in
    record {
      phases = progress.phases ++ phase ∷ [];
      names = all_more progress.phases phase h n;
      lines = flat_map-append phase_lines progress.phases (phase ∷ [])
          ∙ ap (λ (more : List Line). front ++ more) (append-nil (phase_lines phase))
          ∙ ap (λ (more : List Line). front ++ (more ++ EndPhase ∷ [])) (sym f)
          ∙ ap (λ (more : List Line). front ++ more) (append_assoc (place_lines progress.place) lines (EndPhase ∷ []))
          ∙ ap (λ (more : List Line). front ++ (place_lines progress.place ++ more)) (sym e)
          ∙ sym (append_assoc front (place_lines progress.place) (closing progress.place));
    }

pub closes : (phases : List Phase) (place : Place) → AreNamed (record { phases = phases; place = place }) → Closes (record { phases = phases; place = place })
closes phases Outside h = record {
  phases = phases;
  names = h.phases;
  lines = sym (append-nil (flat_map phase_lines phases)) ∙ sym (append-nil (flat_map phase_lines phases ++ []));
}
closes phases (WithinPhase jobs) h = closes_after (record { phases = phases; place = WithinPhase jobs }) jobs [] h.phases h.place refl (append-nil (BeginPhase ∷ flat_map job_lines jobs))
closes phases (WithinJob jobs job) h =
    closes_after (record { phases = phases; place = WithinJob jobs job }) (jobs ++ job ∷ []) (EndJob ∷ []) h.phases (names_more jobs job h.place.0 h.place.1) refl
    (ap (λ (lines : List Line). BeginPhase ∷ lines) (sym (jobs_lines jobs job)))
