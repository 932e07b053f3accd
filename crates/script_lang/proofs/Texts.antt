-- The texts that are printed.
use Rattle.std.proofs.Common.{◌≡◌, ℕ, List, [], ◌∷◌, ◌++◌, map, refl, sym, ◌∙◌, ap, subst, append_assoc}
use Rattle.std.specs.Prelude.{IsTrue}
use Rattle.std.specs.List.{flat_map, AllByRecursion}
use Rattle.std.proofs.lemmas.Grind.{flat_map-append}
use Rattle.script_lang.specs.declared.script.Command.{Command}
use Rattle.script_lang.specs.declared.script.Job.{Job}
use Rattle.script_lang.specs.declared.script.Phase.{Phase}
use Rattle.script_lang.specs.declared.script.Script.{Script}
use Rattle.script_lang.specs.declared.line.Line.{Line}
use Rattle.script_lang.specs.declared.line.Line.TheVariants.{BeginPhase, BeginJob, InJob, EndJob, EndPhase}
use Rattle.script_words.specs.Lines.{lines_of, SpellsLines}
use Rattle.script_lang.specs.Commands.{line_parts}
use Rattle.script_lang.specs.Scripts.{HasOwnNames, job_lines, phase_lines, script_lines, script_text, line_text, IsScript, ended}
use Rattle.script_parts.specs.Parts.{part_word}
use Rattle.script_lang.specs.Inside.Printed.{IsLine, AreLines}
use Rattle.script_words.proofs.Printed.{has_no_line_feed, line_no_feed, lines_back}
use Rattle.script_lang.proofs.Spelling.{line_tokens, spells_printed, says_printed}

ended-append : (a b : List Line) → ended (a ++ b) ≡ ended a ++ ended b
ended-append a b = flat_map-append (λ (line : Line). line_text line ++ 10 ∷ []) a b

-- lines item by item
ended_each : {X : Type 0} (f : X → List Line) (xs : List X) → ended (flat_map f xs) ≡ flat_map (λ (x : X). ended (f x)) xs
ended_each f [] = refl
ended_each f (x ∷ xs) = ended-append (f x) (flat_map f xs) ∙ ap (λ (rest : List ℕ). ended (f x) ++ rest) (ended_each f xs)

ended_commands : (commands : List Command) → ended (map InJob commands) ≡ flat_map (λ (command : Command). line_text (InJob command) ++ 10 ∷ []) commands
ended_commands [] = refl
ended_commands (command ∷ commands) = ap (λ (rest : List ℕ). (line_text (InJob command) ++ 10 ∷ []) ++ rest) (ended_commands commands)

lines_append : (a b : List Line) → AreLines a → AreLines b → AreLines (a ++ b)
lines_append [] b h g = g
lines_append (line ∷ a) b h g = (h.0, lines_append a b h.1 g)

lines_each : {X : Type 0} (f : X → List Line) (xs : List X) → AllByRecursion (λ (x : X). AreLines (f x)) xs → AreLines (flat_map f xs)
lines_each f [] h = tt
lines_each f (x ∷ xs) h = lines_append (f x) (flat_map f xs) h.0 (lines_each f xs h.1)

lines_commands : (commands : List Command) → AllByRecursion (λ (command : Command). IsLine (InJob command)) commands → AreLines (map InJob commands)
lines_commands [] h = tt
lines_commands (command ∷ commands) h = (h.0, lines_commands commands h.1)

-- a job's text is that of its first line, of its commands and of its last line
pub job_text : (job : Job) → ended (job_lines job)
    ≡ ((line_text (BeginJob job.name job.priority job.asleep job.rule) ++ 10 ∷ []) ++ flat_map (λ (command : Command). line_text (InJob command) ++ 10 ∷ []) job.commands) ++ ended (EndJob ∷ [])
job_text job =
    ended-append (BeginJob job.name job.priority job.asleep job.rule ∷ map InJob job.commands) (EndJob ∷ [])
    ∙ ap (λ (rest : List ℕ). ((line_text (BeginJob job.name job.priority job.asleep job.rule) ++ 10 ∷ []) ++ rest) ++ ended (EndJob ∷ [])) (ended_commands job.commands)

pub job_built : (old begun within new : List ℕ) (job : Job) (commands : List Command) → begun ≡ old ++ (line_text (BeginJob job.name job.priority job.asleep job.rule) ++ 10 ∷ [])
    → within ≡ begun ++ flat_map (λ (command : Command). line_text (InJob command) ++ 10 ∷ []) commands → commands ≡ job.commands → new ≡ within ++ ended (EndJob ∷ [])
    → new ≡ old ++ ended (job_lines job)
job_built old begun within new job commands h g e f =
    let head = line_text (BeginJob job.name job.priority job.asleep job.rule) ++ 10 ∷ [] in
    let each = λ (command : Command). line_text (InJob command) ++ 10 ∷ [] in
    let body = flat_map each job.commands in
    f ∙ ap (λ (front : List ℕ). front ++ ended (EndJob ∷ [])) (g ∙ (λ i. h i ++ flat_map each (e i)))
    ∙ ap (λ (front : List ℕ). front ++ ended (EndJob ∷ [])) (append_assoc old head body)
    ∙ append_assoc old (head ++ body) (ended (EndJob ∷ []))
    ∙ ap (λ (rest : List ℕ). old ++ rest) (sym (job_text job))

pub job_parts : (job : Job) → IsLine (BeginJob job.name job.priority job.asleep job.rule) → AllByRecursion (λ (command : Command). IsLine (InJob command)) job.commands → AreLines (job_lines job)
job_parts job h g = (h, lines_append (map InJob job.commands) (EndJob ∷ []) (lines_commands job.commands g) (((refl, tt), refl), tt))

pub phase_text : (phase : Phase) → ended (phase_lines phase) ≡ (ended (BeginPhase ∷ []) ++ flat_map (λ (job : Job). ended (job_lines job)) phase.jobs) ++ ended (EndPhase ∷ [])
phase_text phase =
    ended-append (BeginPhase ∷ flat_map job_lines phase.jobs) (EndPhase ∷ [])
    ∙ ap (λ (rest : List ℕ). (ended (BeginPhase ∷ []) ++ rest) ++ ended (EndPhase ∷ [])) (ended_each job_lines phase.jobs)

pub phase_built : (old begun within new : List ℕ) (phase : Phase) (jobs : List Job) → begun ≡ old ++ ended (BeginPhase ∷ [])
    → within ≡ begun ++ flat_map (λ (job : Job). ended (job_lines job)) jobs → jobs ≡ phase.jobs → new ≡ within ++ ended (EndPhase ∷ []) → new ≡ old ++ ended (phase_lines phase)
phase_built old begun within new phase jobs h g e f =
    let each = λ (job : Job). ended (job_lines job) in
    f ∙ ap (λ (front : List ℕ). front ++ ended (EndPhase ∷ [])) (g ∙ (λ i. h i ++ flat_map each (e i)))
    ∙ ap (λ (front : List ℕ). front ++ ended (EndPhase ∷ [])) (append_assoc old (ended (BeginPhase ∷ [])) (flat_map each phase.jobs))
    ∙ append_assoc old (ended (BeginPhase ∷ []) ++ flat_map each phase.jobs) (ended (EndPhase ∷ []))
    ∙ ap (λ (rest : List ℕ). old ++ rest) (sym (phase_text phase))

pub phase_parts : (phase : Phase) → AllByRecursion (λ (job : Job). AreLines (job_lines job)) phase.jobs → AreLines (phase_lines phase)
phase_parts phase h = (((refl, tt), refl), lines_append (flat_map job_lines phase.jobs) (EndPhase ∷ []) (lines_each job_lines phase.jobs h) (((refl, tt), refl), tt))

pub whole_text : (script : Script) → script_text script ≡ flat_map (λ (phase : Phase). ended (phase_lines phase)) script.phases
whole_text script = ended_each phase_lines script.phases

-- ---- and read again

texts_of : (lines : List Line) → ended lines ≡ flat_map (λ (text : List ℕ). text ++ 10 ∷ []) (map line_text lines)
texts_of [] = refl
texts_of (line ∷ lines) = ap (λ (rest : List ℕ). (line_text line ++ 10 ∷ []) ++ rest) (texts_of lines)

no_feeds : (lines : List Line) → AllByRecursion (λ (text : List ℕ). IsTrue (has_no_line_feed text)) (map line_text lines)
no_feeds [] = tt
no_feeds (line ∷ lines) = (line_no_feed (map part_word (line_parts line)), no_feeds lines)

-- printed lines are the lines of their text
lines_again : (lines : List Line) → lines_of (ended lines) ≡ map line_text lines
lines_again lines = ap lines_of (texts_of lines) ∙ lines_back (map line_text lines) (no_feeds lines)

pub reads_back : (bytes : List ℕ) (script : Script) → bytes ≡ script_text script → AllByRecursion HasOwnNames script.phases
    → AllByRecursion (λ (phase : Phase). AreLines (phase_lines phase)) script.phases → IsScript bytes script
reads_back bytes script e h g =
    let lines = script_lines script in
    let parts = lines_each phase_lines script.phases g in record {
      names = h;
      tokens = map line_tokens lines;
      spelled = subst (λ (texts : List (List ℕ)). SpellsLines texts (map line_tokens lines)) (sym (ap lines_of e ∙ lines_again lines)) (spells_printed lines parts);
      fitting = says_printed lines parts;
    }
