-- Lines by the verbs that they begin with.
use Rattle.std.proofs.Common.{◌≡◌, ◌≢◌, ℕ, ◌-◌, ◌<◌, ◌≤◌, Bool, true, false, Option, Some, None, List, [], ◌∷◌, ◌++◌, map, length, take, drop, get_or, refl, sym, ◌∙◌, ap, subst, arith}
use Rattle.std.specs.Prelude.{MatchOption, codes, if◌then◌else◌}
use Rattle.std.specs.Str.{bytes_eq}
use Rattle.std.proofs.Math.Seq.{take-length}
use Rattle.sched_rules.specs.declared.ws_atom.WsAtom.{WsAtom}
use Rattle.sched_rules.specs.declared.ws_atom.WsAtom.TheVariants.{Path, Mutex, Lines}
use Rattle.op_kind.specs.declared.op.Op.{Op}
use Rattle.builder_api.specs.declared.kind.BuildKind.{BuildKind}
use Rattle.save_kind.specs.declared.kind.SaveKind.{SaveKind}
use Rattle.script_lang.specs.declared.script.Command.TheVariants as command
use Rattle.script_lang.specs.declared.script.Priority.{Priority}
use Rattle.script_lang.specs.declared.line.Line.{Line}
use Rattle.script_lang.specs.declared.line.Line.TheVariants.{BeginPhase, BeginJob, InJob, EndJob, EndPhase}
use Rattle.script_ops.specs.declared.verb.Verb.{Verb}
use Rattle.script_ops.specs.declared.verb.Verb.TheVariants.{Phase, EndPhase as EndPhaseVerb, Job, EndJob as EndJobVerb, Batch, EndBatch, Checkpoint, Begin, TryBegin, End, Sleep, Wake, Cancel, Build, Save}
use Rattle.script_words.specs.declared.words.Token.{Token}
use Rattle.script_words.specs.Words.{Word}
use Rattle.script_parts.specs.Parts.{Part, keyword, a_name, FitsPart, FitsParts, rule_parts, scope_parts}
use Rattle.script_lang.specs.Commands.{FitsLine, asleep_parts, kind_word, save_word, priority_word, line_parts, line_read}
use Rattle.script_lang.specs.Inside.Reading.{IsLineOf, IsStartFound, IsSleepFound}
use Rattle.script_parts.specs.Inside.Found.{IsRuleFound, FitsFront}
use Rattle.script_ops.specs.Operations.{operation_parts}
use Rattle.script_ops.specs.Inside.Verbs.{verb_word, begins_operation, begun_with}
use Rattle.script_parts.proofs.Fitting.{fit_size}
use Rattle.script_parts.proofs.Values.{nth, atoms_at, scope_at}
use Rattle.script_lang.proofs.Coded.{line_at, priority_at, kind_at, saved_at, known}
use Rattle.script_ops.proofs.Begun.{HasVerb, with_verb, op_verb}
use Rattle.script_ops.proofs.Coded.{op_at}

-- ---- each line begins with a verb

line_verb : (line : Line) → HasVerb (line_parts line)
line_verb BeginPhase = with_verb Phase []
line_verb (BeginJob name priority asleep rule) = with_verb Job (drop 1 (line_parts (BeginJob name priority asleep rule)))
line_verb (InJob command.Batch) = with_verb Batch []
line_verb (InJob command.EndBatch) = with_verb EndBatch []
line_verb (InJob command.Checkpoint) = with_verb Checkpoint []
line_verb (InJob (command.Begin rule)) = with_verb Begin (rule_parts rule)
line_verb (InJob (command.TryBegin rule)) = with_verb TryBegin (rule_parts rule)
line_verb (InJob (command.End rule)) = with_verb End (rule_parts rule)
line_verb (InJob (command.Sleep name)) = with_verb Sleep (a_name name ∷ [])
line_verb (InJob (command.Wake name)) = with_verb Wake (a_name name ∷ [])
line_verb (InJob (command.Cancel name)) = with_verb Cancel (a_name name ∷ [])
line_verb (InJob (command.Build kind project)) = with_verb Build (keyword (kind_word kind) ∷ scope_parts project)
line_verb (InJob (command.Save kind)) = with_verb Save (keyword (save_word kind) ∷ [])
line_verb (InJob (command.Operation x)) = op_verb x
line_verb EndJob = with_verb EndJobVerb []
line_verb EndPhase = with_verb EndPhaseVerb []

first_fits : (tokens : List Token) (first : Token) (part : Part) (parts : List Part) → first ≡ get_or tokens 0 first → 1 ≤ length tokens → FitsParts tokens (part ∷ parts) → FitsPart first part
first_fits [] first part parts e l h = absurd (omega (arith, l))
first_fits (token ∷ tokens) first part parts e l h = subst (λ (token : Token). FitsPart token part) (sym e) h.0

-- tokens of which the first is no verb stand for no line
pub no_verb : (tokens : List Token) (first : Token) → first ≡ get_or tokens 0 first → 1 ≤ length tokens → ((verb : Verb) → FitsPart first (keyword (verb_word verb)) → ⊥) → (line : Line) → FitsLine tokens line → ⊥
no_verb tokens first e l n line h =
    let begins = line_verb h.written in
    n begins.verb (first_fits tokens first (keyword (verb_word begins.verb)) begins.more e l (subst (FitsParts tokens) begins.parts_are h.fits))

-- no line is without words
pub no_words : (tokens : List Token) → length tokens < 1 → (line : Line) → FitsLine tokens line → ⊥
no_words [] l line h = subst (FitsParts []) (line_verb h.written).parts_are h.fits
no_words (token ∷ tokens) l line h = omega (arith, l)

-- ---- lines of operations

-- words that begin with such a verb are no other line
operates : (verb : Verb) (words : List Word) → begins_operation verb ≡ true → line_at (verb_word verb ∷ words) ≡ InJob (command.Operation (op_at (verb_word verb ∷ words)))
operates Phase words h = absurd (let no : false ≡ true = h in cc)
operates EndPhaseVerb words h = absurd (let no : false ≡ true = h in cc)
operates Job words h = absurd (let no : false ≡ true = h in cc)
operates EndJobVerb words h = absurd (let no : false ≡ true = h in cc)
operates Batch words h = absurd (let no : false ≡ true = h in cc)
operates EndBatch words h = absurd (let no : false ≡ true = h in cc)
operates Checkpoint words h = absurd (let no : false ≡ true = h in cc)
operates Begin words h = absurd (let no : false ≡ true = h in cc)
operates TryBegin words h = absurd (let no : false ≡ true = h in cc)
operates End words h = absurd (let no : false ≡ true = h in cc)
operates Sleep words h = absurd (let no : false ≡ true = h in cc)
operates Wake words h = absurd (let no : false ≡ true = h in cc)
operates Cancel words h = absurd (let no : false ≡ true = h in cc)
operates Build words h = absurd (let no : false ≡ true = h in cc)
operates Save words h = absurd (let no : false ≡ true = h in cc)
operates verb words h = refl

pub op_found : (verb : Verb) (rest : List Token) (x : Op) (line : Line) → line ≡ InJob (command.Operation x) → FitsParts (begun_with verb rest) (operation_parts x)
    → FitsLine (begun_with verb rest) line
op_found verb rest x line e h = subst (FitsLine (begun_with verb rest)) (sym e) (record { written = InJob (command.Operation x); read = refl; fits = h })

pub no_operation : (verb : Verb) (rest : List Token) → begins_operation verb ≡ true → ((x : Op) → FitsParts (begun_with verb rest) (operation_parts x) → ⊥)
    → (line : Line) → FitsLine (begun_with verb rest) line → ⊥
no_operation verb rest b none line h =
    let words = map (λ (t : Token). t.word) rest in
    let op = op_at (verb_word verb ∷ words) in
    let fits : FitsParts (begun_with verb rest) (line_parts (InJob (command.Operation op))) =
    subst (λ (line : Line). FitsParts (begun_with verb rest) (line_parts line)) (known (begun_with verb rest) h.written h.fits ∙ operates verb words b) h.fits in
    none op fits

-- ---- lines of one word

no_more : (tokens : List Token) → FitsParts tokens [] → tokens ≡ []
no_more [] h = refl
no_more (token ∷ tokens) h = absurd h

-- the line of a verb that has one line alone, which has no more words
pub alone_found : (verb : Verb) (line : Line) (rest : List Token) (found : Option Line) → MatchOption found (rest ≢ []) (λ (x : Line). (x ≡ line) × (rest ≡ []))
    → ((words : List Word) → line_at (verb_word verb ∷ words) ≡ line) → line_parts line ≡ keyword (verb_word verb) ∷ [] → line_read line ≡ line → IsLineOf (begun_with verb rest) found
alone_found verb line rest None n at parts read = λ x h.
    let same : h.written ≡ line = known (begun_with verb rest) h.written h.fits ∙ at (map (λ (t : Token). t.word) rest) in
    let fits : FitsParts (begun_with verb rest) (keyword (verb_word verb) ∷ []) = subst (FitsParts (begun_with verb rest)) (ap line_parts same ∙ parts) h.fits in
    n (no_more rest fits.1)
alone_found verb line rest (Some x) n at parts read =
    subst (λ (rest : List Token). FitsLine (begun_with verb rest) x) (sym n.1)
    (subst (FitsLine (begun_with verb [])) (sym n.0)
    (record { written = line; read = read; fits = subst (FitsParts (begun_with verb [])) (sym parts) ((refl, refl), tt) }))

pub of_verb : (found : Option Line) (verb other : Verb) (rest : List Token) → verb ≡ other → IsLineOf (begun_with other rest) found → IsLineOf (begun_with verb rest) found
of_verb found verb other rest e h = subst (λ (verb : Verb). IsLineOf (begun_with verb rest) found) (sym e) h

-- ---- lines with a rule

pub begins_rule : (rest : List Token) (rule : List WsAtom) → IsRuleFound rest (Some rule) → FitsLine (begun_with Begin rest) (InJob (command.Begin rule))
begins_rule rest rule r = record { written = InJob (command.Begin r.0); read = ap (λ (rule : List WsAtom). InJob (command.Begin rule)) r.1; fits = ((refl, refl), r.2) }

pub tries_rule : (rest : List Token) (rule : List WsAtom) → IsRuleFound rest (Some rule) → FitsLine (begun_with TryBegin rest) (InJob (command.TryBegin rule))
tries_rule rest rule r = record { written = InJob (command.TryBegin r.0); read = ap (λ (rule : List WsAtom). InJob (command.TryBegin rule)) r.1; fits = ((refl, refl), r.2) }

pub ends_rule : (rest : List Token) (rule : List WsAtom) → IsRuleFound rest (Some rule) → FitsLine (begun_with End rest) (InJob (command.End rule))
ends_rule rest rule r = record { written = InJob (command.End r.0); read = ap (λ (rule : List WsAtom). InJob (command.End rule)) r.1; fits = ((refl, refl), r.2) }

-- the line of a verb that has one line alone, which goes on with a rule
pub no_ruled : (verb : Verb) (make : List WsAtom → Line) (rest : List Token) → ((words : List Word) → line_at (verb_word verb ∷ words) ≡ make (atoms_at words))
    → ((rule : List WsAtom) → line_parts (make rule) ≡ keyword (verb_word verb) ∷ rule_parts rule) → IsRuleFound rest None → (line : Line) → FitsLine (begun_with verb rest) line → ⊥
no_ruled verb make rest at parts none line h =
    let rule = atoms_at (map (λ (t : Token). t.word) rest) in
    let same : h.written ≡ make rule = known (begun_with verb rest) h.written h.fits ∙ at (map (λ (t : Token). t.word) rest) in
    let fits : FitsParts (begun_with verb rest) (keyword (verb_word verb) ∷ rule_parts rule) = subst (FitsParts (begun_with verb rest)) (ap line_parts same ∙ parts rule) h.fits in
    none rule fits.1

-- ---- lines with a name

-- the line of a verb that has one line alone, which goes on with a name
pub named_found : (verb : Verb) (make : List ℕ → Line) (rest : List Token) (name : List ℕ) → FitsParts rest (a_name name ∷ [])
    → line_parts (make name) ≡ keyword (verb_word verb) ∷ a_name name ∷ [] → line_read (make name) ≡ make name → FitsLine (begun_with verb rest) (make name)
named_found verb make rest name h parts read =
    record { written = make name; read = read; fits = subst (FitsParts (begun_with verb rest)) (sym parts) ((refl, refl), h) }

pub no_named : (verb : Verb) (make : List ℕ → Line) (rest : List Token) → ((words : List Word) → line_at (verb_word verb ∷ words) ≡ make (nth 0 words))
    → ((name : List ℕ) → line_parts (make name) ≡ keyword (verb_word verb) ∷ a_name name ∷ []) → ((name : List ℕ) → FitsParts rest (a_name name ∷ []) → ⊥)
    → (line : Line) → FitsLine (begun_with verb rest) line → ⊥
no_named verb make rest at parts none line h =
    let name = nth 0 (map (λ (t : Token). t.word) rest) in
    let same : h.written ≡ make name = known (begun_with verb rest) h.written h.fits ∙ at (map (λ (t : Token). t.word) rest) in
    let fits : FitsParts (begun_with verb rest) (keyword (verb_word verb) ∷ a_name name ∷ []) = subst (FitsParts (begun_with verb rest)) (ap line_parts same ∙ parts name) h.fits in
    none name fits.1

-- ---- a build's line

pub build_found : (rest : List Token) (kind : BuildKind) (project : Option (List ℕ)) → FitsParts rest (keyword (kind_word kind) ∷ scope_parts project)
    → FitsLine (begun_with Build rest) (InJob (command.Build kind project))
build_found rest kind project h = record { written = InJob (command.Build kind project); read = refl; fits = ((refl, refl), h) }

pub no_build : (rest : List Token) → ((kind : BuildKind) (project : Option (List ℕ)) → FitsParts rest (keyword (kind_word kind) ∷ scope_parts project) → ⊥)
    → (line : Line) → FitsLine (begun_with Build rest) line → ⊥
no_build rest none line h =
    let words = map (λ (t : Token). t.word) rest in
    let kind = kind_at (nth 0 words) in
    let project = scope_at (drop 1 words) in
    let fits : FitsParts (begun_with Build rest) (line_parts (InJob (command.Build kind project))) =
    subst (λ (line : Line). FitsParts (begun_with Build rest) (line_parts line)) (known (begun_with Build rest) h.written h.fits) h.fits in
    none kind project fits.1

-- ---- a save's line

pub save_found : (rest : List Token) (kind : SaveKind) → FitsParts rest (keyword (save_word kind) ∷ []) → FitsLine (begun_with Save rest) (InJob (command.Save kind))
save_found rest kind h = record { written = InJob (command.Save kind); read = refl; fits = ((refl, refl), h) }

pub no_save : (rest : List Token) → ((kind : SaveKind) → FitsParts rest (keyword (save_word kind) ∷ []) → ⊥) → (line : Line) → FitsLine (begun_with Save rest) line → ⊥
no_save rest none line h =
    let kind = saved_at (nth 0 (map (λ (t : Token). t.word) rest)) in
    let fits : FitsParts (begun_with Save rest) (line_parts (InJob (command.Save kind))) =
    subst (λ (line : Line). FitsParts (begun_with Save rest) (line_parts line)) (known (begun_with Save rest) h.written h.fits) h.fits in
    none kind fits.1

-- ---- a job's line

all_behind : (t u : Token) (rest : List Token) → take (length (t ∷ u ∷ rest) - 2) rest ≡ rest
all_behind t u rest =
    let size : length (t ∷ u ∷ rest) - 2 ≡ length rest = omega arith in
    ap (λ (n : ℕ). take n rest) size ∙ take-length rest

-- what its words stand for
pub record IsJobLine (rest : List Token) : Type 0 where
  pub name : List ℕ
  pub priority : Priority
  pub asleep : Bool
  pub atoms : List WsAtom
  pub fits : FitsParts rest (a_name name ∷ keyword (priority_word priority) ∷ (asleep_parts asleep ++ rule_parts atoms))

pub job_line_of : (rest : List Token) (line : Line) → FitsLine (begun_with Job rest) line → IsJobLine rest
job_line_of rest line h = either (bytes_eq (nth 0 start) (codes "asleep")) (known (begun_with Job rest) h.written h.fits)
  where
    start : List Word
    start = drop 2 (map (λ (t : Token). t.word) rest)

    name : List ℕ
    name = nth 0 (map (λ (t : Token). t.word) rest)

    priority : Priority
    priority = priority_at (nth 1 (map (λ (t : Token). t.word) rest))

    made : (asleep : Bool) (atoms : List WsAtom) → h.written ≡ BeginJob name priority asleep atoms → IsJobLine rest
    made asleep atoms e =
        let fits : FitsParts (begun_with Job rest) (line_parts (BeginJob name priority asleep atoms)) = subst (λ (line : Line). FitsParts (begun_with Job rest) (line_parts line)) e h.fits in
        record { name = name; priority = priority; asleep = asleep; atoms = atoms; fits = fits.1 }

    either : (b : Bool) → h.written ≡ (if b then BeginJob name priority true (atoms_at (drop 1 start)) else BeginJob name priority false (atoms_at start)) → IsJobLine rest
    either true e = made true (atoms_at (drop 1 start)) e
    either false e = made false (atoms_at start) e

-- it has a name and a priority
pub job_long : (rest : List Token) (line : Line) → FitsLine (begun_with Job rest) line → length rest < 2 → ⊥
job_long rest line h l =
    let job = job_line_of rest line h in
    let size = fit_size rest (a_name job.name ∷ keyword (priority_word job.priority) ∷ (asleep_parts job.asleep ++ rule_parts job.atoms)) job.fits in
    omega (arith, l, size)

-- they stand for the name
pub job_name : (rest : List Token) (name : Token) → name ≡ get_or rest 0 name → 2 ≤ length rest → ((text : List ℕ) → FitsPart name (a_name text) → ⊥)
    → (line : Line) → FitsLine (begun_with Job rest) line → ⊥
job_name rest name e l none line h = by rest e l (job_line_of rest line h)
  where
    by : (rest : List Token) → name ≡ get_or rest 0 name → 2 ≤ length rest → IsJobLine rest → ⊥
    by [] e l job = omega (arith, l)
    by (t ∷ rest) e l job = none job.name (subst (λ (token : Token). FitsPart token (a_name job.name)) (sym e) job.fits.0)

-- for the priority
pub job_priority : (rest : List Token) (number : Token) → number ≡ get_or rest 1 number → 2 ≤ length rest → ((priority : Priority) → FitsPart number (keyword (priority_word priority)) → ⊥)
    → (line : Line) → FitsLine (begun_with Job rest) line → ⊥
job_priority rest number e l none line h = by rest e l (job_line_of rest line h)
  where
    by : (rest : List Token) → number ≡ get_or rest 1 number → 2 ≤ length rest → IsJobLine rest → ⊥
    by [] e l job = omega (arith, l)
    by (t ∷ []) e l job = omega (arith, l)
    by (t ∷ u ∷ rest) e l job = none job.priority (subst (λ (token : Token). FitsPart token (keyword (priority_word job.priority))) (sym e) job.fits.1.0)

-- and for the start
pub job_start : (rest : List Token) → 2 ≤ length rest → IsStartFound (take (length rest - 2) (drop 2 rest)) None → (line : Line) → FitsLine (begun_with Job rest) line → ⊥
job_start rest l none line h = by rest l none (job_line_of rest line h)
  where
    by : (rest : List Token) → 2 ≤ length rest → IsStartFound (take (length rest - 2) (drop 2 rest)) None → IsJobLine rest → ⊥
    by [] l none job = omega (arith, l)
    by (t ∷ []) l none job = omega (arith, l)
    by (t ∷ u ∷ rest) l none job =
        none job.asleep job.atoms (subst (λ (tokens : List Token). FitsParts tokens (asleep_parts job.asleep ++ rule_parts job.atoms)) (sym (all_behind t u rest)) job.fits.1.1)

pub job_found : (rest : List Token) (name number : Token) (text : List ℕ) (priority : Priority) (asleep : Bool) (rule : List WsAtom)
    → name ≡ get_or rest 0 name → number ≡ get_or rest 1 number → 2 ≤ length rest
    → FitsPart name (a_name text) → FitsPart number (keyword (priority_word priority)) → IsStartFound (take (length rest - 2) (drop 2 rest)) (Some (asleep, rule))
    → FitsLine (begun_with Job rest) (BeginJob text priority asleep rule)
job_found [] name number text priority asleep rule e f l h k r = absurd (omega (arith, l))
job_found (t ∷ []) name number text priority asleep rule e f l h k r = absurd (omega (arith, l))
job_found (t ∷ u ∷ rest) name number text priority asleep rule e f l h k r = record {
  written = BeginJob text priority asleep r.0;
  read = ap (BeginJob text priority asleep) r.1;
  fits = (
    (refl, refl),
    (
      subst (λ (token : Token). FitsPart token (a_name text)) e h,
      (
        subst (λ (token : Token). FitsPart token (keyword (priority_word priority))) f k,
        subst (λ (tokens : List Token). FitsParts tokens (asleep_parts asleep ++ rule_parts r.0)) (all_behind t u rest) r.2,
      ),
    ),
  );
}

-- ---- the start of a job

pub no_start : (tokens rest : List Token) (found : Bool) → IsSleepFound tokens found rest → IsRuleFound rest None → IsStartFound tokens None
no_start tokens rest false s r true atoms h = wakes tokens h s.1
  where
    wakes : (tokens : List Token) → FitsParts tokens (keyword (codes "asleep") ∷ rule_parts atoms) → ((more : List Token) → FitsFront tokens (keyword (codes "asleep") ∷ []) more → ⊥) → ⊥
    wakes [] h n = absurd h
    wakes (token ∷ tokens) h n = n tokens (h.0, refl)
no_start tokens rest false s r false atoms h = r atoms (subst (λ (tokens : List Token). FitsParts tokens (rule_parts atoms)) s.0 h)
no_start [] rest true s r asleep atoms h = absurd s
no_start (token ∷ tokens) rest true s r true atoms h = r atoms (subst (λ (tokens : List Token). FitsParts tokens (rule_parts atoms)) s.1 h.1)
no_start (token ∷ tokens) rest true s r false [] h = let both : codes "asleep" ≡ codes "null" = sym s.0.1 ∙ h.0.1 in cc
no_start (token ∷ tokens) rest true s r false (Path p ∷ atoms) h = let both : codes "asleep" ≡ codes "path" = sym s.0.1 ∙ h.0.1 in cc
no_start (token ∷ tokens) rest true s r false (Mutex m ∷ atoms) h = let both : codes "asleep" ≡ codes "mutex" = sym s.0.1 ∙ h.0.1 in cc
no_start (token ∷ tokens) rest true s r false (Lines f a b ∷ atoms) h = let both : codes "asleep" ≡ codes "lines" = sym s.0.1 ∙ h.0.1 in cc
