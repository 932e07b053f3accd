-- Builders are called for exactly what the entries ask.
use Rattle.std.proofs.Common.{◌≡◌, ◌⊎◌, inl, inr, ℕ, List, [], ◌∷◌, ◌++◌, map, refl, sym, ap, ◌∙◌, subst, append_assoc, Option, Result, Err}
use Rattle.std.specs.List.{flat_map}
use Rattle.builder_api.specs.declared.builder.BuildFault.{BuildFault}
use Rattle.builder_api.specs.declared.builder.BuildFault.TheVariants as fault
use Rattle.builder_api.specs.declared.edits.Edits.{Edits}
use Rattle.builder_api.specs.declared.kind.BuildKind.{BuildKind}
use Rattle.builder_api.specs.declared.outcome.BuildOutcome.{BuildOutcome}
use Rattle.builder_api.specs.declared.outcome.BuildOutcome.TheVariants as outcome
use Rattle.builder_api.specs.declared.plan.Plan.{Plan}
use Rattle.builder_api.specs.Meanings.{Meanings}
use Rattle.res_path.specs.Paths.{Names}
use Rattle.build_laws.specs.States.{Item, State, due}
use Rattle.build_laws.specs.Turns.{Turn, Skip, Make}
use Rattle.build_laws.specs.Builds.{Project}
use Rattle.build_run.specs.Books.{Book, Entry, Did, Called, WereDone, turn_entries, turn_calls, Adds, Ran}
use Rattle.build_run.specs.Ends.{handing, Halts, RoundHalts, GroupHalts, AllHalt}
use Rattle.build_run.specs.Sweeps.{Sweep, Passed, Swept, sweep_entries, sweep_calls, WereSwept}
use Rattle.build_run.specs.Starts.{asked_by, asked_in, call_of, AreCalls, AreCalled, IsTold, IsToldOf, Ends, MayEnd, Begins}
use Rattle.build_run.proofs.Done.{done_append}

asked_append : (es ds : List Entry) → asked_in (es ++ ds) ≡ asked_in es ++ asked_in ds
asked_append [] ds = refl
asked_append (e ∷ es) ds = ap (λ xs. asked_by e.deed ++ xs) (asked_append es ds) ∙ sym (append_assoc (asked_by e.deed) (asked_in es) (asked_in ds))

map_append : (xs ys : List Did) → map call_of (xs ++ ys) ≡ map call_of xs ++ map call_of ys
map_append [] ys = refl
map_append (x ∷ xs) ys = ap (λ zs. call_of x ∷ zs) (map_append xs ys)

more_calls : (es ds : List Entry) (cs bs : List Did) → AreCalls es cs → AreCalls ds bs → AreCalls (es ++ ds) (cs ++ bs)
more_calls es ds cs bs h g = asked_append es ds ∙ (λ i. h i ++ g i) ∙ sym (map_append cs bs)

-- what was done since the command began, and these things more
done_since : (b b' : Book) (es : List Entry) (ds cs : List Did) → Adds b b' es ds → WereDone cs b.began b.told → WereDone (cs ++ ds) b'.began b'.told
done_since b b' es ds cs adds done = subst (λ x. WereDone (cs ++ ds) x b'.told) (sym adds.began) (done_append cs ds b.began b.told b'.told done adds.done)

calls_since : (b b' : Book) (es : List Entry) (ds cs : List Did) → Adds b b' es ds → AreCalls b.since cs → AreCalls es ds → AreCalls b'.since (cs ++ ds)
calls_since b b' es ds cs adds h g = subst (λ x. AreCalls x (cs ++ ds)) (sym adds.since) (more_calls b.since es cs ds h g)

added_calls : (b b' : Book) (es : List Entry) (ds : List Did) → Adds b b' es ds → AreCalled b → AreCalls es ds → AreCalled b'
added_calls b b' es ds adds h g = (h.0 ++ ds, done_since b b' es ds h.0 adds h.1, calls_since b b' es ds h.0 adds h.2 g)

-- a command that came to an outcome that tells of no failure
told_so : (b : Book) (o : BuildOutcome) → AreCalled b → ((ds : List Did) → IsTold ds o) → IsToldOf b o
told_so b o h told = (h.0, h.1, h.2, told h.0)

-- ---- turns

turn_calls_are : (x : Turn) → AreCalls (turn_entries x) (turn_calls x)
turn_calls_are (Skip kind i found) = refl
turn_calls_are (Make kind i w) = refl

turns_calls : (xs : List Turn) → AreCalls (flat_map turn_entries xs) (flat_map turn_calls xs)
turns_calls [] = refl
turns_calls (x ∷ xs) = more_calls (turn_entries x) (flat_map turn_entries xs) (turn_calls x) (flat_map turn_calls xs) (turn_calls_are x) (turns_calls xs)

pub ran_calls : (ms : Meanings) (b b' : Book) (xs : List Turn) → Ran ms b b' xs → AreCalled b → AreCalled b'
ran_calls ms b b' xs ran h = added_calls b b' (flat_map turn_entries xs) (flat_map turn_calls xs) ran.adds h (turns_calls xs)

memory_calls : (found : State) (i : Item) (kind : BuildKind) (es : List Entry) (ds : List Did)
    → ((es ≡ []) × (ds ≡ [])) ⊎ ((es ≡ handing found i kind ∷ []) × ((answer : Result Edits BuildFault) × (ds ≡ Called i (due found i kind) answer ∷ []))) → AreCalls es ds
memory_calls found i kind es ds how = elim how [
  | inl none ↦ ap asked_in none.0 ∙ sym (ap (map call_of) none.1)
  | inr one ↦ ap asked_in one.0 ∙ sym (ap (map call_of) one.1.1)
]

halt_calls : (b : Book) (i : Item) (kind : BuildKind) (o : BuildOutcome) (b' : Book) → Halts b i kind o b' → AreCalled b → IsToldOf b' o
halt_calls b i kind (outcome.BuilderFailed p n) b' h calls =
    (calls.0 ++ Called i (due h.0 i kind) (Err fault.Failed) ∷ [], done_since b b' _ _ calls.0 h.5 calls.1, calls_since b b' _ _ calls.0 h.5 calls.2 refl, (calls.0, i, due h.0 i kind, refl, h.3, h.4))
halt_calls b i kind (outcome.Refused n) b' h calls = told_so b' (outcome.Refused n) (added_calls b b' _ _ h.6 calls refl) (λ ds. tt)
halt_calls b i kind outcome.NoMemory b' h calls = told_so b' outcome.NoMemory (added_calls b b' h.0 h.1 h.2 calls (memory_calls b'.now i kind h.0 h.1 h.4)) (λ ds. tt)
halt_calls b i kind outcome.Settled b' h calls = absurd h
halt_calls b i kind (outcome.Unsettled names) b' h calls = absurd h
halt_calls b i kind outcome.Cleaned b' h calls = absurd h

round_calls : (ms : Meanings) (b : Book) (kind : BuildKind) (is : List Item) (o : BuildOutcome) (b' : Book) → RoundHalts ms b kind is o b' → AreCalled b → IsToldOf b' o
round_calls ms b kind is o b' h calls = halt_calls h.book h.at kind o b' h.halts (ran_calls ms b h.book h.front h.ran calls)

group_calls : (ms : Meanings) (b : Book) (kind : BuildKind) (g : List Project) (o : BuildOutcome) (b' : Book) → GroupHalts ms b kind g o b' → AreCalled b → IsToldOf b' o
group_calls ms b kind [] o b' h calls = absurd h
group_calls ms b kind (p ∷ []) o b' h calls = round_calls ms b kind _ o b' h calls
group_calls ms b kind (p ∷ q ∷ ps) o b' h calls =
    let mid : AreCalled h.book = ran_calls ms b h.book (flat_map (λ r. r) h.rounds) h.ran calls in
    elim h.ends [
      | inl part ↦ round_calls ms h.book _ _ o b' part.1 mid
      | inr part ↦ elim part.2 [
        | inl loud ↦ told_so b' o (subst AreCalled (sym part.1) mid) (λ ds. subst (IsTold ds) (sym loud) tt)
        | inr poor ↦ told_so b' o (subst AreCalled (sym part.1) mid) (λ ds. subst (IsTold ds) (sym poor) tt)
      ]
    ]

pub all_calls : (ms : Meanings) (b : Book) (kind : BuildKind) (order : List Project) (knots : List Names) (o : BuildOutcome) (b' : Book) → AllHalt ms b kind order knots o b' → AreCalled b → IsToldOf b' o
all_calls ms b kind order knots o b' h calls = group_calls ms h.book kind h.group o b' h.halts (ran_calls ms b h.book h.turns h.ran calls)

-- ---- a clean build

sweep_calls_are : (x : Sweep) → AreCalls (sweep_entries x) (sweep_calls x)
sweep_calls_are (Passed i found) = refl
sweep_calls_are (Swept i found next) = refl

sweeps_calls : (xs : List Sweep) → AreCalls (flat_map sweep_entries xs) (flat_map sweep_calls xs)
sweeps_calls [] = refl
sweeps_calls (x ∷ xs) = more_calls (sweep_entries x) (flat_map sweep_entries xs) (sweep_calls x) (flat_map sweep_calls xs) (sweep_calls_are x) (sweeps_calls xs)

pub swept_calls : (b b' : Book) (is : List Item) → WereSwept b is b' → AreCalled b → AreCalled b'
swept_calls b b' is h calls = added_calls b b' (flat_map sweep_entries h.sweeps) (flat_map sweep_calls h.sweeps) h.adds calls (sweeps_calls h.sweeps)

-- ---- a command

pub opened_calls : (kind : BuildKind) (project : Option (List ℕ)) (b : Book) (plan : Plan) (b' : Book) → Begins kind project b plan b' → AreCalled b'
opened_calls kind project b plan b' h = ([], sym h.began, ap asked_in h.since)

pub may_finish : (ends : List Entry → List Did → BuildOutcome → Type 0) (b : Book) (o came : BuildOutcome) → MayEnd ends → IsToldOf b came → (o ≡ came) ⊎ (o ≡ outcome.NoMemory) → Ends ends b o
may_finish ends b o came may told how = elim how [
  | inl same ↦ subst (Ends ends b) (sym same) (told.0, told.1, may.called b.since told.0 came told.2 told.3)
  | inr poor ↦ subst (Ends ends b) (sym poor) (told.0, told.1, may.memory b.since told.0)
]
