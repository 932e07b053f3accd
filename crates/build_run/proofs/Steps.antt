-- The calls of a host in one command's turn.
use Rattle.std.proofs.Common.{◌≡◌, ◌⊎◌, inl, inr, ℕ, ◌<◌, ◌≤◌, nat_lt, Bool, true, false, List, [], ◌∷◌, ◌++◌, refl, sym, ap, ◌∙◌, subst, Result, Ok, Err, arith, append_assoc, append-nil}
use Rattle.std.specs.Prelude.{IfSome}
use borrow.Author.Tests.{ltb-true, ltb-false}
use Rattle.builder_api.specs.declared.builder.BuildFault.{BuildFault}
use Rattle.builder_api.specs.declared.builder.BuildFault.TheVariants as fault
use Rattle.builder_api.specs.declared.edits.Edits.{Edits}
use Rattle.builder_api.specs.declared.handed.Handed.{Handed}
use Rattle.builder_api.specs.declared.kind.BuildKind.{BuildKind}
use Rattle.builder_api.specs.declared.outcome.BuildOutcome.{BuildOutcome}
use Rattle.builder_api.specs.declared.outcome.BuildOutcome.TheVariants as outcome
use Rattle.builder_api.specs.Lawful.{Does}
use Rattle.builder_api.specs.Meanings.{Meanings}
use Rattle.builder_api.specs.Told.{Told}
use Rattle.build_laws.specs.States.{Item, State, Descs, IsItem, due, Finds}
use Rattle.build_laws.specs.Records.{Sound}
use Rattle.build_laws.specs.Turns.{Turn, Skip, Make, Work, IsMade}
use Rattle.build_laws.specs.Builds.{touched_by}
use Rattle.build_laws.proofs.Sounds.{right_turn, sound_turn}
use Rattle.build_laws.proofs.Ordered.{item_own}
use Rattle.build_run.specs.declared.answers.Given.TheVariants as given
use Rattle.build_run.specs.declared.answers.Taken.TheVariants as taken
use Rattle.build_run.specs.Books.{Book, Entry, Called, WasDone, WereDone, at, Handing, Commit, handed, Hands, Takes, Ran}
use Rattle.build_run.specs.Ends.{IsStirred, handing, Halts, RoundCame}
use Rattle.build_run.proofs.Done.{one_done}

-- a command without a builder is passed over
pub one_skipped : (ms : Meanings) (b b' : Book) (i : Item) (kind : BuildKind) (n : ℕ) → Hands b i kind (given.Refused n) b' → RoundCame ms b kind (i ∷ []) false b'
one_skipped ms b b' i kind n h = record {
  turns = Skip kind i h.found ∷ [];
  ran = subst (λ x. Ran ms b x (Skip kind i h.found ∷ [])) (sym h.book) (record {
    adds = record { mine = same b.mine; since = same b.since; began = refl; done = refl; serving = refl; has = refl };
    now = refl;
    turns = ((h.given.0, h.finds), tt);
    sounds = λ sound. (subst (Sound ms b.has) (sym h.finds.records) sound, tt);
  });
  round = refl;
  stirred = (refl, tt);
}
  where
    same : (es : List Entry) → es ++ at h.found (Handing i.project i.index kind (given.Refused n)) ∷ [] ≡ es ++ at h.found (Handing i.project i.index kind (given.Refused 35)) ∷ []
    same es = ap (λ k. es ++ at h.found (Handing i.project i.index kind (given.Refused k)) ∷ []) h.given.1

-- a command that was handed something has a builder
pub has_builder : (b b' : Book) (i : Item) (kind : BuildKind) (h : Handed) → Hands b i kind (given.Due h) b' → b'.has i.command.builder ≡ true
has_builder b b' i kind h hands = ap (λ (x : Book). x.has i.command.builder) hands.book ∙ hands.given.0

-- the book after something was handed and the builder was called, which told something
abbrev called : Book → State → Item → BuildKind → Handed → List Told → Book
called b found i kind h told = record (handed b found i kind (given.Due h)) { told = told }

-- the book before a builder was called and the one after it
pub record Calls (b b' : Book) (i : Item) (h : Handed) (r : Result Edits BuildFault) : Type 0 where
  pub done : WasDone (Called i h r) b.told b'.told
  pub book : b' ≡ record b { told = b'.told }

is_called : (b b1 b2 : Book) (i : Item) (kind : BuildKind) (h : Handed) (r : Result Edits BuildFault) (hands : Hands b i kind (given.Due h) b1)
    → Calls b1 b2 i h r → b2 ≡ called b hands.found i kind h b2.told
is_called b b1 b2 i kind h r hands calls = calls.book ∙ ap (λ (x : Book). record x { told = b2.told }) hands.book

was_called : (b b1 b2 : Book) (i : Item) (kind : BuildKind) (h : Handed) (r : Result Edits BuildFault) → Hands b i kind (given.Due h) b1 → Calls b1 b2 i h r → WereDone (Called i h r ∷ []) b.told b2.told
was_called b b1 b2 i kind h r hands calls = one_done (Called i h r) b.told b2.told (subst (λ (x : Book). WasDone (Called i h r) x.told b2.told) hands.book calls.done)

-- for what was due
due_called : (b b1 b2 : Book) (i : Item) (kind : BuildKind) (h : Handed) (r : Result Edits BuildFault) (hands : Hands b i kind (given.Due h) b1) → Calls b1 b2 i h r
    → WereDone (Called i (due hands.found i kind) r ∷ []) b.told b2.told
due_called b b1 b2 i kind h r hands calls = subst (λ (x : Handed). WereDone (Called i x r ∷ []) b.told b2.told) hands.given.1 (was_called b b1 b2 i kind h r hands calls)

stirred : (n : ℕ) (x : Turn) → touched_by x ≡ n → IsStirred (nat_lt 0 n) (x ∷ [])
stirred n x e = by (nat_lt 0 n) refl
  where
    by : (b : Bool) → nat_lt 0 n ≡ b → IsStirred b (x ∷ [])
    by true h = λ none. let pos : 0 < n = ltb-true 0 n h in let nil : touched_by x ≡ 0 = none.0 in absurd (omega arith)
    by false h = let least : n ≤ 0 = ltb-false 0 n h in (omega arith, tt)

-- what was handed, built and committed is a turn
pub one_made : (ms : Meanings) (b b1 b2 b3 : Book) (i : Item) (kind : BuildKind) (h : Handed) (e : Edits) (touched problems : ℕ) → IsItem b.now.descs i → Hands b i kind (given.Due h) b1
    → Calls b1 b2 i h (Ok e) → IfSome (ms i.command.builder) (λ m. Does m i.command h e)
    → IfSome b2.under (λ u. Takes b2 u e (taken.Committed touched problems) b3) → RoundCame ms b kind (i ∷ []) (nat_lt 0 touched) b3
one_made ms b b1 b2 b3 i kind h e touched problems it hands e2 does takes = record {
  turns = Make kind i work ∷ [];
  ran = subst (λ x. Ran ms b x (Make kind i work ∷ [])) (sym took.4) (record {
    adds = record { mine = append_assoc b.mine _ _; since = append_assoc b.since _ _; began = refl; done = was_called b b1 b2 i kind h (Ok e) hands e2; serving = refl; has = refl };
    now = refl;
    turns = (made, tt);
    sounds = λ sound. (sound_turn ms b.has b.now kind i work sound (item_own b.now.descs i it) made, tt);
  });
  round = refl;
  stirred = stirred touched (Make kind i work) refl;
}
  where
    took : Takes (called b hands.found i kind h b2.told) i e (taken.Committed touched problems) b3
    took = subst (λ (x : Book). IfSome x.under (λ u. Takes x u e (taken.Committed touched problems) b3)) (is_called b b1 b2 i kind h (Ok e) hands e2) takes

    work : Work
    work = record { first = hands.found; handed = h; then = took.0; edits = e; touched = touched; problems = problems; after = took.1 }

    made : IsMade ms b.has b.now kind i work
    made = record {
      present = hands.given.0;
      found = hands.finds;
      due = hands.given.1;
      still = took.2;
      committed = took.3;
      right = right_turn ms hands.found took.0 i kind h e (subst (λ (d : Descs). IsItem d i) (sym hands.finds.descs) it) hands.given.2 hands.given.1 took.2 does;
    }

handed_is : (b : Book) (found : State) (i : Item) (kind : BuildKind) (h : Handed) → h ≡ due found i kind → at found (Handing i.project i.index kind (given.Due h)) ≡ handing found i kind
handed_is b found i kind h is = ap (λ (x : Handed). at found (Handing i.project i.index kind (given.Due x))) is

-- the builder failed
pub one_failed : (b b1 b2 : Book) (i : Item) (kind : BuildKind) (h : Handed) (o : BuildOutcome) → Hands b i kind (given.Due h) b1
    → Calls b1 b2 i h (Err fault.Failed) → (o ≡ outcome.BuilderFailed i.project i.index) ⊎ (o ≡ outcome.NoMemory) → Halts b i kind o b2
one_failed b b1 b2 i kind h o hands e2 how = subst (λ (x : Book). Halts b i kind o x) (sym (is_called b b1 b2 i kind h (Err fault.Failed) hands e2)) (elim how [
  | inl named ↦ subst (λ y. Halts b i kind y (called b hands.found i kind h b2.told)) (sym named) (
    hands.found,
    hands.finds,
    hands.given.0,
    refl,
    refl,
    record { mine = ap (λ x. b.mine ++ x ∷ []) same; since = ap (λ x. b.since ++ x ∷ []) same; began = refl; done = due_called b b1 b2 i kind h (Err fault.Failed) hands e2; serving = refl; has = refl },
    refl,
  )
  | inr none ↦ subst (λ y. Halts b i kind y (called b hands.found i kind h b2.told)) (sym none) (
    handing hands.found i kind ∷ [],
    Called i h (Err fault.Failed) ∷ [],
    record { mine = ap (λ x. b.mine ++ x ∷ []) same; since = ap (λ x. b.since ++ x ∷ []) same; began = refl; done = was_called b b1 b2 i kind h (Err fault.Failed) hands e2; serving = refl; has = refl },
    hands.finds,
    inr (refl, (Err fault.Failed, ap (λ (x : Handed). Called i x (Err fault.Failed) ∷ []) hands.given.1)),
  )
])
  where
    same : at hands.found (Handing i.project i.index kind (given.Due h)) ≡ handing hands.found i kind
    same = handed_is b hands.found i kind h hands.given.1

-- the commit was refused
pub one_refused : (b b1 b2 b3 : Book) (i : Item) (kind : BuildKind) (h : Handed) (e : Edits) (n : ℕ) → Hands b i kind (given.Due h) b1
    → Calls b1 b2 i h (Ok e) → IfSome b2.under (λ u. Takes b2 u e (taken.Refused n) b3) → Halts b i kind (outcome.Refused n) b3
one_refused b b1 b2 b3 i kind h e n hands e2 takes = subst (λ (x : Book). Halts b i kind (outcome.Refused n) x) (sym took.2) (
  hands.found,
  took.0,
  e,
  hands.finds,
  took.1,
  hands.given.0,
  record {
    mine = append_assoc b.mine _ _ ∙ ap (λ x. b.mine ++ x ∷ at took.0 (Commit e (taken.Refused n)) ∷ []) same;
    since = append_assoc b.since _ _ ∙ ap (λ x. b.since ++ x ∷ at took.0 (Commit e (taken.Refused n)) ∷ []) same;
    began = refl;
    done = due_called b b1 b2 i kind h (Ok e) hands e2;
    serving = refl;
    has = refl;
  },
  refl,
)
  where
    took : Takes (called b hands.found i kind h b2.told) i e (taken.Refused n) b3
    took = subst (λ (x : Book). IfSome x.under (λ u. Takes x u e (taken.Refused n) b3)) (is_called b b1 b2 i kind h (Ok e) hands e2) takes

    same : at hands.found (Handing i.project i.index kind (given.Due h)) ≡ handing hands.found i kind
    same = handed_is b hands.found i kind h hands.given.1

itself : (s : State) → Finds s s
itself s = record { alike = λ q. refl; records = refl; descs = refl }

-- memory wanted before anything was handed
pub none_handed : (b b1 : Book) (i : Item) (kind : BuildKind) → b1 ≡ b → Halts b i kind outcome.NoMemory b1
none_handed b b1 i kind e = subst (λ (x : Book). Halts b i kind outcome.NoMemory x) (sym e)
    ([], [], record { mine = sym (append-nil b.mine); since = sym (append-nil b.since); began = refl; done = refl; serving = refl; has = refl }, itself b.now, inl (refl, refl))

-- or after that
pub none_made : (b b1 b2 b3 : Book) (i : Item) (kind : BuildKind) (h : Handed) (r : Result Edits BuildFault) → Hands b i kind (given.Due h) b1
    → Calls b1 b2 i h r → b3 ≡ b2 → Halts b i kind outcome.NoMemory b3
none_made b b1 b2 b3 i kind h r hands e2 e3 = subst (λ (x : Book). Halts b i kind outcome.NoMemory x) (sym (e3 ∙ is_called b b1 b2 i kind h r hands e2)) (
  handing hands.found i kind ∷ [],
  Called i h r ∷ [],
  record { mine = ap (λ x. b.mine ++ x ∷ []) same; since = ap (λ x. b.since ++ x ∷ []) same; began = refl; done = was_called b b1 b2 i kind h r hands e2; serving = refl; has = refl },
  hands.finds,
  inr (refl, (r, ap (λ (x : Handed). Called i x r ∷ []) hands.given.1)),
)
  where
    same : at hands.found (Handing i.project i.index kind (given.Due h)) ≡ handing hands.found i kind
    same = handed_is b hands.found i kind h hands.given.1
