-- The entries of a build command in their parts.
use Rattle.std.proofs.Common.{◌≡◌, inl, inr, ℕ, List, [], ◌∷◌, ◌++◌, Option, None, sym, ap, ◌∙◌, subst, append_assoc}
use Rattle.std.specs.List.{AllByRecursion}
use Rattle.builder_api.specs.declared.kind.BuildKind.{BuildKind}
use Rattle.builder_api.specs.declared.outcome.BuildOutcome.{BuildOutcome}
use Rattle.builder_api.specs.Meanings.{Meanings}
use Rattle.build_laws.specs.States.{State, Finds}
use Rattle.build_run.specs.declared.answers.BuildAnswer.{BuildAnswer}
use Rattle.build_run.specs.declared.answers.BuildAnswer.TheVariants.{Ended, Stopped}
use Rattle.build_run.specs.declared.answers.Started.TheVariants as started
use Rattle.build_run.specs.Books.{Book, Entry, Deed, Begin, Batch, Checkout, Handing, Commit, CleanUp, CheckIn, EndBatch, End, at}
use Rattle.build_run.specs.Starts.{ChecksIn, IsStopped}
use Rattle.build_run.specs.Commands.{CameTo, IsAnswered, IsUnanswered}
use Rattle.build_history.proofs.Lists.{all_front, same_rest}
use Rattle.build_history.proofs.Handings.{failed_in}
use Rattle.build_history.proofs.Went.{Works, went_works, works_as}

-- an entry around the commands that answers no plan and checks nothing in
abbrev pub IsAround : Deed → Type 0
IsAround (Begin x) = Unit {0}
IsAround Batch = Unit {0}
IsAround (Checkout kind project (started.Plan plan)) = ⊥
IsAround (Checkout kind project (started.Refused n)) = Unit {0}
IsAround (Handing project index kind x) = ⊥
IsAround (Commit e x) = ⊥
IsAround (CleanUp project index x) = ⊥
IsAround (CheckIn o) = ⊥
IsAround EndBatch = Unit {0}
IsAround End = Unit {0}

abbrev pub AreAround : List Entry → Type 0
AreAround = AllByRecursion (λ (e : Entry). IsAround e.deed)

-- the entries that begin a command
abbrev pub beginning : State → State → Entry → List Entry
beginning first second out = at first (Begin None) ∷ at second Batch ∷ out ∷ []

-- a command that came to an outcome: its beginning, its commands' entries, the check-in, and what came after that
pub record Came (ms : Meanings) (kind : BuildKind) (project : Option (List ℕ)) (b b' : Book) (es : List Entry) : Type 0 where
  pub outcome : BuildOutcome
  pub last : Book
  pub came : CameTo ms kind project b outcome last
  pub works : Works ms outcome came.first last
  pub found : State
  pub finds : Finds last.now found
  pub rest : List Entry
  pub around : AreAround rest
  pub are : es ≡ beginning came.begins.first came.begins.second (at came.first.now (Checkout kind project (started.Plan came.plan))) ++ (works.entries ++ at found (CheckIn outcome) ∷ rest)
  pub told : b'.told ≡ last.told

-- the entries of a command: those around commands alone, or it came to an outcome
pub data Parts (ms : Meanings) (kind : BuildKind) (project : Option (List ℕ)) (b b' : Book) (es : List Entry) : Type 0 where
  NoneCame : AreAround es → b'.told ≡ b.told → Parts ms kind project b b' es
  OneCame : Came ms kind project b b' es → Parts ms kind project b b' es

module _ (ms : Meanings) (kind : BuildKind) (project : Option (List ℕ)) (b b' : Book) (es : List Entry) (mine : b'.mine ≡ b.mine ++ es) where
  stopped_around : (n : ℕ) (fs : List Entry) → IsStopped kind project n fs → AreAround fs
  stopped_around n fs (inl h) = subst AreAround (sym h.1) (tt, tt)
  stopped_around n fs (inr h) = subst AreAround (sym h.5) (tt, (tt, (tt, (tt, (tt, tt)))))

  around : (fs : List Entry) → b'.mine ≡ b.mine ++ fs → AreAround fs → AreAround es
  around fs is h = subst AreAround (sym (same_rest b.mine es fs (sym mine ∙ is))) h

  came_parts : (o : BuildOutcome) (last : Book) (rest : List Entry) → CameTo ms kind project b o last → ChecksIn last o rest b' → AreAround rest → Parts ms kind project b b' es
  came_parts o last rest came checks h = OneCame (record {
    outcome = o;
    last = last;
    came = came;
    works = works;
    found = checks.found;
    finds = checks.finds;
    rest = rest;
    around = h;
    are = same_rest b.mine es _ (sym mine ∙ checks.mine
        ∙ ap (λ x. x ++ at checks.found (CheckIn o) ∷ rest) (works.adds.mine ∙ ap (λ x. x ++ works.entries) (came.begins.mine ∙ ap (λ x. b.mine ++ x) came.begins.since))
        ∙ append_assoc (b.mine ++ begins) works.entries (at checks.found (CheckIn o) ∷ rest)
        ∙ append_assoc b.mine begins (works.entries ++ at checks.found (CheckIn o) ∷ rest));
    told = checks.told;
  })
    where
      went : Works ms came.went.0 came.first last
      went = went_works ms came.first kind came.plan came.went.0 last came.begins.planned.described came.went.1

      works : Works ms o came.first last
      works = elim came.went.2 [
        | inl same ↦ subst (λ p. Works ms p came.first last) (sym same) went
        | inr same ↦ works_as ms o (ap failed_in same) came.first last came.went.0 went
      ]

      begins : List Entry
      begins = beginning came.begins.first came.begins.second (at came.first.now (Checkout kind project (started.Plan came.plan)))

  pub answered_parts : (a : BuildAnswer) → IsAnswered ms kind project b a b' → Parts ms kind project b b' es
  answered_parts (Ended o) h = came_parts o h.0 _ h.1 h.2.checked (tt, (tt, tt))
  answered_parts (Stopped n) h = NoneCame (around h.entries h.mine (stopped_around n h.entries h.stopped)) h.told

  pub unanswered_parts : IsUnanswered ms kind project b b' → Parts ms kind project b b' es
  unanswered_parts (inl f) = NoneCame (around f.entries f.mine (all_front (λ (e : Entry). IsAround e.deed) f.entries f.rest (stopped_around f.number (f.entries ++ f.rest) f.stopped))) f.told
  unanswered_parts (inr (o, last, came, inl checks)) = came_parts o last [] came checks tt
  unanswered_parts (inr (o, last, came, inr (s, checks))) = came_parts o last (at s EndBatch ∷ []) came checks (tt, tt)
