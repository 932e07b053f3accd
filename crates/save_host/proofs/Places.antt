-- How far a save has come, by what was done for it.
use Rattle.std.proofs.Common.{◌≡◌, ℕ, List, [], ◌∷◌, Option, Some, None, Result, sym, ◌∙◌}
use Rattle.ws_outside.specs.declared.contents.Contents.{Contents}
use Rattle.save_kind.specs.declared.answer.SaveAnswer.{SaveAnswer}
use Rattle.save_kind.specs.declared.kind.SaveKind.{SaveKind}
use Rattle.save_kind.specs.declared.state.PartState.{PartState}
use Rattle.save_run.specs.declared.host.WriteFault.{WriteFault}
use Rattle.save_run.specs.Books.{Deed, Start, Keep, Write, Finish, outcome_of}
use Rattle.ws_core.specs.Sessions.{Session}
use Rattle.ws_core.specs.Durables.{durable_of}
use Rattle.save_history.specs.Points.{IsAsked}
use Rattle.save_history.specs.Kept.{Keeper, IsKept, IsTried, points_at}
use Rattle.save_history.specs.Stages.{HasBegun, HasKept}
use Rattle.save_host.specs.declared.host.Try.{Try}
use Rattle.save_host.specs.Inside.Hosts.{IsAt, IsFresh, IsStopped, IsBegun, AreKept, WasTried, IsOver, IsThrough, book_of}
use Rattle.save_host.proofs.Books.{book_begun, book_fresh, book_kept, book_over, book_stopped, book_tried, book_written}

-- lists of deeds that differ
nil_two : (a b : Deed) → [] ≡ a ∷ b ∷ [] → ⊥
nil_two a b is = cc

one_two : (c a b : Deed) → c ∷ [] ≡ a ∷ b ∷ [] → ⊥
one_two c a b is = cc

three_two : (c d e a b : Deed) → c ∷ d ∷ e ∷ [] ≡ a ∷ b ∷ [] → ⊥
three_two c d e a b is = cc

four_two : (c d e f a b : Deed) → c ∷ d ∷ e ∷ f ∷ [] ≡ a ∷ b ∷ [] → ⊥
four_two c d e f a b is = cc

ended_kept : (c a : Deed) (o : SaveAnswer) (states : List (List ℕ × PartState)) → c ∷ Finish o ∷ [] ≡ a ∷ Keep states ∷ [] → ⊥
ended_kept c a o states is = cc

nil_three : (a b c : Deed) → [] ≡ a ∷ b ∷ c ∷ [] → ⊥
nil_three a b c is = cc

one_three : (d a b c : Deed) → d ∷ [] ≡ a ∷ b ∷ c ∷ [] → ⊥
one_three d a b c is = cc

two_three : (d e a b c : Deed) → d ∷ e ∷ [] ≡ a ∷ b ∷ c ∷ [] → ⊥
two_three d e a b c is = cc

four_three : (d e f g a b c : Deed) → d ∷ e ∷ f ∷ g ∷ [] ≡ a ∷ b ∷ c ∷ [] → ⊥
four_three d e f g a b c is = cc

-- the result of the write, where this is the third deed
same_result : (a b c d : Deed) (kind asked : SaveKind) (q r : Result (Unit {0}) WriteFault) → a ∷ b ∷ Write kind q ∷ [] ≡ c ∷ d ∷ Write asked r ∷ [] → q ≡ r
same_result a b c d kind asked q r is = cc

module _ {D : Type 0} (moment : D → ℕ) (left_since : D → ℕ → Contents → Type 0) (may_leave : D → Contents → Type 0) (faults : D → ℕ) (k : ℕ) (x y : Session) (keeper : Keeper D) (w : Option Try) where
  abbrev At : Type 0
  At = IsAt moment left_since may_leave faults k x y keeper w

  abbrev Kept : Type 0
  Kept = IsKept moment left_since may_leave faults y keeper

  -- what was done there
  abbrev pub shape : At → List Deed
  shape (IsFresh same none kept) = []
  shape (IsStopped kind n r none kept) = Start kind (Some n) ∷ []
  shape (IsBegun kind b none kept) = Start kind None ∷ []
  shape (AreKept kind states a b h none kept asked) = Start kind None ∷ Keep states ∷ []
  shape (WasTried kind states a t b h some tried) = Start kind None ∷ Keep states ∷ Write t.kind t.result ∷ []
  shape (IsOver kind o a b e unkept none kept) = Start kind None ∷ Finish o ∷ []
  shape (IsThrough kind states a c t b h e some kept may) = Start kind None ∷ Keep states ∷ Write t.kind t.result ∷ Finish (outcome_of t.result) ∷ []

  pub book_is : (at : At) → book_of x y w ≡ shape at
  book_is (IsFresh same none kept) = book_fresh x y w same none
  book_is (IsStopped kind n r none kept) = book_stopped k kind n x y w r none
  book_is (IsBegun kind b none kept) = book_begun k kind x y w b none
  book_is (AreKept kind states a b h none kept asked) = book_kept k kind states x a y w b h none
  book_is (WasTried kind states a t b h some tried) = book_tried k kind states x a y w t b h some
  book_is (IsOver kind o a b e unkept none kept) = book_over k kind o x a y w b e none
  book_is (IsThrough kind states a c t b h e some kept may) = book_written k kind states (outcome_of t.result) x a c y w t b h e some

  -- nothing was done
  fresh_by : (at : At) → shape at ≡ [] → (y ≡ x) × (w ≡ None) × Kept
  fresh_by (IsFresh same none kept) is = (same, none, kept)
  fresh_by (IsStopped kind n r none kept) is = cc
  fresh_by (IsBegun kind b none kept) is = cc
  fresh_by (AreKept kind states a b h none kept asked) is = cc
  fresh_by (WasTried kind states a t b h some tried) is = cc
  fresh_by (IsOver kind o a b e unkept none kept) is = cc
  fresh_by (IsThrough kind states a c t b h e some kept may) is = cc

  pub fresh_of : At → book_of x y w ≡ [] → (y ≡ x) × (w ≡ None) × Kept
  fresh_of at is = fresh_by at (sym (book_is at) ∙ is)

  -- it began, and nothing else was done
  pub record BegunNow : Type 0 where
    pub kind : SaveKind
    pub begun : HasBegun k kind x y
    pub none : w ≡ None
    pub kept : IsKept moment left_since may_leave faults y keeper

  begun_by : (at : At) (kind : SaveKind) → shape at ≡ Start kind None ∷ [] → BegunNow
  begun_by (IsFresh same none kept) kind is = cc
  begun_by (IsStopped other n r none kept) kind is = cc
  begun_by (IsBegun other b none kept) kind is = record { kind = other; begun = b; none = none; kept = kept }
  begun_by (AreKept other states a b h none kept asked) kind is = cc
  begun_by (WasTried other states a t b h some tried) kind is = cc
  begun_by (IsOver other o a b e unkept none kept) kind is = cc
  begun_by (IsThrough other states a c t b h e some kept may) kind is = cc

  pub begun_of : (kind : SaveKind) → At → book_of x y w ≡ Start kind None ∷ [] → BegunNow
  begun_of kind at is = begun_by at kind (sym (book_is at) ∙ is)

  -- states were kept, and nothing else was done
  pub record KeptNow : Type 0 where
    pub kind : SaveKind
    pub states : List (List ℕ × PartState)
    pub between : Session
    pub begun : HasBegun k kind x between
    pub keeps : HasKept k states between y
    pub none : w ≡ None
    pub kept : IsKept moment left_since may_leave faults y keeper
    pub asked : IsAsked (points_at y keeper) (durable_of y.state)

  kept_by : (at : At) (kind : SaveKind) (states : List (List ℕ × PartState)) → shape at ≡ Start kind None ∷ Keep states ∷ [] → KeptNow
  kept_by (IsFresh same none kept) kind states is = absurd (nil_two _ _ is)
  kept_by (IsStopped other n r none kept) kind states is = absurd (one_two _ _ _ is)
  kept_by (IsBegun other b none kept) kind states is = absurd (one_two _ _ _ is)
  kept_by (AreKept other those a b h none kept asked) kind states is = record { kind = other; states = those; between = a; begun = b; keeps = h; none = none; kept = kept; asked = asked }
  kept_by (WasTried other those a t b h some tried) kind states is = absurd (three_two _ _ _ _ _ is)
  kept_by (IsOver other o a b e unkept none kept) kind states is = absurd (ended_kept _ _ o states is)
  kept_by (IsThrough other those a c t b h e some kept may) kind states is = absurd (four_two _ _ _ _ _ _ is)

  pub kept_of : (kind : SaveKind) (states : List (List ℕ × PartState)) → At → book_of x y w ≡ Start kind None ∷ Keep states ∷ [] → KeptNow
  kept_of kind states at is = kept_by at kind states (sym (book_is at) ∙ is)

  -- a write was tried with this result, and nothing else was done
  pub record TriedNow (result : Result (Unit {0}) WriteFault) : Type 0 where
    pub kind : SaveKind
    pub states : List (List ℕ × PartState)
    pub between : Session
    pub last : Try
    pub begun : HasBegun k kind x between
    pub keeps : HasKept k states between y
    pub some : w ≡ Some last
    pub result_is : last.result ≡ result
    pub tried : IsTried moment left_since may_leave faults last.result y keeper

  tried_by : (at : At) (kind asked : SaveKind) (states : List (List ℕ × PartState)) (r : Result (Unit {0}) WriteFault) → shape at ≡ Start kind None ∷ Keep states ∷ Write asked r ∷ [] → TriedNow r
  tried_by (IsFresh same none kept) kind asked states r is = absurd (nil_three _ _ _ is)
  tried_by (IsStopped other n q none kept) kind asked states r is = absurd (one_three _ _ _ _ is)
  tried_by (IsBegun other b none kept) kind asked states r is = absurd (one_three _ _ _ _ is)
  tried_by (AreKept other those a b h none kept due) kind asked states r is = absurd (two_three _ _ _ _ _ is)
  tried_by (WasTried other those a t b h some tried) kind asked states r is =
      record { kind = other; states = those; between = a; last = t; begun = b; keeps = h; some = some; result_is = same_result _ _ _ _ t.kind asked t.result r is; tried = tried }
  tried_by (IsOver other o a b e unkept none kept) kind asked states r is = absurd (two_three _ _ _ _ _ is)
  tried_by (IsThrough other those a c t b h e some kept may) kind asked states r is = absurd (four_three _ _ _ _ _ _ _ is)

  pub tried_of : (kind asked : SaveKind) (states : List (List ℕ × PartState)) (r : Result (Unit {0}) WriteFault) → At → book_of x y w ≡ Start kind None ∷ Keep states ∷ Write asked r ∷ [] → TriedNow r
  tried_of kind asked states r at is = tried_by at kind asked states r (sym (book_is at) ∙ is)
