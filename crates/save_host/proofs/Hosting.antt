-- A save goes on.
use Rattle.std.proofs.Common.{◌≡◌, inl, inr, ℕ, Bool, true, false, List, [], ◌∷◌, ◌++◌, Option, Some, None, Result, Ok, Err, refl, sym, ap, ◌∙◌, subst}
use Rattle.std.specs.Prelude.{IfOk, OnOk, OnErr}
use Rattle.ws_outside.specs.declared.contents.Contents.{Contents}
use Rattle.save_kind.specs.declared.answer.SaveAnswer.{SaveAnswer}
use Rattle.save_kind.specs.declared.answer.SaveAnswer.TheVariants as answer
use Rattle.save_kind.specs.declared.kind.SaveKind.{SaveKind}
use Rattle.save_kind.specs.declared.state.PartState.{PartState}
use Rattle.save_run.specs.declared.host.WriteFault.{WriteFault}
use Rattle.save_run.specs.Books.{Start, Keep, Write, Finish, EndsUnkept, MayEnd, WereKept, noted, outcome_of}
use Rattle.core_event.specs.declared.service.ServiceEvent.TheVariants.{Saving}
use Rattle.job_manager.specs.declared.manager.JobManager.{JobManager}
use Rattle.pass_table.specs.Passes.{has_pass}
use Rattle.ws_core.specs.States.{Moment}
use Rattle.ws_core.specs.Histories.{has_entered}
use Rattle.ws_core.specs.Sessions.{Session}
use Rattle.ws_core.specs.Durables.{durable_of}
use Rattle.save_history.specs.Points.{IsAsked}
use Rattle.save_history.specs.Saves.{beginning, ending}
use Rattle.save_history.specs.Kept.{Keeper, IsKept, IsTried, points_at}
use Rattle.save_history.specs.Stages.{HasBegun, HasEnded, HasKept, IsUnderWay, Starts, Stays, WasRefused}
use Rattle.save_history.proofs.Rounds.{done_step, refused_step}
use Rattle.save_history.proofs.Safe.{asked_keeps, kept_begins, kept_keeps, kept_none, kept_tried, kept_unkept, may_by}
use Rattle.save_host.specs.declared.host.Try.{Try}
use Rattle.save_host.specs.Inside.Hosts.{IsStopped, IsBegun, AreKept, WasTried, IsOver, IsThrough, IsReady, book_of}
use Rattle.save_host.proofs.Books.{book_begun, book_kept, book_over, book_stopped, book_tried, book_written}
use Rattle.save_host.proofs.Places.{BegunNow, KeptNow, TriedNow, begun_of, fresh_of, kept_of, tried_of}

-- a pass that has entered is still there
pub entered_on : (k : ℕ) (s t : Moment) → Stays s t → has_entered k s ≡ true → has_entered k t ≡ true
entered_on k s t stays h = ap (λ (m : JobManager). has_pass m.passes k) stays.manager ∙ h

module _ {D : Type 0} (moment : D → ℕ) (left_since : D → ℕ → Contents → Type 0) (may_leave : D → Contents → Type 0) (faults : D → ℕ) (k : ℕ) (x : Session) (keeper : Keeper D) (w : Option Try) where
  abbrev Ready : Session → Type 0
  Ready y = IsReady moment left_since may_leave faults k x y keeper w

  abbrev Kept : Session → Type 0
  Kept y = IsKept moment left_since may_leave faults y keeper

  module _ (y z : Session) (entered : has_entered k y.state ≡ true) where
    -- it begins, or is refused
    begins : (kind : SaveKind) → y ≡ x → w ≡ None → Kept y → HasBegun k kind y z → Ready z
    begins kind same none kept b = record {
      entered = entered_on k y.state z.state b.went.stays entered;
      at = IsBegun kind (subst (λ s. HasBegun k kind s z) same b) none
          (kept_begins moment left_since may_leave faults keeper y z b.went.opened b.went.placed b.went.entry b.went.history b.went.state kind (done_step k (beginning kind) b.went.entry b.went.is) kept);
    }

    is_refused : (kind : SaveKind) (n : ℕ) → y ≡ x → w ≡ None → Kept y → WasRefused k kind n y z → Ready z
    is_refused kind n same none kept r = record {
      entered = entered_on k y.state z.state r.went.stays entered;
      at = IsStopped kind n (subst (λ s. WasRefused k kind n s z) same r) none
          (kept_none moment left_since may_leave faults keeper y z r.went.opened r.went.placed r.went.entry r.went.history r.went.state (refused_step k (beginning kind) r.refusal r.went.entry r.went.is) kept);
    }

    pub starts : (kind : SaveKind) (refused : Option ℕ) → y ≡ x → w ≡ None → Kept y → Starts k kind refused y z → Ready z
    starts kind None same none kept b = begins kind same none kept b
    starts kind (Some n) same none kept r = is_refused kind n same none kept r

    -- states are kept
    pub keeps : (states : List (List ℕ × PartState)) → BegunNow moment left_since may_leave faults k x y keeper w → HasKept k states y z → Ready z
    keeps states now h =
        let made = done_step k (Saving states) h.went.entry h.went.is in record {
          entered = entered_on k y.state z.state h.went.stays entered;
          at = AreKept now.kind states y now.begun h now.none
              (kept_keeps moment left_since may_leave faults keeper y z h.went.opened h.went.placed h.went.entry h.went.history h.went.state states made now.kept)
              (asked_keeps moment left_since may_leave faults keeper y z h.went.opened h.went.placed h.went.entry h.went.history h.went.state states made);
        }

    -- it ends
    pub ends_unkept : (o : SaveAnswer) → EndsUnkept o → BegunNow moment left_since may_leave faults k x y keeper w → HasEnded k o y z → Ready z
    ends_unkept o unkept now e = record {
      entered = entered_on k y.state z.state e.went.stays entered;
      at = IsOver now.kind o y now.begun e unkept now.none
          (kept_unkept moment left_since may_leave faults keeper y z e.went.opened e.went.placed e.went.entry e.went.history e.went.state o unkept (done_step k (ending o) e.went.entry e.went.is) now.kept);
    }

    pub ends_tried : (o : SaveAnswer) (r : Result (Unit {0}) WriteFault) → o ≡ outcome_of r → TriedNow moment left_since may_leave faults k x y keeper w r → HasEnded k o y z → Ready z
    ends_tried o r is now e =
        let ended = subst (λ a. HasEnded k a y z) (is ∙ ap outcome_of (sym now.result_is)) e in record {
          entered = entered_on k y.state z.state e.went.stays entered;
          at = IsThrough now.kind now.states now.between y now.last now.begun now.keeps ended now.some
              (kept_tried moment left_since may_leave faults keeper y z ended.went.opened ended.went.placed ended.went.entry ended.went.history ended.went.state now.last.result
              (done_step k (ending (outcome_of now.last.result)) ended.went.entry ended.went.is) now.tried)
              (may_by moment left_since may_leave faults keeper y z ended.went.opened ended.went.placed ended.went.entry ended.went.history ended.went.state (outcome_of now.last.result)
              (done_step k (ending (outcome_of now.last.result)) ended.went.entry ended.went.is) now.tried.cause);
        }

-- a write was tried
pub writes : {D : Type 0} (moment : D → ℕ) (left_since : D → ℕ → Contents → Type 0) (may_leave : D → Contents → Type 0) (faults : D → ℕ) (k : ℕ) (x y : Session) (old new : Keeper D) (w : Option Try) (t : Try)
    → has_entered k y.state ≡ true → KeptNow moment left_since may_leave faults k x y old w
    → (IsAsked (points_at y old) (durable_of y.state) → IsKept moment left_since may_leave faults y old → IsTried moment left_since may_leave faults t.result y new) → IsReady moment left_since may_leave faults k x y new (Some t)
writes moment left_since may_leave faults k x y old new w t entered now tried = record {
  entered = entered;
  at = WasTried now.kind now.states now.between t now.begun now.keeps refl (tried now.asked now.kept);
}

-- ---- the calls of a host

module _ {D : Type 0} (moment : D → ℕ) (left_since : D → ℕ → Contents → Type 0) (may_leave : D → Contents → Type 0) (faults : D → ℕ) (k : ℕ) (x y z : Session) (keeper : Keeper D) (w : Option Try)
    (ready : IsReady moment left_since may_leave faults k x y keeper w) where
  abbrev ReadyNext : Type 0
  ReadyNext = IsReady moment left_since may_leave faults k x z keeper w

  same_next : z ≡ y → ReadyNext
  same_next same = subst (λ s. IsReady moment left_since may_leave faults k x s keeper w) (sym same) ready

  -- start
  pub start_ready : {E : Type 0} (r : Result (Option ℕ) E) (kind : SaveKind) → book_of x y w ≡ [] → IfOk r (λ o. Starts k kind o y z) → OnErr r (z ≡ y) → ReadyNext
  start_ready (Ok o) kind fresh is same = let now = fresh_of moment left_since may_leave faults k x y keeper w ready.at fresh in starts moment left_since may_leave faults k x keeper w y z ready.entered kind o now.0 now.1 now.2 is
  start_ready (Err e) kind fresh is same = same_next same

  started_book : (kind : SaveKind) (o : Option ℕ) → w ≡ None → y ≡ x → Starts k kind o y z → book_of x z w ≡ Start kind o ∷ []
  started_book kind None none same b = book_begun k kind x z w (subst (λ s. HasBegun k kind s z) same b) none
  started_book kind (Some n) none same r = book_stopped k kind n x z w (subst (λ s. WasRefused k kind n s z) same r) none

  pub start_book : {E : Type 0} (r : Result (Option ℕ) E) (kind : SaveKind) → book_of x y w ≡ [] → IfOk r (λ o. Starts k kind o y z) → IfOk r (λ o. book_of x z w ≡ Start kind o ∷ [])
  start_book (Ok o) kind fresh is = let now = fresh_of moment left_since may_leave faults k x y keeper w ready.at fresh in started_book kind o now.1 now.0 is
  start_book (Err e) kind fresh is = tt

  pub same_book : {A E : Type 0} (r : Result A E) → OnErr r (z ≡ y) → OnErr r (book_of x z w ≡ book_of x y w)
  same_book (Ok a) same = tt
  same_book (Err e) same = ap (λ s. book_of x s w) same

  -- nothing is done where memory wants
  pub fresh_book : {A E : Type 0} (r : Result A E) → book_of x y w ≡ [] → OnErr r (z ≡ y) → OnErr r (book_of x z w ≡ [])
  fresh_book (Ok a) fresh same = tt
  fresh_book (Err e) fresh same = ap (λ s. book_of x s w) same ∙ fresh

  -- keep
  module _ (kind : SaveKind) (begun : book_of x y w ≡ Start kind None ∷ []) where
    now_begun : BegunNow moment left_since may_leave faults k x y keeper w
    now_begun = begun_of moment left_since may_leave faults k x y keeper w kind ready.at begun

    pub begun_under_way : IsUnderWay k false y.state
    begun_under_way = now_begun.begun.under_way

    pub keep_ready : {A E : Type 0} (r : Result A E) (states : List (List ℕ × PartState)) → OnOk r (HasKept k states y z) → OnErr r (z ≡ y) → ReadyNext
    keep_ready (Ok a) states is same = keeps moment left_since may_leave faults k x keeper w y z ready.entered states now_begun is
    keep_ready (Err e) states is same = same_next same

    pub keep_book : {A E : Type 0} (r : Result A E) (states : List (List ℕ × PartState)) → OnOk r (HasKept k states y z) → OnOk r (book_of x z w ≡ noted (book_of x y w) (Keep states))
    keep_book (Ok a) states is = book_kept k now_begun.kind states x y z w now_begun.begun is now_begun.none
        ∙ sym (ap (λ b. b ++ Keep states ∷ []) (book_begun k now_begun.kind x y w now_begun.begun now_begun.none))
    keep_book (Err e) states is = tt

  -- write
  pub write_ready : (kind : SaveKind) (new : Keeper D) (t : Try) → WereKept (book_of x y w) kind
      → (IsAsked (points_at y keeper) (durable_of y.state) → IsKept moment left_since may_leave faults y keeper → IsTried moment left_since may_leave faults t.result y new)
      → IsReady moment left_since may_leave faults k x y new (Some t)
  write_ready kind new t (states, is) tried = writes moment left_since may_leave faults k x y keeper new w t ready.entered (kept_of moment left_since may_leave faults k x y keeper w kind states ready.at is) tried

  pub write_book : (kind : SaveKind) (t : Try) → WereKept (book_of x y w) kind → book_of x y (Some t) ≡ noted (book_of x y w) (Write t.kind t.result)
  write_book kind t (states, is) =
      let now = kept_of moment left_since may_leave faults k x y keeper w kind states ready.at is in
      book_tried k now.kind now.states x now.between y (Some t) t now.begun now.keeps refl
      ∙ sym (ap (λ b. b ++ Write t.kind t.result ∷ []) (book_kept k now.kind now.states x now.between y w now.begun now.keeps now.none))

  -- finish
  pub may_check_in : (o : SaveAnswer) → MayEnd (book_of x y w) o → (kept : Bool) × IsUnderWay k kept y.state × (o ≡ answer.Saved → kept ≡ true)
  may_check_in o (kind, inl (begun, unkept)) = (false, begun_under_way kind begun, λ saved. absurd (subst EndsUnkept saved unkept))
  may_check_in o (kind, inr (result, (states, is), so)) = (true, (tried_of moment left_since may_leave faults k x y keeper w kind kind states result ready.at is).keeps.under_way, λ saved. refl)

  pub finish_ready : (o : SaveAnswer) → MayEnd (book_of x y w) o → HasEnded k o y z → ReadyNext
  finish_ready o (kind, inl (begun, unkept)) e = ends_unkept moment left_since may_leave faults k x keeper w y z ready.entered o unkept (now_begun kind begun) e
  finish_ready o (kind, inr (result, (states, is), so)) e =
      ends_tried moment left_since may_leave faults k x keeper w y z ready.entered o result so (tried_of moment left_since may_leave faults k x y keeper w kind kind states result ready.at is) e

  pub finish_book : (o : SaveAnswer) → MayEnd (book_of x y w) o → HasEnded k o y z → book_of x z w ≡ noted (book_of x y w) (Finish o)
  finish_book o (kind, inl (begun, unkept)) e =
      let now = now_begun kind begun in
      book_over k now.kind o x y z w now.begun e now.none ∙ sym (ap (λ b. b ++ Finish o ∷ []) (book_begun k now.kind x y w now.begun now.none))
  finish_book o (kind, inr (result, (states, is), so)) e =
      let now = tried_of moment left_since may_leave faults k x y keeper w kind kind states result ready.at is in
      book_written k now.kind now.states o x now.between y z w now.last now.begun now.keeps e now.some
      ∙ sym (ap (λ b. b ++ Finish o ∷ []) (book_tried k now.kind now.states x now.between y w now.last now.begun now.keeps now.some))
