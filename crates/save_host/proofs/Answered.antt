-- What a save has done once it is answered.
use Rattle.std.proofs.Common.{◌≡◌, ℕ, List, [], ◌∷◌, ◌++◌, Option, Some, None, Result, Ok, Err, refl, sym, ap, ◌∙◌, subst}
use Rattle.std.specs.Prelude.{IfOk, OnErr}
use Rattle.ws_outside.specs.declared.contents.Contents.{Contents}
use Rattle.save_kind.specs.declared.answer.SaveAnswer.{SaveAnswer}
use Rattle.save_kind.specs.declared.kind.SaveKind.{SaveKind}
use Rattle.save_round.specs.Told.{Told}
use Rattle.save_run.specs.declared.command.Saved.{Saved}
use Rattle.save_run.specs.declared.command.Saved.TheVariants.{Ended, Stopped}
use Rattle.save_run.specs.Books.{Deed, Start, Keep, Write, Finish, outcome_of}
use Rattle.save_run.specs.Saves.{CameTo, IsAnswered}
use Rattle.ws_core.specs.Sessions.{Session}
use Rattle.save_history.specs.Kept.{Keeper, points_at}
use Rattle.save_history.specs.Rounds.{Rounds, kept_in}
use Rattle.save_history.proofs.Rounds.{had_kept, had_same, had_unkept, home_kept, home_unkept, rounds_on, steps_stopped}
use Rattle.save_history.proofs.Safe.{unkept_may}
use Rattle.save_history.proofs.Saved.{grew_kept, grew_unkept, made_kept, made_unkept, saved_kept, saved_stopped, saved_unkept}
use Rattle.save_host.specs.declared.host.Try.{Try}
use Rattle.save_host.specs.Inside.Answers.{Answers, IsUnanswered}
use Rattle.save_host.specs.Inside.Hosts.{IsAt, IsFresh, IsStopped, IsBegun, AreKept, WasTried, IsOver, IsThrough, IsReady, book_of}
use Rattle.save_host.proofs.Places.{book_is, fresh_of, shape}

-- how the last deed ended a save, if it did
abbrev pub ending_with : Option SaveAnswer → List Deed → Option SaveAnswer
ending_with o [] = o
ending_with o (Start kind refused ∷ deeds) = ending_with None deeds
ending_with o (Keep states ∷ deeds) = ending_with None deeds
ending_with o (Write kind result ∷ deeds) = ending_with None deeds
ending_with o (Finish answer ∷ deeds) = ending_with (Some answer) deeds

pub ends_so : (o : Option SaveAnswer) (deeds : List Deed) (a : SaveAnswer) → ending_with o (deeds ++ Finish a ∷ []) ≡ Some a
ends_so o [] a = refl
ends_so o (Start kind refused ∷ deeds) a = ends_so None deeds a
ends_so o (Keep states ∷ deeds) a = ends_so None deeds a
ends_so o (Write kind result ∷ deeds) a = ends_so None deeds a
ends_so o (Finish answer ∷ deeds) a = ends_so (Some answer) deeds a

-- the end of a save keeps no states
pub kept_before_end : (deeds : List Deed) (a : SaveAnswer) → kept_in (deeds ++ Finish a ∷ []) ≡ kept_in deeds
kept_before_end [] a = refl
kept_before_end (Start kind refused ∷ deeds) a = kept_before_end deeds a
kept_before_end (Keep states ∷ deeds) a = refl
kept_before_end (Write kind result ∷ deeds) a = kept_before_end deeds a
kept_before_end (Finish answer ∷ deeds) a = kept_before_end deeds a

-- of a whole save its kind, the states that were kept in it, and its end
module _ (kind : SaveKind) (deeds : List Deed) (o : SaveAnswer) (book : List Deed) (is : book ≡ Start kind None ∷ (deeds ++ Finish o ∷ [])) where
  ends_as : ending_with None book ≡ Some o
  ends_as = ap (ending_with None) is ∙ ends_so None deeds o

  keeps_as : kept_in deeds ≡ kept_in book
  keeps_as = sym (kept_before_end deeds o) ∙ sym (ap kept_in is)

module _ {D : Type 0} (moment : D → ℕ) (left_since : D → ℕ → Contents → Type 0) (may_leave : D → Contents → Type 0) (faults : D → ℕ) (k : ℕ) (x y : Session) (keeper : Keeper D) (w : Option Try) (old new : List Told) where
  abbrev At : Type 0
  At = IsAt moment left_since may_leave faults k x y keeper w

  abbrev Done : SaveKind → Saved → Type 0
  Done kind saved = Answers moment left_since may_leave faults k kind saved x y keeper old new

  abbrev deeds_at : At → List Deed
  deeds_at at = shape moment left_since may_leave faults k x y keeper w at

  ended_by : (at : At) (kind : SaveKind) (o : SaveAnswer) (deeds : List Deed) → CameTo kind o deeds old new → deeds_at at ≡ Start kind None ∷ (deeds ++ Finish o ∷ []) → Done kind (Ended o)
  ended_by (IsFresh same none kept) kind o deeds came is = cc
  ended_by (IsStopped other n r none kept) kind o deeds came is = cc
  ended_by (IsBegun other b none kept) kind o deeds came is = let no = ends_as kind deeds o _ is in cc
  ended_by (AreKept other states a b h none kept asked) kind o deeds came is = let no = ends_as kind deeds o _ is in cc
  ended_by (WasTried other states a t b h some tried) kind o deeds came is = let no = ends_as kind deeds o _ is in cc
  ended_by (IsOver other end a b e unkept none kept) kind o deeds came is =
      let same : other ≡ kind = cc in
      let ends = ends_as kind deeds o _ is in
      let so : end ≡ o = cc in
      let came_so = subst (λ z. CameTo z end deeds old new) (sym same) (subst (λ z. CameTo kind z deeds old new) (sym so) came) in
      let entries = b.went.entry ∷ e.went.entry ∷ [] in
      let made = made_unkept k other end x a y b e unkept in
      let grew = grew_unkept k other end x a y b e unkept in
      subst (λ z. Done z (Ended o)) same (subst (λ z. Done other (Ended z)) so (record {
        made = saved_unkept k other end x a y b e unkept;
        reason = unkept_may end (points_at y keeper) keeper.began.areas.top unkept;
        kept = kept;
        home = λ home. home_unkept k other end x.history y.history entries made grew;
        had = λ first had. had_unkept k other end x.history y.history entries first old new deeds made grew came_so (keeps_as kind deeds o _ is) had;
      }))
  ended_by (IsThrough other states a c t b h e some kept may) kind o deeds came is =
      let end = outcome_of t.result in
      let same : other ≡ kind = cc in
      let ends = ends_as kind deeds o _ is in
      let so : end ≡ o = cc in
      let came_so = subst (λ z. CameTo z end deeds old new) (sym same) (subst (λ z. CameTo kind z deeds old new) (sym so) came) in
      let entries = b.went.entry ∷ h.went.entry ∷ e.went.entry ∷ [] in
      let made = made_kept k other states end x a c y b h e in
      let grew = grew_kept k other states end x a c y b h e in
      subst (λ z. Done z (Ended o)) same (subst (λ z. Done other (Ended z)) so (record {
        made = saved_kept k other states end x a c y b h e;
        reason = may;
        kept = kept;
        home = λ home. home_kept k other end x.history y.history entries made grew;
        had = λ first had. had_kept k other end x.history y.history entries first old new deeds made grew came_so (keeps_as kind deeds o _ is) had;
      }))

  stopped_by : (at : At) (kind : SaveKind) (n : ℕ) → new ≡ old → deeds_at at ≡ Start kind (Some n) ∷ [] → Done kind (Stopped n)
  stopped_by (IsFresh same none kept) kind n quiet is = cc
  stopped_by (IsStopped other m r none kept) kind n quiet is =
      let same : other ≡ kind = cc in
      let so : m ≡ n = cc in
      let made = saved_stopped k other m x y r in
      let rounds = rounds_on x.history y.history made.entries [] made.history (steps_stopped k other m made.entries made.made) in
      subst (λ z. Done z (Stopped n)) same (subst (λ z. Done other (Stopped z)) so (record {
        made = made;
        reason = tt;
        kept = kept;
        home = λ home. ap (λ (z : Rounds). z.under) rounds ∙ home;
        had = λ first had. had_same x.history y.history first old new rounds quiet had;
      }))
  stopped_by (IsBegun other b none kept) kind n quiet is = cc
  stopped_by (AreKept other states a b h none kept asked) kind n quiet is = cc
  stopped_by (WasTried other states a t b h some tried) kind n quiet is = cc
  stopped_by (IsOver other end a b e unkept none kept) kind n quiet is = cc
  stopped_by (IsThrough other states a c t b h e some kept may) kind n quiet is = cc

  -- so it is of a save that was answered, by what was done for it
  pub answers : At → (kind : SaveKind) (saved : Saved) → IsAnswered kind saved (book_of x y w) old new → Done kind saved
  answers at kind (Ended o) is = ended_by at kind o is.deeds is.came (sym (book_is moment left_since may_leave faults k x y keeper w at) ∙ is.book)
  answers at kind (Stopped n) is = stopped_by at kind n is.1 (sym (book_is moment left_since may_leave faults k x y keeper w at) ∙ is.0)

  -- and of one where memory wanted, and nothing was done
  pub unanswered : At → book_of x y w ≡ [] → new ≡ old → IsUnanswered moment left_since may_leave faults x y keeper old new
  unanswered at is quiet = let now = fresh_of moment left_since may_leave faults k x y keeper w at is in record { same = now.0; kept = now.2; quiet = quiet }

  -- the same of what a host has come to that has the pass and the beginning that it had
  module _ {E : Type 0} (r : Result Saved E) (l : ℕ) (began : Session) (pass : l ≡ k) (same : began ≡ x) (ready : IsReady moment left_since may_leave faults l began y keeper w) where
    there : At
    there = subst (λ n. IsAt moment left_since may_leave faults n x y keeper w) pass (subst (λ b. IsAt moment left_since may_leave faults l b y keeper w) same ready.at)

    pub made_answered : (kind : SaveKind) → IfOk r (λ saved. IsAnswered kind saved (book_of began y w) old new) → IfOk r (λ saved. Done kind saved)
    made_answered kind = by r
      where
        by : (r : Result Saved E) → IfOk r (λ saved. IsAnswered kind saved (book_of began y w) old new) → IfOk r (λ saved. Done kind saved)
        by (Ok saved) is = answers there kind saved (subst (λ b. IsAnswered kind saved (book_of b y w) old new) same is)
        by (Err e) is = tt

    pub made_unanswered : OnErr r ((book_of began y w ≡ []) × (new ≡ old)) → OnErr r (IsUnanswered moment left_since may_leave faults x y keeper old new)
    made_unanswered = by r
      where
        by : (r : Result Saved E) → OnErr r ((book_of began y w ≡ []) × (new ≡ old)) → OnErr r (IsUnanswered moment left_since may_leave faults x y keeper old new)
        by (Ok saved) is = tt
        by (Err e) is = unanswered there (subst (λ b. book_of b y w ≡ []) same is.0) is.1
