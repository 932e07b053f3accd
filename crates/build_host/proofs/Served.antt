-- What a build leaves to its builders.
use Rattle.std.proofs.Common.{◌≡◌, ℕ, List, sym, subst}
use Rattle.std.specs.Prelude.{Result, Ok, Err, IfOk, OnErr}
use Rattle.builder_api.specs.declared.kind.BuildKind.{BuildKind}
use Rattle.builder_api.specs.Meanings.{Meanings}
use Rattle.builder_api.specs.Told.{Told}
use Rattle.std.specs.Prelude.{Option}
use Rattle.ws_core.specs.Histories.{Legal}
use Rattle.ws_core.specs.Sessions.{Session}
use Rattle.build_run.specs.declared.answers.BuildAnswer.{BuildAnswer}
use Rattle.build_run.specs.Commands.{IsAnswered, IsUnanswered}
use Rattle.build_core.specs.Histories.{book_of}
use Rattle.build_history.specs.Calls.{calls, WereCalled}
use Rattle.build_history.specs.Handings.{AnswersHandings, Handing}
use Rattle.build_history.specs.Settled.{AreSound, KeepsBuilt}
use Rattle.build_history.proofs.Answered.{answered_answers, unanswered_answers}
use Rattle.build_history.proofs.Called.{answered_calls, unanswered_calls}
use Rattle.build_history.proofs.Settling.{answered_keeps, unanswered_keeps}
use Rattle.build_host.specs.Hosts.{AreNamed, Goes, Serves, StayBuilders, reached}

module _ (ms : Meanings) (x y : Session) (old new : List Told) (g : Goes x y) (stay : StayBuilders ms old new) (placed : x.state ≡ reached x) (later : y.state ≡ reached y) where
  serves_by : WereCalled (calls x.state g.entries) old new → ((last : Option Handing) → AnswersHandings ms last x.state g.entries old new) → (AreSound ms x.state → KeepsBuilt ms x.state y.state g.entries) → Serves ms x y old new
  serves_by called answers keeps = record {
    opened = g.opened;
    entries = g.entries;
    history = g.history;
    stays = stay;
    called = subst (λ s. WereCalled (calls s g.entries) old new) placed called;
    answers = λ last. subst (λ s. AnswersHandings ms last s g.entries old new) placed (answers last);
    keeps = λ sound. subst (λ s. KeepsBuilt ms s (reached y) g.entries) placed (subst (λ t. KeepsBuilt ms x.state t g.entries) later (keeps (subst (AreSound ms) (sym placed) sound)));
  }

  -- by a build, whatever it answered
  pub serves_built : {E : Type 0} (r : Result BuildAnswer E) (kind : BuildKind) (project : Option (List ℕ)) → AreNamed x old → Legal y.opened y.history
      → IfOk r (λ a. (i : ℕ) × (began : List Told) × IsAnswered ms kind project (book_of x 1 0 old old) a (book_of y 1 i began new))
      → OnErr r ((i : ℕ) × (began : List Told) × IsUnanswered ms kind project (book_of x 1 0 old old) (book_of y 1 i began new)) → Serves ms x y old new
  serves_built (Ok a) kind project named legal h other = serves_by
      (answered_calls ms kind project x y 0 h.0 old h.1 old new g.entries g.opened g.history placed g.own a h.2)
      (answered_answers ms kind project x y 0 h.0 old h.1 old new g.entries g.opened g.history placed g.own named a h.2)
      (λ sound. answered_keeps ms kind project x y 0 h.0 old h.1 old new g.entries g.opened g.history placed later g.own legal sound a h.2)
  serves_built (Err e) kind project named legal other h = serves_by
      (unanswered_calls ms kind project x y 0 h.0 old h.1 old new g.entries g.opened g.history placed g.own h.2)
      (unanswered_answers ms kind project x y 0 h.0 old h.1 old new g.entries g.opened g.history placed g.own named h.2)
      (λ sound. unanswered_keeps ms kind project x y 0 h.0 old h.1 old new g.entries g.opened g.history placed later g.own legal sound h.2)
