-- What the builds of a run did, from what its phases left.
use Rattle.std.proofs.Common.{◌≡◌, List, [], ◌++◌, None, refl, sym, ap, ◌∙◌, subst}
use Rattle.builder_api.specs.Meanings.{Meanings}
use Rattle.builder_api.specs.Told.{Told}
use Rattle.core_event.specs.declared.entry.Entry.{Entry}
use Rattle.ws_core.specs.States.{Moment}
use Rattle.ws_core.specs.Histories.{Legal, replay}
use Rattle.ws_core.specs.Sessions.{Session}
use Rattle.build_history.specs.Calls.{calls, WereCalled}
use Rattle.build_history.specs.Handings.{AnswersHandings}
use Rattle.build_history.specs.Settled.{AllSettled, AreSound}
use Rattle.build_history.proofs.Counts.{risen_none}
use Rattle.build_history.proofs.Dues.{replies_due}
use Rattle.build_history.proofs.Keeping.{AreReplies}
use Rattle.build_host.specs.Hosts.{Serves, reached}
use Rattle.build_host.specs.Laws.{builders_stay}
use Rattle.ws_top.specs.Builds.{MakesBuilds}

-- where nothing was done
pub builds_nothing : (ms : Meanings) (opened : Moment) (h : List Entry) (old new : List Told) → h ≡ [] → new ≡ old → MakesBuilds ms opened h old new
builds_nothing ms opened h old new nothing same = subst (λ l. MakesBuilds ms opened l old new) (sym nothing) (subst (MakesBuilds ms opened [] old) (sym same) (record {
  due = tt;
  called = refl;
  right = tt;
  told = tt;
  risen = λ name. risen_none name old;
  settled = λ _. tt;
  stays = builders_stay ms old;
}))

-- by phases from a workspace on that was just opened
pub builds_of : (ms : Meanings) (x y : Session) (old new : List Told) (h : List Entry) → x.history ≡ [] → Serves ms x y old new → h ≡ y.history
    → Legal y.opened h → MakesBuilds ms x.opened h old new
builds_of ms x y old new h empty s same legal =
    let here : reached x ≡ x.opened = ap (replay x.opened) empty in
    let all : h ≡ s.entries = same ∙ s.history ∙ ap (λ l. l ++ s.entries) empty in
    let answers : AnswersHandings ms None x.opened h old new = subst (λ l. AnswersHandings ms None x.opened l old new) (sym all) (subst (λ t. AnswersHandings ms None t s.entries old new) here (s.answers None)) in
    record {
      due = replies_due x.opened h (subst (λ o. AreReplies o h) s.opened legal.replies);
      called = subst (λ l. WereCalled (calls x.opened l) old new) (sym all) (subst (λ t. WereCalled (calls t s.entries) old new) here s.called);
      right = answers.right;
      told = answers.told;
      risen = answers.risen;
      settled = λ sound. subst (AllSettled ms None x.opened) (sym all) (subst (λ t. AllSettled ms None t s.entries) here ((s.keeps (subst (AreSound ms) (sym here) sound)).settled None));
      stays = s.stays;
    }
