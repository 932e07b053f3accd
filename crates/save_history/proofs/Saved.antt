-- The steps of a save make one.
use Rattle.std.proofs.Common.{◌≡◌, inl, inr, ℕ, Bool, false, List, [], ◌∷◌, ◌++◌, Some, None, refl, sym, ap, ◌∙◌, append-nil, if◌then◌else◌}
use Rattle.std.specs.Prelude.{unwrap_or}
use Rattle.save_kind.specs.declared.answer.SaveAnswer.{SaveAnswer}
use Rattle.save_kind.specs.declared.answer.SaveAnswer.TheVariants as answer
use Rattle.save_kind.specs.declared.kind.SaveKind.{SaveKind}
use Rattle.save_kind.specs.declared.state.PartState.{PartState}
use Rattle.save_run.specs.declared.command.Saved.TheVariants.{Ended, Stopped}
use Rattle.save_run.specs.Books.{EndsUnkept}
use Rattle.job_manager.specs.declared.manager.JobManager.{JobManager}
use Rattle.ws_elem.specs.Trees.{Tree}
use Rattle.ws_marks.specs.Places.{States}
use Rattle.ws_content.specs.Saves.{is_saved, kept_before, kept_with}
use Rattle.ws_content.specs.States.{Remembered}
use Rattle.ws_core.specs.States.{Moment}
use Rattle.ws_core.specs.Sessions.{Session}
use Rattle.save_history.specs.Steps.{states_kept, steps_of}
use Rattle.save_history.specs.Saves.{WasKept, WasUnkept}
use Rattle.save_history.specs.Stages.{HasBegun, HasEnded, HasKept, HasSaved, Stays, WasRefused, at_home}
use Rattle.save_history.proofs.Stages.{stays_on}
use Rattle.save_history.proofs.Walks.{then_one}
use Rattle.save_history.proofs.Rounds.{steps_kept}

-- where no pass has the services, they are at home
home_same : (m : JobManager) → m.passes.services ≡ None → at_home m ≡ m
home_same m none = λ i. record m { passes = record (m.passes) { services = sym none i } }

managers : (x y : Session) → Stays x.state y.state → x.state.manager.passes.services ≡ None → y.state.manager.passes.services ≡ None → y.state.manager ≡ x.state.manager
managers x y stays before after = sym (home_same y.state.manager after) ∙ stays.manager ∙ home_same x.state.manager before

-- one of two
chosen : {A : Type 0} (b : Bool) (p p' q q' : A) → p ≡ p' → q ≡ q' → (if b then p else q) ≡ (if b then p' else q')
chosen b p p' q q' one two = λ i. if b then one i else two i

unsaved : (o : SaveAnswer) → EndsUnkept o → is_saved o ≡ false
unsaved answer.Saved unkept = absurd unkept
unsaved answer.SaveFailed unkept = absurd unkept
unsaved (answer.ParticipantFailed name) unkept = refl
unsaved answer.SaveTooLarge unkept = absurd unkept
unsaved answer.SaveNumbers unkept = absurd unkept
unsaved answer.NoMemory unkept = refl

-- what was kept where no save is under way, or before the one that is
none_before : (r : Remembered) → r.before ≡ None → kept_before r ≡ r.kept
none_before r none = ap (λ o. unwrap_or o r.kept) none

some_before : (r : Remembered) (kept : States Tree) → r.before ≡ Some kept → kept_before r ≡ kept
some_before r kept is = ap (λ o. unwrap_or o r.kept) is

-- its beginning was refused
pub saved_stopped : (k : ℕ) (kind : SaveKind) (n : ℕ) (x y : Session) → WasRefused k kind n x y → HasSaved k kind (Stopped n) x y
saved_stopped k kind n x y w = record {
  opened = w.went.opened;
  entries = w.went.entry ∷ [];
  history = w.went.history;
  made = record { refusal = w.refusal; number = w.number; entry = w.went.entry; are = refl; refused = w.went.is };
  stays = w.went.stays;
  manager = ap (λ (s : Moment). s.manager) w.same;
  before = λ none. ap (λ (s : Moment). s.remembered.before) w.same ∙ none;
  kept = λ none. ap (λ (s : Moment). s.remembered.kept) w.same;
}

-- it ended before states were kept
module _ (k : ℕ) (kind : SaveKind) (o : SaveAnswer) (x a y : Session) (b : HasBegun k kind x a) (e : HasEnded k o a y) (unkept : EndsUnkept o) where
  kept_unsaved : x.state.remembered.before ≡ None → y.state.remembered.kept ≡ x.state.remembered.kept
  kept_unsaved none =
      e.kept
      ∙ ap (λ (saved : Bool). if saved then a.state.remembered.kept else kept_before a.state.remembered) (unsaved o unkept)
      ∙ some_before a.state.remembered (kept_before x.state.remembered) b.before
      ∙ none_before x.state.remembered none

  pub made_unkept : WasUnkept k kind o (b.went.entry ∷ e.went.entry ∷ [])
  made_unkept = record { first = b.went.entry; last = e.went.entry; are = refl; begins = b.went.is; ends = e.went.is; unkept = unkept }

  pub grew_unkept : y.history ≡ x.history ++ b.went.entry ∷ e.went.entry ∷ []
  grew_unkept = then_one x.history a.history y.history (b.went.entry ∷ []) e.went.entry b.went.history e.went.history

  pub saved_unkept : HasSaved k kind (Ended o) x y
  saved_unkept =
      let stays = stays_on x.state a.state y.state b.went.stays e.went.stays in record {
        opened = e.went.opened ∙ b.went.opened;
        entries = b.went.entry ∷ e.went.entry ∷ [];
        history = grew_unkept;
        made = inl made_unkept;
        stays = stays;
        manager = managers x y stays b.home e.home;
        before = λ none. e.before;
        kept = λ none. kept_unsaved none ∙ sym (ap (λ (saved : Bool). if saved then kept_with x.state.resources.tree x.state.remembered.kept (states_kept (steps_of (b.went.entry ∷ e.went.entry ∷ []))) else x.state.remembered.kept) (unsaved o unkept));
      }

-- it ended behind states that were kept
module _ (k : ℕ) (kind : SaveKind) (states : List (List ℕ × PartState)) (o : SaveAnswer) (x a c y : Session) (b : HasBegun k kind x a) (w : HasKept k states a c) (e : HasEnded k o c y) where
  abbrev pub made_kept : WasKept k kind o (b.went.entry ∷ w.went.entry ∷ e.went.entry ∷ [])
  made_kept = record { states = states; first = b.went.entry; middle = w.went.entry; last = e.went.entry; are = refl; begins = b.went.is; keeps = w.went.is; ends = e.went.is }

  kept_now : c.state.remembered.kept ≡ kept_with x.state.resources.tree x.state.remembered.kept (states_kept (steps_of (b.went.entry ∷ w.went.entry ∷ e.went.entry ∷ [])))
  kept_now =
      w.kept
      ∙ (λ i. kept_with ((b.went.stays.resources i).tree) (b.kept i) states)
      ∙ ap (kept_with x.state.resources.tree x.state.remembered.kept) (sym (append-nil states) ∙ ap states_kept (sym (steps_kept k kind o (b.went.entry ∷ w.went.entry ∷ e.went.entry ∷ []) made_kept)))

  kept_again : x.state.remembered.before ≡ None → kept_before c.state.remembered ≡ x.state.remembered.kept
  kept_again none = some_before c.state.remembered (kept_before x.state.remembered) (w.before ∙ b.before) ∙ none_before x.state.remembered none

  pub grew_kept : y.history ≡ x.history ++ b.went.entry ∷ w.went.entry ∷ e.went.entry ∷ []
  grew_kept = then_one x.history c.history y.history (b.went.entry ∷ w.went.entry ∷ []) e.went.entry
      (then_one x.history a.history c.history (b.went.entry ∷ []) w.went.entry b.went.history w.went.history) e.went.history

  pub saved_kept : HasSaved k kind (Ended o) x y
  saved_kept =
      let stays = stays_on x.state c.state y.state (stays_on x.state a.state c.state b.went.stays w.went.stays) e.went.stays in record {
        opened = e.went.opened ∙ w.went.opened ∙ b.went.opened;
        entries = b.went.entry ∷ w.went.entry ∷ e.went.entry ∷ [];
        history = grew_kept;
        made = inr made_kept;
        stays = stays;
        manager = managers x y stays b.home e.home;
        before = λ none. e.before;
        kept = λ none. e.kept ∙ chosen (is_saved o) c.state.remembered.kept (kept_with x.state.resources.tree x.state.remembered.kept (states_kept (steps_of (b.went.entry ∷ w.went.entry ∷ e.went.entry ∷ []))))
            (kept_before c.state.remembered) x.state.remembered.kept kept_now (kept_again none);
      }
