-- An open workspace stays one.
use Rattle.std.proofs.Common.{◌≡◌, ℕ, Bool, true, false, List, [], ◌∷◌, ◌++◌, refl, sym, ap, ◌∙◌, subst}
use Rattle.std.specs.Prelude.{if◌then◌else◌, take}
use Rattle.sched_rules.specs.Atoms.{atom_contains, atom_conflicts}
use Rattle.rule_table.specs.Tables.{IsApart}
use Rattle.ws_elem.specs.Stamps.{SameContents}
use Rattle.delta_kind.specs.Deltas.{TellsContents}
use Rattle.delta_kind.specs.declared.node.DeltaNode.{DeltaNode}
use Rattle.core_event.specs.declared.event.Event.{Event}
use Rattle.core_event.specs.declared.entry.Entry.{Entry}
use Rattle.core_event.specs.Replies.{is_attempt}
use Rattle.res_path.specs.Paths.{Names}
use Rattle.ws_core.specs.States.{Moment}
use Rattle.ws_core.specs.Steps.{step}
use Rattle.ws_core.specs.Histories.{after, fresh_for, has_entered, notices, replay, told_of, written}
use Rattle.ws_core.specs.Sessions.{AsStart, IsConsistent, Session, IsSession}
use Rattle.ws_core.proofs.Told.{told_notices}
use Rattle.ws_core.proofs.Grown.{legal_more, replay_more}
use Rattle.ws_core.proofs.SoundKept.{fresh_sound, step_sound, step_start}
use Rattle.ws_core.proofs.Attempts.{attempt_same}

-- the replies tell the notices
pub session_told : (x : Session) → IsSession x → told_of x.history ≡ notices x.opened x.history
session_told x is = told_notices x.opened x.history is.opened_told is.legal

-- a path without a node, of the opened tree to the tree, holds the same file bytes or no file
pub told_between : (x : Session) (nodes : List DeltaNode) → IsSession x → (SameContents x.state.remembered.start x.state.resources.tree → TellsContents x.state.remembered.start x.state.resources.tree nodes)
    → TellsContents x.opened.resources.tree x.state.resources.tree nodes
told_between x nodes is tells =
    subst (λ t. TellsContents t x.state.resources.tree nodes) is.start (tells (is.sound.known x.state.remembered.start (AsStart refl)).tree)

-- at each front of the history the state that it leads to is sound
replay_sound : (s : Moment) (h : List Entry) → IsConsistent s → IsConsistent (replay s h)
replay_sound s [] x = x
replay_sound s (e ∷ h) x = replay_sound (after s e) h (step_sound s e.pass e.event x)

pub fronts_apart : (x : Session) → IsSession x → (n : ℕ) → IsApart atom_contains atom_conflicts (replay x.opened (take n x.history)).manager.passes.rules
fronts_apart x is n = (replay_sound x.opened (take n x.history) is.opened_sound).apart

fresh_session : (builders : Names) → IsSession (record { opened = fresh_for builders; history = []; state = fresh_for builders })
fresh_session builders = record {
  opened_start = refl;
  opened_told = refl;
  start = refl;
  opened_sound = fresh_sound builders;
  legal = record { replies = refl; entered = refl; events = refl };
  state = refl;
  sound = fresh_sound builders;
}

-- a workspace in which nothing was done is one, where its state is sound
pub begins : (m o s : Moment) (h : List Entry) → IsSession (record { opened = m; history = []; state = m }) → o ≡ s → s ≡ m → h ≡ [] → IsSession (record { opened = o; history = h; state = s })
begins m o s h session same is empty =
    let back : m ≡ o = sym (same ∙ is) in
    let back2 : m ≡ s = sym is in
    let none : [] ≡ h = sym empty in
    let path : ◌≡◌ {A = Session} (record { opened = m; history = []; state = m }) (record { opened = o; history = h; state = s }) =
    λ i. record { opened = back i; history = none i; state = back2 i } in
    subst IsSession path session

-- the fresh workspace is one
pub opens : (builders : Names) (o s : Moment) (h : List Entry) → o ≡ s → s ≡ fresh_for builders → h ≡ [] → IsSession (record { opened = o; history = h; state = s })
opens builders o s h = begins (fresh_for builders) o s h (fresh_session builders)

-- so is what an event leaves
goes_on : (x : Session) (k : ℕ) (e : Event) → IsSession x → has_entered k x.state ≡ true → (b : Bool) → is_attempt e (step x.state k e).1.answer ≡ b
    → IsSession (record { opened = x.opened; history = if b then x.history else x.history ++ record { pass = k; event = e; reply = (step x.state k e).1 } ∷ []; state = (step x.state k e).0 })
goes_on x k e is there true tried =
    let same : x.state ≡ (step x.state k e).0 = sym (attempt_same x.state k e is.sound tried) in
    let path : ◌≡◌ {A = Session} x (record { opened = x.opened; history = x.history; state = (step x.state k e).0 }) = λ i. record { opened = x.opened; history = x.history; state = same i } in
    subst IsSession path is
goes_on x k e is there false tried =
    let entry : Entry = record { pass = k; event = e; reply = (step x.state k e).1 } in
    record {
      opened_start = is.opened_start;
      opened_told = is.opened_told;
      start = step_start x.state k e ∙ is.start;
      opened_sound = is.opened_sound;
      legal = legal_more x.opened x.history entry is.legal (subst (λ z. has_entered k z ≡ true) is.state there) (ap (λ z. (step z k e).1) is.state) tried;
      state = ap (λ z. (step z k e).0) is.state ∙ sym (replay_more x.opened x.history entry);
      sound = step_sound x.state k e is.sound;
    }

-- so is what a call leaves that makes a step and writes it down
pub goes_on_so : (x : Session) (k : ℕ) (e : Event) (s : Moment) (h : List Entry) → IsSession x → has_entered k x.state ≡ true
    → s ≡ (step x.state k e).0 → h ≡ written x.history (record { pass = k; event = e; reply = (step x.state k e).1 })
    → IsSession (record { opened = x.opened; history = h; state = s })
goes_on_so x k e s h is there after longer =
    let p = sym longer in
    let q = sym after in
    let path : ◌≡◌ {A = Session} (record { opened = x.opened; history = written x.history (record { pass = k; event = e; reply = (step x.state k e).1 }); state = (step x.state k e).0 }) (record { opened = x.opened; history = h; state = s }) = λ i. record { opened = x.opened; history = p i; state = q i } in
    subst IsSession path (goes_on x k e is there (is_attempt e (step x.state k e).1.answer) refl)
