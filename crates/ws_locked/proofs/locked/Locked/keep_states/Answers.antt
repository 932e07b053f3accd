use Rattle.std.proofs.Common.{◌≡◌, ◌++◌, List, sym, ap, ◌∙◌, subst}
use Rattle.core_event.specs.declared.entry.Entry.{Entry}
use Rattle.ws_core.specs.Histories.{replay}
use Rattle.ws_locked.specs.Halls.{Hall, opened_in}
use Rattle.ws_locked.specs.Moved.{WereKept}
use Rattle.ws_locked.proofs.Keeping.{kept_none, kept_some}
use Rattle.ws_locked.proofs.locked.Locked.keep_states.Goals.{in-Ok, in-Err}
use Rattle.ws_locked.proofs.locked.Locked.keep_states.Goals as goal

pub returns-clause-kept : goal.returns-clause-kept
returns-clause-kept g c =
    let x = c.self.inside.hold.value.core in
    let y = c.keep.new.core in
    let s = c.self.inside.opening.core.value.opened in
    let at = sym (rw c.deref.ensures at c.state.ensures.state) ∙ (rw c.deref.ensures at c.state.ensures.replayed ∙ ap (λ s. replay s x.history) c.self.invariant.opened) in
    let h = rw c.deref_mut.ensures.value at c.in_ok-keep.ensures.kept in
    subst (λ (l : Hall g.row.D.Denot g.row.B.Denot g.row.P.Denot). (added : List Entry) × (y.history ≡ l.core.history ++ added) × WereKept c.args.states (opened_in l) c.args.pass l.core.history added c.match-kept_now.result) c.self.view_is
    (elim c.match-kept_now.branch [
      | in-Ok w ↦ subst (λ r. (added : List Entry) × (y.history ≡ x.history ++ added) × WereKept c.args.states s c.args.pass x.history added r) (sym w.result-is)
          (kept_some x y s c.args.pass c.args.states at h w.in-Ok.now (rw c.deref-2.ensures at w.in-Ok.ensures.told) w.in-Ok.ensures.valid)
      | in-Err w ↦ subst (λ r. (added : List Entry) × (y.history ≡ x.history ++ added) × WereKept c.args.states s c.args.pass x.history added r) (sym w.result-is) (kept_none x y s c.args.pass c.args.states at h)
    ])
