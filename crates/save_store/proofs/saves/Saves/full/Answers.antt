use Rattle.std.proofs.Common.{[], ◌∷◌, ◌++◌, true, MatchResult, subst}
use Rattle.std.proofs.lemmas.Result.{on_ok_weaker}
use Rattle.area_store.proofs.Steps.{on_err_of}
use Rattle.ws_outside.specs.Disk.{LeavesOnly}
use Rattle.ws_durable.specs.declared.durable.Durable.{Durable}
use Rattle.ws_durable.specs.Saved.{saved}
use Rattle.save_store.specs.States.{HoldsOne}
use Rattle.save_store.specs.Stored.{Fits, HasNumber, FailsFull}
use Rattle.save_store.proofs.Runs.{start_holds, flagged, begun_stored}
use Rattle.save_store.proofs.saves.Saves.full.Goals as goal

-- nothing was written
pub returns-in_err-text-clause-any_moment : goal.returns-in_err-text-clause-any_moment
returns-in_err-text-clause-any_moment g c begun k =
    let d = g.D.Disk in
    start_holds d.moment d.left_since d.may_leave g.met.D.Disk.only_now begun c.args.self.now (saved c.args.now.now) k

pub returns-in_err-text-clause-unsaved : goal.returns-in_err-text-clause-unsaved
returns-in_err-text-clause-unsaved g c =
    on_err_of c.from_residual.result (λ begun k. begun_stored g.D.Disk.may_leave c.args.self.now true (saved c.args.now.now) begun k)

-- the copy of the state is the state
pub returns-clause-any_moment : goal.returns-clause-any_moment
returns-clause-any_moment g c begun k =
    let d = g.D.Disk in
    subst (λ (n : Durable). LeavesOnly d.moment d.left_since d.may_leave c.args.self.now.areas.disk c.write.new.self.areas.disk (HoldsOne (saved c.args.self.now.last ∷ begun ++ saved n ∷ []))) c.in_ok-text.ensures.copy
    (c.write.ensures.any_moment begun (flagged d.may_leave c.args.self.now true begun k))

pub returns-clause-saved : goal.returns-clause-saved
returns-clause-saved g c = on_ok_weaker c.write.result (λ kept begun k. kept begun (flagged g.D.Disk.may_leave c.args.self.now true begun k)) c.write.ensures.saved

pub returns-clause-limits : goal.returns-clause-limits
returns-clause-limits g c =
    let top = c.args.self.now.areas.top in
    subst (λ (n : Durable). MatchResult c.write.result (λ _. Fits n × HasNumber top) (FailsFull n top)) c.in_ok-text.ensures.copy c.write.ensures.limits

pub returns-clause-unwritten : goal.returns-clause-unwritten
returns-clause-unwritten g c is = absurd (c.write.ensures.took_none is)
