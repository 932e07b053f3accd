use Rattle.std.proofs.Common.{inl, inr, ⊎_elim}
use Rattle.ws_outside.specs.Disk.{held}
use Rattle.disk_area.specs.Area.{behind_gate}
use Rattle.disk_area.specs.Writes.{IsShut, SameBehind, Staged, Closing, Rewriting}
use Rattle.disk_area.proofs.Staging.{then_run, then_sure, wider_run, rewriting}
use Rattle.disk_area.proofs.image.rewrite.Goals as goal

pub returns-clause-any_moment : goal.returns-clause-any_moment
returns-clause-any_moment g c =
    let R = Rewriting c.args.closed (behind_gate c.args.number c.args.image.now) in
    let first = wider_run g.D.Disk.moment g.D.Disk.left_since g.D.Disk.may_leave c.args.area c.args.disk.now c.close_unless.new.disk (Closing c.args.closed) R (λ e d left closing. ⊎_elim (λ same. inl same) (λ shut. inr (inl shut)) closing) c.close_unless.ensures.any_moment in
    let second = then_run g.D.Disk.moment g.D.Disk.left_since g.D.Disk.may_leave c.args.area c.args.disk.now c.close_unless.new.disk c.lay_image.new.disk (Closing c.args.closed) (λ _ s. IsShut s) R first c.close_unless.ensures.any_moment.now c.lay_image.ensures.any_moment (λ d m e left a shut. inr (inl shut)) in
    let staged = then_sure g.D.Disk.moment g.D.Disk.left_since g.D.Disk.may_leave c.args.area c.args.disk.now _ _ (Closing c.args.closed) (Staged (behind_gate c.args.number c.args.image.now)) (Staged (behind_gate c.args.number c.args.image.now)) c.close_unless.ensures.any_moment.now c.in_ok-lay_image.ensures.laid (λ d m e left a staged. record { shut = staged.shut; size = staged.size; behind = staged.behind }) in
    then_run g.D.Disk.moment g.D.Disk.left_since g.D.Disk.may_leave c.args.area c.args.disk.now c.lay_image.new.disk c.open_gate.new.disk (Staged (behind_gate c.args.number c.args.image.now)) SameBehind R second staged c.open_gate.ensures.any_moment
    (λ d m e left staged same. rewriting c.args.closed c.args.number c.args.image.now (held c.args.area d) (held c.args.area m) (held c.args.area e) staged same)

pub returns-in_err-lay_image-clause-any_moment : goal.returns-in_err-lay_image-clause-any_moment
returns-in_err-lay_image-clause-any_moment g c =
    let R = Rewriting c.args.closed (behind_gate c.args.number c.args.image.now) in
    let first = wider_run g.D.Disk.moment g.D.Disk.left_since g.D.Disk.may_leave c.args.area c.args.disk.now c.close_unless.new.disk (Closing c.args.closed) R (λ e d left closing. ⊎_elim (λ same. inl same) (λ shut. inr (inl shut)) closing) c.close_unless.ensures.any_moment in
    then_run g.D.Disk.moment g.D.Disk.left_since g.D.Disk.may_leave c.args.area c.args.disk.now c.close_unless.new.disk c.lay_image.new.disk (Closing c.args.closed) (λ _ s. IsShut s) R first c.close_unless.ensures.any_moment.now c.lay_image.ensures.any_moment (λ d m e left a shut. inr (inl shut))
