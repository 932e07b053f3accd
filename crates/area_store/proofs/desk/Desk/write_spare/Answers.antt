use Rattle.std.proofs.Common.{◌+◌, ◌++◌, [], ◌∷◌, length, drop, sym, subst, Some, false, arith}
use Rattle.disk_area.specs.Area.{behind_gate}
use Rattle.disk_area.specs.Writes.{IsShut, SameBehind, Staged, Becomes}
use Rattle.disk_area.proofs.Moments.{both, only_wider}
use Rattle.area_pair.specs.Reads.{other}
use Rattle.area_store.specs.Kept.{saved, ReadsAs, IsKept}
use Rattle.area_store.proofs.Steps.{laying_reads, laying_kept, opening_reads, opening_came, opened_came, opening_kept, opened_kept, run_in, sure_in, on_err_of}
use Rattle.area_store.proofs.desk.Desk.write_spare.Goals as goal

pub returns-in_err-lay_image-clause-any_moment : goal.returns-in_err-lay_image-clause-any_moment
returns-in_err-lay_image-clause-any_moment g c first begun kept =
    let d = g.D.Disk in
    let old = c.args.self.now in
    let image = c.args.image.now in
    let run = run_in d.moment d.left_since d.may_leave old.disk c.lay_image.new.disk (λ _ s. IsShut s) _ (other old.home) c.other_of-spare.ensures c.lay_image.ensures.any_moment in
    only_wider d.moment d.left_since d.may_leave old.disk c.lay_image.new.disk (ReadsAs (first ∷ begun ++ saved image ∷ [])) _ run
    (laying_reads d.may_leave first begun old kept image (old.top + 1) c.requires.small (omega arith) c.requires.number)

pub returns-in_err-lay_image-clause-unsaved : goal.returns-in_err-lay_image-clause-unsaved
returns-in_err-lay_image-clause-unsaved g c =
    let d = g.D.Disk in
    let old = c.args.self.now in
    let image = c.args.image.now in
    let run = run_in d.moment d.left_since d.may_leave old.disk c.lay_image.new.disk (λ _ s. IsShut s) _ (other old.home) c.other_of-spare.ensures c.lay_image.ensures.any_moment in
    on_err_of c.from_residual.result (λ first begun kept. laying_kept d.may_leave first begun old kept image (old.top + 1) c.requires.small (omega arith) c.requires.number c.lay_image.new.disk c.requires.shut c.requires.failed run.now)

pub returns-in_err-open_gate-clause-any_moment : goal.returns-in_err-open_gate-clause-any_moment
returns-in_err-open_gate-clause-any_moment g c first begun kept =
    let d = g.D.Disk in
    let old = c.args.self.now in
    let image = c.args.image.now in
    let n = old.top + 1 in
    let mid = c.lay_image.new.disk in
    let run = run_in d.moment d.left_since d.may_leave old.disk mid (λ _ s. IsShut s) _ (other old.home) c.other_of-spare.ensures c.lay_image.ensures.any_moment in
    let laying = only_wider d.moment d.left_since d.may_leave old.disk mid (ReadsAs (first ∷ begun ++ saved image ∷ [])) _ run (laying_reads d.may_leave first begun old kept image n c.requires.small (omega arith) c.requires.number) in
    let staged = sure_in (d.may_leave old.disk) (d.may_leave mid) (Staged (behind_gate n image)) _ (other old.home) c.other_of-spare.ensures c.in_ok-lay_image.ensures.laid in
    let more = run_in d.moment d.left_since d.may_leave mid c.open_gate.new.disk SameBehind _ (other old.home) c.other_of-spare.ensures c.open_gate.ensures.any_moment in
    both d.moment d.left_since d.may_leave old.disk mid c.open_gate.new.disk (ReadsAs (first ∷ begun ++ saved image ∷ [])) _ laying more
    (λ e came. opening_reads d.may_leave first begun old kept image n c.requires.small (omega arith) c.requires.number e
    (opening_came d.may_leave first begun old kept image n c.requires.small (omega arith) c.requires.number (d.may_leave mid) staged e came))

pub returns-clause-any_moment : goal.returns-clause-any_moment
returns-clause-any_moment g c first begun kept =
    let d = g.D.Disk in
    let old = c.args.self.now in
    let image = c.args.image.now in
    let n = old.top + 1 in
    let mid = c.lay_image.new.disk in
    let run = run_in d.moment d.left_since d.may_leave old.disk mid (λ _ s. IsShut s) _ (other old.home) c.other_of-spare.ensures c.lay_image.ensures.any_moment in
    let laying = only_wider d.moment d.left_since d.may_leave old.disk mid (ReadsAs (first ∷ begun ++ saved image ∷ [])) _ run (laying_reads d.may_leave first begun old kept image n c.requires.small (omega arith) c.requires.number) in
    let staged = sure_in (d.may_leave old.disk) (d.may_leave mid) (Staged (behind_gate n image)) _ (other old.home) c.other_of-spare.ensures c.in_ok-lay_image.ensures.laid in
    let more = run_in d.moment d.left_since d.may_leave mid c.open_gate.new.disk SameBehind _ (other old.home) c.other_of-spare.ensures c.open_gate.ensures.any_moment in
    both d.moment d.left_since d.may_leave old.disk mid c.open_gate.new.disk (ReadsAs (first ∷ begun ++ saved image ∷ [])) _ laying more
    (λ e came. opening_reads d.may_leave first begun old kept image n c.requires.small (omega arith) c.requires.number e
    (opening_came d.may_leave first begun old kept image n c.requires.small (omega arith) c.requires.number (d.may_leave mid) staged e came))

pub returns-in_err-open_gate-clause-unsaved : goal.returns-in_err-open_gate-clause-unsaved
returns-in_err-open_gate-clause-unsaved g c =
    let d = g.D.Disk in
    let old = c.args.self.now in
    let image = c.args.image.now in
    let n = old.top + 1 in
    let mid = c.lay_image.new.disk in
    let staged = sure_in (d.may_leave old.disk) (d.may_leave mid) (Staged (behind_gate n image)) _ (other old.home) c.other_of-spare.ensures c.in_ok-lay_image.ensures.laid in
    let more = run_in d.moment d.left_since d.may_leave mid c.open_gate.new.disk SameBehind _ (other old.home) c.other_of-spare.ensures c.open_gate.ensures.any_moment in
    on_err_of c.from_residual-in_err-open_gate.result (λ first begun kept. opening_kept d.may_leave first begun old kept image n c.requires.small (omega arith) c.requires.number c.open_gate.new.disk c.requires.failed
    (λ e left. opening_came d.may_leave first begun old kept image n c.requires.small (omega arith) c.requires.number (d.may_leave mid) staged e (more.now e left)))

pub returns-clause-saved : goal.returns-clause-saved
returns-clause-saved g c first begun kept =
    let d = g.D.Disk in
    let old = c.args.self.now in
    let image = c.args.image.now in
    let n = old.top + 1 in
    let mid = c.lay_image.new.disk in
    let now = c.open_gate.new.disk in
    let staged = sure_in (d.may_leave old.disk) (d.may_leave mid) (Staged (behind_gate n image)) _ (other old.home) c.other_of-spare.ensures c.in_ok-lay_image.ensures.laid in
    let opened = sure_in (d.may_leave mid) (d.may_leave now) (Becomes (λ old. 1 ∷ drop 1 old)) _ (other old.home) c.other_of-spare.ensures c.in_ok-open_gate.ensures.opened in
    let done = opened_kept d.may_leave first begun old kept image n c.requires.small (omega arith) c.requires.number now
    (opened_came d.may_leave first begun old kept image n c.requires.small (omega arith) c.requires.number (d.may_leave mid) (d.may_leave now) staged opened) in
    subst (λ w. IsKept d.may_leave (saved image) [] record { disk = now; home = w; gate = Some (57 + length image); top = n; home_shut = false; spare_shut = old.home_shut; failed = false }) (sym c.other_of-spare.ensures) done
