use Rattle.std.proofs.Common.{[], ◌∷◌, ◌++◌}
use Rattle.disk_area.proofs.Moments.{at_start, both, only_wider}
use Rattle.area_store.specs.Kept.{saved, ReadsAs}
use Rattle.area_store.proofs.Steps.{start_reads, reads_more, more_kept, failing, on_err_of}
use Rattle.area_store.proofs.desk.Desk.full.Goals as goal

pub returns-then-image-gt-LARGEST_IMAGE-clause-any_moment : goal.returns-then-image-gt-LARGEST_IMAGE-clause-any_moment
returns-then-image-gt-LARGEST_IMAGE-clause-any_moment g c first begun kept =
    let d = g.D.Disk in
    let old = c.args.self.now in
    at_start d.moment d.left_since d.may_leave g.met.D.Disk.only_now old.disk (ReadsAs (first ∷ begun ++ saved c.args.image.now ∷ []))
    (λ e left. reads_more d.may_leave first begun old kept (saved c.args.image.now) e (start_reads d.may_leave first begun old kept e left))

pub returns-then-self-ge-LAST_NUMBER-clause-any_moment : goal.returns-then-self-ge-LAST_NUMBER-clause-any_moment
returns-then-self-ge-LAST_NUMBER-clause-any_moment g c first begun kept =
    let d = g.D.Disk in
    let old = c.args.self.now in
    at_start d.moment d.left_since d.may_leave g.met.D.Disk.only_now old.disk (ReadsAs (first ∷ begun ++ saved c.args.image.now ∷ []))
    (λ e left. reads_more d.may_leave first begun old kept (saved c.args.image.now) e (start_reads d.may_leave first begun old kept e left))

pub returns-then-image-gt-LARGEST_IMAGE-clause-unsaved : goal.returns-then-image-gt-LARGEST_IMAGE-clause-unsaved
returns-then-image-gt-LARGEST_IMAGE-clause-unsaved g c first begun kept =
    let d = g.D.Disk in
    more_kept d.may_leave first begun _ (failing d.may_leave first begun c.args.self.now kept) (saved c.args.image.now)

pub returns-then-self-ge-LAST_NUMBER-clause-unsaved : goal.returns-then-self-ge-LAST_NUMBER-clause-unsaved
returns-then-self-ge-LAST_NUMBER-clause-unsaved g c first begun kept =
    let d = g.D.Disk in
    more_kept d.may_leave first begun _ (failing d.may_leave first begun c.args.self.now kept) (saved c.args.image.now)

pub returns-in_err-close_spare-clause-any_moment : goal.returns-in_err-close_spare-clause-any_moment
returns-in_err-close_spare-clause-any_moment g c first begun kept =
    let d = g.D.Disk in
    let old = c.args.self.now in
    only_wider d.moment d.left_since d.may_leave old.disk c.close_spare.new.self.disk (ReadsAs (first ∷ begun ++ saved c.args.image.now ∷ [])) (ReadsAs (first ∷ begun))
    (c.close_spare.ensures.any_moment first begun (failing d.may_leave first begun old kept)) (reads_more d.may_leave first begun old kept (saved c.args.image.now))

pub returns-in_err-close_spare-clause-unsaved : goal.returns-in_err-close_spare-clause-unsaved
returns-in_err-close_spare-clause-unsaved g c =
    let d = g.D.Disk in
    on_err_of c.from_residual.result (λ first begun kept. more_kept d.may_leave first begun c.close_spare.new.self (c.close_spare.ensures.kept first begun (failing d.may_leave first begun c.args.self.now kept)) (saved c.args.image.now))

pub returns-in_err-write_spare-clause-any_moment : goal.returns-in_err-write_spare-clause-any_moment
returns-in_err-write_spare-clause-any_moment g c first begun kept =
    let d = g.D.Disk in
    let old = c.args.self.now in
    let now = failing d.may_leave first begun old kept in
    let P = ReadsAs (first ∷ begun ++ saved c.args.image.now ∷ []) in
    let closing = only_wider d.moment d.left_since d.may_leave old.disk c.close_spare.new.self.disk P (ReadsAs (first ∷ begun)) (c.close_spare.ensures.any_moment first begun now) (reads_more d.may_leave first begun old kept (saved c.args.image.now)) in
    both d.moment d.left_since d.may_leave old.disk c.close_spare.new.self.disk c.write_spare.new.self.disk P P closing (c.write_spare.ensures.any_moment first begun (c.close_spare.ensures.kept first begun now)) (λ e reads. reads)

pub returns-clause-any_moment : goal.returns-clause-any_moment
returns-clause-any_moment g c first begun kept =
    let d = g.D.Disk in
    let old = c.args.self.now in
    let now = failing d.may_leave first begun old kept in
    let P = ReadsAs (first ∷ begun ++ saved c.args.image.now ∷ []) in
    let closing = only_wider d.moment d.left_since d.may_leave old.disk c.close_spare.new.self.disk P (ReadsAs (first ∷ begun)) (c.close_spare.ensures.any_moment first begun now) (reads_more d.may_leave first begun old kept (saved c.args.image.now)) in
    both d.moment d.left_since d.may_leave old.disk c.close_spare.new.self.disk c.write_spare.new.self.disk P P closing (c.write_spare.ensures.any_moment first begun (c.close_spare.ensures.kept first begun now)) (λ e reads. reads)

pub returns-clause-saved : goal.returns-clause-saved
returns-clause-saved g c first begun kept =
    c.in_ok-write_spare.ensures.saved first begun (c.close_spare.ensures.kept first begun (failing g.D.Disk.may_leave first begun c.args.self.now kept))
