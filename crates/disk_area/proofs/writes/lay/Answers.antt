use Rattle.std.proofs.Common.{◌+◌, ◌++◌, [], ◌∷◌, length, refl, ◌∙◌, arith, length-append}
use Rattle.std.proofs.lemmas.Result.{on_ok_weaker}
use Rattle.disk_area.proofs.Moments.{at_start}
use Rattle.disk_area.proofs.Lay.{Kept, kept_start, kept_write, kept_sync, told_twice, told_size, follow_came}
use Rattle.disk_area.proofs.writes.lay.Goals as goal

pub returns-in_err-write_at-clause-any_moment : goal.returns-in_err-write_at-clause-any_moment
returns-in_err-write_at-clause-any_moment g c =
    let start = at_start g.D.Disk.moment g.D.Disk.left_since g.D.Disk.may_leave g.met.D.Disk.only_now c.args.disk.now (Kept g.D.Disk.moment g.D.Disk.left_since g.D.Disk.may_leave c.args.area c.args.at c.args.disk.now) (kept_start g.D.Disk.moment g.D.Disk.left_since g.D.Disk.may_leave c.args.area c.args.at c.args.disk.now) in
    let one = kept_write g.D.Disk.moment g.D.Disk.left_since g.D.Disk.may_leave c.args.area c.args.at c.args.disk.now c.args.disk.now c.write_at.new.self c.args.at (length c.args.head.now) (omega arith) (omega (arith, c.requires.small)) start c.write_at.ensures.time c.write_at.ensures.crash in
    one

pub returns-in_err-write_at-2-clause-any_moment : goal.returns-in_err-write_at-2-clause-any_moment
returns-in_err-write_at-2-clause-any_moment g c =
    let start = at_start g.D.Disk.moment g.D.Disk.left_since g.D.Disk.may_leave g.met.D.Disk.only_now c.args.disk.now (Kept g.D.Disk.moment g.D.Disk.left_since g.D.Disk.may_leave c.args.area c.args.at c.args.disk.now) (kept_start g.D.Disk.moment g.D.Disk.left_since g.D.Disk.may_leave c.args.area c.args.at c.args.disk.now) in
    let one = kept_write g.D.Disk.moment g.D.Disk.left_since g.D.Disk.may_leave c.args.area c.args.at c.args.disk.now c.args.disk.now c.write_at.new.self c.args.at (length c.args.head.now) (omega arith) (omega (arith, c.requires.small)) start c.write_at.ensures.time c.write_at.ensures.crash in
    let two = kept_write g.D.Disk.moment g.D.Disk.left_since g.D.Disk.may_leave c.args.area c.args.at c.args.disk.now c.write_at.new.self c.write_at-2.new.self (c.args.at + length c.args.head.now) (length c.args.body.now) (omega arith) (omega (arith, c.requires.small)) one c.write_at-2.ensures.time c.write_at-2.ensures.crash in
    two

pub returns-in_err-write_at-3-clause-any_moment : goal.returns-in_err-write_at-3-clause-any_moment
returns-in_err-write_at-3-clause-any_moment g c =
    let start = at_start g.D.Disk.moment g.D.Disk.left_since g.D.Disk.may_leave g.met.D.Disk.only_now c.args.disk.now (Kept g.D.Disk.moment g.D.Disk.left_since g.D.Disk.may_leave c.args.area c.args.at c.args.disk.now) (kept_start g.D.Disk.moment g.D.Disk.left_since g.D.Disk.may_leave c.args.area c.args.at c.args.disk.now) in
    let one = kept_write g.D.Disk.moment g.D.Disk.left_since g.D.Disk.may_leave c.args.area c.args.at c.args.disk.now c.args.disk.now c.write_at.new.self c.args.at (length c.args.head.now) (omega arith) (omega (arith, c.requires.small)) start c.write_at.ensures.time c.write_at.ensures.crash in
    let two = kept_write g.D.Disk.moment g.D.Disk.left_since g.D.Disk.may_leave c.args.area c.args.at c.args.disk.now c.write_at.new.self c.write_at-2.new.self (c.args.at + length c.args.head.now) (length c.args.body.now) (omega arith) (omega (arith, c.requires.small)) one c.write_at-2.ensures.time c.write_at-2.ensures.crash in
    let three = kept_write g.D.Disk.moment g.D.Disk.left_since g.D.Disk.may_leave c.args.area c.args.at c.args.disk.now c.write_at-2.new.self c.write_at-3.new.self (c.args.at + length c.args.head.now + length c.args.body.now) 1 (omega arith) (omega (arith, c.requires.small)) two c.write_at-3.ensures.time c.write_at-3.ensures.crash in
    three

pub returns-clause-any_moment : goal.returns-clause-any_moment
returns-clause-any_moment g c =
    let start = at_start g.D.Disk.moment g.D.Disk.left_since g.D.Disk.may_leave g.met.D.Disk.only_now c.args.disk.now (Kept g.D.Disk.moment g.D.Disk.left_since g.D.Disk.may_leave c.args.area c.args.at c.args.disk.now) (kept_start g.D.Disk.moment g.D.Disk.left_since g.D.Disk.may_leave c.args.area c.args.at c.args.disk.now) in
    let one = kept_write g.D.Disk.moment g.D.Disk.left_since g.D.Disk.may_leave c.args.area c.args.at c.args.disk.now c.args.disk.now c.write_at.new.self c.args.at (length c.args.head.now) (omega arith) (omega (arith, c.requires.small)) start c.write_at.ensures.time c.write_at.ensures.crash in
    let two = kept_write g.D.Disk.moment g.D.Disk.left_since g.D.Disk.may_leave c.args.area c.args.at c.args.disk.now c.write_at.new.self c.write_at-2.new.self (c.args.at + length c.args.head.now) (length c.args.body.now) (omega arith) (omega (arith, c.requires.small)) one c.write_at-2.ensures.time c.write_at-2.ensures.crash in
    let three = kept_write g.D.Disk.moment g.D.Disk.left_since g.D.Disk.may_leave c.args.area c.args.at c.args.disk.now c.write_at-2.new.self c.write_at-3.new.self (c.args.at + length c.args.head.now + length c.args.body.now) 1 (omega arith) (omega (arith, c.requires.small)) two c.write_at-3.ensures.time c.write_at-3.ensures.crash in
    let four = kept_sync g.D.Disk.moment g.D.Disk.left_since g.D.Disk.may_leave c.args.area c.args.at c.args.disk.now c.write_at-3.new.self c.sync.new.self three c.sync.ensures.time c.sync.ensures.crash in
    four

pub write_at-requires-2 : goal.write_at-requires-2
write_at-requires-2 g c =
    told_size c.args.area c.args.at (c.args.at + length c.args.head.now) c.args.head.now _ _ refl c.requires.fits c.in_ok-write_at.ensures.written

pub write_at-requires-3 : goal.write_at-requires-3
write_at-requires-3 g c =
    let two = told_twice c.args.area c.args.at (c.args.at + length c.args.head.now) c.args.head.now c.args.body.now _ _ _ refl c.requires.fits c.in_ok-write_at.ensures.written c.in_ok-write_at-2.ensures.written in told_size c.args.area c.args.at (c.args.at + length c.args.head.now + length c.args.body.now) (c.args.head.now ++ c.args.body.now) _ _ (omega (arith, length-append c.args.head.now c.args.body.now)) c.requires.fits two

pub returns-clause-seen : goal.returns-clause-seen
returns-clause-seen g c =
    on_ok_weaker c.sync.result (λ _. c.sync.ensures.seen ∙ (let two = told_twice c.args.area c.args.at (c.args.at + length c.args.head.now) c.args.head.now c.args.body.now _ _ _ refl c.requires.fits c.in_ok-write_at.ensures.written c.in_ok-write_at-2.ensures.written in told_twice c.args.area c.args.at (c.args.at + length c.args.head.now + length c.args.body.now) (c.args.head.now ++ c.args.body.now) (0 ∷ []) _ _ _ (omega (arith, length-append c.args.head.now c.args.body.now)) c.requires.fits two c.in_ok-write_at-3.ensures.written)) c.sync.ensures.durable

pub returns-clause-laid : goal.returns-clause-laid
returns-clause-laid g c =
    let start = at_start g.D.Disk.moment g.D.Disk.left_since g.D.Disk.may_leave g.met.D.Disk.only_now c.args.disk.now (Kept g.D.Disk.moment g.D.Disk.left_since g.D.Disk.may_leave c.args.area c.args.at c.args.disk.now) (kept_start g.D.Disk.moment g.D.Disk.left_since g.D.Disk.may_leave c.args.area c.args.at c.args.disk.now) in
    let one = kept_write g.D.Disk.moment g.D.Disk.left_since g.D.Disk.may_leave c.args.area c.args.at c.args.disk.now c.args.disk.now c.write_at.new.self c.args.at (length c.args.head.now) (omega arith) (omega (arith, c.requires.small)) start c.write_at.ensures.time c.write_at.ensures.crash in
    let two = kept_write g.D.Disk.moment g.D.Disk.left_since g.D.Disk.may_leave c.args.area c.args.at c.args.disk.now c.write_at.new.self c.write_at-2.new.self (c.args.at + length c.args.head.now) (length c.args.body.now) (omega arith) (omega (arith, c.requires.small)) one c.write_at-2.ensures.time c.write_at-2.ensures.crash in
    let three = kept_write g.D.Disk.moment g.D.Disk.left_since g.D.Disk.may_leave c.args.area c.args.at c.args.disk.now c.write_at-2.new.self c.write_at-3.new.self (c.args.at + length c.args.head.now + length c.args.body.now) 1 (omega arith) (omega (arith, c.requires.small)) two c.write_at-3.ensures.time c.write_at-3.ensures.crash in
    let told = let two = told_twice c.args.area c.args.at (c.args.at + length c.args.head.now) c.args.head.now c.args.body.now _ _ _ refl c.requires.fits c.in_ok-write_at.ensures.written c.in_ok-write_at-2.ensures.written in told_twice c.args.area c.args.at (c.args.at + length c.args.head.now + length c.args.body.now) (c.args.head.now ++ c.args.body.now) (0 ∷ []) _ _ _ (omega (arith, length-append c.args.head.now c.args.body.now)) c.requires.fits two c.in_ok-write_at-3.ensures.written in
    on_ok_weaker c.sync.result (λ durable i left. follow_came c.args.area c.args.at (c.args.head.now ++ c.args.body.now ++ 0 ∷ []) _ _ _ i c.requires.fits told (durable i left) (three.now i (c.sync.ensures.crash i left))) c.sync.ensures.durable
