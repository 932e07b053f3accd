use Rattle.std.proofs.Common.{[], ◌∷◌, ◌++◌, length, ◌≤◌, sym, subst}
use Rattle.std.proofs.lemmas.Result.{on_ok_weaker}
use Rattle.std.specs.Prelude.{IsSomeAnd}
use Rattle.ws_outside.specs.Disk.{LeavesOnly}
use Rattle.area_store.specs.Kept.{recorded, ReadsAs, IsKept, room_of}
use Rattle.area_store.proofs.Sound.{sound_closed, sound_with, one_reads, room_told}
use Rattle.area_store.proofs.store.AreaStore.snapshot.Goals as goal

pub append-requires-clause-closed : goal.append-requires-clause-closed
append-requires-clause-closed g c =
    let desk = c.self.inside.desk in
    let room = subst (λ desk. IsSomeAnd (room_of desk) (λ room. length c.args.body.now ≤ room)) (sym c.self.view_is) c.requires.room in
    sound_closed g.D.Disk.may_leave desk c.unwrap-gate.result c.self.invariant c.unwrap-gate.ensures (room_told desk.failed desk.gate (length c.args.body.now) room).2

pub invariant_of-self : goal.invariant_of-self
invariant_of-self g c = sound_with g.D.Disk.may_leave c.self.inside.desk c.append.new.self c.args.body.now c.append.result c.append.ensures.saved c.append.ensures.unsaved c.self.invariant

pub returns-clause-any_moment : goal.returns-clause-any_moment
returns-clause-any_moment g c first begun kept =
    let d = g.D.Disk in
    subst (λ desk. IsKept d.may_leave first begun desk → LeavesOnly d.moment d.left_since d.may_leave desk.disk c.append.new.self.disk (ReadsAs (first ∷ begun ++ recorded c.args.body.now first ∷ []))) c.self.view_is
    (c.append.ensures.any_moment first begun) kept

pub returns-clause-reads : goal.returns-clause-reads
returns-clause-reads g c = on_ok_weaker c.append.result
    (λ done first begun kept. one_reads g.D.Disk.may_leave c.append.new.self (recorded c.args.body.now first) (done first begun (subst (IsKept g.D.Disk.may_leave first begun) (sym c.self.view_is) kept))) c.append.ensures.saved
