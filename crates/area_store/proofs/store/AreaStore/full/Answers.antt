use Rattle.std.proofs.Common.{[], ◌∷◌, ◌++◌, subst}
use Rattle.std.proofs.lemmas.Result.{on_ok_weaker}
use Rattle.ws_outside.specs.Disk.{LeavesOnly}
use Rattle.area_store.specs.Kept.{saved, ReadsAs, IsKept}
use Rattle.area_store.proofs.Sound.{sound_shut, sound_after, sound_reads}
use Rattle.area_store.proofs.store.AreaStore.full.Goals as goal

pub full-requires : goal.full-requires
full-requires g c = record { known = sound_shut g.D.Disk.may_leave c.self.inside.desk c.self.invariant }

pub invariant_of-self : goal.invariant_of-self
invariant_of-self g c = sound_after g.D.Disk.may_leave c.self.inside.desk c.full.new.self (saved c.args.image.now) c.full.result c.full.ensures.saved c.full.ensures.unsaved c.self.invariant

pub returns-clause-any_moment : goal.returns-clause-any_moment
returns-clause-any_moment g c first begun kept =
    let d = g.D.Disk in
    subst (λ desk. IsKept d.may_leave first begun desk → LeavesOnly d.moment d.left_since d.may_leave desk.disk c.full.new.self.disk (ReadsAs (first ∷ begun ++ saved c.args.image.now ∷ []))) c.self.view_is
    (c.full.ensures.any_moment first begun) kept

pub returns-clause-reads : goal.returns-clause-reads
returns-clause-reads g c = on_ok_weaker c.full.result (λ done. sound_reads g.D.Disk.may_leave c.self.inside.desk c.full.new.self (saved c.args.image.now) c.self.invariant done) c.full.ensures.saved
