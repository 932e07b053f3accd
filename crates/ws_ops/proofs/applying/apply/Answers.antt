use Rattle.std.proofs.Common.{◌≡◌, sym, subst}
use Rattle.std.specs.Prelude.{Result, Ok, Err, IfOk, IfSome, OnErr}
use Rattle.ws_elem.specs.Rooms.{Room}
use Rattle.ws_elem.specs.Trees.{Tree}
use Rattle.op_plan.specs.declared.back.Applied.{Applied}
use Rattle.op_kind.specs.declared.op.Op.{Op}
use Rattle.op_kind.specs.declared.refusal.OpError.{OpError}
use Rattle.ws_ops.specs.Inside.AtOnce.{IsDone}
use Rattle.op_kind.specs.Resources.{Resources, resources}
use Rattle.op_kind.specs.Sound.{IsConsistent}
use Rattle.op_kind.specs.Stamps.{IsKnown}
use Rattle.op_sound.proofs.SoundKept.{effect_sound, effect_known}
use Rattle.ws_ops.proofs.applying.apply.Goals as goal

module _ (before now : Resources) (op : Op) (room shelf_room : Room) (sound : IsConsistent before) where
  sound_done : (done : Applied) → IsDone before op room shelf_room now done → IsConsistent now
  sound_done done d = subst IsConsistent (sym d.resources) (effect_sound before op sound d.allowed)

  known_done : (t : Tree) (done : Applied) → IsDone before op room shelf_room now done → IsKnown before t → IsKnown now t
  known_done t done d known = subst (λ z. IsKnown z t) (sym d.resources) (effect_known before op t sound d.allowed known)

  sound_after : (result : Result Applied OpError) → IfOk result (IsDone before op room shelf_room now) → OnErr result (now ≡ before) → IsConsistent now
  sound_after (Ok done) d e = sound_done done d
  sound_after (Err error) d e = subst IsConsistent (sym e) sound

  known_after : (t : Tree) (result : Result Applied OpError) → IfOk result (IsDone before op room shelf_room now) → OnErr result (now ≡ before)
      → IsKnown before t → IsKnown now t
  known_after t (Ok done) d e = known_done t done d
  known_after t (Err error) d e = subst (λ z. IsKnown z t) (sym e)

pub returns-in-Some-clause-sound : goal.returns-in-Some-clause-sound
returns-in-Some-clause-sound g c sound =
    let before : Resources = resources (g.T.TreeRep.tree c.args.tree.now) c.args.side.now in
    let now : Resources = resources (g.T.TreeRep.tree c.create_at_once.new.tree) c.create_at_once.new.side in
    let room = g.T.TreeRep.room c.create_at_once.new.tree in
    let shelf_room = c.create_at_once.new.side.shelf.room in
    sound_done before now c.args.op.now room shelf_room sound c.in-Some.done
    (subst (λ x. IfSome x (IsDone before c.args.op.now room shelf_room now)) c.in-Some.is c.in_ok-done.ensures.done)

pub returns-in-Some-clause-known : goal.returns-in-Some-clause-known
returns-in-Some-clause-known g c sound t =
    let before : Resources = resources (g.T.TreeRep.tree c.args.tree.now) c.args.side.now in
    let now : Resources = resources (g.T.TreeRep.tree c.create_at_once.new.tree) c.create_at_once.new.side in
    let room = g.T.TreeRep.room c.create_at_once.new.tree in
    let shelf_room = c.create_at_once.new.side.shelf.room in
    known_done before now c.args.op.now room shelf_room sound t c.in-Some.done
    (subst (λ x. IfSome x (IsDone before c.args.op.now room shelf_room now)) c.in-Some.is c.in_ok-done.ensures.done)

pub returns-in-None-clause-sound : goal.returns-in-None-clause-sound
returns-in-None-clause-sound g c sound =
    let before : Resources = resources (g.T.TreeRep.tree c.create_at_once.new.tree) c.create_at_once.new.side in
    let now : Resources = resources (g.T.TreeRep.tree c.apply_planned.new.tree) c.apply_planned.new.side in
    let same : before ≡ resources (g.T.TreeRep.tree c.args.tree.now) c.args.side.now = c.in_ok-done.ensures.none c.in-None.is in
    sound_after before now c.args.op.now (g.T.TreeRep.room c.apply_planned.new.tree) c.apply_planned.new.side.shelf.room (subst IsConsistent (sym same) sound)
    c.apply_planned.result c.apply_planned.ensures.done c.apply_planned.ensures.same

pub returns-in-None-clause-known : goal.returns-in-None-clause-known
returns-in-None-clause-known g c sound t known =
    let before : Resources = resources (g.T.TreeRep.tree c.create_at_once.new.tree) c.create_at_once.new.side in
    let now : Resources = resources (g.T.TreeRep.tree c.apply_planned.new.tree) c.apply_planned.new.side in
    let same : before ≡ resources (g.T.TreeRep.tree c.args.tree.now) c.args.side.now = c.in_ok-done.ensures.none c.in-None.is in
    known_after before now c.args.op.now (g.T.TreeRep.room c.apply_planned.new.tree) c.apply_planned.new.side.shelf.room (subst IsConsistent (sym same) sound) t
    c.apply_planned.result c.apply_planned.ensures.done c.apply_planned.ensures.same (subst (λ z. IsKnown z t) (sym same) known)
