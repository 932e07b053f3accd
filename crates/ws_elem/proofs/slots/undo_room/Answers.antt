use Rattle.std.proofs.Common.{ap, sym, ◌∙◌, cond}
use Rattle.std.specs.Prelude.{not, ◌&&◌}
use Rattle.std.specs.BTreeMap.{is_at}
use Rattle.res_path.specs.Paths.{path_cmp}
use Rattle.ws_elem.specs.Inside.Slots.{is_among}
use Rattle.ws_elem.proofs.Kept.{sets_no_room}
use Rattle.ws_elem.proofs.slots.undo_room.Goals as goal

pub returns-else-added : goal.returns-else-added
returns-else-added c q =
    let room = c.args.room.now in
    let p = c.args.path.now in
    sets_no_room room p q ∙ ap (λ b. cond (is_at (path_cmp p) q) (not b && is_among room p) (is_among room q)) (sym c.if-added.false)
