use Rattle.std.proofs.Common.{◌≡◌}
use Rattle.save_build.specs.Told.{told_tree}
use Rattle.save_state.specs.States.{state}
use Rattle.save_text.specs.Telling.{nothing}
use Rattle.save_text.specs.Inside.Told.{told_state}
use Rattle.ws_durable.specs.Saved.{saved}
use Rattle.save_read.proofs.Narrow.{state_narrow}
use Rattle.save_read.proofs.Once.{one_bytes}
use Rattle.save_read.proofs.Sayables.{state_fits}
use Rattle.save_read.proofs.Whole.{written, one_prefix}
use Rattle.save_read.proofs.texts.text_of.Goals as goal

pub put_state-requires : goal.put_state-requires
put_state-requires c =
    let base = c.args.base.now.map in
    let shelf = c.args.shelf.now.map in
    state_narrow (told_tree base) (told_tree shelf) (told_state base shelf c.args.durable.now) (state_fits base shelf c.args.durable.now c.requires.base c.requires.shelf c.requires.durable)

pub returns-clause-text : goal.returns-clause-text
returns-clause-text c =
    let base = c.args.base.now.map in
    let shelf = c.args.shelf.now.map in
    let same : c.into_vec.result.items ≡ (state nothing nothing).spell (told_state base shelf c.args.durable.now) = (let one = c.into_vec.ensures in let two = c.in_ok-put_state.ensures in let three = c.empty-out.ensures in cc) in
    written base shelf c.args.durable.now c.into_vec.result.items c.requires.base c.requires.shelf c.requires.durable same

pub returns-clause-one : goal.returns-clause-one
returns-clause-one c other text =
    one_bytes c.args.base.now.map c.args.shelf.now.map (saved c.args.durable.now) c.into_vec.result.items other (returns-clause-text c) text

pub returns-clause-prefix : goal.returns-clause-prefix
returns-clause-prefix c other rest text =
    one_prefix c.args.base.now.map c.args.shelf.now.map (saved c.args.durable.now) other c.into_vec.result.items rest (returns-clause-text c) text
