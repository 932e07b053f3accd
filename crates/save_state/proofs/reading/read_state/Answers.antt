use Rattle.save_form.proofs.Wholes.{is_found, is_read, none_longer, is_first}
use Rattle.save_state.specs.States.{state}
use Rattle.save_state.specs.Fits.{FitsState}
use Rattle.save_state.proofs.StateLaws.{state_lawful, state_stops}
use Rattle.save_state.proofs.reading.read_state.Goals as goal

pub returns-clause-found : goal.returns-clause-found
returns-clause-found g c =
    let tree = g.B.Base.entries c.args.tree.now in
    let shelf = g.H.Base.entries c.args.shelf.now in
    is_found (FitsState tree shelf) (state tree shelf) (state_lawful tree shelf) c.args.bytes.now c.read_whole.result c.read_whole.ensures

pub returns-clause-only : goal.returns-clause-only
returns-clause-only g c =
    let tree = g.B.Base.entries c.args.tree.now in
    let shelf = g.H.Base.entries c.args.shelf.now in
    is_read (FitsState tree shelf) (state tree shelf) (state_lawful tree shelf) c.args.bytes.now c.read_whole.result c.read_whole.ensures

pub returns-clause-longer : goal.returns-clause-longer
returns-clause-longer g c =
    let tree = g.B.Base.entries c.args.tree.now in
    let shelf = g.H.Base.entries c.args.shelf.now in
    none_longer (FitsState tree shelf) (state tree shelf) (state_lawful tree shelf) c.args.bytes.now c.read_whole.result c.read_whole.ensures

pub returns-clause-first : goal.returns-clause-first
returns-clause-first g c =
    let tree = g.B.Base.entries c.args.tree.now in
    let shelf = g.H.Base.entries c.args.shelf.now in
    is_first (FitsState tree shelf) (state tree shelf) (state_lawful tree shelf) (state_stops tree shelf) c.args.bytes.now c.read_whole.result c.read_whole.ensures
