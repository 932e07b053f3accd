-- What is told of a durable state against a base tree and a base shelf.
use Rattle.std.specs.Prelude.{map}
use Rattle.std.specs.Option.{option_map}
use Rattle.ws_elem.specs.Trees.{Tree}
use Rattle.ws_durable.specs.declared.built.Built.{Built}
use Rattle.ws_durable.specs.declared.kept.Kept.{Kept}
use Rattle.ws_durable.specs.declared.durable.Durable.{Durable}
use Rattle.save_state.specs.declared.records.Built.{Built as BuiltTold}
use Rattle.save_state.specs.declared.records.Kept.{Kept as KeptTold}
use Rattle.save_state.specs.declared.state.State.{State}
use Rattle.save_text.specs.Telling.{told_row}
use Rattle.save_text.specs.Inside.Between.{between}

-- the tree of a built record and of a kept state by its changes from the tree
abbrev pub told_built : Tree → Built → BuiltTold
told_built tree b = record { project = b.project; index = b.index; command = b.command; references = b.references; changes = map told_row (between tree b.tree.map) }

abbrev pub told_kept : Tree → Kept → KeptTold
told_kept tree k = record { participant = k.participant; bytes = k.bytes; changes = option_map (λ t. map told_row (between tree t.map)) k.tree }

abbrev pub told_state : Tree → Tree → Durable → State
told_state base shelf d = record {
  next_node = d.next_node;
  next_stamp = d.next_stamp;
  next_marker = d.next_marker;
  partners = d.partners;
  tree = map told_row (between base d.tree.map);
  shelf = map told_row (between shelf d.shelf.map);
  built = map (told_built d.tree.map) d.built;
  kept = map (told_kept d.tree.map) d.kept;
}
