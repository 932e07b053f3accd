-- What of a workspace lasts over a save.
use Rattle.std.specs.Prelude.{List, map, Option}
use Rattle.std.specs.Option.{option_map}
use Rattle.std.specs.FinMap.{values}
use Rattle.proj_desc.specs.Canonical.{command_text}
use Rattle.ws_elem.specs.Trees.{Tree}
use Rattle.op_kind.specs.Resources.{Resources}
use Rattle.ws_durable.specs.Saved.{Saved, SavedBuilt, SavedKept}
use Rattle.ws_marks.specs.declared.record.Record.{Record}
use Rattle.ws_marks.specs.declared.state.State.{State}
use Rattle.ws_marks.specs.Places.{Records, States}
use Rattle.ws_lasting.specs.Lasting.{lasting}

-- the record with this in place of its tree
abbrev pub record_with : {M N : Type 0} → N → Record M → Record N
record_with t r = record { project = r.project; index = r.index; command = r.command; references = r.references; tree = t }

-- the state with this in place of its tree, or of none
abbrev pub state_with : {M N : Type 0} → Option N → State M → State N
state_with t s = record { participant = s.participant; bytes = s.bytes; tree = t }

-- of a record, with its command as its canonical text
abbrev pub lasting_record : Record Tree → SavedBuilt
lasting_record r = record { project = r.project; index = r.index; command = command_text r.command; references = r.references; tree = lasting r.tree }

-- of a kept state
abbrev pub lasting_state : State Tree → SavedKept
lasting_state s = record { participant = s.participant; bytes = s.bytes; tree = option_map lasting s.tree }

-- of all records, in the order of their places
abbrev pub lasting_built : Records Tree → List SavedBuilt
lasting_built built = map lasting_record (values built)

-- of all kept states, in the order of the participants' names
abbrev pub lasting_kept : States Tree → List SavedKept
lasting_kept kept = map lasting_state (values kept)

-- of all that a workspace keeps: its resources, the records and the kept states
abbrev pub lasting_of : Resources → Records Tree → States Tree → Saved
lasting_of r built kept = record {
  next_node = r.next_node;
  next_stamp = r.next_stamp;
  next_marker = r.next_marker;
  partners = r.partners;
  tree = lasting r.tree;
  shelf = lasting r.shelf;
  built = lasting_built built;
  kept = lasting_kept kept;
}
