-- What participants keep, as a workspace remembers it.
use Rattle.ws_elem.specs.declared.elem_map.ElemMap.{ElemMap}
use Rattle.ws_durable.specs.declared.kept.Kept.{Kept}
use Rattle.ws_marks.specs.declared.state.State.{State}

-- the state of what a participant kept
abbrev pub state_of : Kept → State ElemMap
state_of k = record { participant = k.participant; bytes = k.bytes; tree = k.tree }
