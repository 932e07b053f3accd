-- Records of what was built last, and what participants keep, one after another.
use Rattle.std.specs.Prelude.{List, [], ◌∷◌}
use Rattle.std.specs.FinMap.{insert}
use Rattle.ws_elem.specs.declared.elem_map.ElemMap.{ElemMap}
use Rattle.ws_elem.specs.Trees.{Tree}
use Rattle.ws_marks.specs.declared.record.Record.{Record}
use Rattle.ws_marks.specs.declared.state.State.{State}
use Rattle.ws_marks.specs.Places.{Records, States, place_of}
use Rattle.ws_content.specs.States.{shown_built, shown_kept}

-- these put onto what was built before, from the last to the first
abbrev pub onto : Records Tree → List (Record ElemMap) → Records Tree
onto built [] = built
onto built (r ∷ rs) = insert (onto built rs) (place_of r) (shown_built r)

-- these kept, from the last to the first, each in the place of what its participant kept
abbrev pub kept_onto : States Tree → List (State ElemMap) → States Tree
kept_onto kept [] = kept
kept_onto kept (s ∷ ss) = insert (kept_onto kept ss) s.participant (shown_kept s)
