-- What listeners are told on the way from one history to another.
use Rattle.std.specs.Prelude.{◌≡◌, List, ◌++◌}
use Rattle.core_event.specs.declared.entry.Entry.{Entry}
use Rattle.ws_core.specs.Histories.{told_of}
use Rattle.save_parts.specs.Heard.{Heard, HeardMore}

-- each listener was told what the history told on the way from one to the other
abbrev pub Tells : List Entry → List Entry → List Heard → List Heard → Type 0
Tells h h' old new = (l : List Entry) × (h' ≡ h ++ l) × HeardMore (told_of l) old new

-- each was told what it told on some of that way
abbrev pub TellsFront : List Entry → List Entry → List Heard → List Heard → Type 0
TellsFront h h' old new = (l : List Entry) × (rest : List Entry) × (h' ≡ (h ++ l) ++ rest) × HeardMore (told_of l) old new
