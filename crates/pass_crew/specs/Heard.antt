-- What listeners were told of a history.
use Rattle.std.specs.Prelude.{◌≡◌, List, ◌++◌}
use Rattle.core_event.specs.declared.entry.Entry.{Entry}
use Rattle.ws_core.specs.Histories.{told_of}
use Rattle.save_parts.specs.Heard.{Heard, HeardMore}

-- each listener was told what the history tells, and nothing else
abbrev pub HeardAll : List Entry → List Heard → List Heard → Type 0
HeardAll h old new = HeardMore (told_of h) old new

-- each listener was told what a beginning of the history tells, and nothing else
abbrev pub HeardFront : List Entry → List Heard → List Heard → Type 0
HeardFront h old new = (front : List Entry) × (rest : List Entry) × (h ≡ front ++ rest) × HeardAll front old new
