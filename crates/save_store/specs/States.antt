-- The states that areas stand for.
use Rattle.std.specs.Prelude.{◌≡◌, ◌⊎◌, ℕ, List, [], ◌∷◌, Option, Some, None, Ok}
use Rattle.std.specs.FinMap.{empty}
use Rattle.ws_outside.specs.declared.contents.Contents.{Contents}
use Rattle.ws_elem.specs.Trees.{fresh_tree}
use Rattle.ws_durable.specs.Saved.{Saved}
use Rattle.save_format.specs.Valid.{IsImage, IsRecord}
use Rattle.area_pair.specs.declared.texts.Texts.{Texts}
use Rattle.area_pair.specs.Reads.{reads}

-- what the fresh workspace keeps: the root alone, as node 1
abbrev pub fresh : Saved
fresh = record { next_node = 2; next_stamp = 1; next_marker = 1; partners = []; tree = fresh_tree; shelf = empty; built = []; kept = [] }

-- records lead from one state to another, each against the state before it
abbrev pub Lead : Saved → List (List ℕ) → Saved → Type 0
Lead d [] end = end ≡ d
Lead d (body ∷ bodies) end = (next : Saved) × IsRecord d next body × Lead next bodies end

-- an image, with the records behind it, stands for a state
abbrev pub StandFor : Texts → Saved → Type 0
StandFor texts d = (first : Saved) × IsImage first texts.image × Lead first texts.records d

-- where there are no texts, that is the fresh workspace
abbrev pub Mean : Option Texts → Saved → Type 0
Mean None d = d ≡ fresh
Mean (Some texts) d = StandFor texts d

-- both areas hold this state
abbrev pub Holds : Contents → Saved → Type 0
Holds both d = (texts : Option Texts) × (reads both ≡ Ok texts) × Mean texts d

-- both areas hold one of these states
abbrev pub HoldsOne : List Saved → Contents → Type 0
HoldsOne [] both = ⊥
HoldsOne (d ∷ ds) both = Holds both d ⊎ HoldsOne ds both
