-- What it takes to be lawful, and what follows.
use Rattle.std.proofs.Common.{◌≡◌, List, Option, Some, None}
use Rattle.std.specs.Prelude.{IfSome}
use Rattle.ws_elem.specs.Trees.{Tree}
use Rattle.delta_kind.specs.declared.node.DeltaNode.{DeltaNode}
use Rattle.proj_desc.specs.declared.command.Command.{Command}
use Rattle.builder_api.specs.declared.handed.Handed.{Handed}
use Rattle.builder_api.specs.declared.edits.Edits.{Edits}
use Rattle.builder_api.specs.Files.{Files, files_of}
use Rattle.builder_api.specs.Tasks.{Task, task_of, view_of}
use Rattle.builder_api.specs.Meanings.{Meaning, Meanings}
use Rattle.builder_api.specs.Lawful.{IsPromised, IsOwed, IsHanded, Fulfils, Does, Right}

-- edits that are right for all files of which the view is handed, whatever was built last
pub does_always : (m : Meaning) (command : Command) (h : Handed) (e : Edits)
    → ((f : Files) → h.view ≡ view_of (task_of command h) f → Fulfils m (task_of command h) f e) → Does m command h e
does_always m command h e right last now sees promised = right (files_of now) sees

promised : (m : Meaning) (c : Task) (nodes : Option (List DeltaNode)) (last : Option Tree) (now : Tree)
    → IsHanded c nodes last now → IsOwed m c nodes last → (before : Tree) × IsPromised m c nodes before now
promised m c None last now handed owed = (now, tt)
promised m c (Some nodes) None now handed owed = absurd handed
promised m c (Some nodes) (Some last) now handed owed = (last, record { stamps = handed.0; delta = handed.1; built = owed })

-- what a lawful builder does with what is handed is right
pub right_of : (ms : Meanings) (command : Command) (h : Handed) (last : Option Tree) (now : Tree) (e : Edits)
    → h.view ≡ view_of (task_of command h) (files_of now) → IsHanded (task_of command h) h.delta last now
    → IfSome (ms command.builder) (λ m. Does m command h e) → Right ms (task_of command h) h.delta last now e
right_of ms command h last now e sees handed = by (ms command.builder)
  where
    by : (o : Option Meaning) → IfSome o (λ m. Does m command h e) → IfSome o (λ m. IsOwed m (task_of command h) h.delta last → Fulfils m (task_of command h) (files_of now) e)
    by None does = tt
    by (Some m) does = λ owed. let found = promised m (task_of command h) h.delta last now handed owed in does found.0 now sees found.1
