-- What is attached to a resource beside its contents.
use Rattle.std.specs.Prelude.{[]}
use Rattle.std.specs.FinMap.{empty}
use Rattle.ws_elem.specs.declared.attached.Attachments.{Attachments}

-- no description, no markers and no synchronisation bytes
abbrev pub nothing_attached : Attachments
nothing_attached = record { desc_stamp = 0; desc = []; marks = empty; syncs = empty }
