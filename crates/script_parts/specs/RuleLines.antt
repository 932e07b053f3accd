-- Which rules a script can name.
use Rattle.std.specs.Prelude.{Bool, true, nat_le, List, IsTrue}
use Rattle.std.specs.List.{list_all}
use Rattle.sched_rules.specs.declared.ws_atom.WsAtom.{WsAtom}
use Rattle.sched_rules.specs.declared.ws_atom.WsAtom.TheVariants.{Path, Mutex, Lines}

-- a range of lines has a line
abbrev pub has_lines : WsAtom → Bool
has_lines (Path path) = true
has_lines (Mutex name) = true
has_lines (Lines file from to) = nat_le from to

abbrev pub HasLines : WsAtom → Type 0
HasLines atom = IsTrue (has_lines atom)

-- each range of lines of the rule has a line
abbrev pub can_be_named : List WsAtom → Bool
can_be_named rule = list_all has_lines rule
