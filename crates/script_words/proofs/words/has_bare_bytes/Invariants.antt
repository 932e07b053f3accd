use Rattle.std.proofs.Common.{◌≡◌, take}
use Rattle.std.specs.List.{list_all}
use Rattle.script_words.specs.Words.{is_bare_byte}
use Rattle.script_words.proofs.words.has_bare_bytes.Given as goal

abbrev pub invariant-loop-b : goal.invariant-loop-b
invariant-loop-b l = l.bare ≡ list_all is_bare_byte (take l.b-index l.text)
