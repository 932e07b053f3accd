use Rattle.std.proofs.Common.{◌≡◌, ◌++◌, take}
use Rattle.std.specs.List.{flat_map}
use Rattle.script_words.specs.Words.{Grows, byte_text}
use Rattle.script_words.proofs.word_text.put_valid.Given as goal

abbrev pub invariant-loop-b : goal.invariant-loop-b
invariant-loop-b l = record { text : l.out.items ≡ l.fn.out.items ++ flat_map byte_text (take l.b-index l.text); kept : Grows l.fn.out.items l.out.items }
