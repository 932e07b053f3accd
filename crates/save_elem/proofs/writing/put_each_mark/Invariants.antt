use Rattle.std.proofs.Common.{◌≡◌, map}
use Rattle.std.specs.List.{flat_map, AllByRecursion}
use Rattle.save_elem.specs.Inside.Spellings.{spell_mark}
use Rattle.save_elem.specs.Telling.{saved, lasting, told_mark, IsNarrowMark}
use Rattle.save_elem.proofs.writing.put_each_mark.Given as goal

-- the markers that are left complete the text
abbrev pub invariant-loop-of : goal.invariant-loop-of
invariant-loop-of g l = (g.S.Sink.after l.sink (flat_map spell_mark (saved l.of-iterator)) ≡ g.S.Sink.after l.initial.sink (flat_map spell_mark (lasting l.marks)))
    × AllByRecursion IsNarrowMark (map told_mark (saved l.of-iterator))
