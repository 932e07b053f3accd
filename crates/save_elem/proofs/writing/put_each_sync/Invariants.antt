use Rattle.std.proofs.Common.{◌≡◌, map}
use Rattle.std.specs.List.{flat_map, AllByRecursion}
use Rattle.std.specs.FinMap.{entries}
use Rattle.save_elem.specs.Inside.Spellings.{spell_sync}
use Rattle.save_elem.specs.Telling.{told_sync, IsNarrowSync}
use Rattle.save_elem.proofs.writing.put_each_sync.Given as goal

-- the partners that are left complete the text
abbrev pub invariant-loop-partner : goal.invariant-loop-partner
invariant-loop-partner g l = (g.S.Sink.after l.sink (flat_map spell_sync l.partner-iterator) ≡ g.S.Sink.after l.initial.sink (flat_map spell_sync (entries l.syncs)))
    × AllByRecursion IsNarrowSync (map told_sync l.partner-iterator)
