use Rattle.std.proofs.Common.{◌≡◌, map, drop}
use Rattle.std.specs.List.{flat_map, AllByRecursion}
use Rattle.save_text.specs.Telling.{IsNarrowKept}
use Rattle.save_text.specs.Inside.Spellings.{spell_kept}
use Rattle.save_text.specs.Inside.Told.{told_kept}
use Rattle.save_text.proofs.state.put_each_kept.Given as goal

-- those that are left complete the text
abbrev pub invariant-loop-of : goal.invariant-loop-of
invariant-loop-of g l = (g.S.Sink.after l.sink (flat_map spell_kept (map (told_kept l.tree.map) (drop l.of-index l.kept))) ≡ g.S.Sink.after l.initial.sink (flat_map spell_kept (map (told_kept l.tree.map) l.kept)))
    × AllByRecursion IsNarrowKept (map (told_kept l.tree.map) (drop l.of-index l.kept))
