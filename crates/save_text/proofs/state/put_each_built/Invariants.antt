use Rattle.std.proofs.Common.{◌≡◌, map, drop}
use Rattle.std.specs.List.{flat_map, AllByRecursion}
use Rattle.save_text.specs.Telling.{IsNarrowBuilt}
use Rattle.save_text.specs.Inside.Spellings.{spell_built}
use Rattle.save_text.specs.Inside.Told.{told_built}
use Rattle.save_text.proofs.state.put_each_built.Given as goal

-- those that are left complete the text
abbrev pub invariant-loop-of : goal.invariant-loop-of
invariant-loop-of g l = (g.S.Sink.after l.sink (flat_map spell_built (map (told_built l.tree.map) (drop l.of-index l.built))) ≡ g.S.Sink.after l.initial.sink (flat_map spell_built (map (told_built l.tree.map) l.built)))
    × AllByRecursion IsNarrowBuilt (map (told_built l.tree.map) (drop l.of-index l.built))
