use Rattle.std.proofs.Common.{◌≡◌}
use Rattle.std.specs.List.{flat_map}
use Rattle.std.specs.FinMap.{entries}
use Rattle.save_elem.specs.Inside.Spellings.{spell_attr}
use Rattle.save_elem.proofs.writing.put_each_attr.Given as goal

-- the attributes that are left complete the text
abbrev pub invariant-loop-name : goal.invariant-loop-name
invariant-loop-name g l = g.S.Sink.after l.sink (flat_map spell_attr l.name-iterator) ≡ g.S.Sink.after l.initial.sink (flat_map spell_attr (entries l.attrs))
