use Rattle.std.proofs.Common.{◌≡◌, drop}
use Rattle.std.specs.List.{flat_map}
use Rattle.save_form.specs.Forms.{text}
use Rattle.save_text.proofs.records.put_each_name.Given as goal

-- the names that are left complete the text
abbrev pub invariant-loop-name : goal.invariant-loop-name
invariant-loop-name g l = g.S.Sink.after l.sink (flat_map text.spell (drop l.name-index l.names)) ≡ g.S.Sink.after l.initial.sink (flat_map text.spell l.names)
