use Rattle.script_ops.proofs.Named.{last_kind}
use Rattle.script_ops.proofs.verb.verb_named.Goals as goal

pub returns-in-None-note_named : goal.returns-in-None-note_named
returns-in-None-note_named c =
    last_kind c.args.word.now c.read_named.result (rw c.in-None.is at c.bound_named.ensures) (rw c.in-None-change_named.is at c.change_named.ensures)
    (rw c.in-None-note_named.is at c.note_named.ensures) c.read_named.ensures
