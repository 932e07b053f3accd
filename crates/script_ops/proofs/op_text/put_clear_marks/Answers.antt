use Rattle.script_ops.proofs.op_text.put_clear_marks.Goals as goal

pub returns-clause-text : goal.returns-clause-text
returns-clause-text c = rw (← c.path_word.ensures.text, ← c.text_word.ensures.text, ← c.depth_word.ensures) c.in_ok-put_four.ensures.text
