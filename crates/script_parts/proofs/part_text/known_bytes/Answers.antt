use Rattle.script_words.proofs.Printed.{are_bytes}
use Rattle.script_parts.proofs.part_text.known_bytes.Goals as goal

pub returns-clause-bytes : goal.returns-clause-bytes
returns-clause-bytes c = are_bytes c.args.word.now c.type_inv.word
