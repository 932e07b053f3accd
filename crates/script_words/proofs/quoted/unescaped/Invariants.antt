use Rattle.script_words.proofs.Unescaping.{Reads}
use Rattle.script_words.proofs.quoted.unescaped.Given as goal

abbrev pub invariant-loop-b : goal.invariant-loop-b
invariant-loop-b l = Reads l.text l.word.items l.b-index l.state
