use Rattle.std.proofs.Common.{◌≡◌, false, drop}
use Rattle.script_words.specs.Inside.Quoted.{quote_from}
use Rattle.script_words.proofs.quoted.quote_place.Given as goal

abbrev pub invariant-loop-at : goal.invariant-loop-at
invariant-loop-at l = quote_from false 0 l.text ≡ quote_from l.escaped l.at (drop l.at l.text)
