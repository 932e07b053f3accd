use Rattle.std.proofs.Common.{◌≢◌, take}
use Rattle.std.specs.List.{AllByRecursion}
use Rattle.script_ops.specs.Inside.Verbs.{verb_word}
use Rattle.script_ops.proofs.verb.named_of.Given as goal

abbrev pub invariant-loop-verb : goal.invariant-loop-verb
invariant-loop-verb l = AllByRecursion (λ verb. l.word ≢ verb_word verb) (take l.verb-index l.verbs)
