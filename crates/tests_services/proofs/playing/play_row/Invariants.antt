use denote.Text.{Utf8}
use denote.Shadow.{shadow}
use Rattle.tests_services.proofs.playing.play_row.Given as goal

-- what is wanted is a text
abbrev pub invariant-loop-text : goal.invariant-loop-text
invariant-loop-text g l =
    (goal.iterator-loop-text g).can_next l.text-iterator ×
    (goal.iterator-loop-text g).is_finite l.text-iterator ×
    shadow (Utf8 l.wanted)
