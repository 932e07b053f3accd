-- Bytes that were appended.
use Rattle.std.proofs.Common.{ℕ, List, ◌++◌, ◌∙◌, ap, append_assoc}
use Rattle.script_words.specs.Words.{Grows}

pub grows_on : (a b c : List ℕ) → Grows a b → Grows b c → Grows a c
grows_on a b c h g = record { more = h.more ++ g.more; new_is = g.new_is ∙ ap (λ front. front ++ g.more) h.new_is ∙ append_assoc a h.more g.more }
