use Rattle.std.proofs.Common.{ℤ, ◌∷◌, ◌++◌, ◌∙◌, ap}
use Rattle.std.specs.Prelude.{codes}
use Rattle.std.specs.Fmt.{signed_decimal}
use Rattle.std.proofs.Math.Facts.{to_z-of_z}
use Rattle.script_words.specs.Words.{word_text}
use Rattle.script_parts.proofs.Spaced.{two_spaced}
use Rattle.script_parts.proofs.attribute_text.put_int.Goals as goal

pub returns-clause-text : goal.returns-clause-text
returns-clause-text c =
    two_spaced c.args.out.now.items c.put_next.new.out.items c.put_integer.new.out.items (codes "int") (signed_decimal c.args.integer) c.in_ok-put_next.ensures.text
    (c.in_ok-put_integer.ensures.text ∙ ap (λ (z : ℤ). c.put_next.new.out.items ++ 32 ∷ word_text (signed_decimal z)) (to_z-of_z c.ranges.integer))
