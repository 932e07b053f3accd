use Rattle.std.proofs.Common.{List, ℕ, refl, subst}
use Rattle.std.specs.Prelude.{codes}
use Rattle.std.specs.List.{flat_map}
use Rattle.res_path.specs.Paths.{path_text}
use Rattle.script_words.specs.Words.{word_text}
use Rattle.mark_set.specs.declared.value.RawValue.{RawValue}
use Rattle.script_parts.specs.Parts.{attribute_parts}
use Rattle.script_parts.specs.Inside.Printed.{AreParts}
use Rattle.script_parts.proofs.Spaced.{three_words}
use Rattle.script_ops.proofs.op_text.put_mark.Goals as goal

pub returns-clause-text : goal.returns-clause-text
returns-clause-text c =
    three_words c.args.out.now.items c.put_three.new.out.items c.put_attributes.new.out.items (word_text (codes "mark")) (word_text (path_text c.args.path.now)) c.args.kind.now
    (flat_map attribute_parts c.args.attributes.now) (rw (← c.path_word.ensures.text, ← c.text_word.ensures.text) c.in_ok-put_three.ensures.text) (rw (← c.as_slice.ensures) c.in_ok-put_attributes.ensures.text)

pub returns-clause-parts : goal.returns-clause-parts
returns-clause-parts c = (
  refl,
  (
    c.path_word.ensures.part,
    (
      c.text_word.ensures.part,
      subst (λ (attributes : List (List ℕ × RawValue)). AreParts (flat_map attribute_parts attributes)) c.as_slice.ensures c.in_ok-put_attributes.ensures.parts,
    ),
  ),
)
