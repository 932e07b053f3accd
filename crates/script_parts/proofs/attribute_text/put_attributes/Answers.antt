use Rattle.std.proofs.Common.{ℕ, List, ◌++◌, sym, ◌∙◌, ap, subst}
use Rattle.std.specs.List.{flat_map, AllByRecursion}
use Rattle.std.proofs.lemmas.List.{take_all}
use Rattle.mark_set.specs.declared.value.RawValue.{RawValue}
use Rattle.script_parts.specs.Parts.{attribute_parts}
use Rattle.script_parts.specs.Inside.Printed.{AreParts, spaced}
use Rattle.script_parts.proofs.Spaced.{spaced_each, parts_each, text_more, all_more}
use Rattle.script_words.proofs.Grown.{grows_on}
use Rattle.script_parts.proofs.attribute_text.put_attributes.Goals as goal

pub returns-clause-text : goal.returns-clause-text
returns-clause-text c =
    c.loop-attribute.invariant.text
    ∙ ap (λ (text : List ℕ). c.args.out.now.items ++ text)
    (ap (flat_map (λ (attribute : List ℕ × RawValue). spaced (attribute_parts attribute)))
    (take_all c.loop-attribute.attribute-index c.args.attributes.now c.loop-attribute-test.false)
    ∙ sym (spaced_each attribute_parts c.args.attributes.now))

pub returns-clause-parts : goal.returns-clause-parts
returns-clause-parts c =
    parts_each attribute_parts c.args.attributes.now
    (subst (AllByRecursion (λ (attribute : List ℕ × RawValue). AreParts (attribute_parts attribute)))
    (take_all c.loop-attribute.attribute-index c.args.attributes.now c.loop-attribute-test.false) c.loop-attribute.invariant.parts)

pub loop-attribute-preserved : goal.loop-attribute-preserved
loop-attribute-preserved c = record {
  text = text_more (λ (attribute : List ℕ × RawValue). spaced (attribute_parts attribute)) c.args.out.now.items c.loop-attribute.out.items c.put_attribute.new.out.items c.args.attributes.now
      c.loop-attribute.attribute-index c.attribute-item.result c.loop-attribute-test.true c.attribute-item.is c.loop-attribute.invariant.text c.in_ok-put_attribute.ensures.text;
  kept = grows_on c.args.out.now.items c.loop-attribute.out.items c.put_attribute.new.out.items c.loop-attribute.invariant.kept c.put_attribute.ensures.kept;
  parts = all_more (λ (attribute : List ℕ × RawValue). AreParts (attribute_parts attribute)) c.args.attributes.now c.loop-attribute.attribute-index c.attribute-item.result
      c.loop-attribute-test.true c.attribute-item.is c.loop-attribute.invariant.parts c.in_ok-put_attribute.ensures.parts;
}
