use Rattle.std.proofs.Common.{◌≡◌, ◌++◌, take}
use Rattle.std.specs.List.{flat_map, AllByRecursion}
use Rattle.script_words.specs.Words.{Grows}
use Rattle.script_parts.specs.Parts.{attribute_parts}
use Rattle.script_parts.specs.Inside.Printed.{AreParts, spaced}
use Rattle.script_parts.proofs.attribute_text.put_attributes.Given as goal

abbrev pub invariant-loop-attribute : goal.invariant-loop-attribute
invariant-loop-attribute l = record {
  text : l.out.items ≡ l.fn.out.items ++ flat_map (λ attribute. spaced (attribute_parts attribute)) (take l.attribute-index l.attributes);
  kept : Grows l.fn.out.items l.out.items;
  parts : AllByRecursion (λ attribute. AreParts (attribute_parts attribute)) (take l.attribute-index l.attributes);
}
