use Rattle.std.proofs.Common.{ℕ, List, sym, subst}
use Rattle.std.specs.List.{flat_map}
use Rattle.mark_set.specs.declared.value.RawValue.{RawValue}
use Rattle.script_parts.specs.Parts.{attribute_parts}
use Rattle.script_parts.specs.Inside.Found.{FitsFront}
use Rattle.script_parts.proofs.Fitting.{no_tokens, some_tokens, one_more, stuck, front_whole}
use Rattle.script_parts.proofs.Fronts.{attributes_once}
use Rattle.script_parts.proofs.attributes.attributes_of.Goals as goal

pub returns-in_default : goal.returns-in_default
returns-in_default c = λ all h.
    stuck attribute_parts attributes_once c.loop-rest.attributes all c.args.tokens.now c.loop-rest.rest.now c.loop-rest.invariant
    (rw c.in_default.is at c.in_ok-name.ensures) (some_tokens c.loop-rest.rest.now c.is_empty.result c.is_empty.ensures c.loop-rest-test.true) h

pub loop-rest-preserved : goal.loop-rest-preserved
loop-rest-preserved c =
    subst (λ (all : List (List ℕ × RawValue)). FitsFront c.args.tokens.now (flat_map attribute_parts all) c.in-Some.more.now) (sym c.in_ok-push.ensures.ok)
    (one_more attribute_parts c.args.tokens.now c.loop-rest.attributes c.loop-rest.rest.now (c.in-Some.name, c.in-Some.value) c.in-Some.more.now
    c.loop-rest.invariant (rw c.in-Some.is at c.in_ok-name.ensures))

pub returns : goal.returns
returns c =
    front_whole c.args.tokens.now (flat_map attribute_parts c.loop-rest.attributes) c.loop-rest.rest.now c.loop-rest.invariant
    (no_tokens c.loop-rest.rest.now c.is_empty.result c.is_empty.ensures c.loop-rest-test.false)
