use Rattle.std.proofs.Common.{◌≡◌, ◌-◌, ◌∙◌, drop, length, Some, None, arith}
use Rattle.std.specs.Prelude.{position}
use Rattle.std.specs.List.{list_any}
use Rattle.std.proofs.lemmas.List.{take_all, length-drop}
use Rattle.proj_desc.specs.Causes.{meets}
use Rattle.proj_desc.proofs.Pairs.{inputs_found, inputs_passed}
use Rattle.proj_desc.proofs.rules.first_inputs.Goals as goal

pub returns-in-Some : goal.returns-in-Some
returns-in-Some c =
    let left = take_all (length c.args.commands.now - (c.loop-i.i)) (drop (c.loop-i.i) c.args.commands.now) (omega (arith, length-drop (c.loop-i.i) c.args.commands.now)) in
    let place : Some c.in-Some.j ≡ position (λ d. list_any (meets d.output) c.index-commands-i.result.inputs) (drop (c.loop-i.i) c.args.commands.now) = c.in-Some.ensures.place ∙ (λ k. position (λ d. list_any (meets d.output) (c.as_slice.ensures k)) (left k)) in
    inputs_found c.args.commands.now c.loop-i.i c.in-Some.j c.index-commands-i.result c.loop-i-test.true c.index-commands-i.is place ∙ c.loop-i.invariant

pub loop-i-preserved : goal.loop-i-preserved
loop-i-preserved c =
    let left = take_all (length c.args.commands.now - (c.loop-i.i)) (drop (c.loop-i.i) c.args.commands.now) (omega (arith, length-drop (c.loop-i.i) c.args.commands.now)) in
    let none : None ≡ position (λ d. list_any (meets d.output) c.index-commands-i.result.inputs) (drop (c.loop-i.i) c.args.commands.now) = c.in_default.ensures.place ∙ (λ k. position (λ d. list_any (meets d.output) (c.as_slice.ensures k)) (left k)) in
    inputs_passed c.args.commands.now c.loop-i.i c.index-commands-i.result c.loop-i-test.true c.index-commands-i.is none ∙ c.loop-i.invariant
