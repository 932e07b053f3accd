use Rattle.std.proofs.Common.{◌≡◌, ◌+◌, ◌-◌, ◌∙◌, ap, drop, length, Some, None, arith}
use Rattle.std.specs.Prelude.{position}
use Rattle.std.proofs.lemmas.List.{take_all, length-drop}
use Rattle.res_path.specs.Paths.{overlap}
use Rattle.proj_desc.proofs.Pairs.{outputs_found, outputs_passed}
use Rattle.proj_desc.proofs.rules.first_outputs.Goals as goal

pub returns-in-Some : goal.returns-in-Some
returns-in-Some c =
    let left = take_all (length c.args.commands.now - (c.loop-i.i + 1)) (drop (c.loop-i.i + 1) c.args.commands.now) (omega (arith, length-drop (c.loop-i.i + 1) c.args.commands.now)) in
    let place : Some c.in-Some.j ≡ position (λ d. overlap c.index-commands-i.result.output d.output) (drop (c.loop-i.i + 1) c.args.commands.now) = c.in-Some.ensures.place ∙ ap (position (λ d. overlap c.index-commands-i.result.output d.output)) left in
    outputs_found c.args.commands.now c.loop-i.i c.in-Some.j c.index-commands-i.result c.loop-i-test.true c.index-commands-i.is place ∙ c.loop-i.invariant

pub loop-i-preserved : goal.loop-i-preserved
loop-i-preserved c =
    let left = take_all (length c.args.commands.now - (c.loop-i.i + 1)) (drop (c.loop-i.i + 1) c.args.commands.now) (omega (arith, length-drop (c.loop-i.i + 1) c.args.commands.now)) in
    let none : None ≡ position (λ d. overlap c.index-commands-i.result.output d.output) (drop (c.loop-i.i + 1) c.args.commands.now) = c.in_default.ensures.place ∙ ap (position (λ d. overlap c.index-commands-i.result.output d.output)) left in
    outputs_passed c.args.commands.now c.loop-i.i c.index-commands-i.result c.loop-i-test.true c.index-commands-i.is none ∙ c.loop-i.invariant
