use Rattle.std.proofs.Common.{◌∙◌, sym, ap, ◌++◌, ◌∷◌, [], arith}
use Rattle.std.proofs.lemmas.List.{append-nil}
use Rattle.script_gen.specs.Generated.{write_file}
use Rattle.script_gen.proofs.Made.{behind_none, behind_two, one_more}
use Rattle.script_gen.proofs.Parts.{file_written, all_edits}
use Rattle.script_gen.proofs.edits.put_edits.Goals as goal

pub loop-init : goal.loop-init
loop-init c = (sym (append-nil c.args.commands.now), sym (behind_none c.args.draws.now))

pub loop-preserved : goal.loop-preserved
loop-preserved c =
    let s = c.args.draws.now in
    let n = c.loop.counter in
    let is = c.loop.invariant in
    let made = file_written s c.args.project n _ _ _ _ _ _ (search (c.in_ok-path.ensures, c.in_ok-source.ensures)) c.draw.ensures.value is.1 c.draw.ensures.state c.in_ok-bytes.ensures c.draw-in-loop.ensures.value in (
      c.in_ok-put.ensures ∙ ap (λ x. c.loop.commands ++ x ∷ []) made ∙ one_more (write_file s c.args.project) n c.args.commands.now c.loop.commands is.0,
      behind_two s n c.loop.draws c.draw.new.self c.draw-in-loop.new.self is.1 c.draw.ensures.state c.draw-in-loop.ensures.state,
    )

pub returns-clause-commands : goal.returns-clause-commands
returns-clause-commands c =
    all_edits c.args.draws.now c.args.project c.loop.counter c.args.commands.now c.loop.commands (omega (arith, c.loop-test.false, c.loop.auto.counter-end)) c.loop.invariant.0
