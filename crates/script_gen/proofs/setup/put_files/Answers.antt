use Rattle.std.proofs.Common.{◌∙◌, sym, ap, ◌++◌, ◌∷◌, [], arith}
use Rattle.std.proofs.lemmas.List.{append-nil}
use Rattle.script_gen.specs.Draws.{next}
use Rattle.script_gen.specs.Generated.{create_file}
use Rattle.script_gen.proofs.Made.{behind_none, behind_more, one_more}
use Rattle.script_gen.proofs.Parts.{file_made, all_files}
use Rattle.script_gen.proofs.setup.put_files.Goals as goal

pub loop-file-init : goal.loop-file-init
loop-file-init c = (sym (append-nil c.args.commands.now), sym (behind_none c.args.draws.now))

pub loop-file-preserved : goal.loop-file-preserved
loop-file-preserved c =
    let s = c.args.draws.now in
    let n = c.loop-file.file in
    let is = c.loop-file.invariant in
    let made = file_made s c.args.project n _ _ _ _ (search (c.in_ok-path.ensures, c.in_ok-source.ensures)) c.in_ok-bytes.ensures c.draw.ensures.value is.1 in (
      c.in_ok-put.ensures ∙ ap (λ x. c.loop-file.commands ++ x ∷ []) made ∙ one_more (create_file s c.args.project) n c.args.commands.now c.loop-file.commands is.0,
      c.draw.ensures.state ∙ ap next is.1 ∙ sym (behind_more s n),
    )

pub returns-clause-commands : goal.returns-clause-commands
returns-clause-commands c =
    all_files c.args.draws.now c.args.project c.loop-file.file c.args.commands.now c.loop-file.commands (omega (arith, c.loop-file-test.false, c.loop-file.auto.file-end)) c.loop-file.invariant.0
