use Rattle.std.proofs.Common.{◌∙◌, ap, sym}
use Rattle.std.proofs.Common.{rules}
use Rattle.proj_desc.specs.Canonical.{described}
use Rattle.ws_content.proofs.Calls.{counted}
use Rattle.ws_content.proofs.forgetting.beyond.Goals as goal

pub returns-in-Ok : goal.returns-in-Ok
returns-in-Ok c e =
    counted c.args.path.now c.args.text.now c.in_ok-project.project c.in-Ok-try_from.index c.in-Ok.desc (search (rules, c.depth.ensures.depth, c.if-depth-ne1.false)) c.in_ok-project.ensures (ap described (sym c.as_slice.ensures) ∙ c.in-Ok.ensures.ok)
    (search (rules, c.in-Ok-try_from.ensures, c.as_slice-in-Ok.ensures))
