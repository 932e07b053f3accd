use Rattle.std.proofs.Common.{◌∙◌, ap, map}
use Rattle.ws_content.specs.States.{shown_built, shown_kept}
use Rattle.ws_core.proofs.OpenedSound.{kept_so, opened_contents, shown_so}
use Rattle.ws_core.proofs.opening.content_of.Goals as goal

pub returns : goal.returns
returns c =
    let partners = c.of-partners.ensures ∙ c.into_vec.ensures in
    let built = ap (map shown_built) (c.as_slice.ensures.value ∙ c.in_ok-records.ensures) ∙ shown_so c.args.durable.built in
    let kept = ap (map shown_kept) (c.as_slice-2.ensures.value ∙ c.in_ok-states.ensures) ∙ kept_so c.args.durable.kept in
    c.in_ok-content.ensures ∙ opened_contents c.args.durable _ _ _ partners built kept
