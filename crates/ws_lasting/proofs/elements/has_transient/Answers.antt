use Rattle.std.proofs.Common.{sym, ap, ◌∙◌}
use Rattle.std.specs.Prelude.{unwrap_or}
use Rattle.std.specs.Option.{option_copied}
use Rattle.ws_elem.specs.Attached.{nothing_attached}
use Rattle.ws_elem.specs.declared.attached.Attachments.{Attachments}
use Rattle.ws_lasting.specs.Inside.{some_transient}
use Rattle.ws_lasting.proofs.Lasts.{none_transient}
use Rattle.ws_lasting.proofs.elements.has_transient.Goals as goal

pub returns-in-None : goal.returns-in-None
returns-in-None c =
    let nothing = sym c.kept.ensures ∙ ap (λ o. unwrap_or (option_copied o) nothing_attached) c.in-None.is in
    sym (ap (λ (a : Attachments). some_transient a.marks) nothing ∙ none_transient)
