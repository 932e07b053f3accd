use Rattle.std.proofs.Common.{◌≡◌, sym, ◌∙◌}
use Rattle.std.proofs.lemmas.Result.{IfOk-weaker}
use Rattle.ws_lasting.specs.Lasting.{lasting_element}
use Rattle.ws_lasting.proofs.Lasts.{lasts}
use Rattle.ws_lasting.proofs.elements.lasting_element.Goals as goal

pub returns : goal.returns
returns c =
    IfOk-weaker c.copy.result
    (λ e. e ≡ c.args.element.now)
    (λ e. e ≡ lasting_element c.args.element.now)
    (λ e h. h ∙ sym (lasts c.args.element.now (sym c.has_transient.ensures ∙ c.if-has_transient.false)))
    c.copy.ensures
