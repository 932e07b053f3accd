use Rattle.std.proofs.Common.{◌∙◌, ℕ, ap, drop}
use Rattle.std.proofs.lemmas.List.{take_rest}
use Rattle.ws_outside.proofs.Fronts.{front_from}
use Rattle.ws_outside.proofs.buffers.fill_from.Goals as goal

pub returns-clause-bytes : goal.returns-clause-bytes
returns-clause-bytes c =
    let bytes = c.args.bytes.now in
    c.fill.ensures.front
    ∙ front_from bytes _ c.args.at _ c.fill.result (take_rest bytes c.min-start.result ∙ ap (λ (k : ℕ). drop k bytes) c.min-start.ensures) c.fill.ensures.count
