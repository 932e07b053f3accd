use Rattle.std.proofs.Common.{◌≡◌, false, true, sym, ◌∙◌, subst, arith}
use Rattle.std.proofs.lemmas.Fmt.{decimal_injective}
use Rattle.script_parts.specs.Parts.{IsNumber}
use Rattle.script_parts.proofs.parts.number_from.Goals as goal

pub returns-else-is_line_number : goal.returns-else-is_line_number
returns-else-is_line_number c = λ number h.
    let found = c.in_ok-number.ensures in
    let same : number ≡ c.in_ok-number.number = decimal_injective number c.in_ok-number.number (omega (arith, h.0.fits)) found.0.fits (sym h.2 ∙ found.2) in
    let wrong : false ≡ true = sym c.if-is_line_number.false ∙ c.is_line_number.ensures.1 (subst (IsNumber 32 c.args.least) same h.0) in cc
