use Rattle.std.proofs.Common.{◌≡◌, false, true, decimal, IsUtf8, sym, ◌∙◌, ap, subst}
use Rattle.script_parts.proofs.Numbers.{utf8_decimal, parsed_number, ok_same}
use Rattle.script_parts.proofs.parts.decimal_of.Goals as goal

pub returns-in_default : goal.returns-in_default
returns-in_default c = λ number h e. c.in_default.ensures.cases.0 (subst IsUtf8 (sym e) (utf8_decimal number h))

pub returns-in_default-parse : goal.returns-in_default-parse
returns-in_default-parse c = λ number h e.
    c.in_default-parse.not-Ok number (parsed_number c.in-Ok.text.now c.parse.result c.parse.ensures.value.0 number h (c.in-Ok.ensures.cases.0 ∙ e))

pub returns-else-is_decimal_of : goal.returns-else-is_decimal_of
returns-else-is_decimal_of c = λ number h e.
    let same : c.in-Ok-parse.number ≡ number = ok_same c.in-Ok-parse.number number
    (sym c.in-Ok-parse.is ∙ parsed_number c.in-Ok.text.now c.parse.result c.parse.ensures.value.0 number h (c.in-Ok.ensures.cases.0 ∙ e)) in
    let wrong : false ≡ true = sym c.if-is_decimal_of.false ∙ c.is_decimal_of.ensures.1 (e ∙ ap decimal (sym same)) in cc
