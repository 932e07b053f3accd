use Rattle.std.proofs.Common.{◌≡◌, false, true, IsUtf8, FitsSigned, sym, ◌∙◌, ap, subst}
use Rattle.std.specs.Fmt.{signed_decimal}
use Rattle.std.specs.Int.{w32}
use Rattle.std.proofs.Math.Facts.{to_z-of_z}
use Rattle.script_parts.proofs.Numbers.{utf8_signed, parsed_integer, ok_same}
use Rattle.script_parts.proofs.parts.signed_of.Goals as goal

pub returns-in_default : goal.returns-in_default
returns-in_default c = λ integer f e. c.in_default.ensures.cases.0 (subst IsUtf8 (sym e) (utf8_signed integer f))

pub returns-in_default-parse : goal.returns-in_default-parse
returns-in_default-parse c = λ integer f e.
    c.in_default-parse.not-Ok integer (parsed_integer c.in-Ok.text.now c.parse.result c.parse.ensures.value.0 integer f (c.in-Ok.ensures.cases.0 ∙ e))

pub returns-else-is_signed_of : goal.returns-else-is_signed_of
returns-else-is_signed_of c = λ integer f e.
    let same : c.in-Ok-parse.integer ≡ integer = ok_same c.in-Ok-parse.integer integer
    (sym c.in-Ok-parse.is ∙ parsed_integer c.in-Ok.text.now c.parse.result c.parse.ensures.value.0 integer f (c.in-Ok.ensures.cases.0 ∙ e)) in
    let kept = to_z-of_z (subst (FitsSigned w32) (sym same) f) in
    let wrong : false ≡ true = sym c.if-is_signed_of.false ∙ c.is_signed_of.ensures.1 (e ∙ ap signed_decimal (sym same ∙ sym kept)) in cc
