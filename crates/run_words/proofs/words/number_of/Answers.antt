use Rattle.std.proofs.Common.{◌≡◌, false, true, decimal, sym, ◌∙◌, ap, arith}
use Rattle.run_words.proofs.Numbered.{number_told, number_none, number_read, ok_same}
use Rattle.run_words.proofs.words.number_of.Goals as goal

pub returns-in_default : goal.returns-in_default
returns-in_default c = sym (number_none c.args.word.now (λ n small is. c.in_default.not-Ok n (number_read c.args.word.now c.parse.result n c.parse.ensures.value.0 small is)))

pub returns-then-is_number : goal.returns-then-is_number
returns-then-is_number c = let is = c.is_number.ensures.0 c.if-is_number.true in sym (number_told c.args.word.now c.in-Ok.number is.0 is.1)

pub returns-else-is_number : goal.returns-else-is_number
returns-else-is_number c = sym (number_none c.args.word.now (λ n small is.
    let same : c.in-Ok.number ≡ n = ok_same c.in-Ok.number n (sym c.in-Ok.is ∙ number_read c.args.word.now c.parse.result n c.parse.ensures.value.0 small is) in
    let wrong : false ≡ true = sym c.if-is_number.false ∙ c.is_number.ensures.1 (omega (arith, small, same), is ∙ ap decimal (sym same)) in cc))
