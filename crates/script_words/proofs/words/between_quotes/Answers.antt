use Rattle.std.proofs.Common.{◌≡◌, ◌<◌, ◌∷◌, ◌++◌, length, take, drop, get_or, Some, false, sym, ◌∙◌, ap, arith}
use Rattle.std.proofs.lemmas.List.{length-take-le}
use Rattle.script_words.specs.Inside.Quoted.{quote_from}
use Rattle.script_words.proofs.Tokens.{between}
use Rattle.script_words.proofs.words.between_quotes.Goals as goal

pub returns : goal.returns
returns c =
    let bytes = c.as_slice.ensures ∙ c.advance.ensures in
    let bound : c.in-Some.at < length (drop 1 c.args.line) = omega (arith, ap length bytes, c.in-Some.ensures.bound) in
    let inner = c.in_ok-inner.ensures.front ∙ ap (take c.in-Some.at) c.advance.ensures in
    let size : length c.in_ok-inner.inner ≡ c.in-Some.at = ap length inner ∙ length-take-le c.in-Some.at (drop 1 c.args.line) (omega arith) in
    let rest = c.advance-2.ensures ∙ ap (drop 1) (c.in_ok-inner.ensures.rest ∙ ap (drop c.in-Some.at) c.advance.ensures) in (
      ap (quote_from false 0) (sym bytes) ∙ sym c.in-Some.ensures.place ∙ ap (λ at. Some at) (sym size),
      between c.args.line c.in-Some.at c.requires bound (ap (λ l. get_or l c.in-Some.at 0) (sym bytes) ∙ c.in-Some.ensures.quote)
          ∙ (λ i. 34 ∷ (sym inner i ++ 34 ∷ sym rest i)),
    )
