use Rattle.std.proofs.Common.{◌≡◌, length, arith, ap, sym, ◌∙◌}
use Rattle.save_elem.specs.Telling.{saved}
use Rattle.save_elem.proofs.Each.{all_counted}
use Rattle.save_elem.proofs.writing.count_lasting.Goals as goal

pub loop-of-init : goal.loop-of-init
loop-of-init c =
    let is = c.into_iter-of-iterator.ensures.into_iter_gives ∙ c.iter-of-items.ensures in
    let all : length c.into_iter-of-iterator.result ≡ c.len-all.result = ap length is ∙ all_counted c.args.marks.now ∙ sym c.len-all.ensures in
    let some = ap (λ l. length (saved l)) is in
    (omega (arith, some), omega (arith, all, c.len-all.type_inv))
