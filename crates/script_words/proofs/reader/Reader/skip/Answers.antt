use Rattle.std.proofs.Common.{◌≡◌, true, length, sym, ◌∙◌, ap, arith}
use Rattle.script_words.specs.Inside.Passing.{starts_skipped}
use Rattle.script_words.proofs.Lined.{skips_more, next_skipped}
use Rattle.script_words.proofs.reader.Reader.skip.Goals as goal

pub loop-self-preserved : goal.loop-self-preserved
loop-self-preserved c =
    let skipped : starts_skipped c.loop-self.self.rest ≡ true = ap starts_skipped (sym c.as_slice.ensures) ∙ sym c.starts_skipped.ensures ∙ c.loop-self-test.true in
    let line = c.pass_line.ensures.line in
    let lines = ap length line.lines_are in record {
      fits = omega (arith, c.loop-self.invariant.fits, c.pass_line.ensures.shorter);
      rest = skips_more c.args.self.now.rest c.loop-self.self.rest c.pass_line.new.text c.loop-self.invariant.rest skipped line;
      count = record {
        later = omega (arith, c.loop-self.invariant.count.later);
        same = omega (arith, lines, c.loop-self.invariant.count.same);
      };
      next = next_skipped c.loop-self.self.number c.loop-self.self.rest c.pass_line.new.text skipped line ∙ c.loop-self.invariant.next;
    }
