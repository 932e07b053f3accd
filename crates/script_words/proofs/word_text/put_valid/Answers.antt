use Rattle.std.proofs.Common.{◌++◌, take, get_or, ap, sym, ◌∙◌}
use Rattle.std.specs.List.{flat_map}
use Rattle.std.proofs.lemmas.List.{flat_map_more, take_more, take_all}
use Rattle.script_words.specs.Words.{byte_text}
use Rattle.script_words.proofs.Grown.{grows_on}
use Rattle.script_words.proofs.word_text.put_valid.Goals as goal

pub loop-b-preserved : goal.loop-b-preserved
loop-b-preserved c =
    let before = take c.loop-b.b-index c.args.text.now in
    let b = get_or c.args.text.now c.loop-b.b-index 0 in record {
      text =
          c.in_ok-put_byte.ensures.text
          ∙ ap (λ out. out ++ byte_text b) c.loop-b.invariant.text
          ∙ flat_map_more byte_text c.args.out.now.items before b
          ∙ ap (λ bytes. c.args.out.now.items ++ flat_map byte_text bytes) (sym (take_more c.args.text.now c.loop-b.b-index 0 c.loop-b-test.true));
      kept = grows_on c.args.out.now.items c.loop-b.out.items c.put_byte.new.out.items c.loop-b.invariant.kept c.put_byte.ensures.kept;
    }

pub returns : goal.returns
returns c = record {
  text = c.loop-b.invariant.text ∙ ap (λ bytes. c.args.out.now.items ++ flat_map byte_text bytes) (take_all c.loop-b.b-index c.args.text.now c.loop-b-test.false);
  kept = c.loop-b.invariant.kept;
}
