use Rattle.std.proofs.Common.{◌++◌, sym, ◌∙◌, ap, append_assoc}
use Rattle.std.specs.List.{flat_map}
use Rattle.script_words.specs.Words.{byte_text, hex_text, quoted_text}
use Rattle.script_words.proofs.Grown.{grows_on}
use Rattle.script_words.proofs.Quoting.{put_last, put_more}
use Rattle.script_words.proofs.word_text.put_quoted.Goals as goal

pub returns-in_default-clause-text : goal.returns-in_default-clause-text
returns-in_default-clause-text c =
    c.in_ok-put_valid.ensures.text
    ∙ ap (λ text. c.loop-invalid.out.items ++ text) (sym (put_last c.loop-invalid.rest.now c.split_at.result.0.now c.split_at.result.1.now c.valid_len.result c.valid_len.ensures.value
    c.split_at.ensures.front c.split_at.ensures.back c.in_default.ensures.cases))
    ∙ c.loop-invalid.invariant.text

pub loop-invalid-preserved : goal.loop-invalid-preserved
loop-invalid-preserved c =
    let valid = flat_map byte_text c.split_at.result.0.now in
    let invalid = hex_text c.in-Some.invalid.now in
    let rest = quoted_text c.in-Some.more.now in record {
      text =
          ap (λ out. out ++ rest) (c.in_ok-put_hex.ensures.text ∙ ap (λ out. out ++ invalid) c.in_ok-put_valid.ensures.text)
          ∙ append_assoc (c.loop-invalid.out.items ++ valid) invalid rest
          ∙ append_assoc c.loop-invalid.out.items valid (invalid ++ rest)
          ∙ ap (λ text. c.loop-invalid.out.items ++ text) (sym (put_more c.loop-invalid.rest.now c.split_at.result.0.now c.split_at.result.1.now c.in-Some.more.now c.valid_len.result c.in-Some.invalid.now
          c.valid_len.ensures.value c.split_at.ensures.front c.split_at.ensures.back c.in-Some.ensures.cases.0))
          ∙ c.loop-invalid.invariant.text;
      kept = grows_on c.args.out.now.items c.put_valid.new.out.items c.put_hex.new.out.items
          (grows_on c.args.out.now.items c.loop-invalid.out.items c.put_valid.new.out.items c.loop-invalid.invariant.kept c.put_valid.ensures.kept) c.put_hex.ensures.kept;
    }
