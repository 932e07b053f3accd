use Rattle.std.proofs.Common.{true, sym, ◌∙◌}
use Rattle.script_words.proofs.Tokens.{bare_found, bare_unfound}
use Rattle.script_words.proofs.words.take_bare.Goals as goal

pub returns-then-not-bare : goal.returns-then-not-bare
returns-then-not-bare c =
    bare_unfound c.args.line.now c.in_ok-word.field-0.word c.cut_word.new.line c.in_ok-word.field-0.goes_on c.in_ok-word.ensures.parts c.requires
    (sym c.in_ok-word.ensures.bare ∙ c.if-not-bare.true)

pub returns : goal.returns
returns c = record {
  token = record { bare = true; word = c.in_ok-word.field-0.word };
  all_are = c.in_ok-push.ensures.items;
  starts =
      bare_found c.args.line.now c.in_ok-word.field-0.word c.cut_word.new.line c.in_ok-word.field-0.goes_on c.in_ok-word.ensures.parts
      (sym c.in_ok-word.ensures.bare ∙ c.if-not-bare.false);
}
