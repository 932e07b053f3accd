use Rattle.std.proofs.Common.{◌∷◌, refl, sym, ◌∙◌, ap, take}
use Rattle.std.specs.List.{slice_split, position}
use Rattle.res_path.proofs.Cuts.{cut_None, cut_Some}
use Rattle.script_words.specs.Lines.{is_line_feed, lines_of}
use Rattle.script_words.proofs.Lined.{first_line, last_line}
use Rattle.script_words.proofs.reader.pass_line.Goals as goal

pub returns-in-None-clause-line : goal.returns-in-None-clause-line
returns-in-None-clause-line c = record {
  line = c.args.text.now;
  lines_are =
      last_line c.args.text.now c.args.text.now (cut_None is_line_feed c.args.text.now (ap (position is_line_feed) (sym c.as_slice.ensures) ∙ sym c.place_of.ensures.place ∙ c.in-None.is)) refl c.requires
      ∙ ap (λ left. c.args.text.now ∷ lines_of left) (sym c.clear.ensures);
}

pub returns-in-Some-clause-line : goal.returns-in-Some-clause-line
returns-in-Some-clause-line c = record {
  line = take c.in-Some.at c.args.text.now;
  lines_are =
      first_line c.args.text.now (take c.in-Some.at c.args.text.now) c.advance.new.self
      (cut_Some is_line_feed c.args.text.now c.in-Some.at (ap (position is_line_feed) (sym c.as_slice.ensures) ∙ sym c.place_of.ensures.place ∙ c.in-Some.is)
      ∙ ap (λ left. take c.in-Some.at c.args.text.now ∷ slice_split is_line_feed left) (sym c.advance.ensures));
}
