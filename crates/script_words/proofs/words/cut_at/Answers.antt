use Rattle.std.proofs.Common.{◌∷◌, ◌==◌, drop, sym, ◌∙◌, ap}
use Rattle.std.proofs.lemmas.List.{drop-drop}
use Rattle.std.specs.List.{slice_split}
use Rattle.res_path.proofs.Cuts.{cut_Some}
use Rattle.script_words.proofs.words.cut_at.Goals as goal

pub returns-clause-parts : goal.returns-clause-parts
returns-clause-parts c =
    cut_Some (λ b. b == 32) c.args.line.now c.args.at c.requires.place
    ∙ (λ i. sym c.in_ok-word.ensures.front i ∷ slice_split (λ b. b == 32)
    ((sym (drop-drop 1 c.args.at c.args.line.now) ∙ ap (drop 1) (sym c.in_ok-word.ensures.rest) ∙ sym c.advance.ensures) i))
