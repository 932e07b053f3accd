use Rattle.std.proofs.Common.{[], ◌∷◌, ◌==◌, sym, ◌∙◌, ap}
use Rattle.std.specs.List.{position}
use Rattle.res_path.proofs.Cuts.{cut_None}
use Rattle.script_words.proofs.words.cut_word.Goals as goal

pub returns-in-None-clause-parts : goal.returns-in-None-clause-parts
returns-in-None-clause-parts c =
    cut_None (λ b. b == 32) c.args.line.now
    (ap (position (λ b. b == 32)) (sym c.as_slice.ensures) ∙ sym c.place_of.ensures.place ∙ c.in-None.is)
    ∙ (λ i. sym c.replace-word.ensures.value i ∷ [])
