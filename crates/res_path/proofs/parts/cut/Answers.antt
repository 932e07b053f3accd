use Rattle.std.proofs.Common.{◌∙◌, sym, ap, arith, ◌∷◌, take, drop, ◌+◌}
use Rattle.std.specs.List.{slice_split}
use Rattle.std.proofs.lemmas.List.{take_all, length-drop}
use Rattle.res_path.specs.Parts.{is_slash}
use Rattle.res_path.proofs.Cuts.{cut_None, cut_Some}
use Rattle.res_path.proofs.parts.cut.Goals as goal

pub returns-in-None-clause-parts : goal.returns-in-None-clause-parts
returns-in-None-clause-parts c = cut_None is_slash c.args.bytes.now (sym c.slash_at.ensures.place ∙ c.in-None.is)

pub returns-in-Some-clause-parts : goal.returns-in-Some-clause-parts
returns-in-Some-clause-parts c =
    cut_Some is_slash c.args.bytes.now c.in-Some.at (sym c.slash_at.ensures.place ∙ c.in-Some.is)
    ∙ ap (λ rest. take c.in-Some.at c.args.bytes.now ∷ slice_split is_slash rest) (sym (take_all _ (drop (c.in-Some.at + 1) c.args.bytes.now) (omega (arith, length-drop (c.in-Some.at + 1) c.args.bytes.now))))
