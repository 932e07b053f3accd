use Rattle.std.proofs.Common.{◌∙◌, sym, ◌+◌, drop, []}
use Rattle.res_path.specs.Parts.{is_slash}
use Rattle.res_path.proofs.Cuts.{cut_None, cut_Some}
use Rattle.proj_desc.specs.Described.{names}
use Rattle.proj_desc.proofs.rules.first_part.Goals as goal

pub returns-in-None : goal.returns-in-None
returns-in-None c = ([], cut_None is_slash c.args.bytes.now (sym c.slash_at.ensures.place ∙ c.in-None.is))

pub returns-in-Some : goal.returns-in-Some
returns-in-Some c =
    (names (drop (c.in-Some.at + 1) c.args.bytes.now), cut_Some is_slash c.args.bytes.now c.in-Some.at (sym c.slash_at.ensures.place ∙ c.in-Some.is))
