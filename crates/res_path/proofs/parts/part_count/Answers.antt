use Rattle.std.proofs.Common.{◌+◌, ◌-◌, drop, length, sym, ◌∙◌, ap, arith}
use Rattle.std.specs.List.{count_by}
use Rattle.std.proofs.lemmas.List.{take_all, length-drop}
use Rattle.res_path.specs.Parts.{is_slash}
use Rattle.res_path.proofs.Cuts.{counted}
use Rattle.res_path.proofs.parts.part_count.Goals as goal

pub returns : goal.returns
returns c =
    ap (λ n. n + 1) (c.slash_count.ensures ∙ ap (count_by is_slash) (take_all (length c.args.text.now - 1) (drop 1 c.args.text.now) (omega (arith, length-drop 1 c.args.text.now))))
    ∙ sym (counted c.args.text.now c.if-text-lt2.false)
