use Rattle.std.proofs.Common.{◌≡◌, ◌∙◌, ap, arith, length}
use Rattle.std.specs.List.{count_by}
use Rattle.res_path.specs.Parts.{is_slash}
use Rattle.res_path.proofs.Built.{count-slashed, short_kept}
use Rattle.res_path.proofs.path.Path.depth.Goals as goal
use Rattle.res_path.proofs.path.Path.depth.Goals.{After-slash_count}

counted : (c : After-slash_count) → c.slash_count.result ≡ length c.args.self.now
counted c =
    let path = c.kept.ensures.form in
    c.slash_count.ensures ∙ ap (count_by is_slash) c.kept.ensures.bytes
    ∙ count-slashed c.args.self.now path.names path.deep (short_kept c.args.self.now path.long)

pub returns-clause-depth : goal.returns-clause-depth
returns-clause-depth c = counted c

pub returns-clause-deep : goal.returns-clause-deep
returns-clause-deep c = let path = c.kept.ensures.form in let deep = path.deep in omega (arith, counted c)
