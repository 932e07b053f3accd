use Rattle.std.proofs.Common.{◌+◌, ◌-◌, ◌≤◌, ◌++◌, ◌∙◌, length, drop, sym, ap, subst, arith}
use Rattle.res_path.specs.Paths.{slashed}
use Rattle.res_path.specs.Parts.{parts_of, IsKept}
use Rattle.res_path.proofs.Built.{rebased, rebased_kept, names_append, all_drop}
use Rattle.res_path.proofs.Spelled.{parts_of-slashed}
use Rattle.res_path.proofs.path.Path.rebase.Goals as goal

pub of_kept-requires : goal.of_kept-requires
of_kept-requires c =
    let n = length c.args.from.now in
    let deep : length c.args.to.now + (length c.args.self.now - length c.args.from.now) ≤ 64 =
    omega (arith, c.depth.ensures.depth, c.depth-2.ensures.depth, c.depth-3.ensures.depth) in
    let short : length (slashed c.args.to.now) + length (slashed (drop (length c.args.from.now) c.args.self.now)) ≤ 4096 =
    omega (arith, ap length c.kept-front.ensures.bytes, ap length c.kept_after-rest.ensures.bytes) in
    subst IsKept (sym (rebased c.kept-front.result.now c.kept_after-rest.result.now c.in_ok-text.text c.args.to.now (drop (length c.args.from.now) c.args.self.now)
    c.kept-front.ensures.bytes c.kept_after-rest.ensures.bytes c.in_ok-text.ensures))
    (rebased_kept c.args.to.now c.args.self.now (length c.args.from.now) c.kept-front.ensures.form c.kept_after-rest.ensures.form deep short)

pub returns-clause-ok : goal.returns-clause-ok
returns-clause-ok c =
    let one = c.kept-front.ensures.form in
    let two = c.kept_after-rest.ensures.form in
    c.of_kept.ensures ∙ ap parts_of (rebased c.kept-front.result.now c.kept_after-rest.result.now c.in_ok-text.text c.args.to.now (drop (length c.args.from.now) c.args.self.now)
    c.kept-front.ensures.bytes c.kept_after-rest.ensures.bytes c.in_ok-text.ensures)
    ∙ parts_of-slashed (c.args.to.now ++ drop (length c.args.from.now) c.args.self.now)
    (names_append c.args.to.now (drop (length c.args.from.now) c.args.self.now) one.names (all_drop (length c.args.from.now) c.args.self.now two.names))
