use Rattle.std.proofs.Common.{◌≡◌, ◌+◌, ◌<◌, ◌≤◌, ◌∷◌, [], ◌++◌, ◌∙◌, length, sym, ap, subst, arith}
use Rattle.res_path.specs.Paths.{slashed}
use Rattle.res_path.specs.Parts.{parts_of, IsKept}
use Rattle.res_path.proofs.Built.{pushed, pushed_kept, names_append}
use Rattle.res_path.proofs.Spelled.{parts_of-slashed}
use Rattle.res_path.proofs.path.Path.join.Goals as goal
use Rattle.res_path.proofs.path.Path.join.Goals.{In_ok-text, After-of_kept}

whole : (c : In_ok-text) → c.in_ok-text.text ≡ slashed (c.args.self.now ++ c.args.name.now ∷ [])
whole c =
    c.in_ok-text.ensures
    ∙ (λ i. (c.kept-kept.ensures.bytes i ++ 47 ∷ []) ++ (c.as_bytes.ensures.value ∙ c.text-2.ensures.text) i)
    ∙ sym (pushed c.args.self.now c.args.name.now)

pub of_kept-requires : goal.of_kept-requires
of_kept-requires c =
    let short : length (slashed c.args.self.now) + 1 + length c.args.name.now ≤ 4096 =
    omega (arith, ap length c.kept-kept.ensures.bytes, ap length c.text.ensures.text) in
    let deep : length c.args.self.now < 64 = omega arith in
    subst IsKept (sym (whole c)) (pushed_kept c.args.self.now c.args.name.now c.kept-kept.ensures.form c.text.ensures.form deep short)

pub returns-clause-ok : goal.returns-clause-ok
returns-clause-ok c =
    let path = c.kept-kept.ensures.form in
    c.of_kept.ensures
    ∙ ap parts_of (c.in_ok-text.ensures
    ∙ (λ i. (c.kept-kept.ensures.bytes i ++ 47 ∷ []) ++ (c.as_bytes.ensures.value ∙ c.text-2.ensures.text) i)
    ∙ sym (pushed c.args.self.now c.args.name.now))
    ∙ parts_of-slashed (c.args.self.now ++ c.args.name.now ∷ []) (names_append c.args.self.now (c.args.name.now ∷ []) path.names (c.text.ensures.form, tt))
