use Rattle.std.proofs.Common.{◌≡◌, ◌∷◌, [], ap, rules, sym, subst, ◌∙◌}
use Rattle.std.specs.Prelude.{IfSome, option_map}
use Rattle.std.specs.Str.{bytes_eq}
use Rattle.res_path.specs.Paths.{path_eq}
use Rattle.service_desk.proofs.Listed.{no_last, one_of}
use Rattle.service_desk.proofs.desk.is_of.Goals as goal

pub returns-in-None : goal.returns-in-None
returns-in-None c = sym (no_last c.args.path.now c.args.project.now (sym c.last.ensures ∙ ap (option_map (λ name. name.now)) c.in-None.is))

pub returns-in-Some : goal.returns-in-Some
returns-in-Some c =
    c.eq.ensures ∙ ap (bytes_eq c.in-Some.name.now) c.text.ensures.text
    ∙ subst (λ o. IfSome o (λ name. bytes_eq name c.args.project.now ≡ path_eq c.args.path.now (c.args.project.now ∷ []))) (sym c.last.ensures ∙ ap (option_map (λ name. name.now)) c.in-Some.is)
    (one_of c.args.path.now c.args.project.now (search (rules, c.depth.ensures.depth, c.if-depth-ne1.false)))
