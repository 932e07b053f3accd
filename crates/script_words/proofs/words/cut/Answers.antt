use Rattle.std.proofs.Common.{[], ◌∷◌, ◌==◌, drop, length, sym, ◌∙◌, ap, arith}
use Rattle.std.proofs.lemmas.List.{length-take, length-drop, drop-drop}
use Rattle.std.specs.List.{slice_split, position}
use Rattle.res_path.proofs.Cuts.{cut_None, cut_Some}
use Rattle.script_words.proofs.words.cut.Goals as goal

pub returns-in-None-clause-parts : goal.returns-in-None-clause-parts
returns-in-None-clause-parts c =
    cut_None (λ b. b == c.args.mark) c.args.text.now
    (ap (position (λ b. b == c.args.mark)) (sym c.as_slice.ensures) ∙ sym c.place_of.ensures.place ∙ c.in-None.is)
    ∙ (λ i. sym c.replace.ensures.value i ∷ [])

pub returns-in_ok-front-in-Some-clause-parts : goal.returns-in_ok-front-in-Some-clause-parts
returns-in_ok-front-in-Some-clause-parts c =
    cut_Some (λ b. b == c.args.mark) c.args.text.now c.in-Some.at
    (ap (position (λ b. b == c.args.mark)) (sym c.as_slice.ensures) ∙ sym c.place_of.ensures.place ∙ c.in-Some.is)
    ∙ (λ i. sym c.in_ok-front-in-Some.ensures.front i ∷ slice_split (λ b. b == c.args.mark)
    ((sym (drop-drop 1 c.in-Some.at c.args.text.now) ∙ ap (drop 1) (sym c.in_ok-front-in-Some.ensures.rest) ∙ sym c.advance.ensures) i))

pub returns-in_ok-front-in-Some-clause-whole : goal.returns-in_ok-front-in-Some-clause-whole
returns-in_ok-front-in-Some-clause-whole c =
    let front = ap length c.in_ok-front-in-Some.ensures.front in
    let rest = ap length (c.advance.ensures ∙ ap (drop 1) c.in_ok-front-in-Some.ensures.rest) in
    let text = ap length c.as_slice.ensures in
    omega (arith, front, rest, text, c.in-Some.ensures.bound, length-take c.in-Some.at c.args.text.now, length-drop 1 (drop c.in-Some.at c.args.text.now), length-drop c.in-Some.at c.args.text.now)
