use Rattle.std.proofs.Common.{◌≡◌, ◌<◌, ◌+◌, ◌∙◌, sym, ap, subst, arith, length, drop, get_or, Some, ℕ, List}
use Rattle.std.proofs.lemmas.Str.{IsCharBoundary-after_ascii}
use Rattle.res_path.proofs.Built.{last_taken}
use Rattle.res_path.proofs.path.Path.last.Goals as goal

pub range_from-requires : goal.range_from-requires
range_from-requires c =
    let bytes = c.as_bytes.ensures.value in
    let slash : get_or c.as_str-text.result.now c.in-Some.at 0 ≡ 47 = ap (λ text. get_or text c.in-Some.at 0) (sym bytes) ∙ c.in-Some.ensures.slash in
    let within : c.in-Some.at < length c.as_str-text.result.now = subst (λ (text : List ℕ). c.in-Some.at < length text) bytes c.in-Some.ensures.bound in
    let boundary = IsCharBoundary-after_ascii c.as_str-text.result.now c.in-Some.at c.as_str-text.utf8 within (omega arith) in
    λ _. boundary

pub returns-in-Some : goal.returns-in-Some
returns-in-Some c =
    ap Some (c.range_from.ensures.value ∙ ap (drop (c.in-Some.at + 1)) (sym c.as_bytes.ensures.value))
    ∙ sym (last_taken c.args.self.now c.self.inside.text c.as_bytes.result.now c.in-Some.at c.self.invariant c.self.view_is
    (c.as_bytes.ensures.value ∙ c.as_str-text.ensures) c.in-Some.ensures.bound c.in-Some.ensures.slash c.in-Some.ensures.last)
