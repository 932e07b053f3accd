use Rattle.std.proofs.Common.{◌++◌, ◌∷◌, [], ap, sym, ◌∙◌, append_assoc, arith}
use Rattle.std.specs.Prelude.{string_bytes}
use Rattle.include_lines.specs.Messages.{readable}
use Rattle.include_lines.proofs.Shown.{front_then_more, front_then_none}
use Rattle.include_lines.proofs.message.push_front.Goals as goal

pub returns-in_ok-push-in-Some-clause-added : goal.returns-in_ok-push-in-Some-clause-added
returns-in_ok-push-in-Some-clause-added c =
    let shown = front_then_more c.args.bytes.now c.text_front-front.result.now c.split_at.result.1.now c.in-Some.after.now c.in-Some.field-0-0.now c.text_front-front.ensures c.split_at.ensures.back c.in-Some.ensures.cases.0 in
    ap (λ xs. xs ++ readable c.in-Some.after.now) (c.in_ok-push-in-Some.ensures.bytes ∙ ap (λ xs. string_bytes c.push_str.new.self ++ xs) (c.in_ok-push-in-Some.ensures.ascii (omega arith)) ∙ ap (λ xs. xs ++ 63 ∷ []) c.in_ok-push_str.ensures.bytes)
    ∙ append_assoc (string_bytes c.args.text.now ++ c.text_front-front.result.now) (63 ∷ []) (readable c.in-Some.after.now)
    ∙ append_assoc (string_bytes c.args.text.now) c.text_front-front.result.now (63 ∷ readable c.in-Some.after.now)
    ∙ ap (λ xs. string_bytes c.args.text.now ++ xs) (sym shown)

pub returns-in-None-clause-added : goal.returns-in-None-clause-added
returns-in-None-clause-added c =
    c.in_ok-push_str.ensures.bytes
    ∙ ap (λ xs. string_bytes c.args.text.now ++ xs)
    (sym (front_then_none c.args.bytes.now c.text_front-front.result.now c.split_at.result.1.now c.text_front-front.ensures c.split_at.ensures.back c.in-None.ensures.cases))
