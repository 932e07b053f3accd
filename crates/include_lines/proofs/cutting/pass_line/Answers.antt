use Rattle.std.proofs.Common.{◌≡◌, ◌+◌, ◌++◌, Some, length, drop, ap, sym, ◌∙◌, arith, length-append, length-drop}
use Rattle.std.specs.List.{flat_map}
use Rattle.include_lines.specs.Lines.{lines_of}
use Rattle.include_lines.specs.Cutting.{part_bytes, part_missing}
use Rattle.include_lines.proofs.Passing.{cut_more, plain_whole, plain_told, included_whole, included_told}
use Rattle.include_lines.proofs.cutting.pass_line.Goals as goal

pub returns-in_default-clause-whole : goal.returns-in_default-clause-whole
returns-in_default-clause-whole c = λ files.
    let left = c.args.left.now in
    let cut : drop c.args.plain left ≡ c.split_at.result.1.now = sym (c.split_at.ensures.back ∙ ap (drop c.args.plain) c.as_slice.ensures) in
    plain_whole (flat_map (part_bytes files) c.args.parts.now.items) left c.first_line.result.0.now c.first_line.result.1.now c.args.plain (omega (arith, c.requires)) (cut ∙ c.first_line.ensures.whole)
    (ap lines_of cut ∙ c.first_line.ensures.lines) (sym c.in_default.ensures) files

pub returns-in_default-clause-told : goal.returns-in_default-clause-told
returns-in_default-clause-told c = λ files.
    let left = c.args.left.now in
    let cut : drop c.args.plain left ≡ c.split_at.result.1.now = sym (c.split_at.ensures.back ∙ ap (drop c.args.plain) c.as_slice.ensures) in
    ap (λ xs. flat_map (part_missing files) c.args.parts.now.items ++ xs)
    (plain_told left c.first_line.result.0.now c.first_line.result.1.now c.args.plain c.args.number (omega (arith, c.requires)) (cut ∙ c.first_line.ensures.whole) (ap lines_of cut ∙ c.first_line.ensures.lines) (sym c.in_default.ensures) files)

pub returns-in_default-clause-bound : goal.returns-in_default-clause-bound
returns-in_default-clause-bound c =
    let tail : drop c.args.plain c.args.left.now ≡ c.first_line.result.0.now ++ c.first_line.result.1.now = sym (c.split_at.ensures.back ∙ ap (drop c.args.plain) c.as_slice.ensures) ∙ c.first_line.ensures.whole in
    let size : length (drop c.args.plain c.args.left.now) ≡ length c.first_line.result.0.now + length c.first_line.result.1.now = ap length tail ∙ length-append c.first_line.result.0.now c.first_line.result.1.now in
    omega (arith, size, c.requires, length-drop c.args.plain c.args.left.now)

pub returns-in_default-clause-shorter : goal.returns-in_default-clause-shorter
returns-in_default-clause-shorter c =
    let cut : drop c.args.plain c.args.left.now ≡ c.split_at.result.1.now = sym (c.split_at.ensures.back ∙ ap (drop c.args.plain) c.as_slice.ensures) in
    let others = (cut_more c.args.left.now c.first_line.result.0.now c.first_line.result.1.now c.args.plain (omega (arith, c.requires)) (cut ∙ c.first_line.ensures.whole)).1 in
    let now = ap length others in
    let before = ap length cut in
    omega (arith, now, before, c.first_line.ensures.shorter)

pub advance-requires : goal.advance-requires
advance-requires c =
    let tail : drop c.args.plain c.args.left.now ≡ c.first_line.result.0.now ++ c.first_line.result.1.now = sym (c.split_at.ensures.back ∙ ap (drop c.args.plain) c.as_slice.ensures) ∙ c.first_line.ensures.whole in
    let size : length c.split_to.new.self ≡ length c.first_line.result.0.now + length c.first_line.result.1.now = ap length (c.in_ok-text.ensures.rest ∙ tail) ∙ length-append c.first_line.result.0.now c.first_line.result.1.now in
    omega (arith, size)

pub returns-clause-whole : goal.returns-clause-whole
returns-clause-whole c =
    let left = c.args.left.now in
    let cut : drop c.args.plain left ≡ c.split_at.result.1.now = sym (c.split_at.ensures.back ∙ ap (drop c.args.plain) c.as_slice.ensures) in
    included_whole c.args.parts.now.items c.push_text.new.parts.items c.push.new.self.items left c.split_to.new.self c.advance.new.self c.first_line.result.0.now c.first_line.result.1.now c.in_ok-name.name c.args.plain c.args.number
    (cut ∙ c.first_line.ensures.whole) (ap lines_of cut ∙ c.first_line.ensures.lines) (sym c.in-Some.ensures ∙ ap Some (sym c.in_ok-name.ensures))
    (λ files. c.in_ok-push_text.ensures.whole files ∙ ap (λ xs. flat_map (part_bytes files) c.args.parts.now.items ++ xs) c.in_ok-text.ensures.front) c.in_ok-push.ensures.items c.in_ok-text.ensures.rest c.advance.ensures

pub returns-clause-told : goal.returns-clause-told
returns-clause-told c =
    let left = c.args.left.now in
    let cut : drop c.args.plain left ≡ c.split_at.result.1.now = sym (c.split_at.ensures.back ∙ ap (drop c.args.plain) c.as_slice.ensures) in
    included_told c.args.parts.now.items c.push_text.new.parts.items c.push.new.self.items left c.split_to.new.self c.advance.new.self c.first_line.result.0.now c.first_line.result.1.now c.in_ok-name.name c.args.plain c.args.number
    (cut ∙ c.first_line.ensures.whole) (ap lines_of cut ∙ c.first_line.ensures.lines) (sym c.in-Some.ensures ∙ ap Some (sym c.in_ok-name.ensures)) c.in_ok-push_text.ensures.told c.in_ok-push.ensures.items c.in_ok-text.ensures.rest
    c.advance.ensures
