use Rattle.std.proofs.Common.{◌≡◌, ◌<◌, ◌++◌, [], ◌∷◌, length, map, Some, sym, ap, ◌∙◌, arith, append-nil, append_assoc}
use Rattle.std.specs.Option.{option_copied}
use Rattle.res_path.specs.Paths.{parent_of}
use Rattle.delta_kind.specs.Inside.Passes.{is_above, new_above, untouched}
use Rattle.delta_kind.proofs.Above.{parent_shorter, parent_is, new_below, new_more, untouched_push}
use Rattle.delta_kind.proofs.making.+tell_above.Goals as goal

pub returns-then-is_below_parent : goal.returns-then-is_below_parent
returns-then-is_below_parent t c =
    let known = new_below (option_copied c.args.last) c.args.path.now (sym c.is_below_parent.ensures ∙ c.if-is_below_parent.true) in
    sym (ap (λ ps. c.args.nodes.now.items ++ map untouched ps) known ∙ append-nil c.args.nodes.now.items)

pub tell_above-requires : goal.tell_above-requires
tell_above-requires t c =
    let at : parent_of c.args.path.now ≡ Some c.in-Some.parent = sym c.in_ok-parent.ensures ∙ c.in-Some.is in
    let shorter : length c.in-Some.parent < length c.args.path.now = parent_shorter c.args.path.now c.in-Some.parent at in
    (omega (arith, c.decreases), tt)

pub returns : goal.returns
returns t c =
    let at : parent_of c.args.path.now ≡ Some c.in-Some.parent = sym c.in_ok-parent.ensures ∙ c.in-Some.is in
    let more = new_more (option_copied c.args.last) c.args.path.now c.in-Some.parent at
    (ap (λ p. is_above p (option_copied c.args.last)) (sym (parent_is c.args.path.now c.in-Some.parent at)) ∙ sym c.is_below_parent.ensures ∙ c.if-is_below_parent.false) in
    c.in_ok-push.ensures.items
    ∙ ap (λ node. c.tell_above.new.nodes.items ++ node ∷ []) c.untouched.ensures
    ∙ ap (λ nodes. nodes ++ untouched c.in-Some.parent ∷ []) c.in_ok-tell_above.ensures
    ∙ append_assoc c.args.nodes.now.items (map untouched (new_above (option_copied c.args.last) c.in-Some.parent)) (untouched c.in-Some.parent ∷ [])
    ∙ ap (λ nodes. c.args.nodes.now.items ++ nodes) (sym (ap (map untouched) more ∙ untouched_push (new_above (option_copied c.args.last) c.in-Some.parent) c.in-Some.parent))
