use Rattle.std.proofs.Common.{◌∙◌, sym, ap, Some}
use Rattle.std.specs.List.{slice_range}
use Rattle.res_path.proofs.Built.{parent_taken}
use Rattle.res_path.proofs.path.Path.parent.Goals as goal

pub of_kept-requires : goal.of_kept-requires
of_kept-requires c =
    (parent_taken c.args.self.now c.self.inside.text c.as_slice.result.now c.in_ok-front.front c.in-Some.at c.self.invariant c.self.view_is
    (c.as_slice.ensures ∙ c.as_bytes-text.ensures.value) c.in-Some.ensures.bound c.in-Some.ensures.slash c.in-Some.ensures.last
    (c.in_ok-front.ensures.ok ∙ ap (λ bytes. slice_range bytes 0 c.in-Some.at) (sym c.as_slice.ensures))).0

pub returns : goal.returns
returns c =
    ap Some c.of_kept.ensures ∙ sym (parent_taken c.args.self.now c.self.inside.text c.as_slice.result.now c.in_ok-front.front c.in-Some.at c.self.invariant c.self.view_is
    (c.as_slice.ensures ∙ c.as_bytes-text.ensures.value) c.in-Some.ensures.bound c.in-Some.ensures.slash c.in-Some.ensures.last
    (c.in_ok-front.ensures.ok ∙ ap (λ bytes. slice_range bytes 0 c.in-Some.at) (sym c.as_slice.ensures))).1
