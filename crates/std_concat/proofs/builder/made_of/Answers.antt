use Rattle.std.proofs.Common.{◌≡◌, ◌≢◌, [], ◌++◌, ap, ◌∙◌, subst}
use Rattle.std.specs.Prelude.{MatchBool}
use Rattle.std_concat.specs.Concat.{files_of_roots, joined}
use Rattle.std_concat.proofs.Joined.{all_placed}
use Rattle.std_concat.proofs.builder.made_of.Goals as goal

pub returns : goal.returns
returns c =
    all_placed (files_of_roots c.args.roots.now c.args.view.now) _ _ c.empty-made.result c.place.new.self
    (subst (λ b. MatchBool b (files_of_roots c.args.roots.now c.args.view.now ≢ []) (files_of_roots c.args.roots.now c.args.view.now ≡ [])) c.if-not-has_files.false c.has_files.ensures)
    c.in_ok-all_file.ensures
    (c.in_ok-from_vec.ensures.ok ∙ c.in_ok-add_roots.ensures ∙ ap (λ bytes. bytes ++ joined (files_of_roots c.args.roots.now c.args.view.now)) c.new-bytes.ensures.items)
    c.empty-made.ensures c.in_ok-place.ensures.ok
