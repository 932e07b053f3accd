use Rattle.std.proofs.Common.{◌≡◌, ◌++◌, ◌∷◌, [], List, sym, subst, ◌∙◌}
use Rattle.ws_marks.specs.declared.state.Replaced.{Replaced}
use Rattle.ws_marks.specs.Inside.{AllThere}
use Rattle.ws_marks.proofs.Kept.{replaced_by, there_push}
use Rattle.ws_marks.proofs.saving.set_in_save.Goals as goal

pub returns-clause-there : goal.returns-clause-there
returns-clause-there g c =
    let olds : List (Replaced g.row.M.Denot) = c.args.replaced.now.items in
    let rows : c.push_reserved.new.self.items ≡ olds ++ replaced_by c.args.kept.now c.args.new ∷ [] =
    c.push_reserved.ensures.items ∙ (λ i. c.prepared.ensures.items i ++ record { participant = (c.in-Ok.ensures.names i).1; before = c.in_ok-before.ensures.before i } ∷ []) in
    subst (AllThere c.put.new.self) (sym rows)
    (subst (λ m. AllThere m (olds ++ replaced_by c.args.kept.now c.args.new ∷ [])) (sym c.in_ok-before.ensures.ok)
    (there_push c.args.kept.now c.args.new olds c.requires c.put.ensures.named))
