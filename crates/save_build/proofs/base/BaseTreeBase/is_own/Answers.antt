use Rattle.std.proofs.Common.{◌≡◌, ◌↔◌, subst, ap, ◌∙◌}
use Rattle.std.specs.Prelude.{Option, IsTrue}
use Rattle.std.specs.Option.{option_map}
use Rattle.std.specs.FinMap.{get}
use Rattle.ws_elem.specs.declared.element.Element.{Element}
use Rattle.ws_elem.specs.Trees.{Tree}
use Rattle.save_elem.specs.Telling.{told}
use Rattle.save_state.specs.Entries.{spell_entry}
use Rattle.save_build.specs.Told.{told_tree}
use Rattle.save_build.proofs.Bases.{decided}
use Rattle.save_build.proofs.base.BaseTreeBase.is_own.Goals as goal

pub returns : goal.returns
returns c =
    let there = c.get.ensures ∙ ap (λ (t : Tree). get t c.args.path.now) c.self.view_is in
    decided c.is_spelled.result (spell_entry (told_tree c.args.self.now c.args.path.now)) c.args.entry.now
    (subst (λ (o : Option Element). IsTrue c.is_spelled.result ↔ (c.args.entry.now ≡ spell_entry (option_map told o))) there c.is_spelled.ensures)
