use Rattle.std.proofs.Common.{sym, ap, ◌∙◌}
use Rattle.std.specs.Prelude.{Option, Some, None, IfSome}
use Rattle.std.specs.FinMap as map
use Rattle.ws_elem.proofs.Ordered.{get_is, one_taken}
use Rattle.elem_tree.proofs.notes.Notes.pop.Goals as goal

if_some : {X : Type 0} {P Q : X → Type 0} (r : Option X) → IfSome r P → ((x : X) → P x → Q x) → IfSome r Q
if_some None p f = tt
if_some (Some x) p f = f x p

pub returns-clause-first : goal.returns-clause-first
returns-clause-first c =
    if_some c.pop_first.result c.pop_first.ensures.value (λ e is. ap (λ m. map.get m e.0) (sym c.self.view_is) ∙ get_is c.self.inside.slots.entries e.0 ∙ is)

pub returns-clause-gone : goal.returns-clause-gone
returns-clause-gone c =
    if_some c.pop_first.result c.pop_first.ensures.updates (λ e is. one_taken c.self.inside.slots.entries c.pop_first.new.self.entries e.0 is.0 ∙ ap (λ m. map.remove m e.0) c.self.view_is)
