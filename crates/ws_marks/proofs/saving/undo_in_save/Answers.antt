use Rattle.std.proofs.Common.{◌≡◌, sym, subst, ◌∙◌}
use Rattle.std.specs.Prelude.{IsSome, None, Option, Some}
use Rattle.ws_marks.specs.Inside.{AllThere}
use Rattle.ws_marks.proofs.Kept.{there_last}
use Rattle.ws_marks.proofs.saving.undo_in_save.Goals as goal

some_there : {A : Type 0} (o : Option A) → IsSome o → o ≡ None → ⊥
some_there None some e = cc
some_there (Some x) some e = cc

pub put_back-requires-clause-there : goal.put_back-requires-clause-there
put_back-requires-clause-there g c = (there_last c.args.kept.now c.pop.new.self.items c.in-Some.field-0 (subst (AllThere c.args.kept.now) c.in-Some.ensures.items c.requires)).0

pub put_back-requires-clause-named : goal.put_back-requires-clause-named
put_back-requires-clause-named g c = (there_last c.args.kept.now c.pop.new.self.items c.in-Some.field-0 (subst (AllThere c.args.kept.now) c.in-Some.ensures.items c.requires)).1

pub returns-in-Some-clause-there : goal.returns-in-Some-clause-there
returns-in-Some-clause-there g c =
    let rest = there_last c.args.kept.now c.pop.new.self.items c.in-Some.field-0 (subst (AllThere c.args.kept.now) c.in-Some.ensures.items c.requires) in
    subst (λ m. AllThere m c.pop.new.self.items) (sym c.put_back.ensures.set) rest.2

pub returns-in-Some-clause-none : goal.returns-in-Some-clause-none
returns-in-Some-clause-none g c e = absurd (some_there _ (there_last c.args.kept.now c.pop.new.self.items c.in-Some.field-0 (subst (AllThere c.args.kept.now) c.in-Some.ensures.items c.requires)).0 (sym c.put_back.ensures.gone ∙ e))

pub returns-in-Some-clause-same_kept : goal.returns-in-Some-clause-same_kept
returns-in-Some-clause-same_kept g c e = absurd (some_there _ (there_last c.args.kept.now c.pop.new.self.items c.in-Some.field-0 (subst (AllThere c.args.kept.now) c.in-Some.ensures.items c.requires)).0 (sym c.put_back.ensures.gone ∙ e))

pub returns-in-Some-clause-same_replaced : goal.returns-in-Some-clause-same_replaced
returns-in-Some-clause-same_replaced g c e = absurd (some_there _ (there_last c.args.kept.now c.pop.new.self.items c.in-Some.field-0 (subst (AllThere c.args.kept.now) c.in-Some.ensures.items c.requires)).0 (sym c.put_back.ensures.gone ∙ e))
