use Rattle.std.proofs.Common.{Ok, sym, ◌∙◌, ap, subst}
use Rattle.ws_durable.specs.Saved.{saved}
use Rattle.save_store.specs.Looks.{CountsIn}
use Rattle.save_store.proofs.look.elements_in.Goals as goal

pub returns-in_ok-judge-in-Ok-Some-clause-ok : goal.returns-in_ok-judge-in-Ok-Some-clause-ok
returns-in_ok-judge-in-Ok-Some-clause-ok c =
    let ok = c.in_ok-judge-in-Ok-Some.ensures.ok in
    subst (λ read. CountsIn read c.len.result) (sym (c.in-Ok-Some.is ∙ ap (λ whole. Ok whole) c.in-Ok-Some.field-0-is)) (saved c.in_ok-judge-in-Ok-Some.field-0, ok.0, ok.1, ok.2, c.len.ensures)
