use Rattle.std.proofs.Common.{◌≡◌, ℕ, List, subst}
use Rattle.std.specs.Prelude.{OnOk}
use Rattle.save_text.specs.Inside.Told.{told_state}
use Rattle.save_text.proofs.States.{spelled_so}
use Rattle.save_text.proofs.state.put_state.Goals as goal

pub returns : goal.returns
returns g c =
    subst (λ (bytes : List ℕ). OnOk c.put_fields.result (c.put_fields.new.sink ≡ g.S.Sink.after c.args.sink.now bytes))
    (spelled_so (told_state c.args.base.now.map c.args.shelf.now.map c.args.durable.now)) c.put_fields.ensures
