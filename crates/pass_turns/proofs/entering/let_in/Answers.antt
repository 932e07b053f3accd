use Rattle.std.proofs.Common.{sym, ap, ◌∙◌}
use Rattle.ws_turn.specs.Passes.{known}
use Rattle.pass_turns.proofs.Entered.{given_back, let_nobody}
use Rattle.pass_turns.proofs.entering.let_in.Goals as goal

pub returns-in-Err-clause-err : goal.returns-in-Err-clause-err
returns-in-Err-clause-err g c =
    let t = c.begin_turn-machine.ensures in
    let h = g.S.Logged.list c.begin_turn-machine.result in
    let left = c.give_back-in-Err.ensures.as_taken (c.in-Err.ensures.err ∙ sym (ap (λ z. z.seen) t.took)) ∙ ap (given_back {E = g.row.S-Entry.Denot}) t.took in
    let_nobody g.S.Logged.by g.S.Logged.gives g.S.Machine.legal g.S.Machine.lets_in (g.S.Logged.base c.args.lock.now.table.shared.key.value) (known c.args.token.now) (known c.give_back-in-Err.new.pass) h left t.begins t.legal c.give_back-in-Err.ensures.own
