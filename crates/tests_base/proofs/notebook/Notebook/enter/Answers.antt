use Rattle.std.proofs.Common.{Some, is_ok, arith, rules}
use Rattle.ws_turn.proofs.Lists.{some_same}
use Rattle.tests_base.proofs.Notes.{rising_pushed}
use Rattle.tests_base.proofs.notebook.Notebook.enter.Goals as goal

pub invariant_of-self : goal.invariant_of-self
invariant_of-self g c = record {
  rising = rising_pushed (λ l. l.gives) (is_ok c.push.result) c.args.self.now.lines.items c.push.new.self.items (record { by = c.args.by; word = 0; gives = Some c.in-Some.number }) c.args.self.now.last c.in-Some.number
      c.push.ensures.items c.args.self.now.rising (search rules) (λ m e. let same = some_same c.in-Some.number m e in omega (arith, same));
}
