use Rattle.std.proofs.Common.{None, is_ok, arith}
use Rattle.ws_turn.proofs.Lists.{none_some}
use Rattle.tests_base.proofs.Notes.{rising_pushed}
use Rattle.tests_base.proofs.notebook.Notebook.write.Goals as goal

pub invariant_of-self : goal.invariant_of-self
invariant_of-self g c = record {
  rising = rising_pushed (λ l. l.gives) (is_ok c.push.result) c.args.self.now.lines.items c.push.new.self.items (record { by = c.args.by; word = c.args.word; gives = None }) c.args.self.now.last c.args.self.now.last
      c.push.ensures.items c.args.self.now.rising (omega arith) (λ m e. absurd (none_some m e));
}
