use Rattle.std.proofs.Common.{◌≡◌, ◌-◌, None}
use Rattle.save_form.specs.Lists.{read_each}
use Rattle.save_form.proofs.Loop.{last, with_front}
use Rattle.save_form.proofs.read.read_items.Given as goal

abbrev pub invariant-loop : goal.invariant-loop
invariant-loop g l = with_front l.items.items (read_each (g.R.Item.form l.item) (l.count - l.counter) (last l.items.items) l.input) ≡ read_each (g.R.Item.form l.item) l.count None l.initial.input
