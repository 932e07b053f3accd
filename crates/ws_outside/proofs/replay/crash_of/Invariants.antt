use Rattle.std.proofs.Common.{◌≡◌, drop}
use Rattle.ws_outside.specs.Crashes.{left_by}
use Rattle.ws_outside.specs.declared.contents.Which.TheVariants.{Left, Right}
use Rattle.ws_outside.proofs.replay.crash_of.Given as goal

abbrev pub invariant-loop-number : goal.invariant-loop-number
invariant-loop-number l = record {
  on_left : left_by Left l.number (drop l.number l.calls) l.remnants l.reads.left l.left.left ≡ left_by Left 0 l.calls l.remnants l.first.left l.first.left;
  on_right : left_by Right l.number (drop l.number l.calls) l.remnants l.reads.right l.left.right ≡ left_by Right 0 l.calls l.remnants l.first.right l.first.right;
}
