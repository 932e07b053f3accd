use Rattle.std.proofs.Common.{◌≡◌, ℕ, ◌<◌, []}
use Rattle.build_order.specs.Inside.Searches.{IsKnown, Stands}
use Rattle.build_order.proofs.search.leads_of.Given as goal

abbrev pub invariant-loop-number : goal.invariant-loop-number
invariant-loop-number l = record {
  stands : Stands l.graph [] l.search;
  rests : l.search.frames.items ≡ [];
  known : (a : ℕ) → a < l.number → IsKnown l.search.marks.items a;
}
