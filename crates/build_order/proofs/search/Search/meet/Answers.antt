use Rattle.std.proofs.Common.{◌≡◌, ◌<◌, length, sym, ◌∙◌, arith}
use Rattle.std.proofs.lemmas.List.{get_or_read}
use Rattle.build_order.specs.declared.search.Mark.TheVariants.{New, Closed}
use Rattle.build_order.specs.Inside.Searches.{mark_at}
use Rattle.build_order.proofs.Parts.{start_of}
use Rattle.build_order.proofs.Steps.{met_known, closed_past}
use Rattle.build_order.proofs.search.Search.meet.Goals as goal

pub returns-in-Closed-clause-on : goal.returns-in-Closed-clause-on
returns-in-Closed-clause-on c =
    let s = c.args.self.now in
    let stands = c.requires.meets.stands in
    let inside : c.args.number < length s.marks.items = omega (arith, c.requires.number, stands.under_way.as_long) in
    let is : mark_at s.marks.items c.args.number ≡ Closed c.in-Closed.field-0 = sym (get_or_read s.marks.items c.args.number c.index.result.now inside c.index.ensures New) ∙ c.in-Closed.is in
    record {
      stands = met_known c.args.graph.now s c.args.number (λ parts e. closed_past s.marks.items (start_of parts) c.args.number c.in-Closed.field-0 is) stands;
      kept = λ n k. k;
    }
