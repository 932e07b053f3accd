use Rattle.std.proofs.Common.{ap, sym, subst, ◌∙◌, ◌≡◌}
use Rattle.std.specs.Prelude.{IfOk, OnOk, Option}
use Rattle.std.specs.FinMap as map
use Rattle.std.specs.FinMap.{from_sorted, get-from_sorted}
use Rattle.ws_marks.specs.declared.record.Record.{Record}
use Rattle.ws_marks.specs.Places.{Records, place_cmp, place_of}
use Rattle.ws_marks.specs.Inside.{placed}
use Rattle.ws_marks.proofs.Tables.{put_is, put_order}
use Rattle.ws_marks.proofs.records.Records.put.Goals as goal

pub invariant_of-self : goal.invariant_of-self
invariant_of-self g c = put_order (place_of c.args.new) c.args.new c.self.inside.records.items c.put.new.records.items c.self.invariant c.put.result c.put.ensures.ok c.put.ensures.err

pub returns-clause-before : goal.returns-clause-before
returns-clause-before g c =
    subst (λ (o : Option (Record g.row.M.Denot)). IfOk c.put.result (λ before. before ≡ o))
    (sym (get-from_sorted place_cmp (placed c.self.inside.records.items) (place_of c.args.new) c.self.invariant) ∙ ap (λ (m : Records g.row.M.Denot). map.get m (place_of c.args.new)) c.self.view_is)
    c.put.ensures.before

pub returns-clause-ok : goal.returns-clause-ok
returns-clause-ok g c =
    subst (λ (m : Records g.row.M.Denot). OnOk c.put.result (from_sorted {R = place_cmp} (placed c.put.new.records.items) ≡ map.insert m (place_of c.args.new) c.args.new)) c.self.view_is
    (put_is (place_of c.args.new) c.args.new c.self.inside.records.items c.put.new.records.items c.self.invariant c.put.result c.put.ensures.ok)
