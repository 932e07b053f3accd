use Rattle.std.proofs.Common.{◌∷◌, ◌+◌, drop, map, sym, subst, ap, ◌∙◌}
use Rattle.std.proofs.lemmas.List.{drop_more, drop_all}
use Rattle.std.specs.List.{AllByRecursion}
use Rattle.tree_memory.specs.Spared.{left}
use Rattle.ws_durable.specs.Saved.{saved_built}
use Rattle.ws_content.proofs.Lasts.{IsBuiltThere, built_is, built_lasting, built_there}
use Rattle.ws_content.proofs.Listed.{telling_done, telling_next}
use Rattle.ws_content.proofs.lasting.durable_records.Goals as goal

pub loop-record-preserved : goal.loop-record-preserved
loop-record-preserved g c =
    let trees = left g.T.TreeRep.remembered c.args.tree.now in
    let items = c.records-record-items.result.now in
    let rest = drop (c.loop-record.record-index + 1) items in
    telling_next (IsBuiltThere g.T.Remembers.number trees) (built_lasting g.T.Remembers.number trees) saved_built items c.loop-record.built.items c.push.new.self.items
    (drop c.loop-record.record-index items) rest c.record-item.result c.in_ok-durable_record.field-0
    (drop_more items c.loop-record.record-index c.record-item.result c.loop-record-test.true ∙ ap (λ r. r ∷ rest) (sym c.record-item.is)) c.in_ok-push.ensures.items
    c.in_ok-durable_record.ensures c.loop-record.invariant

pub returns : goal.returns
returns g c start v h =
    let trees = left g.T.TreeRep.remembered c.args.tree.now in
    let items = c.records-record-items.result.now in
    let number = g.T.Remembers.number in
    ap (map saved_built) c.of.ensures
    ∙ telling_done (IsBuiltThere number trees) (built_lasting number trees) saved_built items c.loop-record.built.items (drop c.loop-record.record-index items)
    (drop_all c.loop-record.record-index items c.loop-record-test.false) c.loop-record.invariant
    (subst (AllByRecursion (IsBuiltThere number trees)) (sym c.records-record-items.ensures) (built_there number trees start c.args.marks.now v h))
    ∙ ap (map (built_lasting number trees)) c.records-record-items.ensures ∙ built_is number trees start c.args.marks.now v h
