use Rattle.std.proofs.Common.{ℕ, ◌∙◌, sym, subst}
use Rattle.std.specs.Prelude.{None, Option}
use Rattle.std.specs.FinMap.{empty}
use Rattle.ws_elem.specs.Trees.{Tree}
use Rattle.tree_memory.specs.Spared.{left}
use Rattle.ws_content.specs.States.{Remembered, tree_alone, with_built}
use Rattle.ws_content.specs.Inside.Held.{Holds}
use Rattle.ws_content.specs.Inside.Opened.{kept_onto, onto}
use Rattle.ws_content.proofs.Begun.{kept_names, onto_places}
use Rattle.ws_content.proofs.opening.led_through.Goals as goal

pub add_all-requires-clause-at : goal.add_all-requires-clause-at
add_all-requires-clause-at g c = c.in_ok-opened.ensures.tree ∙ c.requires

pub add_all-requires-clause-known : goal.add_all-requires-clause-known
add_all-requires-clause-known g c = (g.T.Remembers.number c.in_ok-opened.opened.start, tree_alone (g.T.TreeRep.tree c.args.tree), c.in_ok-opened.ensures.holds)

pub keep_all-requires-clause-known : goal.keep_all-requires-clause-known
keep_all-requires-clause-known g c =
    let v = tree_alone (g.T.TreeRep.tree c.args.tree) in
    let start = g.T.Remembers.number c.in_ok-opened.opened.start in
    (start, with_built v (onto empty c.args.built.now), c.in_ok-after_built.ensures.holds start v c.in_ok-opened.ensures.holds)

pub begun-requires : goal.begun-requires
begun-requires g c =
    let v = tree_alone (g.T.TreeRep.tree c.args.tree) in
    let start = g.T.Remembers.number c.in_ok-opened.opened.start in
    let put : Remembered = record v { built = onto empty c.args.built.now; kept = kept_onto empty c.args.kept.now; before = None } in (
      put,
      subst (λ (f : ℕ → Option Tree). Holds g.T.Remembers.number start f c.keep_all.new.marks put) (sym c.in_ok-lead.ensures.remembered)
          (c.in_ok-last.ensures.holds start (with_built v (onto empty c.args.built.now)) (c.in_ok-after_built.ensures.holds start v c.in_ok-opened.ensures.holds)),
    )

pub returns-clause-holds : goal.returns-clause-holds
returns-clause-holds g c =
    let v = tree_alone (g.T.TreeRep.tree c.args.tree) in
    let start = g.T.Remembers.number c.in_ok-opened.opened.start in
    let put : Remembered = record v { built = onto empty c.args.built.now; kept = kept_onto empty c.args.kept.now; before = None } in
    let same = c.in_ok-lead.ensures.tree in
    let places = onto_places c.args.built.now in
    let names = kept_names c.args.kept.now in
    subst (Holds g.T.Remembers.number (g.T.Remembers.number c.in_ok-led.led.start) (left g.T.TreeRep.remembered c.in_ok-led.led.tree) c.in_ok-led.led.marks)
    (λ i. record { start = same i; told = same i; built = places i; kept = names i; before = None })
    (c.in_ok-led.ensures.holds put (subst (λ (f : ℕ → Option Tree). Holds g.T.Remembers.number start f c.keep_all.new.marks put) (sym c.in_ok-lead.ensures.remembered)
    (c.in_ok-last.ensures.holds start (with_built v (onto empty c.args.built.now)) (c.in_ok-after_built.ensures.holds start v c.in_ok-opened.ensures.holds))))

pub returns-clause-tree : goal.returns-clause-tree
returns-clause-tree g c = c.in_ok-led.ensures.tree ∙ c.in_ok-lead.ensures.tree
