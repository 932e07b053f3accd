use Rattle.std.proofs.Common.{rules, subst, sym, Option}
use Rattle.atomic_table.specs.Table.{Allows, step}
use mathlib.Core.Option.{none}
use Rattle.ws_turn.specs.Inside.Turn.{Turn}
use Rattle.ws_turn.specs.Inside.Steps.{Raises}
use Rattle.ws_turn.proofs.Value.{raises}
use Rattle.ws_turn.proofs.steps.make_raise.Goals as goal

pub store-requires : goal.store-requires
store-requires g c =
    let list = g.S.Logged.list in
    let base = g.S.Logged.base in
    let by = g.S.Logged.by in
    let deals = g.S.Logged.gives in
    let m = c.requires.more in
    let l = c.requires.live in (
      search rules,
      search rules,
      subst (λ (o : Option g.row.S.Denot). Allows (Turn list base by deals (base c.args.desk.now.key.value)) c.args.desk.now.table_id.slots c.args.chair.now.id c.args.chair.now.me 2 (λ _. c.entries-entries.result)
          (λ _. Raises list base by deals o (step c.args.desk.now.table_id.slots 2 c.entries-entries.result 0 none) c.args.chair.now.me c.entries-entries.result)) (sym c.requires.told)
          (raises list base by deals _ _ _ c.args.chair.now.me c.args.value.now m.0 c.entries-entries.result c.entries-entries.ensures l.0 l.1 m.1),
    )

pub returns-clause-raised : goal.returns-clause-raised
returns-clause-raised g c = λ more e. (c.store.ensures.2 c.args.value.now c.requires.told).0 more e

pub returns-clause-agrees : goal.returns-clause-agrees
returns-clause-agrees g c = let told = c.store.ensures.2 c.args.value.now c.requires.told in (told.1, told.2)
