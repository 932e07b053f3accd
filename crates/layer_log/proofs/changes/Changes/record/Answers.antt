use Rattle.std.proofs.Common.{sym, subst}
use Rattle.std.specs.Prelude.{OnOk}
use Rattle.std.specs.Option.{option_copied}
use Rattle.std.specs.declared.result.Result.{Result}
use Rattle.std.specs.declared.result.Result.TheVariants.{Ok, Err}
use Rattle.ws_elem.specs.Trees.{set_at}
use Rattle.layer_log.specs.Records.{Leads}
use Rattle.layer_log.proofs.Undoing.{leads_on}
use Rattle.layer_log.proofs.changes.Changes.record.Goals as goal

on_ok : {T E P Q : Type 0} (r : Result T E) → OnOk r P → (P → Q) → OnOk r Q
on_ok (Ok x) p f = f p
on_ok (Err e) p f = tt

pub returns-clause-leads : goal.returns-clause-leads
returns-clause-leads c = on_ok c.add.result c.add.ensures.ok (λ is a b h at. subst (λ m. Leads a m (set_at b c.args.path.now (option_copied c.args.after))) (sym is) (leads_on a b c.args.self.now c.args.path.now (option_copied c.args.before) (option_copied c.args.after) h at))
