use Rattle.std.proofs.Common.{sym, ap, ◌∙◌}
use Rattle.std.specs.FinMap as map
use Rattle.job_queue.proofs.Named.{name_cmp_total}
use Rattle.job_queue.proofs.Tables.{get_is}
use Rattle.script_plan.specs.Inside.Books.{Places}
use Rattle.script_plan.proofs.book.Places.get.Goals as goal

pub returns : goal.returns
returns c = c.get.ensures.value ∙ sym (get_is name_cmp_total c.self.inside.places.entries c.args.name.now) ∙ ap (λ (m : Places). map.get m c.args.name.now) c.self.view_is
