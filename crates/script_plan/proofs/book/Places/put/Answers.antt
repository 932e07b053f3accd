use Rattle.std.proofs.Common.{ap, ◌∙◌}
use Rattle.std.specs.FinMap as map
use Rattle.job_queue.proofs.Named.{name_cmp_total, name_cmp_exact}
use Rattle.job_queue.proofs.Tables.{one_put}
use Rattle.script_plan.specs.Inside.Books.{Places}
use Rattle.script_plan.proofs.book.Places.put.Goals as goal

pub returns : goal.returns
returns c =
    one_put name_cmp_total name_cmp_exact c.self.inside.places.entries c.insert.new.self.entries c.args.name c.args.place c.in_ok-insert.ensures.updates.0
    ∙ ap (λ (m : Places). map.insert m c.args.name c.args.place) c.self.view_is
