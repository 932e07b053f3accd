use Rattle.build_order.proofs.Rowing.{names_are}
use Rattle.build_order.proofs.names.names_of.Goals as goal

pub returns : goal.returns
returns c = names_are (λ p. (p.0, p.1.items)) c.args.projects.now c.in_ok-names.names.items c.sort_names.new.names.items c.in_ok-names.ensures c.sort_names.ensures.rising c.sort_names.ensures.kept c.sort_names.ensures.only
