use Rattle.std.proofs.Common.{map, sym, ◌∙◌, subst}
use Rattle.builder_api.specs.Told.{HaveMeanings}
use Rattle.std_builders.specs.Builders.{told}
use Rattle.std_builders.specs.Standards.{standard}
use Rattle.wsrun.proofs.Meant.{none_mean}
use Rattle.wsrun.proofs.brought.Goals as goal

pub returns-in-Err : goal.returns-in-Err
returns-in-Err c = record { means = subst (λ all. HaveMeanings standard (map told all)) (sym (c.of.ensures ∙ c.new.ensures.items)) (none_mean standard) }
