use Rattle.save_format.proofs.Nothing.{where_ok}
use Rattle.save_format.proofs.texts.record.Goals as goal

pub returns-clause-prefix : goal.returns-clause-prefix
returns-clause-prefix c = where_ok c.text_of.result _ _ (λ bytes h other rest is. h other rest is.1) c.text_of.ensures.prefix

pub returns-clause-one : goal.returns-clause-one
returns-clause-one c = where_ok c.text_of.result _ _ (λ bytes h other is. h other is.1) c.text_of.ensures.one
