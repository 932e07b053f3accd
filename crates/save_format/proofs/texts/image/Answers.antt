use Rattle.save_format.proofs.Nothing.{nothing_sayable, where_ok}
use Rattle.save_format.proofs.texts.image.Goals as goal

pub text_of-requires-clause-base : goal.text_of-requires-clause-base
text_of-requires-clause-base c = nothing_sayable c.empty-nothing.result.map c.empty-nothing.ensures.map

pub text_of-requires-clause-shelf : goal.text_of-requires-clause-shelf
text_of-requires-clause-shelf c = nothing_sayable c.empty-nothing.result.map c.empty-nothing.ensures.map

pub returns-clause-prefix : goal.returns-clause-prefix
returns-clause-prefix c = let prefix = rw c.empty-nothing.ensures.map at c.text_of.ensures.prefix in where_ok c.text_of.result _ _ (λ bytes h other rest is. h other rest is.1) prefix

pub returns-clause-one : goal.returns-clause-one
returns-clause-one c = let one = rw c.empty-nothing.ensures.map at c.text_of.ensures.one in where_ok c.text_of.result _ _ (λ bytes h other is. h other is.1) one
