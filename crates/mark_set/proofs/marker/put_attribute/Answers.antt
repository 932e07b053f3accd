use Rattle.std.specs.Prelude.{option_and_then}
use Rattle.mark_set.specs.Causes.{name_cause, value_cause}
use Rattle.mark_set.specs.Forms.{IsName}
use Rattle.mark_set.proofs.Formed.{none_else, sound_name, still_formed, less_formed}
use Rattle.mark_set.proofs.marker.put_attribute.Goals as goal

pub returns-in-Some-clause-form : goal.returns-in-Some-clause-form
returns-in-Some-clause-form c = λ all.
    let sound = (none_else (name_cause c.args.name.now) (option_and_then value_cause c.args.value) c.requires).0 in
    let named : IsName c.in_ok-name.name = sound_name _ c.in_ok-name.ensures.utf8 (rw c.in_ok-name.ensures.value sound) in
    still_formed c.put.result _ _ _ _ c.put.ensures.ok c.put.ensures.err named c.into_value.ensures.form all

pub returns-in-None-clause-form : goal.returns-in-None-clause-form
returns-in-None-clause-form c = λ all. rw c.take.ensures (less_formed c.args.attrs.now c.in_ok-name.name all)
