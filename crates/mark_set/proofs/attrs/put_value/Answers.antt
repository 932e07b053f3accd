use Rattle.mark_set.specs.Causes.{name_cause, value_cause}
use Rattle.mark_set.specs.Forms.{IsName}
use Rattle.mark_set.proofs.Formed.{none_else, sound_name, still_formed}
use Rattle.mark_set.proofs.attrs.put_value.Goals as goal

pub returns-clause-form : goal.returns-clause-form
returns-clause-form c =
    let sound = (none_else (name_cause c.args.first.now.0) (value_cause c.args.first.now.1) c.requires).0 in
    let named : IsName c.in_ok-name.name = sound_name _ c.in_ok-name.ensures.utf8 (rw (c.in_ok-name.ensures.value, c.text.ensures.value) sound) in
    still_formed c.put.result _ _ _ _ c.put.ensures.ok c.put.ensures.err named c.in_ok-value.ensures.form
