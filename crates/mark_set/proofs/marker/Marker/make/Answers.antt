use Rattle.std.proofs.Common.{refl, List, ℕ}
use Rattle.std.specs.Cmp.Lexicographic.{nat_list_cmp_total}
use Rattle.std.specs.FinMap.{slice_cmp-IsAntisymmetric, nat_cmp-IsAntisymmetric}
use Rattle.mark_set.specs.Causes.{name_cause, attributes_cause}
use Rattle.mark_set.specs.Forms.{IsName, IsValue}
use Rattle.mark_set.specs.declared.value.Value.{Value}
use Rattle.mark_set.proofs.Formed.{none_else, sound_name}
use Rattle.mark_set.proofs.Maps.{all_none}
use Rattle.mark_set.proofs.marker.Marker.make.Goals as goal

pub returns-clause-form : goal.returns-clause-form
returns-clause-form c =
    let sound = (none_else (name_cause c.args.mark_type.now) (attributes_cause c.args.raw.now) c.requires).0 in
    record {
      own = refl;
      named = sound_name _ c.in_ok-mark_type.ensures.utf8 (rw c.in_ok-mark_type.ensures.value sound);
      attributes = c.put_values.ensures.form (rw c.empty-attrs.ensures (all_none nat_list_cmp_total (slice_cmp-IsAntisymmetric nat_cmp-IsAntisymmetric) (λ (q : List ℕ) (x : Value). IsName q × IsValue x)));
    }
