use Rattle.std.proofs.Common.{◌≡◌, ◌∙◌, false, Some, None, ap, sym, rules}
use Rattle.std.specs.Prelude.{position, option_map}
use Rattle.std.specs.List.{list_any}
use Rattle.std.specs.Str.{bytes_eq}
use Rattle.proj_desc.specs.declared.cause.DescCause.TheVariants.{Double, Foreign}
use Rattle.proj_desc.specs.Causes.{first_double, is_foreign, outputs_from, inputs_from}
use Rattle.proj_desc.proofs.Order.{passed, reached, ended, not_when}
use Rattle.proj_desc.proofs.rules.cause.Goals as goal

pub returns-in-Some-first_foreign : goal.returns-in-Some-first_foreign
returns-in-Some-first_foreign c =
    let self : list_any (bytes_eq c.args.project.now) c.args.desc.now.references ≡ false = search rules in
    let double : first_double c.args.desc.now.references ≡ None = search rules in
    let foreign : Some c.in-Some-first_foreign.i ≡ position (λ d. list_any (is_foreign c.args.desc.now.references) d.inputs) c.args.desc.now.commands =
    c.in-Some-first_foreign.ensures ∙ (λ k. position (λ d. list_any (is_foreign (c.as_slice-references.ensures k)) d.inputs) (c.as_slice-commands.ensures k)) in
    passed _ _ _ (not_when _ _ self) (passed _ _ _ (ap (option_map Double) double) (reached _ _ _ (ap (option_map Foreign) foreign)))

pub returns-in-Some-first_outputs : goal.returns-in-Some-first_outputs
returns-in-Some-first_outputs c =
    let self : list_any (bytes_eq c.args.project.now) c.args.desc.now.references ≡ false = search rules in
    let double : first_double c.args.desc.now.references ≡ None = search rules in
    let foreign : position (λ d. list_any (is_foreign c.args.desc.now.references) d.inputs) c.args.desc.now.commands ≡ None =
    sym (c.in_default-first_foreign.ensures ∙ (λ k. position (λ d. list_any (is_foreign (c.as_slice-references.ensures k)) d.inputs) (c.as_slice-commands.ensures k))) in
    let outputs : Some c.in-Some-first_outputs.cause ≡ outputs_from 0 c.args.desc.now.commands = search rules in
    passed _ _ _ (not_when _ _ self) (passed _ _ _ (ap (option_map Double) double) (passed _ _ _ (ap (option_map Foreign) foreign) (reached _ _ _ outputs)))

pub returns : goal.returns
returns c =
    let self : list_any (bytes_eq c.args.project.now) c.args.desc.now.references ≡ false = search rules in
    let double : first_double c.args.desc.now.references ≡ None = search rules in
    let foreign : position (λ d. list_any (is_foreign c.args.desc.now.references) d.inputs) c.args.desc.now.commands ≡ None =
    sym (c.in_default-first_foreign.ensures ∙ (λ k. position (λ d. list_any (is_foreign (c.as_slice-references.ensures k)) d.inputs) (c.as_slice-commands.ensures k))) in
    let outputs : outputs_from 0 c.args.desc.now.commands ≡ None = search rules in
    let inputs : c.first_inputs.result ≡ inputs_from 0 c.args.desc.now.commands = search rules in
    passed _ _ _ (not_when _ _ self) (passed _ _ _ (ap (option_map Double) double) (passed _ _ _ (ap (option_map Foreign) foreign)
    (passed _ _ _ outputs (ended _ _ inputs))))
