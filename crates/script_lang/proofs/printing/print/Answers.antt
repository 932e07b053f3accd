use Rattle.std.proofs.Common.{◌≡◌, ap, subst, sym, ◌∙◌}
use Rattle.std.specs.List.{flat_map, AllByRecursion}
use Rattle.script_lang.specs.declared.script.Phase.{Phase}
use Rattle.script_lang.specs.Scripts.{phase_lines, script_text, HasOwnNames, ended}
use Rattle.script_lang.specs.Inside.Printed.{AreLines}
use Rattle.script_parts.proofs.Spaced.{whole_taken}
use Rattle.script_lang.proofs.Texts.{whole_text, reads_back}
use Rattle.script_lang.proofs.printing.print.Goals as goal

pub returns-clause-text : goal.returns-clause-text
returns-clause-text c =
    let all = whole_taken c.loop-phase.phase-index c.as_slice-phase-items.result.now c.args.script.now.phases c.loop-phase-test.false
    c.as_slice-phase-items.ensures in
    c.loop-phase.invariant.text ∙ ap (flat_map (λ (phase : Phase). ended (phase_lines phase))) all ∙ sym (whole_text c.args.script.now)

pub returns-clause-back : goal.returns-clause-back
returns-clause-back c =
    let all = whole_taken c.loop-phase.phase-index c.as_slice-phase-items.result.now c.args.script.now.phases c.loop-phase-test.false
    c.as_slice-phase-items.ensures in
    let text : c.loop-phase.out.items ≡ script_text c.args.script.now =
    c.loop-phase.invariant.text ∙ ap (flat_map (λ (phase : Phase). ended (phase_lines phase))) all ∙ sym (whole_text c.args.script.now) in
    reads_back c.loop-phase.out.items c.args.script.now text (subst (AllByRecursion HasOwnNames) all c.loop-phase.invariant.names)
    (subst (AllByRecursion (λ (phase : Phase). AreLines (phase_lines phase))) all c.loop-phase.invariant.parts)
