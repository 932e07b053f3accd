use Rattle.std.proofs.Common.{ℕ, List, ◌++◌, sym, ◌∙◌, ap, subst}
use Rattle.std.specs.List.{flat_map, AllByRecursion}
use Rattle.std.proofs.lemmas.List.{take_all}
use Rattle.sched_rules.specs.declared.ws_atom.WsAtom.{WsAtom}
use Rattle.script_parts.specs.Parts.{atom_parts}
use Rattle.script_parts.specs.RuleLines.{HasLines}
use Rattle.script_parts.specs.Inside.Printed.{AreParts, spaced}
use Rattle.script_parts.proofs.Spaced.{spaced_each, parts_if, text_more, all_more}
use Rattle.script_words.proofs.Grown.{grows_on}
use Rattle.script_parts.proofs.rule_text.put_atoms.Goals as goal

pub returns-clause-text : goal.returns-clause-text
returns-clause-text c =
    c.loop-atom.invariant.text
    ∙ ap (λ (text : List ℕ). c.args.out.now.items ++ text)
    (ap (flat_map (λ (atom : WsAtom). spaced (atom_parts atom))) (take_all c.loop-atom.atom-index c.args.atoms.now c.loop-atom-test.false)
    ∙ sym (spaced_each atom_parts c.args.atoms.now))

pub returns-clause-parts : goal.returns-clause-parts
returns-clause-parts c =
    parts_if atom_parts HasLines c.args.atoms.now
    (subst (AllByRecursion (λ (atom : WsAtom). HasLines atom → AreParts (atom_parts atom)))
    (take_all c.loop-atom.atom-index c.args.atoms.now c.loop-atom-test.false) c.loop-atom.invariant.parts) c.requires

pub loop-atom-preserved : goal.loop-atom-preserved
loop-atom-preserved c = record {
  text = text_more (λ (atom : WsAtom). spaced (atom_parts atom)) c.args.out.now.items c.loop-atom.out.items c.put_atom.new.out.items c.args.atoms.now
      c.loop-atom.atom-index c.atom-item.result c.loop-atom-test.true c.atom-item.is c.loop-atom.invariant.text c.in_ok-put_atom.ensures.text;
  kept = grows_on c.args.out.now.items c.loop-atom.out.items c.put_atom.new.out.items c.loop-atom.invariant.kept c.put_atom.ensures.kept;
  parts = all_more (λ (atom : WsAtom). HasLines atom → AreParts (atom_parts atom)) c.args.atoms.now c.loop-atom.atom-index c.atom-item.result
      c.loop-atom-test.true c.atom-item.is c.loop-atom.invariant.parts c.in_ok-put_atom.ensures.parts;
}
