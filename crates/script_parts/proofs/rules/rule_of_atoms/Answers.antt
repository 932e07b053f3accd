use Rattle.std.proofs.Common.{[], ◌∷◌, ◌++◌, sym, ◌∙◌}
use Rattle.script_parts.specs.Parts.{atom_parts, rule_read}
use Rattle.script_parts.proofs.Fitting.{no_tokens, some_tokens, one_more, stuck, front_whole}
use Rattle.script_parts.proofs.Fronts.{atoms_once, many, as_rule}
use Rattle.script_parts.proofs.Ruled.{read_more, read_lines}
use Rattle.std.specs.List.{flat_map}
use Rattle.script_parts.proofs.rules.rule_of_atoms.Goals as goal

pub returns-in_default : goal.returns-in_default
returns-in_default c = λ atoms h.
    let read = c.loop-rest.invariant in
    stuck atom_parts atoms_once read.0 atoms c.args.tokens.now c.loop-rest.rest.now read.2
    (rw c.in_default.is at c.in_ok-atom.ensures) (some_tokens c.loop-rest.rest.now c.is_empty.result c.is_empty.ensures c.loop-rest-test.true)
    (many c.args.tokens.now atoms c.requires h)

pub loop-rest-preserved : goal.loop-rest-preserved
loop-rest-preserved c =
    let read = c.loop-rest.invariant in (
      read.0 ++ c.in-Some.atom ∷ [],
      sym (read_more read.0 c.in-Some.atom)
          ∙ (λ i. rule_read (read.1 i ++ sym c.in_ok-of.ensures i)) ∙ sym c.in_ok-rule.ensures.value,
      one_more atom_parts c.args.tokens.now read.0 c.loop-rest.rest.now c.in-Some.atom c.in-Some.more.now read.2 (rw c.in-Some.is at c.in_ok-atom.ensures),
    )

pub returns : goal.returns
returns c =
    let read = c.loop-rest.invariant in (
      read.0,
      read.1 ∙ sym c.named.ensures,
      as_rule c.args.tokens.now read.0 c.requires
          (front_whole c.args.tokens.now (flat_map atom_parts read.0) c.loop-rest.rest.now read.2
          (no_tokens c.loop-rest.rest.now c.is_empty.result c.is_empty.ensures c.loop-rest-test.false)),
    )

pub named-requires : goal.named-requires
named-requires c =
    let read = c.loop-rest.invariant in
    read_lines c.args.tokens.now c.loop-rest.rest.now read.0 c.loop-rest.rule read.2 read.1
