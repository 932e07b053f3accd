use Rattle.std.proofs.Common.{◌≡◌, List, refl, sym, ap, ◌∙◌}
use Rattle.std.specs.Prelude.{Some}
use Rattle.sched_rules.specs.AtomLaws.{atom_cmp_total, atom_cmp_exact}
use Rattle.sched_rules.specs.declared.ws_atom.WsAtom.{WsAtom}
use Rattle.sched_rules.proofs.RuleLaws.{same_rules}
use Rattle.core_event.specs.declared.event.Event.TheVariants.{End}
use Rattle.job_manager.specs.Refusals.{same_rule}
use Rattle.ws_core.proofs.session.ends_last.Goals as goal

pub returns-in-Some-clause-ends : goal.returns-in-Some-clause-ends
returns-in-Some-clause-ends c h = record {
  rule = c.in-End.rule;
  ends = c.in-End.is;
  last = sym c.in-Some.ensures ∙ ap Some ((same_rules atom_cmp_exact atom_cmp_total (λ x y. refl) c.in-Some.last.now c.in-End.rule).0 (sym c.eq.ensures ∙ h));
}

pub returns-in-Some-clause-all : goal.returns-in-Some-clause-all
returns-in-Some-clause-all c h =
    let last = same_some c.in-Some.last.now h.rule (c.in-Some.ensures ∙ h.last) in
    let ended = same_end h.rule c.in-End.rule (sym h.ends ∙ c.in-End.is) in
    c.eq.ensures ∙ ap (λ r. same_rule r c.in-End.rule) (last ∙ ended) ∙ (same_rules atom_cmp_exact atom_cmp_total (λ x y. refl) c.in-End.rule c.in-End.rule).1 refl
  where
    same_some : (a b : List WsAtom) → Some a ≡ Some b → a ≡ b
    same_some a b e = cc

    same_end : (a b : List WsAtom) → End a ≡ End b → a ≡ b
    same_end a b e = cc
