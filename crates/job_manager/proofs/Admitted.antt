-- What the rules that are held admit.
use Rattle.std.proofs.Common.{◌≡◌, ℕ, Bool, true, false, cond, not, ◌||◌, List, [], ◌∷◌, refl, sym, ap, ◌∙◌}
use Rattle.std.specs.Prelude.{Option, Some, None}
use Rattle.std.specs.Option.{option_map}
use Rattle.std.specs.List.{list_any, filter}
use Rattle.sched_rules.specs.Atoms.{atom_contains, atom_conflicts}
use Rattle.sched_rules.specs.Rules.{rule_contains, rule_conflicts}
use Rattle.sched_rules.specs.declared.ws_atom.WsAtom.{WsAtom}
use Rattle.rule_table.specs.Tables.{outer_rule, first_conflict, lowest, admits, admits_under}
use Rattle.rule_table.specs.declared.held.Held.{Held}
use Rattle.rule_table.proofs.Lowest.{none_found}
use Rattle.core_event.specs.declared.reply.Refusal.TheVariants.{NotContained}
use Rattle.job_manager.specs.Admission.{conflict_with, refused_under, admission}

no_conflict : (test : Held WsAtom → Bool) (all : List (Held WsAtom)) → not (list_any test all) ≡ true → filter test all ≡ []
no_conflict test [] h = refl
no_conflict test (held ∷ all) h = by (test held) (no_conflict test all) h
  where
    by : (b : Bool) → (not (list_any test all) ≡ true → filter test all ≡ []) → not (b || list_any test all) ≡ true → cond b (held ∷ filter test all) (filter test all) ≡ []
    by true more g = cc
    by false more g = more g

-- what may be begun is admitted
pub admitted : (all : List (Held WsAtom)) (k : ℕ) (rule : List WsAtom) → admits atom_contains atom_conflicts all k rule ≡ true → admission all k rule ≡ None
admitted all k rule h = by (outer_rule k all) h
  where
    by : (o : Option (List WsAtom)) → admits_under atom_contains atom_conflicts all rule o ≡ true → refused_under o all rule ≡ None
    by (Some outer) g = ap (λ b. cond b None (Some (NotContained outer))) g
    by None g = ap (λ held. option_map conflict_with (lowest held)) (no_conflict (λ held. rule_conflicts atom_conflicts held.rule rule) all g)

-- what is admitted may be begun
pub may_begin : (all : List (Held WsAtom)) (k : ℕ) (rule : List WsAtom) → admission all k rule ≡ None → admits atom_contains atom_conflicts all k rule ≡ true
may_begin all k rule h = by (outer_rule k all) h
  where
    nothing : (o : Option (Held WsAtom)) → option_map conflict_with o ≡ None → o ≡ None
    nothing None g = refl
    nothing (Some held) g = cc

    inside : (outer : List WsAtom) (b : Bool) → cond b None (Some (NotContained outer)) ≡ None → b ≡ true
    inside outer true g = refl
    inside outer false g = cc

    by : (o : Option (List WsAtom)) → refused_under o all rule ≡ None → admits_under atom_contains atom_conflicts all rule o ≡ true
    by (Some outer) g = inside outer (rule_contains atom_contains outer rule) g
    by None g = none_found (λ held. rule_conflicts atom_conflicts held.rule rule) all (nothing (first_conflict atom_conflicts all rule) g)
