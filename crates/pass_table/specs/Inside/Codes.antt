-- How passes are stored.
use Rattle.std.specs.Prelude.{ℕ, List, Option, refl}
use Rattle.std.specs.Coded.{Coded, code_by, coded×, coded_ℕ, coded_list, coded_option}
use Rattle.std.specs.FinMap as map
use Rattle.std.specs.Ordering.{nat_cmp}
use Rattle.rule_table.specs.declared.held.Held.{Held}
use Rattle.pass_table.specs.declared.pass.Pass.{Pass}
use Rattle.pass_table.specs.Passes.{Table, Passes}

abbrev pub pass_code : Coded Pass
pass_code = code_by (Option (List ℕ) × ℕ) (coded× (coded_option (coded_list coded_ℕ)) coded_ℕ) (λ p. (p.job, p.batches)) (λ p. record { job = p.0; batches = p.1 }) (λ _. refl)

abbrev pub table_code : Coded Table
table_code = map.code {R = nat_cmp} coded_ℕ pass_code

abbrev pub held_code : {A : Type 0} → Coded A → Coded (Held A)
held_code {A} a = code_by (ℕ × List A) (coded× coded_ℕ (coded_list a)) (λ h. (h.holder, h.rule)) (λ p. record { holder = p.0; rule = p.1 }) (λ _. refl)

-- passes as the tuple of their fields
abbrev pub passes_code : {A : Type 0} → Coded A → Coded (Passes A)
passes_code {A} a =
    code_by (ℕ × (Table × (List (Held A) × Option ℕ))) (coded× coded_ℕ (coded× table_code (coded× (coded_list (held_code a)) (coded_option coded_ℕ))))
    (λ p. (p.next, (p.there, (p.rules, p.services)))) (λ p. record { next = p.0; there = p.1.0; rules = p.1.1.0; services = p.1.1.1 }) (λ _. refl)
