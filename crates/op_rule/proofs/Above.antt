-- What is above a path, and rules of paths.
use Rattle.std.proofs.Common.{◌≡◌, ℕ, suc, Bool, true, false, cond, ◌&&◌, ◌||◌, ◌==◌, nat_le, nat_lt, List, [], ◌∷◌, length, refl, sym, ap, ◌∙◌, arith}
use Rattle.std.proofs.lemmas.Bool.Decides.{nat_tests}
use Rattle.std.specs.Str.{bytes_eq}
use Rattle.res_path.specs.Paths.{Names, is_prefix, parent}
use Rattle.sched_rules.specs.AtomLaws.{atoms_lawful, atom_cmp_total, atom_cmp_exact}
use Rattle.sched_rules.specs.Atoms.{atom_contains, atom_cmp}
use Rattle.sched_rules.specs.Rules.{rule_contains, combined}
use Rattle.sched_rules.specs.declared.ws_atom.WsAtom.{WsAtom}
use Rattle.sched_rules.proofs.Combining.{combined_contains_left, combined_contains_right, combined_least}
use Rattle.sched_rules.proofs.RuleLaws.{rule_contains_through}
use Rattle.op_rule.specs.Rules.{up, at}

pub and_true : (a : Bool) → (a && true) ≡ a
and_true true = refl
and_true false = refl

and_false : (a : Bool) → (a && false) ≡ false
and_false true = refl
and_false false = refl

and_assoc : (a b c : Bool) → (a && (b && c)) ≡ ((a && b) && c)
and_assoc true b c = refl
and_assoc false b c = refl

shorter : (a b : ℕ) → nat_lt a b ≡ nat_lt (suc a) (suc b)
shorter a b = grind (arith, nat_tests)

not_below_one : (a : ℕ) → nat_lt (suc a) 1 ≡ false
not_below_one a = grind (arith, nat_tests)

some_below : (a : ℕ) → nat_lt 0 (suc a) ≡ true
some_below a = grind (arith, nat_tests)

-- the prefixes of the parent are the shorter ones of the path
below : (q : Names) (n : List ℕ) (p : Names) → is_prefix q (parent (n ∷ p)) ≡ (is_prefix q (n ∷ p) && nat_lt (length q) (length (n ∷ p)))
below [] n [] = refl
below [] n (m ∷ p) = sym (some_below (length (m ∷ p)))
below (k ∷ q) n [] = sym (ap (λ b. (bytes_eq k n && is_prefix q []) && b) (not_below_one (length q)) ∙ and_false (bytes_eq k n && is_prefix q []))
below (k ∷ q) n (m ∷ p) =
    ap (λ b. bytes_eq k n && b) (below q m p)
    ∙ and_assoc (bytes_eq k n) (is_prefix q (m ∷ p)) (nat_lt (length q) (length (m ∷ p)))
    ∙ ap (λ b. (bytes_eq k n && is_prefix q (m ∷ p)) && b) (shorter (length q) (length (m ∷ p)))

two_not_one : (a : ℕ) → nat_le (suc (suc a)) 1 ≡ false
two_not_one a = grind (arith, nat_tests)

two_or_more : (a : ℕ) → (suc (suc a) == 1) ≡ false
two_or_more a = grind (arith, nat_tests)

-- one path is what is above another, or above that: a prefix, and a shorter one where there is one
pub strictly_above : (q p : Names) → (is_prefix q p && (nat_le (length p) 1 || nat_lt (length q) (length p))) ≡ is_prefix q (up p)
strictly_above q [] = and_true (is_prefix q [])
strictly_above q (n ∷ []) = and_true (is_prefix q (n ∷ []))
strictly_above q (n ∷ m ∷ p) =
    ap (λ b. is_prefix q (n ∷ m ∷ p) && (b || nat_lt (length q) (length (n ∷ m ∷ p)))) (two_not_one (length p))
    ∙ sym (below q n (m ∷ p))
    ∙ ap (λ b. is_prefix q (cond b (n ∷ m ∷ p) (parent (n ∷ m ∷ p)))) (sym (two_or_more (length p)))

-- the rule of two paths is contained where the rule of each is
pub both_contained : (rule : List WsAtom) (p q : Names) → (rule_contains atom_contains rule (at p) && rule_contains atom_contains rule (at q)) ≡ rule_contains atom_contains rule (combined atom_cmp atom_contains (at p) (at q))
both_contained rule p q = by (rule_contains atom_contains rule (at p)) (rule_contains atom_contains rule (at q)) (rule_contains atom_contains rule (combined atom_cmp atom_contains (at p) (at q))) refl refl refl
  where
    never : {T : Type 0} → true ≡ false → T
    never h = cc

    left : rule_contains atom_contains rule (combined atom_cmp atom_contains (at p) (at q)) ≡ true → rule_contains atom_contains rule (at p) ≡ true
    left h = rule_contains_through atoms_lawful rule (combined atom_cmp atom_contains (at p) (at q)) (at p) h (combined_contains_left atoms_lawful atom_cmp_total atom_cmp_exact (at p) (at q) (tt, tt) (tt, tt))

    right : rule_contains atom_contains rule (combined atom_cmp atom_contains (at p) (at q)) ≡ true → rule_contains atom_contains rule (at q) ≡ true
    right h = rule_contains_through atoms_lawful rule (combined atom_cmp atom_contains (at p) (at q)) (at q) h (combined_contains_right atoms_lawful atom_cmp_total atom_cmp_exact (at p) (at q) (tt, tt) (tt, tt))

    by : (a b c : Bool) → rule_contains atom_contains rule (at p) ≡ a → rule_contains atom_contains rule (at q) ≡ b
        → rule_contains atom_contains rule (combined atom_cmp atom_contains (at p) (at q)) ≡ c → (a && b) ≡ c
    by true true c h g k = sym (combined_least atoms_lawful atom_cmp_total atom_cmp_exact (at p) (at q) rule h g) ∙ k
    by true false true h g k = never (sym (right k) ∙ g)
    by true false false h g k = refl
    by false b true h g k = never (sym (left k) ∙ h)
    by false b false h g k = refl
