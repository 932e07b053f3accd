-- The topmost rule of a pass stays where others change the table, and what its rule contains no other pass changes.
use Rattle.std.proofs.Common.{◌≡◌, ◌≢◌, ◌==◌, ℕ, Bool, true, false, cond, not, ◌&&◌, ◌||◌, eqb-true, List, [], ◌∷◌, ◌++◌, refl, sym, ap, ◌∙◌, inl, inr, subst}
use Rattle.std.specs.Prelude.{Option, Some, None}
use Rattle.std.specs.List.{AllByRecursion, list_any}
use Rattle.res_path.specs.Paths.{Names}
use Rattle.res_path.proofs.Spelled.{both}
use Rattle.sched_rules.specs.AtomLaws.{atoms_lawful}
use Rattle.sched_rules.specs.Atoms.{atom_contains, atom_conflicts}
use Rattle.sched_rules.specs.Rules.{Pairwise, rule_contains, rule_conflicts}
use Rattle.sched_rules.specs.declared.ws_atom.WsAtom.{WsAtom}
use Rattle.sched_rules.proofs.Members.{IsIn, each_at}
use Rattle.sched_rules.proofs.RuleLaws.{rule_contained_conflicts, rule_conflicts_back, rule_contains_through, wider_rule_conflicts}
use Rattle.rule_table.specs.declared.held.Held.{Held}
use Rattle.rule_table.specs.Tables.{fits, is_null, is_of, is_outer, last_rule, moved, newest, or_before, without, without_last}
use Rattle.rule_table.proofs.Kept.{begun_apart, newest_in, none_of}
use Rattle.rule_table.proofs.Newest.{newest-push}
use Rattle.op_rule.specs.Rules.{at}
use Rattle.job_manager.specs.Admission.{admission}
use Rattle.job_manager.proofs.Admitted.{may_begin}
use Rattle.job_manager.proofs.Apart.{Apart}
use Rattle.service_desk.specs.Refusals.{root_rule}

never : true ≡ false → ⊥
never e = cc

differs : (j n : ℕ) → j ≢ n → (j == n) ≡ false
differs j n other = by (j == n) refl
  where
    by : (b : Bool) → (j == n) ≡ b → b ≡ false
    by true is = absurd (other (eqb-true j n is))
    by false is = refl

-- a rule of another holder isn't the topmost one of this
not_his : {A : Type 0} (n : ℕ) (held : Held A) → held.holder ≢ n → is_outer n held ≡ false
not_his n held other = ap (λ b. b && not (is_null held.rule)) (differs held.holder n other)

-- nor is one of k, which is another
not_theirs : {A : Type 0} (k n : ℕ) (held : Held A) → k ≢ n → is_of k held ≡ true → is_outer n held ≡ false
not_theirs k n held other is = not_his n held (λ same. other (sym (eqb-true held.holder k is) ∙ same))

passed_over : {T : Type 0} (test : T → Bool) (x : T) (o : Option T) → test x ≡ false → or_before test x o ≡ o
passed_over test x None fails = ap (λ b. cond b (Some x) None) fails
passed_over test x (Some y) fails = refl

-- ---- what others change

-- a rule that another begins
pub begun_keeps : {A : Type 0} (k n : ℕ) (rule : List A) (all : List (Held A)) → k ≢ n → newest (is_outer n) (all ++ record { holder = k; rule = rule } ∷ []) ≡ newest (is_outer n) all
begun_keeps k n rule all other =
    newest-push (is_outer n) all (record { holder = k; rule = rule })
    ∙ ap (λ b. cond b (Some (record { holder = k; rule = rule })) (newest (is_outer n) all)) (not_his n (record { holder = k; rule = rule }) other)

-- one that another ends
pub ended_keeps : {A : Type 0} (k n : ℕ) (all : List (Held A)) → k ≢ n → newest (is_outer n) (without_last k all) ≡ newest (is_outer n) all
ended_keeps k n [] other = refl
ended_keeps k n (x ∷ all) other = by (is_of k x) (list_any (is_of k) all) refl (ended_keeps k n all other)
  where
    by : (a b : Bool) → is_of k x ≡ a → newest (is_outer n) (without_last k all) ≡ newest (is_outer n) all
        → newest (is_outer n) (cond (a && not b) all (x ∷ without_last k all)) ≡ or_before (is_outer n) x (newest (is_outer n) all)
    by true true is rest = ap (or_before (is_outer n) x) rest
    by true false is rest = sym (passed_over (is_outer n) x (newest (is_outer n) all) (not_theirs k n x other is))
    by false b is rest = ap (or_before (is_outer n) x) rest

-- all that another drops
pub dropped_keeps : {A : Type 0} (k n : ℕ) (all : List (Held A)) → k ≢ n → newest (is_outer n) (without k all) ≡ newest (is_outer n) all
dropped_keeps k n [] other = refl
dropped_keeps k n (x ∷ all) other = by (is_of k x) refl (dropped_keeps k n all other)
  where
    by : (a : Bool) → is_of k x ≡ a → newest (is_outer n) (without k all) ≡ newest (is_outer n) all
        → newest (is_outer n) (cond (not a) (x ∷ without k all) (without k all)) ≡ or_before (is_outer n) x (newest (is_outer n) all)
    by true is rest = rest ∙ sym (passed_over (is_outer n) x (newest (is_outer n) all) (not_theirs k n x other is))
    by false is rest = ap (or_before (is_outer n) x) rest

-- all that another hands to a third
pub moved_keeps : {A : Type 0} (k to n : ℕ) (all : List (Held A)) → k ≢ n → to ≢ n → newest (is_outer n) (moved k to all) ≡ newest (is_outer n) all
moved_keeps k to n [] other third = refl
moved_keeps k to n (x ∷ all) other third = by (x.holder == k) refl (moved_keeps k to n all other third)
  where
    by : (a : Bool) → (x.holder == k) ≡ a → newest (is_outer n) (moved k to all) ≡ newest (is_outer n) all
        → or_before (is_outer n) (cond a (record x { holder = to }) x) (newest (is_outer n) (moved k to all)) ≡ or_before (is_outer n) x (newest (is_outer n) all)
    by true is rest =
        passed_over (is_outer n) (record x { holder = to }) (newest (is_outer n) (moved k to all)) (not_his n (record x { holder = to }) third)
        ∙ (rest ∙ sym (passed_over (is_outer n) x (newest (is_outer n) all) (not_theirs k n x other is)))
    by false is rest = ap (or_before (is_outer n) x) rest

-- ---- rules of two passes

his : {A : Type 0} (n : ℕ) (held : Held A) → is_outer n held ≡ true → is_of n held ≡ true
his n held is = (both (held.holder == n) (not (is_null held.rule)) is).0

-- who has a topmost rule isn't one who has no rule
pub has_none : {A : Type 0} (to n : ℕ) (all : List (Held A)) (outer : Held A) → newest (is_outer n) all ≡ Some outer → last_rule to all ≡ None → to ≢ n
has_none to n all outer has none same =
    let found = newest_in (is_outer n) all outer has in
    never (sym (ap (λ m. is_of m outer) same ∙ his n outer found.1) ∙ each_at (λ x. is_of to x ≡ false) outer all (none_of to all none) found.0)

last_pair : {T : Type 0} (R : T → T → Type 0) (xs : List T) (x y : T) → Pairwise R (xs ++ y ∷ []) → IsIn x xs → R x y
last_pair R [] x y pairs is_in = absurd is_in
last_pair {T} R (z ∷ xs) x y pairs (inl e) = subst (λ w. R w y) (sym e) (last xs pairs.0)
  where
    last : (ws : List T) → AllByRecursion (R z) (ws ++ y ∷ []) → R z y
    last [] all = all.0
    last (w ∷ ws) all = last ws all.1
last_pair R (z ∷ xs) x y pairs (inr i) = last_pair R xs x y pairs.1 i

-- a rule that a pass may begin doesn't conflict with the topmost one of another
pub no_conflict : (all : List (Held WsAtom)) (k n : ℕ) (rule : List WsAtom) (outer : Held WsAtom) → k ≢ n → Apart all → newest (is_outer n) all ≡ Some outer → admission all k rule ≡ None
    → rule_conflicts atom_conflicts outer.rule rule ≡ false
no_conflict all k n rule outer other apart has none = by (outer.holder == k) (rule_conflicts atom_conflicts outer.rule rule) two fit
  where
    found : IsIn outer all × (is_outer n outer ≡ true)
    found = newest_in (is_outer n) all outer has

    two : (outer.holder == k) ≡ false
    two = differs outer.holder k (λ same. other (sym same ∙ eqb-true outer.holder n (his n outer found.1)))

    fit : fits atom_contains atom_conflicts outer (record { holder = k; rule = rule }) ≡ true
    fit = last_pair (λ earlier later. fits atom_contains atom_conflicts earlier later ≡ true) all outer (record { holder = k; rule = rule })
        (begun_apart atoms_lawful k rule all apart (may_begin all k rule none)) found.0

    by : (a c : Bool) → a ≡ false → cond a (is_null outer.rule || rule_contains atom_contains outer.rule rule) (not c) ≡ true → c ≡ false
    by true c is h = absurd (never is)
    by false true is h = absurd (never (sym h))
    by false false is h = refl

-- ---- rules of paths

-- a rule that contains the root conflicts with each that contains a path
pub root_conflicts : (outer rule : List WsAtom) (p : Names) → rule_contains atom_contains outer root_rule ≡ true → rule_contains atom_contains rule (at p) ≡ true
    → rule_conflicts atom_conflicts outer rule ≡ true
root_conflicts outer rule p root has =
    wider_rule_conflicts atoms_lawful outer (at p) rule (rule_contains_through atoms_lawful outer root_rule (at p) root refl)
    (rule_conflicts_back atoms_lawful (at p) rule ∙ rule_contained_conflicts atoms_lawful rule (at p) has some)
  where
    some : at p ≢ []
    some e = cc

-- so where a pass has one that contains the root, no other may have one of a path
pub path_refused : (all : List (Held WsAtom)) (k n : ℕ) (rule : List WsAtom) (p : Names) (outer : Held WsAtom) → k ≢ n → Apart all → newest (is_outer n) all ≡ Some outer
    → rule_contains atom_contains outer.rule root_rule ≡ true → rule_contains atom_contains rule (at p) ≡ true → admission all k rule ≢ None
path_refused all k n rule p outer other apart has root path none =
    never (sym (root_conflicts outer.rule rule p root path) ∙ no_conflict all k n rule outer other apart has none)
